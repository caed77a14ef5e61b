-- The publishes in flight as they are kept: in the order of their sending, with a gap where one ended.
use Rattle.std.specs.Prelude.{ℕ, ◌≡◌, List, [], ◌∷◌, length, get_or, slice_get, Option, Some, None}
use Rattle.sng_outbox.specs.declared.in_flight.InFlight.{InFlight}

-- the publishes in flight, in the order of their sending, and how many slots there is memory for
pub record Tracked : Type 0 where
  pub sent : List InFlight
  pub slots : ℕ

-- those that are in flight
abbrev pub sent_in : List (Option InFlight) → List InFlight
sent_in [] = []
sent_in (None ∷ slots) = sent_in slots
sent_in (Some sent ∷ slots) = sent ∷ sent_in slots

-- what is in flight at a place, where something is
abbrev pub flight_in : Option (Option InFlight) → Option InFlight
flight_in None = None
flight_in (Some slot) = slot

abbrev pub flight_at : List (Option InFlight) → ℕ → Option InFlight
flight_at slots place = flight_in (slice_get slots place)

abbrev pub id_in : Option InFlight → Option ℕ
id_in None = None
id_in (Some sent) = Some sent.packet_id

-- the packet id at a place, where something is in flight there
abbrev pub id_at : List (Option InFlight) → ℕ → Option ℕ
id_at slots place = id_in (flight_at slots place)

-- no packet id is at two places
abbrev pub IsOnce : List (Option InFlight) → Type 0
IsOnce slots = (p q packet_id : ℕ) → id_at slots p ≡ Some packet_id → id_at slots q ≡ Some packet_id → p ≡ q

-- each packet id leads to its place
pub record IsIndexed (slots : List (Option InFlight)) (places : List ℕ) : Type 0 where
  pub whole : length places ≡ 65536
  pub found : (place packet_id : ℕ) → id_at slots place ≡ Some packet_id → get_or places packet_id 0 ≡ place

-- the place of the packet id, where it has one
abbrev pub IsPlaceOf : List (Option InFlight) → ℕ → Option ℕ → Type 0
IsPlaceOf slots packet_id None = (place : ℕ) → id_at slots place ≡ Some packet_id → ⊥
IsPlaceOf slots packet_id (Some place) = id_at slots place ≡ Some packet_id
