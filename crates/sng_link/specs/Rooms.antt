-- The room on the link: the memory that there is, and what the limits of a policy leave for publishes to the
-- broker, counted ahead of their coming to wait.
use Rattle.std.specs.Prelude.{ℕ, ◌+◌, ◌-◌, ◌≤◌, ◌==◌, length, if◌then◌else◌}
use Rattle.sng_text.specs.declared.qos.Qos.{Qos}
use Rattle.sng_text.specs.declared.qos.Qos.TheVariants.{AtMostOnce, AtLeastOnce}
use Rattle.sng_outbox.specs.Sending.{load}
use Rattle.sng_grants.specs.Limits.{Limits, flight_limit}
use Rattle.sng_book.specs.declared.outcome.Place.TheVariants as place
use Rattle.sng_book.specs.declared.outcome.Denial.TheVariants as denial
use Rattle.sng_book.specs.declared.outcome.RoomDenial.TheVariants.{Full}
use Rattle.sng_book.specs.declared.outcome.Outcome.{Outcome}
use Rattle.sng_book.specs.declared.outcome.Outcome.TheVariants.{Allowed, Denied}
use Rattle.sng_history.specs.Links.{Link}
use Rattle.sng_history.specs.Standing.{places_left}
use Rattle.sng_link.specs.declared.room.Room.{Room}

-- the link of a history, and for how much there is room without more memory: how many items may wait, how many
-- publishes of QoS 1 may wait or be in flight, and how many filters may be wanted
pub record LinkRoom : Type 0 where
  pub link : Link
  pub places : ℕ
  pub flights : ℕ
  pub filters : ℕ

-- how many publishes of QoS 1 wait or are in flight
abbrev pub load_of : Link → ℕ
load_of link = load (record { waiting = link.waiting; in_flight = link.in_flight })

-- so many items more may wait without more memory, whatever they are
abbrev pub HasPlaces : ℕ → LinkRoom → Type 0
HasPlaces count l = (length l.link.waiting + count ≤ l.places) × (load_of l.link + count ≤ l.flights)

-- so many filters more may be wanted without more memory
abbrev pub HasFilters : ℕ → LinkRoom → Type 0
HasFilters count l = length l.link.wanted + count ≤ l.filters

-- the room that the limits leave
abbrev pub room_of : Limits → Link → Room
room_of limits link = record {
  places = places_left limits link;
  flights = flight_limit limits - load_of link;
}

abbrev pub place_by : ℕ → Outcome
place_by places = if places == 0 then Denied (denial.Room (Full place.Outbox)) else Allowed

-- whether there is room for one more publish at this QoS
abbrev pub room_by : Room → Qos → Outcome
room_by room AtMostOnce = place_by room.places
room_by room AtLeastOnce =
    if room.flights == 0 then Denied (denial.Room (Full place.InFlight)) else place_by room.places

-- the room that a publish takes which finds its place
abbrev pub less : Room → Qos → Room
less room AtMostOnce = record room { places = room.places - 1 }
less room AtLeastOnce = record { places = room.places - 1; flights = room.flights - 1 }

abbrev pub left_by : Room → Qos → Outcome → Room
left_by room q Allowed = less room q
left_by room q (Denied rule) = room

abbrev pub room_past : Room → Qos → Room
room_past room q = left_by room q (room_by room q)
