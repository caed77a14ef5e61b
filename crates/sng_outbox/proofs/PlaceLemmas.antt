-- Where the first publish with a packet id stands, and what is left without it.
use Rattle.std.proofs.Common.{◌≡◌, ℕ, ◌≤◌, Bool, true, false, ◌==◌, ◌||◌, List, [], ◌∷◌, ◌++◌, length}
use Rattle.std.proofs.Common.{if◌then◌else◌, refl, ap, arith}
use Rattle.std.specs.Bool.{MatchBool}
use Rattle.std.proofs.lemmas.Bool.{eqb-true}
use Rattle.sng_outbox.specs.declared.in_flight.InFlight.{InFlight}
use Rattle.sng_outbox.specs.Sending.{has_id, is_in_flight, without_first}
use Rattle.sng_outbox.specs.Laws.{OneIsAcknowledged}

-- the list apart, at the first with the id
abbrev Apart : List InFlight → ℕ → List InFlight → Type 0
Apart xs id left =
    (before : List InFlight) × (sent : InFlight) × (later : List InFlight) × (xs ≡ before ++ sent ∷ later)
    × (sent.packet_id ≡ id)
    × (is_in_flight before id ≡ false) × (left ≡ before ++ later)

apart_by : (sent : InFlight) (xs : List InFlight) (id : ℕ) (here there : Bool) → (sent.packet_id == id) ≡ here
    → MatchBool there (Apart xs id (without_first xs id)) (without_first xs id ≡ xs)
    → MatchBool (here || there) (Apart (sent ∷ xs) id (if here then xs else sent ∷ without_first xs id))
    ((if here then xs else sent ∷ without_first xs id) ≡ sent ∷ xs)
apart_by sent xs id true there is later = ([], sent, xs, refl, eqb-true sent.packet_id id is, refl, refl)
apart_by sent xs id false true is later = (
  sent ∷ later.0,
  later.1,
  later.2,
  ap (λ l. sent ∷ l) later.3,
  later.4,
  rw is later.5,
  ap (λ l. sent ∷ l) later.6,
)
apart_by sent xs id false false is later = ap (λ l. sent ∷ l) later

pub apart : OneIsAcknowledged
apart [] id = refl
apart (sent ∷ xs) id = apart_by sent xs id (has_id id sent) (is_in_flight xs id) refl (apart xs id)

-- no more are left than there were
pub left-within : (xs : List InFlight) (id : ℕ) → length (without_first xs id) ≤ length xs
left-within [] id = omega arith
left-within (sent ∷ xs) id =
    let later = left-within xs id in
    elim (has_id id sent) as (λ b. length (if b then xs else sent ∷ without_first xs id) ≤ length (sent ∷ xs))
    [ true ↦ omega arith | false ↦ omega (arith, later) ]
