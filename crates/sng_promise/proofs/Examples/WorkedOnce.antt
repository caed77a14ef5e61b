-- The worked rows of publishes at QoS 2 are lawful, or not, by computation.
use Rattle.std.proofs.Common.{List, [], ◌∷◌, refl, ap, subst}
use Rattle.mqtt_frames.specs.RemainingLength.{remaining_length}
use Rattle.sng_book.specs.declared.event.Event.TheVariants.{Datagram, Take}
use Rattle.sng_book.specs.declared.outcome.Outcome.TheVariants.{Allowed}
use Rattle.sng_book.specs.declared.row.Row.{Row}
use Rattle.sng_history.specs.State.{State, opening}
use Rattle.sng_history.specs.Lawful.{LawfulRow, Lawful}
use Rattle.sng_promise.specs.Examples.{row}
use Rattle.sng_promise.specs.ExamplesClients.{home, asks_t1, forward_t1, packet_t1, told_t1}
use Rattle.sng_promise.specs.ExamplesOnce.{publish_5, repeat_5, received_5, release_5, completed_5, opened_5}
use Rattle.sng_promise.specs.ExamplesOnce.{counted_5, anew_5, has_open}
use Rattle.sng_promise.proofs.Examples.WorkedAsks.{told, knowing, knowing_is, then, came}

abbrev publishing : State → State
publishing s = then s (Datagram home publish_5) (asks_t1 Allowed ∷ received_5 ∷ [])

abbrev repeating : State → State
repeating s = then s (Datagram home repeat_5) (received_5 ∷ [])

abbrev releasing : State → State
releasing s = then s (Datagram home release_5) (completed_5 ∷ [])

open_one : Lawful opening opened_5
open_one = (
  told,
  came told_t1 knowing (Datagram home publish_5) (asks_t1 Allowed ∷ received_5 ∷ []) knowing_is
      (record { whole = refl; exits = refl; clients = (record { fixed = refl }, tt) }),
)

abbrev repeated_5 : List Row
repeated_5 = row (Datagram home repeat_5) (received_5 ∷ []) ∷ opened_5

repeated : Lawful opening repeated_5
repeated = (
  open_one,
  came opened_5 (publishing knowing) (Datagram home repeat_5) (received_5 ∷ []) (ap publishing knowing_is)
      (record { whole = refl; exits = refl; clients = (record { fixed = refl }, tt) }),
)

abbrev released_5 : List Row
released_5 = row (Datagram home release_5) (completed_5 ∷ []) ∷ repeated_5

released : Lawful opening released_5
released = (
  repeated,
  came repeated_5 (repeating (publishing knowing)) (Datagram home release_5) (completed_5 ∷ [])
      (ap (λ s. repeating (publishing s)) knowing_is)
      (record { whole = refl; exits = refl; clients = (record { fixed = refl }, tt) }),
)

abbrev over_5 : List Row
over_5 = row (Datagram home release_5) (completed_5 ∷ []) ∷ released_5

over : Lawful opening over_5
over = (
  released,
  came released_5 (releasing (repeating (publishing knowing))) (Datagram home release_5) (completed_5 ∷ [])
      (ap (λ s. releasing (repeating (publishing s))) knowing_is)
      (record { whole = refl; exits = refl; clients = (record { fixed = refl }, tt) }),
)

pub counted : Lawful opening counted_5
unfolding remaining_length
counted = (
  over,
  came over_5 (releasing (releasing (repeating (publishing knowing)))) Take
      (forward_t1 Allowed ∷ packet_t1 1 ∷ [])
      (ap (λ s. releasing (releasing (repeating (publishing s)))) knowing_is)
      (record { whole = refl; exits = refl; clients = (record { fixed = refl }, tt) }),
)

abbrev closed_5 : List Row
closed_5 = row (Datagram home release_5) (completed_5 ∷ []) ∷ opened_5

closed : Lawful opening closed_5
closed = (
  open_one,
  came opened_5 (publishing knowing) (Datagram home release_5) (completed_5 ∷ []) (ap publishing knowing_is)
      (record { whole = refl; exits = refl; clients = (record { fixed = refl }, tt) }),
)

pub anew : Lawful opening anew_5
anew = (
  closed,
  came closed_5 (releasing (publishing knowing)) (Datagram home publish_5)
      (asks_t1 Allowed ∷ received_5 ∷ [])
      (ap (λ s. releasing (publishing s)) knowing_is)
      (record { whole = refl; exits = refl; clients = (record { fixed = refl }, tt) }),
)

-- ---- rows that may not come while the MsgId is open

-- a repeat is judged, and asks for the publish again
pub not_judged : LawfulRow has_open (Datagram home repeat_5) (asks_t1 Allowed ∷ received_5 ∷ []) → ⊥
not_judged l =
    let at : LawfulRow (publishing knowing) (Datagram home repeat_5) (asks_t1 Allowed ∷ received_5 ∷ []) =
    subst (λ s. LawfulRow s (Datagram home repeat_5) (asks_t1 Allowed ∷ received_5 ∷ []))
    (ap publishing knowing_is) l in
    let e = at.clients.0.fixed in cc

-- a repeat is not answered
pub not_unanswered : LawfulRow has_open (Datagram home repeat_5) [] → ⊥
not_unanswered l =
    let at : LawfulRow (publishing knowing) (Datagram home repeat_5) [] =
    subst (λ s. LawfulRow s (Datagram home repeat_5) []) (ap publishing knowing_is) l in
    let e = at.whole in cc

-- a PUBREL is not answered
pub not_uncompleted : LawfulRow has_open (Datagram home release_5) [] → ⊥
not_uncompleted l =
    let at : LawfulRow (publishing knowing) (Datagram home release_5) [] =
    subst (λ s. LawfulRow s (Datagram home release_5) []) (ap publishing knowing_is) l in
    let e = at.whole in cc
