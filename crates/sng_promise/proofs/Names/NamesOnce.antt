-- No name is told to a client twice.
use Rattle.std.proofs.Common.{◌≡◌, ℕ, Bool, true, false, List, [], ◌∷◌, ◌++◌, refl, if◌then◌else◌}
use Rattle.std.specs.Prelude.{◌&&◌, Option, Some, None}
use Rattle.std.specs.Str.{bytes_eq}
use Rattle.sng_frames.specs.declared.messages.subscribe.TopicRequest.{TopicRequest}
use Rattle.sng_book.specs.Denials.{is_allowed}
use Rattle.sng_book.specs.declared.decision.Decision.{Decision}
use Rattle.sng_book.specs.declared.decision.Decision.TheVariants as note
use Rattle.sng_book.specs.declared.out.Out.{Out}
use Rattle.sng_book.specs.declared.out.Out.TheVariants.{Send, Wire, Note}
use Rattle.sng_book.specs.declared.row.Row.{Row}
use Rattle.sng_laws.specs.ViewsClients.{is_among, speaks_of, with_name, name_subscribed, names_by}
use Rattle.sng_laws.specs.ViewsClients.{names_after, names_told}
use Rattle.sng_laws.specs.ViewsMessages.{message_at, subscribe_in}
use Rattle.sng_laws.specs.LawsState.{NoneTwice}
use Rattle.sng_history.proofs.Own.{flip}
use Rattle.sng_history.proofs.Booleans.{or_neither}

-- ---- no name is told twice

among_last : (one name : List ℕ) (names : List (List ℕ)) → is_among one names ≡ false
    → bytes_eq one name ≡ false
    → is_among one (names ++ name ∷ []) ≡ false
among_last one name [] none away = rw away refl
among_last one name (next ∷ names) none away =
    let both = or_neither (bytes_eq one next) (is_among one names) none in
    rw both.0 (among_last one name names both.1 away)

once_last : (name : List ℕ) (names : List (List ℕ)) → is_among name names ≡ false → NoneTwice names
    → NoneTwice (names ++ name ∷ [])
once_last name [] none once = (refl, tt)
once_last name (one ∷ names) none once =
    let both = or_neither (bytes_eq name one) (is_among name names) none in
    (among_last one name names once.0 (flip one name both.0), once_last name names both.1 once.1)

once_new : (name : List ℕ) (names : List (List ℕ)) (b : Bool) → is_among name names ≡ b → NoneTwice names
    → NoneTwice (if b then names else names ++ name ∷ [])
once_new name names true is once = once
once_new name names false is once = once_last name names is once

once_with : (name : Option (List ℕ)) (names : List (List ℕ)) → NoneTwice names
    → NoneTwice (with_name name names)
once_with None names once = once
once_with (Some name) names once = once_new name names (is_among name names) refl once

once_if : (b : Bool) (more names : List (List ℕ)) → NoneTwice more → NoneTwice names
    → NoneTwice (if b then more else names)
once_if true more names one two = one
once_if false more names one two = two

once_note : (r : Option TopicRequest) (id : List ℕ) (said : Decision) (names : List (List ℕ))
    → NoneTwice names
    → NoneTwice (names_by r id said names)
once_note r id (note.Connect client outcome) names once =
    once_if (bytes_eq id client && is_allowed outcome) [] names tt once
once_note r id (note.Register whom name outcome) names once =
    once_if (speaks_of id whom && is_allowed outcome) (with_name name names) names
    (once_with name names once) once
once_note r id (note.Subscribe whom filter outcome) names once =
    once_if (speaks_of id whom && is_allowed outcome) (with_name (name_subscribed r filter) names) names
    (once_with (name_subscribed r filter) names once) once
once_note r id (note.Announce client name) names once =
    once_if (bytes_eq id client) (with_name (Some name) names) names (once_with (Some name) names once) once
once_note r id _ names once = once

once_after : (r : Option TopicRequest) (id : List ℕ) (outs : List Out) (names : List (List ℕ))
    → NoneTwice names
    → NoneTwice (names_after r id outs names)
once_after r id [] names once = once
once_after r id (Note said ∷ outs) names once =
    once_after r id outs (names_by r id said names) (once_note r id said names once)
once_after r id (Send to datagram ∷ outs) names once = once_after r id outs names once
once_after r id (Wire sent ∷ outs) names once = once_after r id outs names once

pub names_once : (h : List Row) (id : List ℕ) → NoneTwice (names_told id h)
names_once [] id = tt
names_once (row ∷ h) id =
    once_after (subscribe_in (message_at row.event)) id row.outs (names_told id h) (names_once h id)
