-- The note of a CONNECT stands under the policy in force.
use Rattle.std.proofs.Common.{◌≡◌, inl, inr, ℕ, Bool, true, false, List, refl, subst, if◌then◌else◌}
use Rattle.std.specs.Prelude.{◌==◌, ◌||◌, nat_lt, length}
use Rattle.std.specs.Str.{bytes_eq}
use Rattle.sng_grants.specs.declared.policy.Policy.{Policy}
use Rattle.sng_policy.specs.Grants.{lists}
use Rattle.sng_frames.specs.declared.messages.connect.Connect.{Connect}
use Rattle.sng_book.specs.declared.decision.Decision.TheVariants as note
use Rattle.sng_book.specs.declared.outcome.Place.TheVariants as place
use Rattle.sng_book.specs.declared.outcome.Denial.TheVariants.{Form, Grant, Room}
use Rattle.sng_book.specs.declared.outcome.FormDenial.TheVariants.{NotSupported}
use Rattle.sng_book.specs.declared.outcome.GrantDenial.TheVariants.{NoScope}
use Rattle.sng_book.specs.declared.outcome.RoomDenial.TheVariants.{Full}
use Rattle.sng_book.specs.declared.outcome.Outcome.TheVariants.{Allowed, Denied}
use Rattle.sng_history.specs.Clients.{Client}
use Rattle.sng_history.specs.State.{State, is_known}
use Rattle.sng_history.specs.Verdicts.{and_then, entry}
use Rattle.sng_laws.specs.LawsPromise.{MayConnect, Stands}
use Rattle.sng_history.proofs.Own.{same_means}

-- the form, then the policy, then room
may_connect : (policy : Policy) (id : List ℕ) (form listed roomy : Bool) → lists policy id ≡ listed
    → MayConnect policy id
    (and_then (if form then Allowed else Denied (Form NotSupported))
    (and_then (if listed then Allowed else Denied (Grant (NoScope id)))
    (if roomy then Allowed else Denied (Room (Full place.Clients)))))
may_connect policy id false listed roomy is = inl refl
may_connect policy id true false roomy is = inr (refl, is)
may_connect policy id true true true is = is
may_connect policy id true true false is = is

pub entry_stands : (s : State) (connect : Connect)
    → Stands s.policy (note.Connect connect.client_id (entry s connect))
entry_stands s connect =
    let id = connect.client_id in
    may_connect s.policy id (connect.protocol_id == 1) (lists s.policy id)
    (is_known id s.clients || nat_lt (length s.clients) s.policy.limits.clients) refl

pub connect_stands : (s : State) (connect : Connect) (x : Client) → bytes_eq connect.client_id x.id ≡ true
    → Stands s.policy (note.Connect x.id (entry s connect))
connect_stands s connect x is =
    subst (λ id. Stands s.policy (note.Connect id (entry s connect))) (same_means connect.client_id x.id is)
    (entry_stands s connect)
