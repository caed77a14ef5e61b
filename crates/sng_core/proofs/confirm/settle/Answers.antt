-- An id that was confirmed, or none.
use Rattle.std.proofs.Common.{◌≡◌, ◌⊎◌, inl, inr, ap, sym, subst, ◌∙◌}
use Rattle.sng_history.specs.Clients.{closed}
use Rattle.sng_history.specs.Entering.{heard_at}
use Rattle.sng_sessions.specs.Handed.{answered}
use Rattle.sng_sessions.specs.Moving.{moved_at}
use Rattle.sng_sessions.proofs.MovedLists.{moved_at-twice}
use Rattle.sng_turns.specs.Serving.{more_by}
use Rattle.sng_turns.specs.declared.serve.Settled.{Settled}
use Rattle.sng_turns.specs.declared.serve.Settled.TheVariants as settling
use Rattle.sng_core.proofs.confirm.settle.Goals as goal

-- neither is an id
no_id : (settled : Settled) → (settled ≡ settling.Nothing) ⊎ (settled ≡ settling.Front) → more_by settled ≡ 0
no_id settled (inl is) = ap more_by is
no_id settled (inr is) = ap more_by is

pub returns-in-Nothing : goal.returns-in-Nothing
returns-in-Nothing c =
    let xs = c.args.sessions.now in
    let place = c.args.place in
    let clock = c.args.clock in
    let none : more_by c.args.settled ≡ 0 = no_id c.args.settled c.in-Nothing.is in
    let over : c.change.new.self ≡ moved_at place (λ x. closed (heard_at clock x)) xs =
    c.change.ensures
    ∙ (ap (moved_at place closed) c.hear.ensures ∙ moved_at-twice (heard_at clock) closed place xs) in
    subst (λ id. c.change.new.self ≡ moved_at place (answered clock id) xs) (sym none) over
