use Rattle.std.proofs.Common.{subst, sym}
use Rattle.sng_history.specs.State.{State}
use Rattle.sng_history.specs.Books.{KeepsBook, row_outs}
use Rattle.sng_history.specs.Good.{Good}
use Rattle.sng_history.proofs.BookSteps.{book_kept, book_good}
use Rattle.sng_core.proofs.machine.Core.step.Goals as goal

pub invariant_of-self-2 : goal.invariant_of-self-2
invariant_of-self-2 c =
    subst Good (sym c.in_ok-outs.ensures.next)
    (book_good c.self.inside.parts c.args.event c.self.invariant)

pub returns-clause-kept : goal.returns-clause-kept
returns-clause-kept c =
    let s : State = c.self.inside.parts in
    let e = c.args.event in
    let to : KeepsBook s e (row_outs s e) c.perform.new.self =
    subst (λ after. KeepsBook s e (row_outs s e) after) (sym c.in_ok-outs.ensures.next)
    (book_kept s e c.self.invariant) in
    let out : KeepsBook s e c.in_ok-outs.outs c.perform.new.self =
    subst (λ outs. KeepsBook s e outs c.perform.new.self) (sym c.in_ok-outs.ensures.outs) to in
    subst (λ before. KeepsBook before e c.in_ok-outs.outs c.perform.new.self) c.self.view_is out
