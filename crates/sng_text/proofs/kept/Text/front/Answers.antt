-- The zeros behind the text are what its number has there.
use Rattle.std.proofs.Common.{sym, subst, ap, ◌∙◌}
use Rattle.sng_text.specs.Kept.{front_of, bytes_of, IsFit}
use Rattle.sng_text.proofs.FrontLemmas.{front_of-take}
use Rattle.sng_text.proofs.kept.Text.front.Goals as goal

pub returns-in-Short-clause-value : goal.returns-in-Short-clause-value
returns-in-Short-clause-value c =
    let fit = subst IsFit c.in-Short.is c.self.invariant in
    let text = sym (ap bytes_of c.in-Short.is) ∙ c.self.view_is in
    c.first_sixteen.ensures.value ∙ front_of-take _ _ fit.1 ∙ ap front_of text
