use Rattle.std.proofs.Common.{◌≡◌, ◌<◌, ◌+◌, true, sym, ◌∙◌, arith}
use Rattle.sng_text.specs.declared.limits.TheConstants.{MAX_FILTER}
use Rattle.sng_cover.proofs.Covered.{is_met, covered}
use Rattle.sng_cover.proofs.question.Question.is_covered.Goals as goal

pub has-requires : goal.has-requires
has-requires c =
    let few : c.args.self.now.own.fixed < MAX_FILTER + 2 = c.requires.1.1.own.few in omega (arith, few)

pub returns-then-self : goal.returns-then-self
returns-then-self c = λ asked granted more gathered are met.
    let is : is_met c.args.self.now.own c.args.self.now.reached ≡ true =
    rw c.if-self.true (sym c.is_from.ensures ∙ met) in
    covered asked granted more _ _ gathered.reached gathered.own are is

pub returns-else-self : goal.returns-else-self
returns-else-self c = λ asked granted more gathered are met.
    let is : is_met c.args.self.now.own c.args.self.now.reached ≡ true =
    rw c.if-self.false (sym c.has.ensures ∙ met) in
    covered asked granted more _ _ gathered.reached gathered.own are is
