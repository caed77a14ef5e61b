use Rattle.std.proofs.Common.{[], ◌∷◌, ap, ◌∙◌}
use Rattle.sng_questions.specs.Redundant.{is_covered, is_included}
use Rattle.sng_questions.proofs.redundant.is_included.Goals as goal

pub answer-requires : goal.answer-requires
answer-requires c = (
  c.args.filter.now,
  (
    c.args.granted.now ∷ [],
    (c.add.ensures c.args.filter.now [] c.about-question.ensures, c.add-2.ensures [] c.new-profile.ensures),
  ),
)

pub returns : goal.returns
unfolding is_included
returns c =
    let gathered = c.add.ensures c.args.filter.now [] c.about-question.ensures in
    let profile = c.add-2.ensures [] c.new-profile.ensures in
    let told = c.answer.ensures c.args.filter.now (c.args.granted.now ∷ []) gathered profile in
    let answer = rw c.in_ok-answer.was at told in
    c.is_covered.ensures ∙ ap is_covered answer
