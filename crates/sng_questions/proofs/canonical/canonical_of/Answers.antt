-- What is printed of a policy text that is read is the canonical text of its policy.
use Rattle.std.proofs.Common.{ap, sym, ◌∙◌, ◌++◌}
use Rattle.std.specs.Prelude.{codes}
use Rattle.sng_places.specs.declared.position.TheConstants.Position.{FIRST}
use Rattle.sng_places.specs.Places.{text_check}
use Rattle.sng_questions.specs.Reports.{canonical_report}
use Rattle.sng_questions.proofs.canonical.canonical_of.Goals as goal

pub returns-in_ok-warnings-in-Ok-clause-lines : goal.returns-in_ok-warnings-in-Ok-clause-lines
returns-in_ok-warnings-in-Ok-clause-lines c = (
  FIRST,
  c.in_ok-extend_from_slice-in-Ok.ensures.items
      ∙ ap (λ lines. lines ++ codes "\n") c.in_ok-lines-in-Ok.ensures.text
      ∙ sym (ap (λ read. canonical_report FIRST read (text_check c.args.text.now)) c.in-Ok.ensures.ok),
)
