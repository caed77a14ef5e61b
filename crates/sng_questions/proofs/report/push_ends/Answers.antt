use Rattle.std.proofs.Common.{append_assoc}
use Rattle.sng_questions.proofs.report.push_ends.Goals as goal

pub returns : goal.returns
returns c =
    rw (
      c.in_ok-extend_from_slice-2.ensures.items,
      c.in_ok-push_decimal.ensures,
      c.in_ok-extend_from_slice.ensures.items,
      c.in_ok-push_count.ensures,
    ) (simp append_assoc)
