use Rattle.std.proofs.Common.{◌≡◌, vec_len}
use Rattle.std.specs.Prelude.{reverse}
use Rattle.sng_link.specs.Steps.{undone_marks, undone_wanted, CanUndo}
use Rattle.sng_link.proofs.step.undo.Given as goal

abbrev pub invariant-loop-step : goal.invariant-loop-step
invariant-loop-step l = record {
  can : CanUndo l.wanted.wanted (reverse l.log.items);
  marks : undone_marks l.ids.marks (reverse l.log.items)
      ≡ undone_marks l.fn.ids.marks (reverse l.fn.log.items);
  wanted : undone_wanted l.wanted.wanted (reverse l.log.items)
      ≡ undone_wanted l.fn.wanted.wanted (reverse l.fn.log.items);
  room : l.wanted.room ≡ l.fn.wanted.room;
}

abbrev pub decreases-loop-step : goal.decreases-loop-step
decreases-loop-step l = vec_len l.log
