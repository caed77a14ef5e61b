use Rattle.std.proofs.Common.{◌≡◌, ◌++◌}
use Rattle.sng_core.specs.Connecting.{dropped_notes}
use Rattle.sng_core.proofs.entry.dropped_notes.Given as goal

abbrev pub invariant-loop-turn : goal.invariant-loop-turn
invariant-loop-turn l = l.outs ≡ l.initial.outs ++ dropped_notes l.turn
