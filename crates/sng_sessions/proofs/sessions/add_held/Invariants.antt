use Rattle.std.proofs.Common.{drop}
use Rattle.sng_sessions.specs.Kept.{SameOfOthers}
use Rattle.sng_sessions.proofs.HoldingsMade.{Growing}
use Rattle.sng_sessions.proofs.sessions.add_held.Given as goal

abbrev pub invariant-loop-one : goal.invariant-loop-one
invariant-loop-one l = record {
  grows : Growing l.standing l.place l.held (drop l.one-index l.held);
  others : SameOfOthers l.initial.standing l.standing l.place;
}
