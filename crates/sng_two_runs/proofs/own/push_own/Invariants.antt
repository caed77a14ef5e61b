use Rattle.std.proofs.Common.{◌≡◌, ◌++◌, take}
use Rattle.sng_two_runs.specs.Runs.{named_by}
use Rattle.sng_two_runs.proofs.own.push_own.Given as goal

abbrev pub invariant-loop-event : goal.invariant-loop-event
invariant-loop-event l = l.own.items ≡ l.initial.own.items ++ named_by l.id (take l.event-index l.events)
