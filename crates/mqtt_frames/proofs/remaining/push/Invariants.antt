use Rattle.std.proofs.Common.{◌≡◌, ◌++◌}
use Rattle.mqtt_frames.specs.RemainingLength.{remaining_length}
use Rattle.mqtt_frames.proofs.remaining.push.Given as goal

abbrev pub invariant-loop-rest : goal.invariant-loop-rest
invariant-loop-rest l =
    l.bytes.items ++ remaining_length l.rest ≡ l.fn.bytes.items ++ remaining_length l.number

abbrev pub decreases-loop-rest : goal.decreases-loop-rest
decreases-loop-rest l = l.rest
