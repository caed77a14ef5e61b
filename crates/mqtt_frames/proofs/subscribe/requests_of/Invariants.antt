use Rattle.std.proofs.Common.{◌≡◌, length}
use Rattle.mqtt_frames.specs.Reading.{request_at, items_of}
use Rattle.mqtt_frames.proofs.Items.{with_front}
use Rattle.mqtt_frames.proofs.subscribe.requests_of.Given as goal

abbrev pub invariant-loop-rest : goal.invariant-loop-rest
invariant-loop-rest l = with_front l.requests.items (items_of request_at l.rest) ≡ items_of request_at l.bytes

abbrev pub decreases-loop-rest : goal.decreases-loop-rest
decreases-loop-rest l = length l.rest
