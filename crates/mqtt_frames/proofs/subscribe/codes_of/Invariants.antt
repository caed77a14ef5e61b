use Rattle.std.proofs.Common.{◌≡◌, drop}
use Rattle.mqtt_frames.specs.Reading.{codes_of}
use Rattle.mqtt_frames.proofs.Items.{with_front}
use Rattle.mqtt_frames.proofs.subscribe.codes_of.Given as goal

abbrev pub invariant-loop-byte : goal.invariant-loop-byte
invariant-loop-byte l = with_front l.codes.items (codes_of (drop l.byte-index l.bytes)) ≡ codes_of l.bytes
