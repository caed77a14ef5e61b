use Rattle.std.proofs.Common.{◌≡◌, length}
use Rattle.mqtt_frames.specs.Streams.{read_all, with_packets}
use Rattle.mqtt_frames.proofs.pending.read_all.Given as goal

abbrev pub invariant-loop-packet_id : goal.invariant-loop-packet_id
invariant-loop-packet_id l =
    with_packets l.packets.items (read_all l.rest) ≡ with_packets l.fn.packets.items (read_all l.bytes)

abbrev pub decreases-loop-packet_id : goal.decreases-loop-packet_id
decreases-loop-packet_id l = length l.rest
