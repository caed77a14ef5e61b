use Rattle.std.proofs.Common.{◌≡◌, ◌+◌, ◌≤◌, drop, length}
use Rattle.mqtt_frames.specs.declared.limits.TheConstants.{MAX_PACKET}
use Rattle.mqtt_frames.specs.Packets.{requests_bytes}
use Rattle.mqtt_frames.proofs.subscribe.size.Given as goal

abbrev pub invariant-loop-request : goal.invariant-loop-request
invariant-loop-request l = record {
  short : l.size ≤ MAX_PACKET;
  total : l.size + length (requests_bytes (drop l.request-index l.requests))
      ≡ 2 + length (requests_bytes l.requests);
}
