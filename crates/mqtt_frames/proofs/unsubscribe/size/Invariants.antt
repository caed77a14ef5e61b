use Rattle.std.proofs.Common.{◌≡◌, ◌+◌, ◌≤◌, drop, length}
use Rattle.mqtt_frames.specs.declared.limits.TheConstants.{MAX_PACKET}
use Rattle.mqtt_frames.specs.Packets.{filters_bytes}
use Rattle.mqtt_frames.proofs.unsubscribe.size.Given as goal

abbrev pub invariant-loop-filter : goal.invariant-loop-filter
invariant-loop-filter l = record {
  short : l.size ≤ MAX_PACKET;
  total : l.size + length (filters_bytes (drop l.filter-index l.filters))
      ≡ 2 + length (filters_bytes l.filters);
}
