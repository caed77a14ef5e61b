use Rattle.std.proofs.Common.{◌≡◌, ◌++◌, drop}
use Rattle.mqtt_frames.specs.Packets.{filters_bytes}
use Rattle.mqtt_frames.proofs.unsubscribe.push_filters.Given as goal

abbrev pub invariant-loop-filter : goal.invariant-loop-filter
invariant-loop-filter l =
    l.bytes.items ++ filters_bytes
    (drop l.filter-index l.filters) ≡ l.fn.bytes.items ++ filters_bytes l.filters
