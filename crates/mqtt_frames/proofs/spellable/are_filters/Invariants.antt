use Rattle.std.proofs.Common.{◌≡◌, drop}
use Rattle.mqtt_frames.specs.Spellable.{are_filters}
use Rattle.mqtt_frames.proofs.spellable.are_filters.Given as goal

abbrev pub invariant-loop-filter : goal.invariant-loop-filter
invariant-loop-filter l = are_filters (drop l.filter-index l.filters) ≡ are_filters l.filters
