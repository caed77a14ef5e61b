use Rattle.std.proofs.Common.{◌≡◌, ◌+◌, ◌≤◌, [], length}
use Rattle.serde_json.specs.View.{members_view}
use Rattle.sng_scope.specs.Policies.{sources_onto}
use Rattle.sng_scope.proofs.members.sources.sources_of.Given as goal

abbrev pub invariant-loop-name : goal.invariant-loop-name
invariant-loop-name l =
    (sources_onto l.ends l.sources.entries (members_view l.name-iterator) ≡ sources_onto l.ends [] (members_view l.members.entries))
    × (length l.sources.entries + length l.name-iterator ≤ length l.members.entries)
