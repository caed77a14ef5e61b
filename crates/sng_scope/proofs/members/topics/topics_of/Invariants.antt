use Rattle.std.proofs.Common.{◌≡◌, ◌+◌, ◌≤◌, [], length, All}
use Rattle.std.specs.Map.{keys_of}
use Rattle.serde_json.specs.View.{members_view}
use Rattle.sng_grants.specs.Topics.{IsTopicId}
use Rattle.sng_scope.specs.Policies.{topics_onto}
use Rattle.sng_scope.proofs.members.topics.topics_of.Given as goal

abbrev pub invariant-loop-name : goal.invariant-loop-name
invariant-loop-name l = record {
  read : topics_onto l.names.entries (members_view l.name-iterator)
      ≡ topics_onto [] (members_view l.members.entries);
  few : length l.names.entries + length l.name-iterator ≤ length l.members.entries;
  ids : All IsTopicId (keys_of l.names.entries);
}
