use Rattle.std.proofs.Common.{◌≡◌, true, All}
use Rattle.std.specs.Fmt.{decimal}
use Rattle.std.specs.Map.{values_of}
use Rattle.serde_json.specs.Data.{string, no_members}
use Rattle.serde_json.specs.View.{members_view}
use Rattle.sng_text.specs.Texts.{is_name}
use Rattle.sng_scope.specs.Written.{with_members}
use Rattle.sng_scope.proofs.write.entries.topics_value.Given as goal

abbrev pub invariant-loop-id : goal.invariant-loop-id
invariant-loop-id l = record {
  written : with_members decimal string (members_view l.members.entries) l.id-iterator
      ≡ with_members decimal string no_members l.topics;
  values : All (λ name. is_name name ≡ true) (values_of l.id-iterator)
      → All (λ name. is_name name ≡ true) (values_of l.topics);
}
