use Rattle.std.proofs.Common.{◌≡◌, All}
use Rattle.std.specs.Map.{keys_of, values_of}
use Rattle.serde_json.specs.Data.{no_members}
use Rattle.serde_json.specs.View.{members_view}
use Rattle.sng_text.specs.Ipv4.{IsAddress}
use Rattle.sng_scope.specs.Bounds.{IsGrant}
use Rattle.sng_scope.specs.Written.{dotted, grant_data, with_members}
use Rattle.sng_scope.proofs.write.entries.sources_value.Given as goal

abbrev pub invariant-loop-source : goal.invariant-loop-source
invariant-loop-source l = record {
  written : with_members dotted grant_data (members_view l.members.entries) l.source-iterator
      ≡ with_members dotted grant_data no_members l.sources;
  keys : All IsAddress (keys_of l.source-iterator) → All IsAddress (keys_of l.sources);
  values : All IsGrant (values_of l.source-iterator)
      → All IsGrant (values_of l.sources);
}
