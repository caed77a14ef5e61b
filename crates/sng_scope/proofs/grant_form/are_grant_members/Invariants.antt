use Rattle.std.proofs.Common.{◌≡◌}
use Rattle.serde_json.specs.View.{members_view}
use Rattle.sng_scope.specs.Grants.{are_grant_members}
use Rattle.sng_scope.proofs.grant_form.are_grant_members.Given as goal

abbrev pub invariant-loop-name : goal.invariant-loop-name
invariant-loop-name l =
    are_grant_members (members_view l.name-iterator) ≡ are_grant_members (members_view l.members.entries)
