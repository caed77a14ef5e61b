use Rattle.std.proofs.Common.{rules}
use Rattle.sng_scope.proofs.JsonLemmas.{members_len-members_view}
use Rattle.sng_places.proofs.policy.member_count.Goals as goal

pub returns : goal.returns
returns c = rw (members_len-members_view c.args.members.now.entries) (search rules)
