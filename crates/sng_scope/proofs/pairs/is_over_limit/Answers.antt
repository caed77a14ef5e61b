use Rattle.std.proofs.Common.{rules}
use Rattle.serde_json.proofs.Views.{items_len-items_view}
use Rattle.sng_scope.proofs.pairs.is_over_limit.Goals as goal

pub returns : goal.returns
returns c = rw (items_len-items_view c.args.items.now) (search rules)
