use Rattle.std.proofs.Common.{not, rules}
use Rattle.std.proofs.lemmas.Map.Made.{filter_same_pairs}
use Rattle.sng_grants.specs.Sources.{is_reached}
use Rattle.sng_grants.proofs.listed.leave.Goals as goal

pub returns : goal.returns
returns g c =
    filter_same_pairs _ (λ e. not (is_reached c.args.clock e.1.until)) _ (λ k v b w f t. search rules) _ _
    c.retain.ensures.filtered
