-- The filters are the client's.
use Rattle.std.proofs.Common.{◌≡◌, ◌∙◌, sym, subst, rules}
use Rattle.sng_fan.specs.Subscriptions.{IsOneClients}
use Rattle.sng_sessions.proofs.filters.ClientFilters.filters.Goals as goal

pub returns-in-Some-clause-once : goal.returns-in-Some-clause-once
returns-in-Some-clause-once c =
    let same : c.filters.result.now ≡ c.args.self.now = search rules in
    subst IsOneClients (sym c.filters.ensures.value ∙ same) c.filters.ensures.once
