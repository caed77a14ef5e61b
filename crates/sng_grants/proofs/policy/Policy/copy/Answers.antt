use Rattle.std.proofs.Common.{◌≡◌}
use Rattle.std.proofs.lemmas.Map.Entries.{entries_from_clone}
use Rattle.sng_grants.proofs.policy.Policy.copy.Goals as goal

pub returns : goal.returns
returns c =
    let clients : c.in_ok-clients.clients ≡ c.self.inside.clients =
    entries_from_clone _ _ (λ x y is. is) (λ v w is. is) _ _ c.in_ok-clients.ensures.cases in
    let sources : c.in_ok-sources.sources ≡ c.self.inside.sources =
    entries_from_clone _ _ (λ x y is. is) (λ v w is. is) _ _ c.in_ok-sources.ensures.cases in
    rw (clients, sources, c.in_ok-topics.ensures) c.self.view_is
