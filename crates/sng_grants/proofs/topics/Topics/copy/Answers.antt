use Rattle.std.proofs.Common.{◌≡◌, ◌∙◌}
use Rattle.std.proofs.lemmas.Map.Entries.{entries_from_clone}
use Rattle.sng_grants.proofs.topics.Topics.copy.Goals as goal

pub invariant_of-result : goal.invariant_of-result
invariant_of-result c =
    let names : c.in_ok-names.names ≡ c.self.inside.names =
    entries_from_clone _ _ (λ x y is. is) (λ v w is. is) _ _ c.in_ok-names.ensures.cases in
    (rw names c.self.invariant.0, λ name. rw names (c.in_ok-ids.ensures name ∙ c.self.invariant.1 name))

pub returns : goal.returns
returns c =
    entries_from_clone _ _ (λ x y is. is) (λ v w is. is) _ _ c.in_ok-names.ensures.cases ∙ c.self.view_is
