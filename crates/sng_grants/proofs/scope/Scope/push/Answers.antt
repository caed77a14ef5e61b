use Rattle.std.proofs.Common.{◌≡◌, ◌∷◌, [], ◌++◌, ◌<◌, length, rules}
use Rattle.sng_cover.specs.Gathered.{IsProfile}
use Rattle.sng_grants.specs.Scopes.{IsScope, subscribed}
use Rattle.sng_grants.specs.declared.limits.TheConstants.{MAX_PAIRS}
use Rattle.sng_grants.proofs.ScopeLemmas.{profile-more, profile-same, scope-more}
use Rattle.sng_grants.proofs.scope.Scope.push.Goals as goal
use Rattle.sng_grants.proofs.scope.Scope.push.Goals.{then-pair, else-pair}

pub invariant_of-self-2 : goal.invariant_of-self-2
invariant_of-self-2 c =
    let pushed : c.push.new.self.items ≡ c.self.inside.pairs.items ++ c.args.pair ∷ [] = search rules in
    let few : length c.self.inside.pairs.items < MAX_PAIRS = rw (← c.self.view_is) at c.requires in
    let scope : IsScope (c.self.inside.pairs.items ++ c.args.pair ∷ []) =
    scope-more c.self.inside.pairs.items c.args.pair c.self.invariant.0 few c.text-text.ensures.filter in
    let made : IsProfile c.if-pair.profile (subscribed (c.self.inside.pairs.items ++ c.args.pair ∷ [])) =
    elim c.if-pair.branch [
      | then-pair w ↦
          rw w.profile-is (profile-more c.self.inside.pairs.items c.args.pair _ w.if-pair.true
          (w.add.ensures (subscribed c.self.inside.pairs.items) c.self.invariant.1))
      | else-pair w ↦ rw w.profile-is
          (profile-same c.self.inside.pairs.items c.args.pair _ w.if-pair.false c.self.invariant.1)
    ] in
    (rw pushed scope, rw pushed made)
