use Rattle.std.proofs.Common.{ℕ, ◌≡◌, List, subst, sym, ap, ◌∙◌, rules}
use Rattle.sng_grants.specs.Sources.{grant_of}
use Rattle.sng_grants.specs.declared.policy.Policy.{Policy}
use Rattle.sng_endings.proofs.Planning.{scope_kept}
use Rattle.sng_endings.proofs.replacing.add_changed.Goals as goal

pub returns-then-same_scope : goal.returns-then-same_scope
returns-then-same_scope c =
    let before = c.args.in_force.now in
    let after = c.args.policy.now in
    let id = c.id.result.now in
    let same = c.if-same_scope.ensures.same.0 (search rules) in
    let kept : grant_of before.clients id ≡ grant_of after.clients id =
    sym (ap (λ (p : Policy). grant_of p.clients id) c.policy.ensures) ∙ same
    ∙ ap (λ (p : Policy). grant_of p.clients id) c.policy-2.ensures in
    scope_kept before after c.args.sessions.now c.args.place c.args.endings.now.items c.requires.covered
    c.requires.place
    (subst (λ (i : List ℕ). grant_of before.clients i ≡ grant_of after.clients i) c.id.ensures kept)
