use Rattle.std.proofs.Common.{◌≡◌, false, sym, ap, ◌∙◌}
use Rattle.sng_grants.specs.Ends.{next_end}
use Rattle.sng_grants.specs.Sources.{is_reached}
use Rattle.sng_grants.specs.declared.policy.Policy.{Policy}
use Rattle.sng_grants.proofs.EndLemmas.{nothing_ends_before}
use Rattle.sng_policy.proofs.in_force.InForce.ends_by.Goals as goal

pub returns-clause-stays : goal.returns-clause-stays
returns-clause-stays c = λ stays.
    let before : is_reached c.args.clock (next_end c.args.self.now) ≡ false =
    ap (λ (policy : Policy). is_reached c.args.clock (next_end policy)) (sym c.self.view_is)
    ∙ ap (is_reached c.args.clock) (sym c.self.invariant) ∙ sym c.is_reached.ensures ∙ stays in
    nothing_ends_before c.args.clock c.args.self.now before
