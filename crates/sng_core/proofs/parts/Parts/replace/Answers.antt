use Rattle.std.proofs.Common.{◌≡◌, subst, sym, ap, ◌∙◌}
use Rattle.sng_grants.specs.Ends.{in_force}
use Rattle.sng_grants.specs.declared.policy.Policy.{Policy}
use Rattle.sng_history.specs.Causes.{ByReplace}
use Rattle.sng_history.specs.State.{State}
use Rattle.sng_history.specs.Steps.{outs_by, next_by}
use Rattle.sng_history.specs.Good.{Good}
use Rattle.sng_core.specs.contracts.parts.Parts.{the_view}
use Rattle.sng_core.proofs.Replacing.{replaced_outs, moved_by}
use Rattle.sng_core.proofs.parts.Parts.replace.Goals as goal

pub returns-clause-outs : goal.returns-clause-outs
returns-clause-outs c =
    let s : State = the_view c.self.inside in
    let good : Good s = subst Good (sym c.self.view_is) c.requires in
    let left : Policy = c.at-policy.result in
    let is : left ≡ in_force s.clock c.args.policy = c.at-policy.ensures in
    c.in_ok-outs.ensures.outs
    ∙ (replaced_outs s left good
    ∙ (ap (λ (p : Policy). outs_by s (ByReplace p)) is
    ∙ ap (λ (t : State). outs_by t (ByReplace (in_force t.clock c.args.policy))) c.self.view_is))

pub returns-clause-next : goal.returns-clause-next
returns-clause-next c =
    let s : State = the_view c.self.inside in
    let good : Good s = subst Good (sym c.self.view_is) c.requires in
    let left : Policy = c.at-policy.result in
    let is : left ≡ in_force s.clock c.args.policy = c.at-policy.ensures in
    moved_by s left _ _ _ good c.in_ok-outs.ensures.policy c.in_ok-outs.ensures.moved
    ∙ (ap (λ (p : Policy). next_by s (ByReplace p)) is
    ∙ ap (λ (t : State). next_by t (ByReplace (in_force t.clock c.args.policy))) c.self.view_is)
