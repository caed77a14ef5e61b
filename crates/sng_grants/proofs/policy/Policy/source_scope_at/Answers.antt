use Rattle.std.proofs.Common.{sym, ap, ◌∙◌}
use Rattle.std.specs.Option.{option_and_then, option_copied}
use Rattle.sng_grants.specs.Ends.{in_force}
use Rattle.sng_grants.specs.Policies.{Policy}
use Rattle.sng_grants.specs.Sources.{scope_left, scope_of}
use Rattle.sng_grants.proofs.EndLemmas.{grants_end}
use Rattle.sng_grants.proofs.policy.Policy.source_scope_at.Goals as goal

pub returns-in-None : goal.returns-in-None
returns-in-None c =
    sym (grants_end c.args.clock c.self.inside.sources _ c.len-len.ensures.ordered
    ∙ ap (option_and_then (scope_left c.args.clock))
    (sym c.get.ensures ∙ ap option_copied c.in-None.is))
    ∙ ap (λ (p : Policy). scope_of (in_force c.args.clock p).sources c.args.source) c.self.view_is

pub returns-in-Some : goal.returns-in-Some
returns-in-Some c =
    c.at.ensures
    ∙ sym (grants_end c.args.clock c.self.inside.sources _ c.len-len.ensures.ordered
    ∙ ap (option_and_then (scope_left c.args.clock))
    (sym c.get.ensures ∙ ap option_copied c.in-Some.is))
    ∙ ap (λ (p : Policy). scope_of (in_force c.args.clock p).sources c.args.source) c.self.view_is
