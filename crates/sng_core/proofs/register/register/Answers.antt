use Rattle.std.proofs.Common.{◌∙◌}
use Rattle.sng_core.proofs.Asked.{told_judged}
use Rattle.sng_core.proofs.register.register.Goals as goal

pub returns-clause-next : goal.returns-clause-next
returns-clause-next c =
    c.in_ok-tell.ensures.ok
    ∙ told_judged c.args.policy.now c.args.clock c.args.register.name c.args.sessions.now c.args.place
    c.in_ok-judged.judged c.requires c.in_ok-judged.ensures
