use Rattle.std.proofs.Common.{refl, rules}
use Rattle.sng_gateway.proofs.DeedLemmas.{Adds-step}
use Rattle.sng_gateway.proofs.player.Player.step.Goals as goal

pub returns-clause-ok : goal.returns-clause-ok
returns-clause-ok c =
    Adds-step c.args.event _ _ _ _ _ (record {
      outs = c.in_ok-outs.outs;
      kept = rw c.reuse.ensures c.in_ok-outs.ensures.kept;
      counted = refl;
      printed = refl;
      same = refl;
    }) (search rules)
