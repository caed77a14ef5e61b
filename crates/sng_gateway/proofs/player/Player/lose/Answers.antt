use Rattle.std.proofs.lemmas.Result.{on_ok_weaker}
use Rattle.sng_gateway.proofs.DeedLemmas.{Adds-told}
use Rattle.sng_gateway.specs.Deeds.{fault_line}
use Rattle.sng_gateway.proofs.player.Player.lose.Goals as goal

pub returns-clause-ok : goal.returns-clause-ok
returns-clause-ok c =
    on_ok_weaker c.step.result (λ lost. Adds-told (fault_line c.args.fault) _ _ _ _ _ _
    c.in_ok-push_fault_line.ensures lost) c.step.ensures.ok
