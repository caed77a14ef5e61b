use Rattle.sng_gateway.proofs.DeedLemmas.{Adds-packet}
use Rattle.sng_gateway.proofs.player.Player.step_each.Goals as goal

pub loop-packet-preserved : goal.loop-packet-preserved
loop-packet-preserved c =
    Adds-packet c.loop-packet.yielded c.in-Some.packet _ _ _ _ _ _ c.loop-packet.invariant
    c.in_ok-step.ensures.ok
