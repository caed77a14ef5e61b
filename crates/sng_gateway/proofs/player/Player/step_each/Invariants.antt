use Rattle.sng_gateway.specs.Deeds.{packet_deeds}
use Rattle.sng_gateway.specs.Playing.{Adds}
use Rattle.sng_gateway.specs.Standings.{standing}
use Rattle.sng_gateway.proofs.player.Player.step_each.Given as goal

abbrev pub invariant-loop-packet : goal.invariant-loop-packet
invariant-loop-packet l =
    Adds (standing l.fn.self) (packet_deeds l.yielded) l.fn.self.text.items l.self.text.items
    (standing l.self)
