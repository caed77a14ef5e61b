use Rattle.std.proofs.Common.{Option, Some, ap, ◌∙◌}
use Rattle.std.proofs.lemmas.Result.{on_ok_weaker}
use Rattle.mqtt_frames.specs.declared.fault.StreamFault.{StreamFault}
use Rattle.sng_gateway.specs.Deeds.{Arrival}
use Rattle.sng_gateway.specs.Standings.{standing}
use Rattle.sng_gateway.proofs.DeedLemmas.{Comes-piece}
use Rattle.sng_gateway.proofs.player.Player.take_piece.Goals as goal

pub returns-in-Some-clause-ok : goal.returns-in-Some-clause-ok
returns-in-Some-clause-ok c =
    let packets = c.in_ok-packets.packets.items in
    let came : Option StreamFault → Arrival =
    λ fault. record { packets = packets; fault = fault; stream = c.arrival.new.stream } in
    let is = c.in_ok-packets.ensures.ok ∙ ap came c.in-Some.is in
    on_ok_weaker c.lose.result
    (λ lost. Comes-piece c.args.piece.now _ _ _ (came (Some c.in-Some.fault)) (standing c.args.self.now) _ _
    c.requires is c.in_ok-step_each.ensures.ok lost)
    c.lose.ensures.ok
