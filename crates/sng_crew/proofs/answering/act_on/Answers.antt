use Rattle.std.proofs.Common.{◌∷◌, [], map}
use Rattle.sng_book.specs.declared.event.Event.TheVariants.{Broker, Take}
use Rattle.mqtt_frames.specs.declared.packet.Packet.{Packet}
use Rattle.sng_desk.proofs.Acting.{acted_on}
use Rattle.sng_crew.proofs.answering.act_on.Goals as goal

pub returns-clause-acted : goal.returns-clause-acted
returns-clause-acted g c =
    rw c.if-broken.false
    (acted_on (map (λ (p : Packet). Broker p) c.args.packets.items) (Take
    ∷ []) c.args.hand.now.log.trail c.args.hand.now.share c.act_each-fine.new.hand.log.trail
    c.act_each-fine.new.hand.share c.act-taken.new.self.log.trail c.act-taken.new.self.share
    c.act_each-fine.result c.act-taken.result c.act_each-fine.ensures.acted c.act-taken.ensures.acted)
