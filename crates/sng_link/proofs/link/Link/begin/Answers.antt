use Rattle.sng_link.proofs.Rooms.{roomed_same}
use Rattle.sng_link.proofs.link.Link.begin.Goals as goal

pub returns-clause-outs : goal.returns-clause-outs
returns-clause-outs c = rw (← c.self.view_is) (c.in_ok-outs.ensures.outs c.args.clock c.self.inside.pinged)

pub returns-clause-after : goal.returns-clause-after
returns-clause-after c =
    let room = c.in_ok-outs.ensures.room in
    rw (← c.self.view_is)
    (roomed_same _ _ _ _ _ _ _ _ (c.in_ok-outs.ensures.after c.args.clock c.self.inside.pinged) room.0 room.1
    room.2)
