use Rattle.std.proofs.Common.{◌+◌, subst}
use Rattle.sng_link.specs.Rooms.{HasPlaces}
use Rattle.sng_core.specs.Dues.{items_of}
use Rattle.sng_core.proofs.tick.carry_out_one.Goals as goal

pub returns-in-Lost-clause-room : goal.returns-in-Lost-clause-room
returns-in-Lost-clause-room c =
    λ count has.
    c.carry_loss.ensures.room count
    (subst (λ due. HasPlaces (items_of due + count) c.args.link.now) c.in-Lost.is has)
