use Rattle.sng_endings.proofs.Rehearsed.{room_tried}
use Rattle.sng_endings.proofs.room.try_end.Goals as goal

pub returns-clause-room : goal.returns-clause-room
returns-clause-room c = λ xs keeps.
    room_tried c.end.new.self xs c.args.ending.now.filter c.is_held-is_held.result c.args.room.now _ keeps
    c.is_held-is_held.ensures c.left.ensures
