use Rattle.std.proofs.Common.{drop}
use Rattle.sng_endings.proofs.Rehearsed.{Rehearsed}
use Rattle.sng_endings.proofs.room.room_after.Given as goal

abbrev pub invariant-loop-ending : goal.invariant-loop-ending
invariant-loop-ending l =
    Rehearsed l.fn.limits l.link.link l.sessions l.endings l.standing l.room (drop l.ending-index l.endings)
