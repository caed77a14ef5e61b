use Rattle.std.proofs.Common.{◌≤◌, ◌+◌, ◌*◌, ℕ, length}
use Rattle.sng_link.specs.Rooms.{HasPlaces}
use Rattle.sng_endings.specs.Replacing.{moved}
use Rattle.sng_endings.proofs.Planning.{Ended}
use Rattle.sng_endings.proofs.replacing.end_all.Given as goal

abbrev pub invariant-loop-ending : goal.invariant-loop-ending
invariant-loop-ending l = record {
  ended : Ended l.limits (moved l.fn.link.link l.fn.sessions) (moved l.link.link l.sessions) l.fn.outs.outs
      l.outs.outs l.yielded;
  room : length l.ending-iterator.rest.items * 2 ≤ l.outs.spare;
  spent : l.fn.outs.spare + length l.ending-iterator.rest.items * 2
      ≤ l.outs.spare + length l.fn.endings.items * 2;
  places : (count : ℕ) → HasPlaces (length l.fn.endings.items + count) l.fn.link
      → HasPlaces (length l.ending-iterator.rest.items + count) l.link;
}
