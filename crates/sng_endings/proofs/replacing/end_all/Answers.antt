use Rattle.std.proofs.Common.{◌≡◌, ◌+◌, length, arith}
use Rattle.sng_endings.proofs.Planning.{ended_more, one_less}
use Rattle.sng_endings.proofs.replacing.end_all.Goals as goal

pub end_one-requires-clause-outs : goal.end_one-requires-clause-outs
end_one-requires-clause-outs c =
    let size : length c.loop-ending.ending-iterator.rest.items ≡ length c.next.new.self.rest.items + 1 =
    one_less _ _ _ c.in-Some.ensures.steps.0 in
    omega (arith, size, c.loop-ending.invariant.room)

pub end_one-requires-clause-place : goal.end_one-requires-clause-place
end_one-requires-clause-place c =
    let size : length c.loop-ending.ending-iterator.rest.items ≡ length c.next.new.self.rest.items + 1 =
    one_less _ _ _ c.in-Some.ensures.steps.0 in
    let first = c.requires.places in
    let there = c.loop-ending.invariant.places 0 (omega (arith, first.0), omega (arith, first.1)) in
    (omega (arith, size, there.0), omega (arith, size, there.1))

pub loop-ending-preserved : goal.loop-ending-preserved
loop-ending-preserved c =
    let size : length c.loop-ending.ending-iterator.rest.items ≡ length c.next.new.self.rest.items + 1 =
    one_less _ _ _ c.in-Some.ensures.steps.0 in
    record {
      ended =
          ended_more _ _ _ _ _ _ _ _ _ c.loop-ending.invariant.ended c.end_one.ensures.next
          c.end_one.ensures.outs;
      room = omega (arith, size, c.loop-ending.invariant.room, c.end_one.ensures.spare);
      spent = omega (arith, size, c.loop-ending.invariant.spent, c.end_one.ensures.spare);
      places = λ count before.
          let there = c.loop-ending.invariant.places count before in
          c.end_one.ensures.room (length c.next.new.self.rest.items + count)
          (omega (arith, size, there.0), omega (arith, size, there.1));
    }

pub returns-clause-room : goal.returns-clause-room
returns-clause-room c count before =
    let there = c.loop-ending.invariant.places count before in
    (omega (arith, there.0), omega (arith, there.1))
