use Rattle.std.proofs.Common.{◌≡◌, ◌+◌, ◌≤◌, length, vec_len, vec_capacity}
use Rattle.std.specs.Vec.Iter.{into_iter_items}
use Rattle.sng_broker.specs.Steps.{all_stand}
use Rattle.sng_broker.proofs.subscribing.all_stand.Given as goal

abbrev pub invariant-loop-one : goal.invariant-loop-one
invariant-loop-one l = record {
  left : all_stand l.standing.items (into_iter_items l.one-iterator)
      ≡ all_stand l.initial.standing.items l.fn.granted.items;
  room : vec_len l.standing + length (into_iter_items l.one-iterator) ≤ vec_capacity l.standing;
}
