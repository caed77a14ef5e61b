use Rattle.std.proofs.Common.{◌≤◌, ◌*◌, length, ap, ◌∙◌, arith}
use Rattle.indexmap.specs.Drain.{drain_rest, drain_kept}
use Rattle.sng_wanted.proofs.ShownLemmas.{apart_from, moved_first, moved_absent, moved_more, moved_few}
use Rattle.sng_wanted.proofs.ShownLemmas.{drop_all, take_all}
use Rattle.sng_wanted.proofs.places.move_standing.Goals as goal

pub loop-filter-init : goal.loop-filter-init
loop-filter-init c =
    let same = c.into_iter-filter-iterator.ensures.into_iter_gives in
    let kept = c.drain-filter-items.ensures.kept ∙ drop_all c.args.from.now.entries in
    let rest = c.drain-filter-items.ensures.rest ∙ take_all c.args.from.now.entries in
    let few : 2 * length (drain_kept c.drain-filter-items.result) ≤ length c.args.from.now.entries =
    let none = ap length kept in
    omega (arith, none) in
    let room = c.drain-filter-items.ensures.capacity few in
    let many = ap length rest in
    record {
      can_next = tt;
      is_finite = tt;
      kept = ap drain_kept same ∙ kept;
      from_room = rw same (omega (arith, room, many));
      room = omega arith;
      moved =
          rw (same, rest, c.requires.empty)
          (moved_first c.args.from.now.entries
          (apart_from c.args.from.now.entries c.len-count.ensures.unique));
    }

pub loop-filter-preserved : goal.loop-filter-preserved
loop-filter-preserved c =
    let before = c.loop-filter.invariant in
    let step = c.in-Some.ensures.steps in
    let keeps = step.1 in
    record {
      can_next = tt;
      is_finite = tt;
      kept = keeps.1 ∙ before.kept;
      from_room = let room = before.from_room in let more = keeps.3 in omega (arith, room, more);
      room = let room = before.room in let more = c.keep_standing.ensures.room in omega (arith, room, more);
      moved = rw c.keep_standing.ensures.entries
          (moved_more c.args.from.now.entries c.loop-filter.to.entries
          (drain_rest c.next.new.self) c.in-Some.filter c.in-Some.want (rw step.0 at before.moved));
    }

pub keep_standing-requires : goal.keep_standing-requires
keep_standing-requires c =
    let before = c.loop-filter.invariant in
    let step = c.in-Some.ensures.steps in
    let few =
    moved_few c.args.from.now.entries c.loop-filter.to.entries
    (drain_rest c.loop-filter.filter-iterator) before.moved in
    record {
      absent =
          moved_absent c.args.from.now.entries c.loop-filter.to.entries (drain_rest c.next.new.self)
          (c.in-Some.filter, c.in-Some.want) (rw step.0 at before.moved);
      room = let room = before.room in let fewer = c.requires.few in omega (arith, room, few, fewer);
    }
