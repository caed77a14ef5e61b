use Rattle.std.proofs.Common.{◌≡◌, List, [], ◌∷◌, length, refl, sym, ap, ◌∙◌}
use Rattle.std.proofs.lemmas.List.{append-nil}
use Rattle.std.specs.VecDeque.Iter.{deque_iter_rest}
use Rattle.sng_outbox.specs.declared.item.Item.{Item}
use Rattle.sng_wanted.specs.Filters.{WantedRoom}
use Rattle.sng_link.specs.Flights.{link_of}
use Rattle.sng_link.proofs.Planning.{planned_first, planned_step, planned_logged, stands_free}
use Rattle.sng_link.proofs.leaving.plan.Goals as goal

pub loop-item-init : goal.loop-item-init
loop-item-init c =
    let all : deque_iter_rest c.into_iter-item-iterator.result ≡ c.args.outbox.now.sending.waiting =
    ap deque_iter_rest c.into_iter-item-iterator.ensures.into_iter_gives
    ∙ c.iter-item-items.ensures.rest in
    record {
      can_next = tt;
      is_finite = tt;
      room = refl;
      so_far = λ pinged. (
        [],
        sym (append-nil c.args.outs),
        rw all
            (planned_first c.args.policy.now c.args.ids.now.marks
            (link_of c.args.outbox.now.sending c.args.ids.now c.args.wanted.now.wanted pinged)
            c.args.outbox.now.sending.waiting c.args.log.now.items c.args.ids.now c.args.wanted.now.wanted
            (c.requires.stands pinged) c.requires.no_log),
      );
    }

pub leave-requires : goal.leave-requires
leave-requires c next follows =
    let planned = (c.loop-item.invariant.so_far 0).2 in
    stands_free c.args.ids.now.marks c.args.wanted.now.wanted
    (deque_iter_rest c.loop-item.item-iterator) c.loop-item.log.items c.loop-item.ids
    c.loop-item.wanted.wanted planned.now planned.stands next follows

pub loop-item-preserved : goal.loop-item-preserved
loop-item-preserved c = record {
  can_next = tt;
  is_finite = tt;
  room =
      ap (λ (w : WantedRoom). w.room) c.in_ok-leave.ensures.left.wanted_is ∙ c.loop-item.invariant.room;
  so_far = λ pinged.
      let before = c.loop-item.invariant.so_far pinged in
      planned_step c.args.policy.now c.args.ids.now.marks
      (link_of c.args.outbox.now.sending c.args.ids.now c.args.wanted.now.wanted pinged)
      c.args.outbox.now.sending.waiting c.in-Some.item.now (deque_iter_rest c.next.new.self)
      (deque_iter_rest c.loop-item.item-iterator) c.args.outs c.loop-item.outs c.leave.new.outs before.0
      c.loop-item.log.items c.leave.new.log.items c.loop-item.ids c.leave.new.ids c.loop-item.wanted
      c.leave.new.wanted before.1 before.2 c.in-Some.ensures.steps c.in_ok-leave.ensures.left;
}

pub returns-in_err-leave-clause-logged : goal.returns-in_err-leave-clause-logged
returns-in_err-leave-clause-logged c =
    let before = c.loop-item.invariant.so_far 0 in
    let same = c.in_err-leave.ensures.err in
    rw (same.0, same.1, same.2)
    (planned_logged c.args.policy.now c.args.ids.now.marks
    (link_of c.args.outbox.now.sending c.args.ids.now c.args.wanted.now.wanted 0)
    c.args.outbox.now.sending.waiting (deque_iter_rest c.loop-item.item-iterator) before.0
    c.loop-item.log.items c.loop-item.ids c.loop-item.wanted.wanted before.2)

pub returns-in_err-pair-clause-logged : goal.returns-in_err-pair-clause-logged
returns-in_err-pair-clause-logged c =
    let before = c.loop-item.invariant.so_far 0 in
    planned_logged c.args.policy.now c.args.ids.now.marks
    (link_of c.args.outbox.now.sending c.args.ids.now c.args.wanted.now.wanted 0)
    c.args.outbox.now.sending.waiting (deque_iter_rest c.loop-item.item-iterator) before.0
    c.loop-item.log.items c.loop-item.ids c.loop-item.wanted.wanted before.2

none_left : (items : List Item) → length items ≡ 0 → items ≡ []
none_left [] is = refl
none_left (item ∷ items) is = cc

pub returns-clause-planned : goal.returns-clause-planned
returns-clause-planned c pinged =
    let before = c.loop-item.invariant.so_far pinged in
    let none : deque_iter_rest c.loop-item.item-iterator ≡ [] =
    none_left (deque_iter_rest c.loop-item.item-iterator) c.in-None.ensures.steps.0 in
    (before.0, c.in_ok-pair.ensures ∙ before.1, rw none at before.2)

pub returns-clause-logged : goal.returns-clause-logged
returns-clause-logged c =
    let before = c.loop-item.invariant.so_far 0 in
    planned_logged c.args.policy.now c.args.ids.now.marks
    (link_of c.args.outbox.now.sending c.args.ids.now c.args.wanted.now.wanted 0)
    c.args.outbox.now.sending.waiting (deque_iter_rest c.loop-item.item-iterator) before.0
    c.loop-item.log.items c.loop-item.ids c.loop-item.wanted.wanted before.2
