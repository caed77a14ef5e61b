use Rattle.std.proofs.Common.{◌≡◌, [], List, map, ap, ◌∙◌, arith}
use Rattle.std.proofs.lemmas.List.{nil_from_length}
use Rattle.sng_outbox.specs.declared.item.Item.TheVariants.{Subscribe}
use Rattle.sng_wanted.specs.Filters.{WantedRoom}
use Rattle.sng_link.proofs.Planning.{stands_free}
use Rattle.sng_link.proofs.Renewing.{subscribed_step}
use Rattle.sng_link.proofs.again.subscribe_each.Goals as goal

pub leave_filter-requires : goal.leave_filter-requires
leave_filter-requires c next follows =
    let stands = c.requires in
    let before = c.loop-filter.invariant.so_far stands.0 stands.1 stands.2 stands.3 in
    stands_free _ _ _ _ _ _ _ before.2.stands next follows

pub returns-in_err-leave_filter-clause-logged : goal.returns-in_err-leave_filter-clause-logged
returns-in_err-leave_filter-clause-logged c from first link stands =
    let before = c.loop-filter.invariant.so_far from first link stands in
    let same = c.in_err-leave_filter.ensures.err in
    rw (same.0, same.1, same.2) before.2.stands.logged

pub loop-filter-preserved : goal.loop-filter-preserved
loop-filter-preserved c = record {
  room =
      ap (λ (w : WantedRoom). w.room) c.in_ok-leave_filter.ensures.left.wanted_is ∙ c.loop-filter.invariant.room;
  so_far = λ from first link stands.
      let before = c.loop-filter.invariant.so_far from first link stands in
      subscribed_step c.args.policy.now from first link (map Subscribe c.args.filters.items)
      c.in-Some.filter (map Subscribe c.next.new.self.rest.items)
      (map Subscribe c.loop-filter.filter-iterator.rest.items) c.args.outs.now c.loop-filter.outs
      c.leave_filter.new.outs before.0 c.loop-filter.log.items c.leave_filter.new.log.items c.loop-filter.ids
      c.leave_filter.new.ids c.loop-filter.wanted c.leave_filter.new.wanted before.1 before.2
      (ap (λ (l : List (List _)). map Subscribe l) c.in-Some.ensures.steps.0) c.in_ok-leave_filter.ensures.left;
}

pub returns-clause-subscribed : goal.returns-clause-subscribed
returns-clause-subscribed c from first link stands =
    let before = c.loop-filter.invariant.so_far from first link stands in
    let rest = c.loop-filter.filter-iterator.rest in
    let none : rest.items ≡ [] =
    nil_from_length rest.items (let size = rest.ok.0 in let end = c.in-None.ensures.steps.0 in
    omega (arith, size, end)) in
    (before.0, before.1, rw none at before.2)

pub returns-clause-logged : goal.returns-clause-logged
returns-clause-logged c from first link stands =
    let before = c.loop-filter.invariant.so_far from first link stands in before.2.stands.logged
