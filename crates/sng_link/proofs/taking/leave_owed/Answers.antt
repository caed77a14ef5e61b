use Rattle.std.proofs.Common.{◌≡◌, ◌≤◌, ◌<◌, ◌+◌, [], ◌++◌, Some, false, nat_lt, length, map, refl, sym, ◌∙◌, ap}
use Rattle.std.proofs.Common.{subst, arith}
use Rattle.std.proofs.lemmas.Bool.{le-ltb}
use Rattle.std.proofs.lemmas.List.{append-nil}
use Rattle.sng_outbox.specs.declared.item.Item.TheVariants.{Subscribe}
use Rattle.sng_history.specs.declared.limits.TheConstants.{MAX_OPEN_SUBSCRIBES}
use Rattle.sng_history.specs.Links.{open_ids, outgoing}
use Rattle.sng_wanted.specs.Filters.{first_owed, WantedRoom}
use Rattle.sng_link.specs.Taking.{Subscribed}
use Rattle.sng_link.proofs.Owing.{owed_in, opens_one, owed_step, owed_ended, none_owed_in}
use Rattle.sng_link.proofs.Planning.{stands_free}
use Rattle.sng_link.proofs.Renewing.{subscribed_first}
use Rattle.sng_link.proofs.taking.leave_owed.Goals as goal

pub loop-turn-init : goal.loop-turn-init
loop-turn-init c = record {
  opens = sym c.opens-opens.ensures.opens;
  room = refl;
  so_far = λ from first link stands. (
    [],
    sym (append-nil c.args.outs.now),
    subst (λ w. Subscribed c.args.policy.now from first link (outgoing link)
        (map Subscribe (owed_in w) ++ link.waiting) [] c.args.log.now.items c.args.ids.now
        c.args.wanted.now.wanted) stands.wanted_is
        (subscribed_first c.args.policy.now from first link (outgoing link) c.args.log.now.items
        c.args.ids.now c.args.wanted.now.wanted stands),
  );
}

pub leave_filter-requires : goal.leave_filter-requires
leave_filter-requires c next follows =
    let stands = c.requires in
    let before = c.loop-turn.invariant.so_far stands.0 stands.1 stands.2 stands.3 in
    rw c.next_owed.ensures.same (stands_free _ _ _ _ _ _ _ before.2.stands next follows)

pub loop-turn-preserved : goal.loop-turn-preserved
loop-turn-preserved c =
    let inv = c.loop-turn.invariant in
    let opens = inv.opens in
    let within : c.loop-turn._turn < MAX_OPEN_SUBSCRIBES = omega arith in
    let few : length (open_ids c.loop-turn.wanted.wanted) < MAX_OPEN_SUBSCRIBES =
    omega (arith, opens, within) in
    let there : first_owed c.loop-turn.wanted.wanted ≡ Some c.in-Some.filter =
    sym c.in_ok-owed.ensures.first ∙ c.in-Some.is in
    let gone = rw c.next_owed.ensures.same at c.in_ok-leave_filter.ensures.left in
    let stands = c.requires in
    let now = inv.so_far stands.0 stands.1 stands.2 stands.3 in
    record {
      opens =
          opens_one c.args.policy.now c.in-Some.filter c.loop-turn.outs c.leave_filter.new.outs
          c.loop-turn.log.items c.leave_filter.new.log.items c.loop-turn.ids c.leave_filter.new.ids c.loop-turn.wanted
          c.leave_filter.new.wanted there now.2.stands.once now.2.stands.closed few gone ∙ ap (λ k. k + 1) opens;
      room = ap (λ (w : WantedRoom). w.room) gone.wanted_is ∙ inv.room;
      so_far = λ from first link stands.
          let before = inv.so_far from first link stands in
          owed_step c.args.policy.now from first link (outgoing link) c.in-Some.filter link.waiting
          c.args.outs.now c.loop-turn.outs c.leave_filter.new.outs before.0 c.loop-turn.log.items
          c.leave_filter.new.log.items c.loop-turn.ids c.leave_filter.new.ids c.loop-turn.wanted c.leave_filter.new.wanted
          before.1 before.2 there few gone;
    }

pub returns-in_err-owed-clause-logged : goal.returns-in_err-owed-clause-logged
returns-in_err-owed-clause-logged c from first link stands =
    let before = c.loop-turn.invariant.so_far from first link stands in
    rw c.next_owed.ensures.same before.2.stands.logged

pub returns-in_err-leave_filter-clause-logged : goal.returns-in_err-leave_filter-clause-logged
returns-in_err-leave_filter-clause-logged c from first link stands =
    let before = c.loop-turn.invariant.so_far from first link stands in
    let same = c.in_err-leave_filter.ensures.err in
    rw (same.0, same.1, same.2, c.next_owed.ensures.same) before.2.stands.logged

pub returns-in_default-clause-subscribed : goal.returns-in_default-clause-subscribed
returns-in_default-clause-subscribed c from first link stands =
    let before = c.loop-turn.invariant.so_far from first link stands in
    let none : owed_in c.loop-turn.wanted.wanted ≡ [] =
    none_owed_in c.loop-turn.wanted.wanted (sym c.in_ok-owed.ensures.first ∙ c.in_default.is) in
    rw c.next_owed.ensures.same (before.0, before.1, (rw none at before.2))

pub returns-in_default-clause-logged : goal.returns-in_default-clause-logged
returns-in_default-clause-logged c from first link stands =
    let before = c.loop-turn.invariant.so_far from first link stands in
    rw c.next_owed.ensures.same before.2.stands.logged

pub returns-clause-subscribed : goal.returns-clause-subscribed
returns-clause-subscribed c from first link stands =
    let before = c.loop-turn.invariant.so_far from first link stands in
    let opens = c.loop-turn.invariant.opens in
    let past : MAX_OPEN_SUBSCRIBES ≤ c.loop-turn._turn = omega arith in
    let full : nat_lt (length (open_ids c.loop-turn.wanted.wanted)) MAX_OPEN_SUBSCRIBES ≡ false =
    le-ltb (length (open_ids c.loop-turn.wanted.wanted)) MAX_OPEN_SUBSCRIBES (omega (arith, opens, past)) in (
      before.0,
      before.1,
      owed_ended c.args.policy.now from first link (outgoing link) link.waiting before.0
          c.loop-turn.log.items c.loop-turn.ids c.loop-turn.wanted.wanted full before.2,
    )

pub returns-clause-logged : goal.returns-clause-logged
returns-clause-logged c from first link stands =
    let before = c.loop-turn.invariant.so_far from first link stands in before.2.stands.logged
