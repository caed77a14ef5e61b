use Rattle.std.proofs.Common.{◌≤◌, Some, false, refl, sym, ap, ◌∙◌, arith}
use Rattle.sng_history.specs.declared.limits.TheConstants.{MAX_OPEN_SUBSCRIBES}
use Rattle.sng_wanted.specs.Shown.{shown}
use Rattle.sng_wanted.specs.declared.want.Want.TheVariants.{Stands}
use Rattle.sng_wanted.proofs.ShownLemmas.{none_opened, alone_opened, many_changed}
use Rattle.sng_wanted.proofs.OpenLemmas.{opens_changed, opens_has, alone_opened_of, few_opened}
use Rattle.sng_wanted.proofs.OwedLemmas.{roomed-same, none_owed_set}
use Rattle.sng_wanted.proofs.PlaceLemmas.{indexed_opened, stands_within, same_length}
use Rattle.sng_wanted.proofs.wanted.Wanted.open.Goals as goal

pub returns-in_default : goal.returns-in_default
returns-in_default c =
    rw (← c.self.view_is) (roomed-same _ _ _ _ (sym (none_opened
    (shown c.self.inside.filters.entries) c.args.filter.now c.args.packet_id c.in_default.ensures)) refl)

pub change-requires : goal.change-requires
change-requires c =
    let there = c.in-Some.ensures in stands_within c.self.inside.filters.entries c.in-Some.place _ there.1

pub recount-self-inside-requires-clause-before : goal.recount-self-inside-requires-clause-before
recount-self-inside-requires-clause-before c =
    let there = c.in-Some.ensures in
    let has = opens_has c.self.inside.filters.entries c.in-Some.place c.in-Some.stand there.1 in
    let opens = c.self.invariant.2 in
    omega (arith, has, opens)

pub invariant_of-self : goal.invariant_of-self
invariant_of-self c =
    let there = c.in-Some.ensures in
    let within = stands_within c.self.inside.filters.entries c.in-Some.place _ there.1 in
    let small : c.args.packet_id ≤ 65535 = omega arith in
    let fresh = rw (← c.self.view_is) at c.requires.free in
    let may = rw (← c.self.view_is) at c.requires.may in
    let opens = c.self.invariant.2 in
    let few = c.self.invariant.3 in
    let room = c.self.invariant.5 in
    let count = c.self.invariant.1 in
    let more = few_opened c.self.inside.opens MAX_OPEN_SUBSCRIBES c.in-Some.stand.open_id few
    (rw (
      opens,
      sym (alone_opened_of c.self.inside.filters.entries c.args.filter.now c.in-Some.place
          c.in-Some.stand there.0 there.1),
    ) may) in
    let counted = c.recount-self-inside.ensures in
    let changed = opens_changed c.self.inside.filters.entries c.in-Some.place c.in-Some.stand
    (record { open_id = Some c.args.packet_id; owed = false }) there.1 in
    rw (c.change.ensures.entries, c.from.ensures) (
      indexed_opened c.self.inside.filters.entries c.self.inside.places.items c.in-Some.place c.args.packet_id
          _ within refl small fresh c.self.invariant.0,
      count ∙ sym (many_changed c.self.inside.filters.entries c.in-Some.place c.in-Some.stand _ there.1),
      omega (arith, counted, changed, opens),
      omega (arith, counted, more),
      none_owed_set c.self.inside.filters.entries c.in-Some.place
          (Stands (record { open_id = Some c.args.packet_id; owed = false })) c.self.inside.first_owed within refl
          c.self.invariant.4,
      room,
      rw (same_length c.self.inside.filters.entries c.in-Some.place, c.change.ensures.room)
          c.self.invariant.6,
      c.self.invariant.7,
      c.self.invariant.8,
    )

pub returns : goal.returns
returns c =
    let there = c.in-Some.ensures in
    rw (← c.self.view_is) (roomed-same _ _ _ _ (ap shown c.change.ensures.entries
    ∙ alone_opened c.self.inside.filters.entries c.args.filter.now c.in-Some.place c.in-Some.stand
    c.args.packet_id there.0 there.1) refl)
