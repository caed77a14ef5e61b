use Rattle.std.proofs.Common.{refl, sym, ap, ◌∙◌, arith}
use Rattle.sng_wanted.specs.Shown.{shown}
use Rattle.sng_wanted.specs.declared.want.Want.TheVariants.{Ended}
use Rattle.sng_wanted.proofs.ShownLemmas.{none_id, none_without, alone_id, alone_ended, fewer_ended}
use Rattle.sng_wanted.proofs.OpenLemmas.{opens_ended, opens_has}
use Rattle.sng_wanted.proofs.OwedLemmas.{roomed-same, none_owed_set}
use Rattle.sng_wanted.proofs.PlaceLemmas.{indexed_closed, stands_within, same_length}
use Rattle.sng_wanted.proofs.wanted.Wanted.end.Goals as goal

pub returns-in_err-place-clause-open_id : goal.returns-in_err-place-clause-open_id
returns-in_err-place-clause-open_id c =
    rw (c.from_residual.ensures, ← c.self.view_is)
    (sym (none_id (shown c.self.inside.filters.entries) c.args.filter.now c.in_err-place.ensures))

pub returns-in_err-place-clause-wanted : goal.returns-in_err-place-clause-wanted
returns-in_err-place-clause-wanted c =
    rw (← c.self.view_is) (roomed-same _ _ _ _ (sym (none_without
    (shown c.self.inside.filters.entries) c.args.filter.now c.in_err-place.ensures)) refl)

pub change-requires : goal.change-requires
change-requires c =
    let there = c.in_ok-place.ensures in
    stands_within c.self.inside.filters.entries c.in_ok-place.place _ there.1

pub overflow_sub-self : goal.overflow_sub-self
overflow_sub-self c =
    let there = c.in_ok-place.ensures in
    let fewer = fewer_ended c.self.inside.filters.entries c.in_ok-place.place c.in_ok-place.stand there.1 in
    let count = c.self.invariant.1 in
    omega (arith, fewer, count)

pub recount-self-inside-requires-clause-before : goal.recount-self-inside-requires-clause-before
recount-self-inside-requires-clause-before c =
    let there = c.in_ok-place.ensures in
    let has = opens_has c.self.inside.filters.entries c.in_ok-place.place c.in_ok-place.stand there.1 in
    let opens = c.self.invariant.2 in
    omega (arith, has, opens)

pub invariant_of-self : goal.invariant_of-self
invariant_of-self c =
    let there = c.in_ok-place.ensures in
    let within = stands_within c.self.inside.filters.entries c.in_ok-place.place _ there.1 in
    let fewer = fewer_ended c.self.inside.filters.entries c.in_ok-place.place c.in_ok-place.stand there.1 in
    let count = c.self.invariant.1 in
    let ended = opens_ended c.self.inside.filters.entries c.in_ok-place.place c.in_ok-place.stand there.1 in
    let opens = c.self.invariant.2 in
    let few = c.self.invariant.3 in
    let counted = c.recount-self-inside.ensures in
    let room = c.self.invariant.5 in
    rw c.change.ensures.entries (
      indexed_closed c.self.inside.filters.entries c.self.inside.places.items c.in_ok-place.place _ within
          refl c.self.invariant.0,
      omega (arith, fewer, count),
      omega (arith, counted, ended, opens),
      omega (arith, counted, few),
      none_owed_set c.self.inside.filters.entries c.in_ok-place.place Ended c.self.inside.first_owed within refl
          c.self.invariant.4,
      omega (arith, room),
      rw (same_length c.self.inside.filters.entries c.in_ok-place.place, c.change.ensures.room)
          c.self.invariant.6,
      c.self.invariant.7,
      c.self.invariant.8,
    )

pub returns-clause-open_id : goal.returns-clause-open_id
returns-clause-open_id c =
    let there = c.in_ok-place.ensures in
    rw (← c.self.view_is) (sym (alone_id c.self.inside.filters.entries c.args.filter.now c.in_ok-place.place
    c.in_ok-place.stand there.0 there.1))

pub returns-clause-wanted : goal.returns-clause-wanted
returns-clause-wanted c =
    let there = c.in_ok-place.ensures in
    rw (← c.self.view_is) (roomed-same _ _ _ _ (ap shown c.change.ensures.entries
    ∙ alone_ended c.self.inside.filters.entries c.args.filter.now c.in_ok-place.place c.in_ok-place.stand
    there.0 there.1) refl)
