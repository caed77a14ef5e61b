use Rattle.std.proofs.Common.{true, refl, sym, ap, ◌∙◌, arith}
use Rattle.sng_wanted.specs.Shown.{shown}
use Rattle.sng_wanted.specs.declared.want.Want.TheVariants.{Stands}
use Rattle.sng_wanted.proofs.ShownLemmas.{many_changed}
use Rattle.sng_wanted.proofs.OpenLemmas.{opens_changed}
use Rattle.sng_wanted.proofs.OwedLemmas.{roomed-same, none_owing, alone_owing, none_owed_then}
use Rattle.sng_wanted.proofs.PlaceLemmas.{indexed_restood, stands_within, stands_open, same_length}
use Rattle.sng_wanted.proofs.wanted.Wanted.owe.Goals as goal

pub returns-in_default : goal.returns-in_default
returns-in_default c =
    rw (← c.self.view_is) (roomed-same _ _ _ _ (sym (none_owing
    (shown c.self.inside.filters.entries) c.args.filter.now c.in_default.ensures)) refl)

pub change-requires : goal.change-requires
change-requires c =
    let there = c.in-Some.ensures in stands_within c.self.inside.filters.entries c.in-Some.place _ there.1

pub invariant_of-self : goal.invariant_of-self
invariant_of-self c =
    let there = c.in-Some.ensures in
    let within = stands_within c.self.inside.filters.entries c.in-Some.place _ there.1 in
    let opens = c.self.invariant.2 in
    let changed = opens_changed c.self.inside.filters.entries c.in-Some.place c.in-Some.stand
    (record { open_id = c.in-Some.stand.open_id; owed = true }) there.1 in
    rw c.change.ensures.entries (
      indexed_restood c.self.inside.filters.entries c.self.inside.places.items c.in-Some.place
          (Stands (record { open_id = c.in-Some.stand.open_id; owed = true })) within
          (sym (stands_open c.self.inside.filters.entries c.in-Some.place c.in-Some.stand there.1))
          c.self.invariant.0,
      c.self.invariant.1
          ∙ sym (many_changed c.self.inside.filters.entries c.in-Some.place c.in-Some.stand _ there.1),
      omega (arith, changed, opens),
      c.self.invariant.3,
      none_owed_then c.self.inside.filters.entries c.in-Some.place
          (Stands (record { open_id = c.in-Some.stand.open_id; owed = true })) c.self.inside.first_owed
          c.owed_too-self-inside.result true within refl c.self.invariant.4 c.owed_too-self-inside.ensures.within c.owed_too-self-inside.ensures.here,
      c.self.invariant.5,
      rw (same_length c.self.inside.filters.entries c.in-Some.place, c.change.ensures.room)
          c.self.invariant.6,
      c.self.invariant.7,
      c.self.invariant.8,
    )

pub returns : goal.returns
returns c =
    let there = c.in-Some.ensures in
    rw (← c.self.view_is) (roomed-same _ _ _ _ (ap shown c.change.ensures.entries
    ∙ alone_owing c.self.inside.filters.entries c.args.filter.now c.in-Some.place c.in-Some.stand
    there.0 there.1) refl)
