use Rattle.std.proofs.Common.{◌≤◌, refl, sym, ap, ◌∙◌, arith}
use Rattle.sng_history.specs.Links.{open_id}
use Rattle.std.proofs.Common.{ℕ, Option, length}
use Rattle.sng_wanted.specs.Shown.{shown}
use Rattle.sng_wanted.specs.declared.want.Want.TheVariants.{Stands}
use Rattle.sng_wanted.proofs.ShownLemmas.{many_changed}
use Rattle.sng_wanted.proofs.OpenLemmas.{opens_changed, opens_has, open_one}
use Rattle.sng_wanted.proofs.OwedLemmas.{roomed-same, none_owed_then}
use Rattle.sng_wanted.proofs.PlaceLemmas.{at_reopened, none_reopened, only_there, open_stands, open_within}
use Rattle.sng_wanted.proofs.PlaceLemmas.{indexed_opened, indexed_closed, same_length}
use Rattle.sng_wanted.proofs.wanted.Wanted.reopen.Goals as goal

pub returns-in_default : goal.returns-in_default
returns-in_default c =
    rw (← c.self.view_is) (roomed-same _ _ _ _ (sym (none_reopened c.self.inside.filters.entries
    c.args.packet_id c.args.former c.args.owes c.in_default.ensures)) refl)

pub change-requires : goal.change-requires
change-requires c =
    open_within c.self.inside.filters.entries c.in-Some.place c.args.packet_id c.in-Some.ensures

pub recount-self-inside-requires-clause-before : goal.recount-self-inside-requires-clause-before
recount-self-inside-requires-clause-before c =
    let stands = open_stands c.self.inside.filters.entries c.in-Some.place c.args.packet_id c.in-Some.ensures in
    let has = opens_has c.self.inside.filters.entries c.in-Some.place stands.0 stands.1 in
    let one = ap (λ (o : Option ℕ). length (open_id o)) stands.2 in
    let opens = c.self.invariant.2 in
    omega (arith, has, one, opens)

pub invariant_of-self : goal.invariant_of-self
invariant_of-self c =
    let within =
    open_within c.self.inside.filters.entries c.in-Some.place c.args.packet_id c.in-Some.ensures in
    let stands = open_stands c.self.inside.filters.entries c.in-Some.place c.args.packet_id c.in-Some.ensures in
    let one = ap (λ (o : Option ℕ). length (open_id o)) stands.2 in
    let most = open_one c.args.former in
    let opens = c.self.invariant.2 in
    let few = c.self.invariant.3 in
    let counted = c.recount-self-inside.ensures in
    let changed = opens_changed c.self.inside.filters.entries c.in-Some.place stands.0
    (record { open_id = c.args.former; owed = c.owed_then.result }) stands.1 in
    let small : c.in-Some-former.former ≤ 65535 = omega arith in
    let free = rw (← c.self.view_is, c.in-Some-former.is) at c.requires in
    rw (c.change.ensures.entries, c.from.ensures) (
      indexed_opened c.self.inside.filters.entries c.self.inside.places.items c.in-Some.place
          c.in-Some-former.former _ within c.in-Some-former.is small free c.self.invariant.0,
      c.self.invariant.1 ∙ sym (many_changed c.self.inside.filters.entries c.in-Some.place stands.0 _ stands.1),
      omega (arith, counted, changed, one, opens),
      omega (arith, counted, most, few),
      none_owed_then c.self.inside.filters.entries c.in-Some.place
          (Stands (record { open_id = c.args.former; owed = c.owed_then.result })) c.self.inside.first_owed
          c.owed_too-self-inside.result c.args.owes within c.owed_then.ensures c.self.invariant.4 c.owed_too-self-inside.ensures.within
          c.owed_too-self-inside.ensures.here,
      c.self.invariant.5,
      rw (same_length c.self.inside.filters.entries c.in-Some.place, c.change.ensures.room)
          c.self.invariant.6,
      c.self.invariant.7,
      c.self.invariant.8,
    )

pub invariant_of-self-in_default-former : goal.invariant_of-self-in_default-former
invariant_of-self-in_default-former c =
    let within =
    open_within c.self.inside.filters.entries c.in-Some.place c.args.packet_id c.in-Some.ensures in
    let stands = open_stands c.self.inside.filters.entries c.in-Some.place c.args.packet_id c.in-Some.ensures in
    let one = ap (λ (o : Option ℕ). length (open_id o)) stands.2 in
    let most = open_one c.args.former in
    let opens = c.self.invariant.2 in
    let few = c.self.invariant.3 in
    let counted = c.recount-self-inside.ensures in
    let changed = opens_changed c.self.inside.filters.entries c.in-Some.place stands.0
    (record { open_id = c.args.former; owed = c.owed_then.result }) stands.1 in
    rw c.change.ensures.entries (
      indexed_closed c.self.inside.filters.entries c.self.inside.places.items c.in-Some.place _ within
          c.in_default-former.is c.self.invariant.0,
      c.self.invariant.1 ∙ sym (many_changed c.self.inside.filters.entries c.in-Some.place stands.0 _ stands.1),
      omega (arith, counted, changed, one, opens),
      omega (arith, counted, most, few),
      none_owed_then c.self.inside.filters.entries c.in-Some.place
          (Stands (record { open_id = c.args.former; owed = c.owed_then.result })) c.self.inside.first_owed
          c.owed_too-self-inside.result c.args.owes within c.owed_then.ensures c.self.invariant.4 c.owed_too-self-inside.ensures.within
          c.owed_too-self-inside.ensures.here,
      c.self.invariant.5,
      rw (same_length c.self.inside.filters.entries c.in-Some.place, c.change.ensures.room)
          c.self.invariant.6,
      c.self.invariant.7,
      c.self.invariant.8,
    )

pub returns-in-Some-former : goal.returns-in-Some-former
returns-in-Some-former c =
    let only =
    only_there c.self.inside.filters.entries c.self.inside.places.items c.in-Some.place c.args.packet_id
    c.self.invariant.0 c.in-Some.ensures in
    rw (← c.self.view_is) (roomed-same _ _ _ _ (ap shown (rw c.owed_then.ensures at c.change.ensures.entries)
    ∙ at_reopened c.self.inside.filters.entries c.in-Some.place c.args.packet_id c.args.former c.args.owes
    c.in-Some.ensures only) refl)

pub returns-in_default-former : goal.returns-in_default-former
returns-in_default-former c =
    let only =
    only_there c.self.inside.filters.entries c.self.inside.places.items c.in-Some.place c.args.packet_id
    c.self.invariant.0 c.in-Some.ensures in
    rw (← c.self.view_is) (roomed-same _ _ _ _ (ap shown (rw c.owed_then.ensures at c.change.ensures.entries)
    ∙ at_reopened c.self.inside.filters.entries c.in-Some.place c.args.packet_id c.args.former c.args.owes
    c.in-Some.ensures only) refl)
