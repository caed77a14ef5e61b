use Rattle.std.proofs.Common.{◌≡◌, ◌<◌, ◌++◌, [], ◌∷◌, None, false, List, refl, sym, ap, ◌∙◌, length, arith}
use Rattle.std.specs.Str.{bytes_eq}
use Rattle.std.proofs.lemmas.List.{length-append}
use Rattle.indexmap.specs.IndexMap.{insert_entry, spare}
use Rattle.sng_history.specs.Links.{Wanted, open_ids}
use Rattle.sng_wanted.specs.declared.want.Want.TheVariants.{Stands}
use Rattle.sng_wanted.specs.Shown.{shown}
use Rattle.sng_wanted.proofs.ShownLemmas.{insert_last, shown_more, on_ok}
use Rattle.sng_wanted.proofs.OpenLemmas.{opens_more}
use Rattle.sng_wanted.proofs.OwedLemmas.{roomed-same, none_owed_more}
use Rattle.sng_wanted.proofs.PlaceLemmas.{indexed_more}
use Rattle.sng_wanted.proofs.wanted.Wanted.add.Goals as goal

pub invariant_of-self : goal.invariant_of-self
invariant_of-self c =
    let place = c.make_room-self-inside.ensures.place in
    let room = c.make_room-self-inside.ensures.room in
    let free : 0 < spare c.make_room-self-inside.new.filters = omega (arith, place, room) in
    let put : c.insert.new.self.entries
    ≡ insert_entry bytes_eq c.make_room-self-inside.new.filters.entries c.args.filter
    (Stands (record { open_id = None; owed = false })) =
    on_ok c.insert.result _ (c.insert.ensures.succeeds free) c.insert.ensures.entries in
    let last : c.insert.new.self.entries
    ≡ c.make_room-self-inside.new.filters.entries ++ (c.args.filter, Stands (record { open_id = None; owed = false })) ∷ [] =
    put ∙ insert_last c.make_room-self-inside.new.filters.entries c.args.filter
    (Stands (record { open_id = None; owed = false })) c.make_room-self-inside.ensures.absent in
    let shown_is : shown c.insert.new.self.entries
    ≡ shown c.self.inside.filters.entries ++ record { filter = c.args.filter; open_id = None; owed = false } ∷ [] =
    ap shown last ∙ shown_more c.make_room-self-inside.new.filters.entries c.args.filter
    ∙ ap (λ (l : List Wanted). l ++ record { filter = c.args.filter; open_id = None; owed = false } ∷ [])
    c.make_room-self-inside.ensures.shown in
    let longer =
    length-append (shown c.self.inside.filters.entries)
    (record { filter = c.args.filter; open_id = None; owed = false } ∷ []) in
    let more = length-append c.make_room-self-inside.new.filters.entries
    ((c.args.filter, Stands (record { open_id = None; owed = false })) ∷ []) in
    let count = c.self.invariant.1 in
    let many = ap length shown_is in
    let lengths = ap length last in
    let few = rw (← c.self.view_is) at c.requires.room in
    let spare_left = c.insert.ensures.spare in (
      rw last (indexed_more c.make_room-self-inside.new.filters.entries c.args.filter c.make_room-self-inside.new.places.items
          c.make_room-self-inside.ensures.indexed),
      omega (arith, count, many, longer),
      c.self.invariant.2
          ∙ sym (ap (λ (ws : List Wanted). length (open_ids ws)) shown_is
          ∙ opens_more (shown c.self.inside.filters.entries) c.args.filter),
      c.self.invariant.3,
      rw last (none_owed_more c.make_room-self-inside.new.filters.entries c.args.filter c.make_room-self-inside.result
          c.make_room-self-inside.ensures.owed),
      omega (arith, count, few),
      omega (arith, lengths, more, room, spare_left),
      c.make_room-self-inside.ensures.empty,
      c.make_room-self-inside.ensures.other_room,
    )

pub returns : goal.returns
returns c =
    let place = c.make_room-self-inside.ensures.place in
    let room = c.make_room-self-inside.ensures.room in
    let free : 0 < spare c.make_room-self-inside.new.filters = omega (arith, place, room) in
    let put : c.insert.new.self.entries
    ≡ insert_entry bytes_eq c.make_room-self-inside.new.filters.entries c.args.filter
    (Stands (record { open_id = None; owed = false })) =
    on_ok c.insert.result _ (c.insert.ensures.succeeds free) c.insert.ensures.entries in
    let last : c.insert.new.self.entries
    ≡ c.make_room-self-inside.new.filters.entries ++ (c.args.filter, Stands (record { open_id = None; owed = false })) ∷ [] =
    put ∙ insert_last c.make_room-self-inside.new.filters.entries c.args.filter
    (Stands (record { open_id = None; owed = false })) c.make_room-self-inside.ensures.absent in
    rw (← c.self.view_is)
    (roomed-same _ _ _ _ (ap shown last ∙ shown_more c.make_room-self-inside.new.filters.entries c.args.filter
    ∙ ap (λ (l : List Wanted). l ++ record { filter = c.args.filter; open_id = None; owed = false } ∷ [])
    c.make_room-self-inside.ensures.shown) refl)
