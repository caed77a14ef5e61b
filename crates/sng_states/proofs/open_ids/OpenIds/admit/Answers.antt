use Rattle.std.proofs.Common.{◌≡◌, ◌<◌, ◌≤◌, false, length, sym, ◌∙◌, lit<}
use Rattle.sng_states.specs.OpenIds.{has_id}
use Rattle.sng_states.specs.declared.limits.TheConstants.{MAX_OPEN_IDS}
use Rattle.sng_states.proofs.OpenIdLemmas.{put_in, ascends_put, place_within, room_left}
use Rattle.sng_states.proofs.open_ids.OpenIds.admit.Goals as goal

pub insert-requires : goal.insert-requires
insert-requires c =
    let ids = c.self.inside.ids.items in
    let place_is = rw c.deref.ensures.0 at c.place_of-place.ensures in
    let inside : c.place_of-place.result ≤ length ids = rw place_is (place_within c.args.id ids) in
    let room : length ids < MAX_OPEN_IDS =
    room_left c.is_full.result (length ids) c.is_full.ensures.value c.if-is_full.false
    c.is_full.ensures.fits in
    (lit< tt, (inside, room))

pub invariant_of-self : goal.invariant_of-self
invariant_of-self c =
    let ids = c.self.inside.ids.items in
    let place_is = rw c.deref.ensures.0 at c.place_of-place.ensures in
    let absent : has_id c.args.id ids ≡ false = rw c.self.view_is (sym c.has.ensures ∙ c.if-has.false) in
    rw c.insert.ensures.items (ascends_put c.args.id c.place_of-place.result ids place_is absent
    c.self.invariant)

pub returns-clause-after : goal.returns-clause-after
returns-clause-after c =
    let ids = c.self.inside.ids.items in
    let place_is = rw c.deref.ensures.0 at c.place_of-place.ensures in
    let absent : has_id c.args.id ids ≡ false = rw c.self.view_is (sym c.has.ensures ∙ c.if-has.false) in
    let room : length ids < MAX_OPEN_IDS =
    room_left c.is_full.result (length ids) c.is_full.ensures.value c.if-is_full.false
    c.is_full.ensures.fits in
    rw (← c.self.view_is, c.insert.ensures.items)
    (put_in c.args.id c.place_of-place.result ids place_is absent room)
