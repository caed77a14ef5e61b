use Rattle.std.proofs.Common.{◌<◌, ◌≤◌, length, sym, arith}
use Rattle.sng_states.proofs.OpenIdLemmas.{open_at, not_open, all_kept, taken_out, ascends_taken}
use Rattle.sng_states.proofs.open_ids.OpenIds.close.Goals as goal

pub returns-then-place-len-clause-was_open : goal.returns-then-place-len-clause-was_open
returns-then-place-len-clause-was_open c =
    let ids = c.self.inside.ids.items in
    let place_is = rw c.deref.ensures.0 at c.place_among-place.ensures in
    let beyond : length ids ≤ c.place_among-place.result = omega arith in
    rw (← c.self.view_is) (sym (not_open c.args.id ids (rw place_is at beyond)))

pub returns-then-place-len-clause-after : goal.returns-then-place-len-clause-after
returns-then-place-len-clause-after c =
    let ids = c.self.inside.ids.items in
    let place_is = rw c.deref.ensures.0 at c.place_among-place.ensures in
    let beyond : length ids ≤ c.place_among-place.result = omega arith in
    rw (← c.self.view_is) (sym (all_kept c.args.id ids (not_open c.args.id ids (rw place_is at beyond))))

pub invariant_of-self : goal.invariant_of-self
invariant_of-self c =
    let ids = c.self.inside.ids.items in
    let place_is = rw c.deref.ensures.0 at c.place_among-place.ensures in
    let within : c.place_among-place.result < length ids = omega arith in
    rw c.remove.ensures.items (ascends_taken c.args.id c.place_among-place.result ids place_is within
    c.self.invariant)

pub returns-clause-was_open : goal.returns-clause-was_open
returns-clause-was_open c =
    let ids = c.self.inside.ids.items in
    let place_is = rw c.deref.ensures.0 at c.place_among-place.ensures in
    let within : c.place_among-place.result < length ids = omega arith in
    rw (← c.self.view_is) (sym (open_at c.args.id ids (rw place_is at within)))

pub returns-clause-after : goal.returns-clause-after
returns-clause-after c =
    let ids = c.self.inside.ids.items in
    let place_is = rw c.deref.ensures.0 at c.place_among-place.ensures in
    let within : c.place_among-place.result < length ids = omega arith in
    rw (← c.self.view_is, c.remove.ensures.items) (taken_out c.args.id c.place_among-place.result ids place_is
    within c.self.invariant)
