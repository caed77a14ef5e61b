use Rattle.std.proofs.Common.{◌<◌, ◌≤◌, length, refl, sym, ◌∙◌, arith}
use Rattle.sng_fan.specs.declared.limits.TheConstants.{MAX_SUBSCRIPTIONS}
use Rattle.sng_fan.proofs.PlaceLemmas.{granted_last}
use Rattle.sng_fan.proofs.HeldLemmas.{once_granted, once_added, granted_anew, stands_not, refused, not_full}
use Rattle.sng_fan.proofs.subscriptions.Subscriptions.add.Goals as goal

pub invariant_of-self : goal.invariant_of-self
invariant_of-self c =
    let within : c.place_of-place.result < length c.self.inside.held.items = omega arith in
    let once =
    once_granted c.self.inside.held.items c.place_of-place.result c.args.qos c.index_mut-held.result.now
    c.index_mut-held.ensures.value within c.self.invariant.0 in
    (once, omega arith)

pub returns-then-place-len-clause-ok : goal.returns-then-place-len-clause-ok
returns-then-place-len-clause-ok c =
    let within : c.place_of-place.result < length c.self.inside.held.items = omega arith in
    let place_is = rw c.deref.ensures.value at c.place_of-place.ensures in
    rw (← c.self.view_is) (granted_anew _ _ c.args.filter c.args.qos c.index_mut-held.result.now place_is
    within c.index_mut-held.ensures.value)

pub returns-then-len-ge-MAX_SUBSCRIPTIONS-clause-err : goal.returns-then-len-ge-MAX_SUBSCRIPTIONS-clause-err
returns-then-len-ge-MAX_SUBSCRIPTIONS-clause-err c =
    let items = c.self.inside.held.items in
    let beyond : length items ≤ c.place_of-place.result = omega arith in
    let many : MAX_SUBSCRIPTIONS ≤ length items = omega arith in
    let place_is = rw c.deref.ensures.value at c.place_of-place.ensures in
    (rw (← c.self.view_is) (refused items _ c.args.filter place_is beyond many), refl)

pub invariant_of-self-2 : goal.invariant_of-self-2
invariant_of-self-2 c =
    let items = c.self.inside.held.items in
    let beyond : length items ≤ c.place_of-place.result = omega arith in
    let room : length items < MAX_SUBSCRIPTIONS = omega arith in
    let place_is = rw c.deref.ensures.value at c.place_of-place.ensures in
    let absent = stands_not items _ c.args.filter place_is beyond in (
      rw c.push_reserved.ensures.items
          (once_added items c.args.filter c.args.qos absent room c.self.invariant.0),
      omega arith,
    )

pub returns-clause-ok : goal.returns-clause-ok
returns-clause-ok c =
    let items = c.self.inside.held.items in
    let beyond : length items ≤ c.place_of-place.result = omega arith in
    let room : length items < MAX_SUBSCRIPTIONS = omega arith in
    let place_is = rw c.deref.ensures.value at c.place_of-place.ensures in
    let absent = stands_not items _ c.args.filter place_is beyond in
    rw (← c.self.view_is) (
      not_full items c.args.filter room,
      c.push_reserved.ensures.items ∙ sym (granted_last items c.args.filter c.args.qos absent),
    )
