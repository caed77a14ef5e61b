use Rattle.std.proofs.Common.{◌≡◌, ◌≤◌, ◌++◌, refl, ◌∙◌, ap, arith}
use Rattle.sng_outbox.specs.PacketIds.{Numbering}
use Rattle.sng_outbox.specs.Sending.{SendingRoom}
use Rattle.sng_history.specs.Exits.{agains_of, resending, subscribing}
use Rattle.sng_history.specs.Links.{filters_wanted, resumed, subscribes_sent}
use Rattle.sng_wanted.specs.Filters.{WantedRoom}
use Rattle.sng_link.specs.Flights.{link_of, ids_of}
use Rattle.sng_link.specs.Resending.{AllWanted}
use Rattle.sng_link.proofs.Parting.{still_allowed}
use Rattle.sng_link.proofs.Renewing.{begins, all_wanted, link_begun, marked_begun, outs_begun}
use Rattle.sng_link.proofs.Taken.{distinct_left}
use Rattle.sng_link.proofs.again.begin.Goals as goal

pub subscribe_all-requires : goal.subscribe_all-requires
subscribe_all-requires c =
    let small : c.args.ids.now.last ≤ 65535 = omega arith in (
      c.args.ids.now.marks,
      c.args.wanted.now.wanted,
      resumed (link_of c.args.outbox.now.sending c.args.ids.now c.args.wanted.now.wanted 0) 0
          (agains_of c.args.policy.now c.args.outbox.now.sending.in_flight),
      begins c.args.policy.now c.args.outbox.now.sending c.args.ids.now c.free_all.new.ids
          c.args.wanted.now.wanted 0 0 c.in_ok-resent.resent.log.items c.in_ok-filters.filters.items
          c.requires.marked
          c.len-stand.ensures.once c.requires.closed c.opens-opens.ensures.few small c.requires.few
          (rw c.tidy.ensures at c.in_ok-resent.ensures.log)
          (rw c.as_slice.ensures.value at c.free_all.ensures),
    )

pub undo-requires : goal.undo-requires
undo-requires c =
    let small : c.args.ids.now.last ≤ 65535 = omega arith in
    let link =
    resumed (link_of c.args.outbox.now.sending c.args.ids.now c.args.wanted.now.wanted 0) 0
    (agains_of c.args.policy.now c.args.outbox.now.sending.in_flight) in
    let stands =
    begins c.args.policy.now c.args.outbox.now.sending c.args.ids.now c.free_all.new.ids
    c.args.wanted.now.wanted 0 0 c.in_ok-resent.resent.log.items c.in_ok-filters.filters.items
    c.requires.marked
    c.len-stand.ensures.once c.requires.closed c.opens-opens.ensures.few small c.requires.few
    (rw c.tidy.ensures at c.in_ok-resent.ensures.log)
    (rw c.as_slice.ensures.value at c.free_all.ensures) in
    let logged = c.in-Err.ensures.logged c.args.ids.now.marks c.args.wanted.now.wanted link stands in
    logged.can

pub returns-in-Ok-clause-outs : goal.returns-in-Ok-clause-outs
returns-in-Ok-clause-outs c clock pinged =
    let again =
    resending c.args.outbox.now.sending.in_flight
    (agains_of c.args.policy.now c.args.outbox.now.sending.in_flight) in
    let small : c.args.ids.now.last ≤ 65535 = omega arith in
    let link =
    resumed (link_of c.args.outbox.now.sending c.args.ids.now c.args.wanted.now.wanted pinged) clock
    (agains_of c.args.policy.now c.args.outbox.now.sending.in_flight) in
    let stands =
    begins c.args.policy.now c.args.outbox.now.sending c.args.ids.now c.free_all.new.ids
    c.args.wanted.now.wanted pinged clock c.in_ok-resent.resent.log.items c.in_ok-filters.filters.items
    c.requires.marked
    c.len-stand.ensures.once c.requires.closed c.opens-opens.ensures.few small c.requires.few
    (rw c.tidy.ensures at c.in_ok-resent.ensures.log)
    (rw c.as_slice.ensures.value at c.free_all.ensures) in
    let done =
    c.in-Ok.ensures.subscribed c.args.ids.now.marks c.args.wanted.now.wanted link stands in
    let filters : c.in_ok-filters.filters.items ≡ filters_wanted link = c.in_ok-filters.ensures in
    let all : AllWanted c.args.wanted.now.wanted c.in_ok-filters.filters.items =
    rw filters (all_wanted c.args.wanted.now.wanted) in
    done.1
    ∙ ap (λ l. l ++ done.0) (rw c.tidy.ensures at c.in_ok-resent.ensures.outs)
    ∙ ap (λ l. again ++ l) (outs_begun c.args.policy.now c.args.ids.now.marks c.args.wanted.now.wanted link
    c.in_ok-filters.filters.items done.0 c.subscribe_all.new.log.items c.subscribe_all.new.ids
    c.subscribe_all.new.wanted.wanted done.2 all ∙ ap (λ f. subscribing link f) filters)

pub returns-in-Ok-clause-after : goal.returns-in-Ok-clause-after
returns-in-Ok-clause-after c clock pinged =
    let small : c.args.ids.now.last ≤ 65535 = omega arith in
    let link =
    resumed (link_of c.args.outbox.now.sending c.args.ids.now c.args.wanted.now.wanted pinged) clock
    (agains_of c.args.policy.now c.args.outbox.now.sending.in_flight) in
    let stands =
    begins c.args.policy.now c.args.outbox.now.sending c.args.ids.now c.free_all.new.ids
    c.args.wanted.now.wanted pinged clock c.in_ok-resent.resent.log.items c.in_ok-filters.filters.items
    c.requires.marked
    c.len-stand.ensures.once c.requires.closed c.opens-opens.ensures.few small c.requires.few
    (rw c.tidy.ensures at c.in_ok-resent.ensures.log)
    (rw c.as_slice.ensures.value at c.free_all.ensures) in
    let done =
    c.in-Ok.ensures.subscribed c.args.ids.now.marks c.args.wanted.now.wanted link stands in
    let filters : c.in_ok-filters.filters.items ≡ filters_wanted link = c.in_ok-filters.ensures in
    let all : AllWanted c.args.wanted.now.wanted c.in_ok-filters.filters.items =
    rw filters (all_wanted c.args.wanted.now.wanted) in
    let in_flight =
    still_allowed c.args.policy.now c.args.outbox.now.sending.in_flight
    c.forget_all.new.outbox.sending.in_flight c.as_slice-in-Ok.result.now
    (distinct_left (ids_of c.args.outbox.now.sending.in_flight) _ c.requires.marked.distinct)
    (c.as_slice-in-Ok.ensures.value ∙ (rw c.tidy.ensures at c.in_ok-resent.ensures.denied))
    (ap (λ (o : SendingRoom). o.sending.in_flight) (rw c.tidy.ensures at c.forget_all.ensures)) in
    link_begun c.args.policy.now c.args.ids.now.marks c.args.wanted.now.wanted link
    c.in_ok-filters.filters.items done.0 c.subscribe_all.new.log.items c.subscribe_all.new.ids
    c.subscribe_all.new.wanted.wanted c.forget_all.new.outbox.sending done.2 all
    (ap (λ (o : SendingRoom). o.sending.waiting) (rw c.tidy.ensures at c.forget_all.ensures)) in_flight
    ∙ ap (λ f. subscribes_sent link f) filters

pub returns-in-Ok-clause-marked : goal.returns-in-Ok-clause-marked
returns-in-Ok-clause-marked c =
    let small : c.args.ids.now.last ≤ 65535 = omega arith in
    let link =
    resumed (link_of c.args.outbox.now.sending c.args.ids.now c.args.wanted.now.wanted 0) 0
    (agains_of c.args.policy.now c.args.outbox.now.sending.in_flight) in
    let stands =
    begins c.args.policy.now c.args.outbox.now.sending c.args.ids.now c.free_all.new.ids
    c.args.wanted.now.wanted 0 0 c.in_ok-resent.resent.log.items c.in_ok-filters.filters.items
    c.requires.marked
    c.len-stand.ensures.once c.requires.closed c.opens-opens.ensures.few small c.requires.few
    (rw c.tidy.ensures at c.in_ok-resent.ensures.log)
    (rw c.as_slice.ensures.value at c.free_all.ensures) in
    let done =
    c.in-Ok.ensures.subscribed c.args.ids.now.marks c.args.wanted.now.wanted link stands in
    let in_flight =
    still_allowed c.args.policy.now c.args.outbox.now.sending.in_flight
    c.forget_all.new.outbox.sending.in_flight c.as_slice-in-Ok.result.now
    (distinct_left (ids_of c.args.outbox.now.sending.in_flight) _ c.requires.marked.distinct)
    (c.as_slice-in-Ok.ensures.value ∙ (rw c.tidy.ensures at c.in_ok-resent.ensures.denied))
    (ap (λ (o : SendingRoom). o.sending.in_flight) (rw c.tidy.ensures at c.forget_all.ensures)) in
    marked_begun c.args.policy.now c.args.ids.now.marks c.args.wanted.now.wanted link
    c.in_ok-filters.filters.items done.0 c.subscribe_all.new.log.items c.subscribe_all.new.ids
    c.subscribe_all.new.wanted.wanted c.forget_all.new.outbox.sending done.2 in_flight

pub returns-in-Ok-clause-closed : goal.returns-in-Ok-clause-closed
returns-in-Ok-clause-closed c =
    let small : c.args.ids.now.last ≤ 65535 = omega arith in
    let link =
    resumed (link_of c.args.outbox.now.sending c.args.ids.now c.args.wanted.now.wanted 0) 0
    (agains_of c.args.policy.now c.args.outbox.now.sending.in_flight) in
    let stands =
    begins c.args.policy.now c.args.outbox.now.sending c.args.ids.now c.free_all.new.ids
    c.args.wanted.now.wanted 0 0 c.in_ok-resent.resent.log.items c.in_ok-filters.filters.items
    c.requires.marked
    c.len-stand.ensures.once c.requires.closed c.opens-opens.ensures.few small c.requires.few
    (rw c.tidy.ensures at c.in_ok-resent.ensures.log)
    (rw c.as_slice.ensures.value at c.free_all.ensures) in
    let done =
    c.in-Ok.ensures.subscribed c.args.ids.now.marks c.args.wanted.now.wanted link stands in
    done.2.stands.closed

same_numbers : (a b : Numbering) → a.marks ≡ b.marks → a.last ≡ b.last → a ≡ b
same_numbers a b marks last =
    ap (λ m. record { marks = m; last = a.last }) marks ∙ ap (λ l. record { marks = b.marks; last = l }) last

pub returns-in-Err-clause-marked : goal.returns-in-Err-clause-marked
returns-in-Err-clause-marked c =
    let small : c.args.ids.now.last ≤ 65535 = omega arith in
    let link =
    resumed (link_of c.args.outbox.now.sending c.args.ids.now c.args.wanted.now.wanted 0) 0
    (agains_of c.args.policy.now c.args.outbox.now.sending.in_flight) in
    let stands =
    begins c.args.policy.now c.args.outbox.now.sending c.args.ids.now c.free_all.new.ids
    c.args.wanted.now.wanted 0 0 c.in_ok-resent.resent.log.items c.in_ok-filters.filters.items
    c.requires.marked
    c.len-stand.ensures.once c.requires.closed c.opens-opens.ensures.few small c.requires.few
    (rw c.tidy.ensures at c.in_ok-resent.ensures.log)
    (rw c.as_slice.ensures.value at c.free_all.ensures) in
    let logged = c.in-Err.ensures.logged c.args.ids.now.marks c.args.wanted.now.wanted link stands in
    rw (c.undo.ensures.marks, logged.marks_back, c.undo.ensures.wanted, logged.wanted_back)
    (rw c.tidy.ensures c.requires.marked)

pub returns-in-Err-clause-closed : goal.returns-in-Err-clause-closed
returns-in-Err-clause-closed c =
    let small : c.args.ids.now.last ≤ 65535 = omega arith in
    let link =
    resumed (link_of c.args.outbox.now.sending c.args.ids.now c.args.wanted.now.wanted 0) 0
    (agains_of c.args.policy.now c.args.outbox.now.sending.in_flight) in
    let stands =
    begins c.args.policy.now c.args.outbox.now.sending c.args.ids.now c.free_all.new.ids
    c.args.wanted.now.wanted 0 0 c.in_ok-resent.resent.log.items c.in_ok-filters.filters.items
    c.requires.marked
    c.len-stand.ensures.once c.requires.closed c.opens-opens.ensures.few small c.requires.few
    (rw c.tidy.ensures at c.in_ok-resent.ensures.log)
    (rw c.as_slice.ensures.value at c.free_all.ensures) in
    let logged = c.in-Err.ensures.logged c.args.ids.now.marks c.args.wanted.now.wanted link stands in
    rw (c.undo.ensures.wanted, logged.wanted_back) c.requires.closed

same_filters : (a b c : WantedRoom) (back : _) → a ≡ record b { wanted = back } → back ≡ c.wanted
    → b.room ≡ c.room → a ≡ c
same_filters a b c back is back_is room = is ∙ (rw (back_is, room) refl)

pub returns-in-Err-clause-err : goal.returns-in-Err-clause-err
returns-in-Err-clause-err c =
    let small : c.args.ids.now.last ≤ 65535 = omega arith in
    let link =
    resumed (link_of c.args.outbox.now.sending c.args.ids.now c.args.wanted.now.wanted 0) 0
    (agains_of c.args.policy.now c.args.outbox.now.sending.in_flight) in
    let stands =
    begins c.args.policy.now c.args.outbox.now.sending c.args.ids.now c.free_all.new.ids
    c.args.wanted.now.wanted 0 0 c.in_ok-resent.resent.log.items c.in_ok-filters.filters.items
    c.requires.marked
    c.len-stand.ensures.once c.requires.closed c.opens-opens.ensures.few small c.requires.few
    (rw c.tidy.ensures at c.in_ok-resent.ensures.log)
    (rw c.as_slice.ensures.value at c.free_all.ensures) in
    let logged = c.in-Err.ensures.logged c.args.ids.now.marks c.args.wanted.now.wanted link stands in (
      c.tidy.ensures,
      same_numbers c.undo.new.ids c.args.ids.now (c.undo.ensures.marks ∙ logged.marks_back)
          (c.undo.ensures.last ∙ c.last-last.ensures),
      same_filters c.undo.new.wanted c.subscribe_all.new.wanted c.args.wanted.now _ c.undo.ensures.wanted
          logged.wanted_back c.in-Err.ensures.room,
    )
