use Rattle.std.proofs.Common.{◌≡◌, ◌≤◌, arith, ◌∙◌, ap, refl}
use Rattle.sng_outbox.specs.PacketIds.{Numbering}
use Rattle.sng_wanted.specs.Filters.{WantedRoom}
use Rattle.sng_link.proofs.Renewing.{starts}
use Rattle.sng_link.proofs.taking.take.Goals as goal

pub leave_all-requires-clause-stands : goal.leave_all-requires-clause-stands
leave_all-requires-clause-stands c pinged =
    let small : c.args.ids.now.last ≤ 65535 = omega arith in
    starts c.args.outbox.now.sending c.args.ids.now c.args.wanted.now.wanted pinged c.requires.marked
    c.len-stand.ensures.once c.requires.closed c.opens-opens.ensures.few small c.requires.few

pub undo-requires : goal.undo-requires
undo-requires c = c.in-Err.ensures.logged.can

pub returns-in-Err-clause-marked : goal.returns-in-Err-clause-marked
returns-in-Err-clause-marked c =
    let logged = c.in-Err.ensures.logged in
    rw (c.undo.ensures.marks, logged.marks_back, c.undo.ensures.wanted, logged.wanted_back, c.in-Err.ensures.err)
    c.requires.marked

pub returns-in-Err-clause-closed : goal.returns-in-Err-clause-closed
returns-in-Err-clause-closed c =
    let logged = c.in-Err.ensures.logged in
    rw (c.undo.ensures.wanted, logged.wanted_back) c.requires.closed

same_numbers : (a b : Numbering) → a.marks ≡ b.marks → a.last ≡ b.last → a ≡ b
same_numbers a b marks last =
    ap (λ m. record { marks = m; last = a.last }) marks ∙ ap (λ l. record { marks = b.marks; last = l }) last

same_filters : (a b c : WantedRoom) (back : _) → a ≡ record b { wanted = back } → back ≡ c.wanted
    → b.room ≡ c.room → a ≡ c
same_filters a b c back is back_is room = is ∙ (rw (back_is, room) refl)

pub returns-in-Err-clause-err : goal.returns-in-Err-clause-err
returns-in-Err-clause-err c =
    let logged = c.in-Err.ensures.logged in (
      c.in-Err.ensures.err,
      same_numbers c.undo.new.ids c.args.ids.now (c.undo.ensures.marks ∙ logged.marks_back)
          (c.undo.ensures.last ∙ c.last-last.ensures),
      same_filters c.undo.new.wanted c.leave_all.new.wanted c.args.wanted.now _ c.undo.ensures.wanted
          logged.wanted_back c.in-Err.ensures.room.2,
    )
