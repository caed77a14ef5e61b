-- Who is at the address leaves, unless it is the client that comes.
use Rattle.std.proofs.Common.{sym, ◌∙◌}
use Rattle.sng_sessions.proofs.Moves.{vacated-none, vacated-own, vacated-other}
use Rattle.sng_sessions.proofs.places.vacate.Goals as goal

pub returns-then-not-is_named-clause-clients : goal.returns-then-not-is_named-clause-clients
returns-then-not-is_named-clause-clients c =
    c.leave_at.ensures.clients ∙ sym
    (vacated-other _ _ c.args.clock c.args.from c.args.id.now c.in-Some.place c.requires
    (sym (c.copied.ensures ∙ c.get.ensures.value) ∙ c.in-Some.is)
    (sym c.is_named.ensures ∙ c.if-not-is_named.true))

pub returns-else-not-is_named-clause-clients : goal.returns-else-not-is_named-clause-clients
returns-else-not-is_named-clause-clients c =
    sym (vacated-own _ _ c.args.clock c.args.from c.args.id.now c.in-Some.place c.requires
    (sym (c.copied.ensures ∙ c.get.ensures.value) ∙ c.in-Some.is)
    (sym c.is_named.ensures ∙ c.if-not-is_named.false))

pub returns-in_default-clause-clients : goal.returns-in_default-clause-clients
returns-in_default-clause-clients c =
    sym (vacated-none _ _ c.args.clock c.args.from c.args.id.now c.requires
    (sym (c.copied.ensures ∙ c.get.ensures.value) ∙ c.in_default.is))
