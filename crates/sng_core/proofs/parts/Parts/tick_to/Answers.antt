-- What is planned has its room, and a PINGREQ is due behind it where it was before.
use Rattle.std.proofs.Common.{◌+◌, ap, sym, ◌∙◌, arith}
use Rattle.sng_history.specs.Links.{Link}
use Rattle.sng_history.specs.Ticking.{is_ping_due}
use Rattle.sng_core.specs.Dues.{dues_link, all_items, pings_due}
use Rattle.sng_core.proofs.DueLemmas.{due-then, places-fewer}
use Rattle.sng_core.proofs.parts.Parts.tick_to.Goals as goal

pub carry_out-requires : goal.carry_out-requires
carry_out-requires c =
    places-fewer (0 + (all_items c.as_slice.result.now + pings_due c.is_ping_due-is_due.result)) _
    c.make_room.new.link (omega (arith, ap all_items c.as_slice.ensures.value))
    c.in_ok-make_room.ensures.room

pub ping_broker-requires-clause-room : goal.ping_broker-requires-clause-room
ping_broker-requires-clause-room c =
    let pings = pings_due c.is_ping_due-is_due.result in
    c.carry_out.ensures.room pings
    (places-fewer (0 + (all_items c.as_slice.result.now + pings)) (all_items c.in_ok-dues.dues.items + pings)
    c.make_room.new.link (omega (arith, ap all_items c.as_slice.ensures.value))
    c.in_ok-make_room.ensures.room)

pub ping_broker-requires-clause-due : goal.ping_broker-requires-clause-due
ping_broker-requires-clause-due c =
    c.is_ping_due-is_due.ensures
    ∙ (due-then c.limits-limits.result c.self.inside.is_up c.args.clock c.in_ok-dues.dues.items
    c.self.inside.link.link
    ∙ ap (λ (link : Link). is_ping_due c.self.inside.is_up link c.args.clock)
    (sym (c.carry_out.ensures.link
    ∙ ap (dues_link c.limits-limits.result c.in_ok-dues.dues.items) c.make_room.ensures.link)))
