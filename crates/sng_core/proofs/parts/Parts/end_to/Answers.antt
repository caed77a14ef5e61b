-- What is planned has its room behind what ends, and a PINGREQ is due behind it where it was before.
use Rattle.std.proofs.Common.{◌+◌, length, ap, ◌∙◌, arith}
use Rattle.sng_link.specs.Rooms.{HasPlaces}
use Rattle.sng_core.specs.Dues.{all_items, pings_due}
use Rattle.sng_core.proofs.DueLemmas.{places-fewer}
use Rattle.sng_core.proofs.EndingRows.{due_behind}
use Rattle.sng_core.proofs.parts.Parts.end_to.Goals as goal

pub carry_out-requires : goal.carry_out-requires
carry_out-requires c =
    let items = all_items c.in-Ok-dues_behind.behind.dues.items in
    let pings = pings_due c.is_ping_due-is_due.result in
    let has : HasPlaces (length c.in-Ok.endings.items + (items + pings)) c.make_room.new.link =
    places-fewer (c.len-2.result + (all_items c.as_slice-items.result.now + pings)) _ c.make_room.new.link
    (omega (arith, c.len-2.ensures, ap all_items c.as_slice-items.ensures.value)) c.in-Ok-make_room.ensures.room in
    places-fewer (items + pings) items c.end_all.new.link (omega arith) (c.end_all.ensures.room _ has)

pub ping_broker-requires-clause-due : goal.ping_broker-requires-clause-due
ping_broker-requires-clause-due c =
    c.is_ping_due-is_due.ensures
    ∙ due_behind c.limits-limits.result c.self.inside.is_up c.args.clock c.self.inside.link.link
    c.make_room.new.link.link c.end_all.new.link.link c.carry_out.new.link.link c.self.inside.sessions
    c.end_all.new.sessions c.in-Ok.endings.items c.in-Ok-dues_behind.behind.dues.items
    c.in-Ok-make_room.ensures.link c.end_all.ensures.next c.carry_out.ensures.link

pub ping_broker-requires-clause-room : goal.ping_broker-requires-clause-room
ping_broker-requires-clause-room c =
    let items = all_items c.in-Ok-dues_behind.behind.dues.items in
    let pings = pings_due c.is_ping_due-is_due.result in
    let has : HasPlaces (length c.in-Ok.endings.items + (items + pings)) c.make_room.new.link =
    places-fewer (c.len-2.result + (all_items c.as_slice-items.result.now + pings)) _ c.make_room.new.link
    (omega (arith, c.len-2.ensures, ap all_items c.as_slice-items.ensures.value)) c.in-Ok-make_room.ensures.room in
    c.carry_out.ensures.room pings (c.end_all.ensures.room (items + pings) has)
