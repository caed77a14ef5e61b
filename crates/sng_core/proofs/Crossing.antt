-- A core may go to another thread.
use denote.Param.Send.{IsSend, struct_send, recorded_send, view_send, sendable}
use denote.Struct.Declared.{shape}
use Rattle.sng_book.proofs.room.OutsRoom.TheSendSync as outs_room
use Rattle.sng_link.proofs.link.Link.TheSendSync as link
use Rattle.sng_policy.proofs.in_force.InForce.TheSendSync as in_force
use Rattle.sng_sessions.proofs.Crossing.{sessions_send}
use Rattle.sng_turns.proofs.Crossing.{room_send}
use Rattle.sng_core.specs.contracts.parts.Parts as Parts
use Rattle.sng_core.specs.contracts.parts.Parts.TheInside as parts
use Rattle.sng_core.specs.contracts.machine.Core as Core
use Rattle.sng_core.specs.contracts.machine.Core.TheInside as core

parts_fields : IsSend (parts.the_field).row
parts_fields = struct_send (shape parts.the_type) (
  in_force.the_send,
  (
    search sendable,
    (search sendable, (link.the_send, (sessions_send, (outs_room.the_send, (room_send, tt))))),
  ),
)

parts_inside : IsSend parts.the_row
parts_inside = recorded_send (parts.the_field).row (parts.the_type).D (parts.the_type).to
    (parts.the_type).to_one parts_fields

parts_send : IsSend Parts.the_row
parts_send = view_send parts.the_row _ _ _ _ parts_inside

core_fields : IsSend (core.the_field).row
core_fields = struct_send (shape core.the_type) (parts_send, tt)

core_inside : IsSend core.the_row
core_inside = recorded_send (core.the_field).row (core.the_type).D (core.the_type).to
    (core.the_type).to_one core_fields

pub core_send : IsSend Core.the_row
core_send = view_send core.the_row _ _ _ _ core_inside
