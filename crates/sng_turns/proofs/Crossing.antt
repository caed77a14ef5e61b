-- The room of a message's list may go to another thread.
use denote.Param.Send.{IsSend, sendable}
use Rattle.std.proofs.Crossing.{crosses}
use Rattle.sng_standing.proofs.holder.Holder.TheSendSync as holder
use Rattle.sng_turns.specs.contracts.room.HoldersRoom as HoldersRoom

pub room_send : IsSend (HoldersRoom.the_field).row
room_send = search (holder.the_send, crosses, sendable) depth 30
