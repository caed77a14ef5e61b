-- The clients may go to another thread, with the tree of their filters.
use denote.Param.Send.{IsSend, struct_send, recorded_send, view_send, sendable}
use denote.Struct.Declared.{shape}
use Rattle.std.proofs.Crossing.{crosses}
use Rattle.indexmap.proofs.map.IndexMap.TheSendSync as index
use Rattle.sng_text.proofs.client.ClientId.TheSendSync as id
use Rattle.sng_book.proofs.address.Address.TheSendSync as address
use Rattle.sng_standing.proofs.Crossing.{standing_send}
use Rattle.sng_sessions.proofs.session.Session.TheSendSync as session
use Rattle.sng_sessions.specs.contracts.sessions.Sessions as Sessions
use Rattle.sng_sessions.specs.contracts.sessions.Sessions.TheInside as sessions

sessions_fields : IsSend (sessions.the_field).row
sessions_fields = struct_send (shape sessions.the_type) (
  search (index.the_send, id.the_send, session.the_send, crosses, sendable) depth 30,
  (search (index.the_send, address.the_send, crosses, sendable) depth 30, (standing_send, (search (crosses, sendable) depth 30, tt))),
)

sessions_inside : IsSend sessions.the_row
sessions_inside = recorded_send (sessions.the_field).row (sessions.the_type).D (sessions.the_type).to
    (sessions.the_type).to_one sessions_fields

pub sessions_send : IsSend Sessions.the_row
sessions_send = view_send sessions.the_row _ _ _ _ sessions_inside
