-- What a request of the client at a place, or of nobody, lets out and leads to, with no notes and no search.
use Rattle.std.specs.Prelude.{ℕ, List, Option, Some, None}
use Rattle.sng_book.specs.declared.address.Address.{Address}
use Rattle.sng_book.specs.declared.out.Out.{Out}
use Rattle.sng_history.specs.Causes.{Request as Asking, ToPing, ToLeave, ToSleep, ToRegister, ToPublish}
use Rattle.sng_history.specs.Causes.{ToSubscribe, ToUnsubscribe, ToConfirm, ToAcknowledge, ToState}
use Rattle.sng_history.specs.Causes.{ToPublishOnce, ToRelease, Untaken, Cause, ByConnect, ByMessage, BySource}
use Rattle.sng_history.specs.Clients.{Client}
use Rattle.sng_history.specs.State.{State}
use Rattle.sng_history.specs.Whole.{stranger_to}
use Rattle.sng_sessions.specs.Moving.{moved_at}
use Rattle.sng_sessions.specs.Sleeping.{slept, released_at}
use Rattle.sng_core.specs.declared.request.Asked.{Asked}
use Rattle.sng_core.specs.declared.request.Asked.TheVariants as is
use Rattle.sng_core.specs.declared.request.SessionRequest.{SessionRequest}
use Rattle.sng_core.specs.declared.request.SessionRequest.TheVariants as asks
use Rattle.sng_core.specs.Forms.{client_at, heard_at, left_at, left_outs, unsupported_outs, register_outs}
use Rattle.sng_core.specs.Forms.{register_next, carried_outs, carried}
use Rattle.sng_core.specs.Confirming.{confirm_outs, confirm_next, acknowledge_outs, acknowledge_next}
use Rattle.sng_core.specs.Receiving.{once_outs, once_next, released_outs}
use Rattle.sng_core.specs.Sleeping.{slept_outs, ping_outs, ping_next}
use Rattle.sng_core.specs.Stating.{said, statement_outs, statement_next}
use Rattle.sng_core.specs.Subscribing.{subscribe_outs, stood, unsubscribe_judged, unsubscribe_noted, ended}

-- the request as the machine's definitions have it
abbrev pub asked : SessionRequest → Asking
asked (asks.Ping client) = ToPing client
asked asks.Leave = ToLeave
asked (asks.Sleep duration) = ToSleep duration
asked (asks.Register r) = ToRegister r
asked (asks.Publish p) = ToPublish p
asked (asks.PublishOnce p) = ToPublishOnce p
asked (asks.Release msg_id) = ToRelease msg_id
asked (asks.Subscribe r) = ToSubscribe r
asked (asks.Unsubscribe r) = ToUnsubscribe r
asked (asks.Confirm r) = ToConfirm r
asked (asks.Acknowledge r) = ToAcknowledge r
asked (asks.State statement) = ToState (said statement)
asked (asks.Untaken message) = Untaken message

-- and the cause that a message is
abbrev pub caused : Address → Asked → Cause
caused from (is.Entry connect) = ByConnect from connect
caused from (is.Source p) = BySource from p
caused from (is.Request request) = ByMessage from (asked request)

-- what a request of the client at the place lets out
abbrev pub request_outs : State → ℕ → SessionRequest → List Out
request_outs s place (asks.Ping client) = ping_outs s.policy client (client_at s.clients place)
request_outs s place asks.Leave = left_outs (client_at s.clients place)
request_outs s place (asks.Sleep duration) = slept_outs (client_at s.clients place)
request_outs s place (asks.Register r) = register_outs s.policy r.msg_id r.name (client_at s.clients place)
request_outs s place (asks.Publish p) = carried_outs s p (client_at s.clients place)
request_outs s place (asks.PublishOnce p) = once_outs s p (client_at s.clients place)
request_outs s place (asks.Release msg_id) = released_outs msg_id (client_at s.clients place)
request_outs s place (asks.Subscribe r) = subscribe_outs s r (client_at s.clients place)
request_outs s place (asks.Unsubscribe r) =
    unsubscribe_noted s r place (unsubscribe_judged s.policy r (client_at s.clients place))
request_outs s place (asks.Confirm r) = confirm_outs s.policy r (client_at s.clients place)
request_outs s place (asks.Acknowledge r) = acknowledge_outs s.policy r (client_at s.clients place)
request_outs s place (asks.State statement) =
    statement_outs s.policy (said statement) (client_at s.clients place)
request_outs s place (asks.Untaken message) = unsupported_outs message (client_at s.clients place)

-- the state with the client at the place moved so
abbrev pub moved_in : State → ℕ → (Client → Client) → State
moved_in s place f = record s { clients = moved_at place f s.clients }

-- and leads to
abbrev pub request_next : State → ℕ → SessionRequest → State
request_next s place (asks.Ping client) = moved_in s place (ping_next s.policy s.clock client)
request_next s place asks.Leave = moved_in s place (left_at s.clock)
request_next s place (asks.Sleep duration) = moved_in s place (slept s.clock duration)
request_next s place (asks.Register r) = moved_in s place (register_next s.policy s.clock r.name)
request_next s place (asks.Publish p) = carried s p (Some place)
request_next s place (asks.PublishOnce p) = once_next s p (Some place)
request_next s place (asks.Release msg_id) = moved_in s place (released_at s.clock msg_id)
request_next s place (asks.Subscribe r) = stood s r (Some place)
request_next s place (asks.Unsubscribe r) = ended s r (Some place)
request_next s place (asks.Confirm r) = moved_in s place (confirm_next s.policy s.clock r)
request_next s place (asks.Acknowledge r) = moved_in s place (acknowledge_next s.policy s.clock r)
request_next s place (asks.State statement) =
    moved_in s place (statement_next s.policy s.clock (said statement))
request_next s place (asks.Untaken message) = moved_in s place (heard_at s.clock)

-- from an address at which the client at the place is, or nobody
abbrev pub requested_outs : State → Address → SessionRequest → Option ℕ → List Out
requested_outs s from request None = stranger_to from (asked request)
requested_outs s from request (Some place) = request_outs s place request

abbrev pub requested_next : State → SessionRequest → Option ℕ → State
requested_next s request None = s
requested_next s request (Some place) = request_next s place request
