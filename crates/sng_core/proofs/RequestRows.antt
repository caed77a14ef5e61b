-- The row and the next state of a request, as code makes them: of the client at a place, or of nobody.
use Rattle.std.proofs.Common.{◌≡◌, ℕ, List, subst, sym}
use Rattle.std.specs.Prelude.{Option, Some, None}
use Rattle.sng_frames.specs.declared.messages.publish.Publish.{Publish}
use Rattle.sng_frames.specs.declared.messages.subscribe.TopicRequest.{TopicRequest}
use Rattle.sng_book.specs.declared.address.Address.{Address}
use Rattle.sng_book.specs.declared.out.Out.{Out}
use Rattle.sng_history.specs.Causes.{Request as Asking, ToPing, ToLeave, ToSleep, ToRegister, ToPublish}
use Rattle.sng_history.specs.Causes.{ToSubscribe, ToUnsubscribe, ToConfirm, ToAcknowledge, ToState}
use Rattle.sng_history.specs.Causes.{ToPublishOnce, ToRelease, Untaken, ByMessage}
use Rattle.sng_history.specs.Clients.{Client}
use Rattle.sng_history.specs.Good.{Good}
use Rattle.sng_history.specs.State.{State}
use Rattle.sng_history.specs.Whole.{stranger_to}
use Rattle.sng_sessions.specs.Sleeping.{slept, released_at}
use Rattle.sng_core.specs.declared.request.SessionRequest.{SessionRequest}
use Rattle.sng_core.specs.declared.request.SessionRequest.TheVariants as asks
use Rattle.sng_core.specs.Confirming.{confirm_outs, confirm_next, acknowledge_outs, acknowledge_next}
use Rattle.sng_core.specs.Forms.{place_at, at_place, moved_if, found_outs, heard_at, left_at, left_outs}
use Rattle.sng_core.specs.Forms.{unsupported_outs, register_outs, register_next, carried_outs, carried}
use Rattle.sng_core.specs.Receiving.{once_outs, once_next, released_outs}
use Rattle.sng_core.specs.Requesting.{asked, requested_outs, requested_next}
use Rattle.sng_core.specs.Sleeping.{slept_outs, ping_outs, ping_next}
use Rattle.sng_core.specs.Stating.{said, statement_outs, statement_next}
use Rattle.sng_core.specs.Subscribing.{subscribe_outs, stood, unsubscribe_outs, ended}
use Rattle.sng_core.proofs.ConfirmRows.{confirm_row, acknowledge_row}
use Rattle.sng_core.proofs.IdleRows.{unsupported_row}
use Rattle.sng_core.proofs.PublishRows.{register_row, publish_row}
use Rattle.sng_core.proofs.ReceiveRows.{once_row, release_row}
use Rattle.sng_core.proofs.Rows.{Makes, leave_row}
use Rattle.sng_core.proofs.SleepRows.{sleep_row, ping_row}
use Rattle.sng_core.proofs.StatingRows.{state_row}
use Rattle.sng_core.proofs.SubscribeRows.{subscribe_row}
use Rattle.sng_core.proofs.UnsubscribeRows.{unsubscribe_row}

-- the row of a request that moves its client alone
abbrev Found : State → Address → Asking → (Client → List Out) → (Client → Client) → Option ℕ → Type 0
Found s from request f g place =
    Makes s (ByMessage from request) (found_outs (stranger_to from request) f (at_place s.clients place))
    (record s { clients = moved_if place g s.clients })

-- that of a PUBLISH at each QoS, a SUBSCRIBE and an UNSUBSCRIBE
abbrev Carries : State → Address → SessionRequest → Option ℕ → Type 0
Carries s from request place =
    Makes s (ByMessage from (asked request)) (requested_outs s from request place)
    (requested_next s request place)

publishes : (s : State) (from : Address) (p : Publish) (place : Option ℕ)
    → Makes s (ByMessage from (ToPublish p))
    (found_outs (stranger_to from (ToPublish p)) (carried_outs s p) (at_place s.clients place))
    (carried s p place) → Carries s from (asks.Publish p) place
publishes s from p None makes = makes
publishes s from p (Some place) makes = makes

receives : (s : State) (from : Address) (p : Publish) (place : Option ℕ)
    → Makes s (ByMessage from (ToPublishOnce p))
    (found_outs (stranger_to from (ToPublishOnce p)) (once_outs s p) (at_place s.clients place))
    (once_next s p place) → Carries s from (asks.PublishOnce p) place
receives s from p None makes = makes
receives s from p (Some place) makes = makes

subscribes : (s : State) (from : Address) (r : TopicRequest) (place : Option ℕ)
    → Makes s (ByMessage from (ToSubscribe r))
    (found_outs (stranger_to from (ToSubscribe r)) (subscribe_outs s r) (at_place s.clients place))
    (stood s r place) → Carries s from (asks.Subscribe r) place
subscribes s from r None makes = makes
subscribes s from r (Some place) makes = makes

unsubscribes : (s : State) (from : Address) (r : TopicRequest) (place : Option ℕ)
    → Makes s (ByMessage from (ToUnsubscribe r))
    (unsubscribe_outs s r place (stranger_to from (ToUnsubscribe r))) (ended s r place)
    → Carries s from (asks.Unsubscribe r) place
unsubscribes s from r None makes = makes
unsubscribes s from r (Some place) makes = makes

-- whoever is at the address
here : (s : State) (from : Address) (request : SessionRequest) (place : Option ℕ) → Good s
    → place_at from s.clients ≡ place → Carries s from request place
here s from (asks.Publish p) place good at =
    subst (Carries s from (asks.Publish p)) at
    (publishes s from p (place_at from s.clients) (publish_row s from p good))
here s from (asks.PublishOnce p) place good at =
    subst (Carries s from (asks.PublishOnce p)) at
    (receives s from p (place_at from s.clients) (once_row s from p good))
here s from (asks.Release id) None good at =
    subst (Found s from (ToRelease id) (released_outs id) (released_at s.clock id)) at
    (release_row s from id good)
here s from (asks.Release id) (Some place) good at =
    subst (Found s from (ToRelease id) (released_outs id) (released_at s.clock id)) at
    (release_row s from id good)
here s from (asks.Subscribe r) place good at =
    subst (Carries s from (asks.Subscribe r)) at
    (subscribes s from r (place_at from s.clients) (subscribe_row s from r good))
here s from (asks.Unsubscribe r) place good at =
    subst (Carries s from (asks.Unsubscribe r)) at
    (unsubscribes s from r (place_at from s.clients) (unsubscribe_row s from r good))
here s from (asks.Ping client) None good at =
    subst (Found s from (ToPing client) (ping_outs s.policy client) (ping_next s.policy s.clock client)) at
    (ping_row s from client good)
here s from (asks.Ping client) (Some place) good at =
    subst (Found s from (ToPing client) (ping_outs s.policy client) (ping_next s.policy s.clock client)) at
    (ping_row s from client good)
here s from asks.Leave None good at =
    subst (Found s from ToLeave left_outs (left_at s.clock)) at (leave_row s from good)
here s from asks.Leave (Some place) good at =
    subst (Found s from ToLeave left_outs (left_at s.clock)) at (leave_row s from good)
here s from (asks.Sleep duration) None good at =
    subst (Found s from (ToSleep duration) slept_outs (slept s.clock duration)) at
    (sleep_row s from duration good)
here s from (asks.Sleep duration) (Some place) good at =
    subst (Found s from (ToSleep duration) slept_outs (slept s.clock duration)) at
    (sleep_row s from duration good)
here s from (asks.Register r) None good at =
    subst (Found s from (ToRegister r) (register_outs s.policy r.msg_id r.name)
    (register_next s.policy s.clock r.name)) at (register_row s from r good)
here s from (asks.Register r) (Some place) good at =
    subst (Found s from (ToRegister r) (register_outs s.policy r.msg_id r.name)
    (register_next s.policy s.clock r.name)) at (register_row s from r good)
here s from (asks.Confirm r) None good at =
    subst (Found s from (ToConfirm r) (confirm_outs s.policy r) (confirm_next s.policy s.clock r)) at
    (confirm_row s from r good)
here s from (asks.Confirm r) (Some place) good at =
    subst (Found s from (ToConfirm r) (confirm_outs s.policy r) (confirm_next s.policy s.clock r)) at
    (confirm_row s from r good)
here s from (asks.Acknowledge r) None good at =
    subst (Found s from (ToAcknowledge r) (acknowledge_outs s.policy r) (acknowledge_next s.policy s.clock r))
    at (acknowledge_row s from r good)
here s from (asks.Acknowledge r) (Some place) good at =
    subst (Found s from (ToAcknowledge r) (acknowledge_outs s.policy r) (acknowledge_next s.policy s.clock r))
    at (acknowledge_row s from r good)
here s from (asks.State statement) None good at =
    subst (Found s from (ToState (said statement)) (statement_outs s.policy (said statement))
    (statement_next s.policy s.clock (said statement))) at (state_row s from (said statement) good)
here s from (asks.State statement) (Some place) good at =
    subst (Found s from (ToState (said statement)) (statement_outs s.policy (said statement))
    (statement_next s.policy s.clock (said statement))) at (state_row s from (said statement) good)
here s from (asks.Untaken message) None good at =
    subst (Found s from (Untaken message) (unsupported_outs message) (heard_at s.clock)) at
    (unsupported_row s from message good)
here s from (asks.Untaken message) (Some place) good at =
    subst (Found s from (Untaken message) (unsupported_outs message) (heard_at s.clock)) at
    (unsupported_row s from message good)

-- what a request makes, where the place is that of the client at the address
pub request_row : (s : State) (from : Address) (request : SessionRequest) (place : Option ℕ) → Good s
    → place ≡ place_at from s.clients
    → Makes s (ByMessage from (asked request)) (requested_outs s from request place)
    (requested_next s request place)
request_row s from request place good at = here s from request place good (sym at)
