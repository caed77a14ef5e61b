-- While a client sleeps nothing is sent to where it is, but with a datagram from there or its own CONNECT
-- from elsewhere.
use Rattle.std.proofs.Common.{◌≡◌, ℕ, Bool, true, false, List, [], ◌∷◌, ◌++◌, refl, ap, ◌∙◌, if◌then◌else◌}
use Rattle.std.proofs.Common.{Ok, Err}
use Rattle.std.specs.Prelude.{Option, Some, None}
use Rattle.std.specs.List.{flat_map}
use Rattle.std.specs.declared.result.Result.{Result}
use Rattle.mqtt_frames.specs.declared.packet.Packet.{Packet}
use Rattle.sng_grants.specs.Limits.{Limits}
use Rattle.sng_text.specs.Texts.{is_name}
use Rattle.sng_frames.specs.Reading.{frame_of}
use Rattle.sng_frames.specs.declared.fault.FrameFault.{FrameFault}
use Rattle.sng_frames.specs.declared.qos.FrameQos.{FrameQos}
use Rattle.sng_frames.specs.declared.qos.FrameQos.TheVariants as qos
use Rattle.sng_frames.specs.declared.messages.publish.Publish.{Publish}
use Rattle.sng_frames.specs.declared.frame.SnFrame.{SnFrame}
use Rattle.sng_frames.specs.declared.frame.SnFrame.TheVariants as frame
use Rattle.sng_book.specs.declared.address.Address.{Address}
use Rattle.sng_book.specs.declared.decision.Decision.TheVariants as note
use Rattle.sng_book.specs.declared.decision.Who.TheVariants as who
use Rattle.sng_book.specs.declared.outcome.Denial.{Denial}
use Rattle.sng_book.specs.declared.outcome.Denial.TheVariants.{Form}
use Rattle.sng_book.specs.declared.outcome.FormDenial.TheVariants.{BadName}
use Rattle.sng_book.specs.declared.outcome.Outcome.TheVariants.{Denied}
use Rattle.sng_book.specs.declared.event.Event.{Event}
use Rattle.sng_book.specs.declared.event.Event.TheVariants.{Datagram, Broker, Up, Down, Take, Replace, Tick}
use Rattle.sng_book.specs.declared.out.Out.{Out}
use Rattle.sng_book.specs.declared.out.Out.TheVariants.{Note}
use Rattle.sng_book.specs.declared.row.Row.{Row}
use Rattle.sng_history.specs.Causes.{StatesTopic, StatesMessage, UpdatesTopic, UpdatesMessage}
use Rattle.sng_history.specs.Causes.{Request, ToPing, ToLeave, ToSleep, ToRegister, ToPublish, ToSubscribe}
use Rattle.sng_history.specs.Causes.{ToUnsubscribe, ToConfirm, ToAcknowledge, ToState, Untaken}
use Rattle.sng_history.specs.Causes.{Cause, ByMessage, ByBroken, ByPacket, ByUp, ByTake, ByReplace, ByTick}
use Rattle.sng_history.specs.Causes.{rule_of, cause_of, datagram_cause, publish_cause, disconnect_cause}
use Rattle.sng_history.specs.Causes.{ToPublishOnce, ToRelease}
use Rattle.sng_history.specs.Packets.{Answer, Delivers, Acknowledges, Grants, Refuses, Confirms, Strange}
use Rattle.sng_history.specs.Packets.{answer_of, has_place, owed, dropped, answer_outs}
use Rattle.sng_history.specs.Clients.{same_address}
use Rattle.sng_history.specs.Links.{Link}
use Rattle.sng_history.specs.State.{State, opening, around, state_of, later}
use Rattle.sng_history.specs.Ticking.{with_wills, is_ping_due, ping_dropped}
use Rattle.sng_history.specs.Lawful.{Lawful, fixed_for}
use Rattle.sng_history.specs.Whole.{part, any_from, stranger_to, drops, frame_row}
use Rattle.sng_history.specs.Steps.{notes_for, outs_by}
use Rattle.sng_history.specs.Good.{Each}
use Rattle.sng_laws.specs.ViewsMessages.{connect_in, message_in}
use Rattle.sng_laws.specs.ViewsClients.{is_among, accepted}
use Rattle.sng_laws.specs.LawsSleep.{sent_to, came_from_place, names, concerns, LeftAlone}
use Rattle.sng_history.proofs.Keeping.{exact_by}
use Rattle.sng_history.proofs.SentTo.{stranger_goes}
use Rattle.sng_promise.proofs.Sleepers.QuietNotes.{NoneSent}
use Rattle.sng_history.proofs.ClientIds.{ids_of}
use Rattle.sng_promise.proofs.Clients.SeenState.{stands}
use Rattle.sng_promise.proofs.Link.LawRows.{row_unsent}
use Rattle.sng_promise.proofs.Sleepers.SentAway.{away_both, away_either, none_away, unsent_away, to_away}
use Rattle.sng_promise.proofs.Sleepers.SentAway.{flip_address}
use Rattle.sng_promise.proofs.Sleepers.SleepersHere.{sleepers, Sleeper}
use Rattle.sng_promise.proofs.Sleepers.SleepersParts.{from_of, is_connect, rows_away}
use Rattle.sng_promise.proofs.Sleepers.SleepersEntries.{connect_away}

-- ---- messages, packets and time

frame_away : (id : List ℕ) (s : State) (c : Cause) (stranger : List Out) (place : Address)
    → is_connect c ≡ false
    → came_from_place (from_of c) place ≡ false → Each (Sleeper id place) s.clients
    → sent_to place stranger ≡ []
    → sent_to place (frame_row s c stranger (notes_for s c)) ≡ []
frame_away id s c stranger place other off sleep none =
    let dropped = drops s c (notes_for s c) in
    away_either place (any_from c s.clients)
    (flat_map (λ x. part (around s c) dropped (fixed_for s c x) x) s.clients) stranger
    (rows_away id s c dropped place other off sleep) none

message_away : (id : List ℕ) (s : State) (from : Address) (request : Request) (place : Address)
    → same_address from place ≡ false
    → Each (Sleeper id place) s.clients → sent_to place (outs_by s (ByMessage from request)) ≡ []
message_away id s from request place off sleep =
    frame_away id s (ByMessage from request) (stranger_to from request) place refl off sleep
    (to_away place from (stranger_to from request) (flip_address from place off) (stranger_goes from request))

broken_away : (id : List ℕ) (s : State) (from : Address) (rule : Denial) (place : Address)
    → same_address from place ≡ false
    → Each (Sleeper id place) s.clients → sent_to place (outs_by s (ByBroken from rule)) ≡ []
broken_away id s from rule place off sleep =
    frame_away id s (ByBroken from rule)
    (Note (note.Frame (who.Address from) (Denied rule)) ∷ []) place refl off sleep refl

misnamed_none : (good : Bool) (outs : List Out) → NoneSent outs
    → NoneSent ((if good then [] else Note (note.Frame who.Broker (Denied (Form BadName))) ∷ []) ++ outs)
misnamed_none true outs none = none
misnamed_none false outs none = none

dropped_none : (room : Bool) (packet_id : Option ℕ) → NoneSent (dropped room packet_id)
dropped_none room None = tt
dropped_none true (Some packet_id) = tt
dropped_none false (Some packet_id) = tt

packet_none : (limits : Limits) (up : Bool) (link : Link) (a : Answer) → NoneSent (answer_outs limits up link a)
packet_none limits up link (Delivers p) =
    misnamed_none (is_name p.name) (dropped (has_place limits link) (owed up p))
    (dropped_none (has_place limits link) (owed up p))
packet_none limits up link (Acknowledges packet_id) = tt
packet_none limits up link (Grants packet_id) = tt
packet_none limits up link (Refuses packet_id) = tt
packet_none limits up link Confirms = tt
packet_none limits up link Strange = tt

packet_away : (id : List ℕ) (s : State) (p : Packet) (place : Address) → Each (Sleeper id place) s.clients
    → sent_to place (outs_by s (ByPacket p)) ≡ []
packet_away id s p place sleep =
    let c = ByPacket p in
    away_both place (flat_map (λ x. part (around s c) [] (fixed_for s c x) x) s.clients)
    (answer_outs s.policy.limits s.up s.link (answer_of p))
    (rows_away id s c [] place refl refl sleep)
    (none_away place (answer_outs s.policy.limits s.up s.link (answer_of p))
    (packet_none s.policy.limits s.up s.link (answer_of p)))

ping_none : (due room : Bool) → NoneSent (if due then (if room then [] else Note note.Outbox ∷ []) else [])
ping_none true true = tt
ping_none true false = tt
ping_none false room = tt

tick_away : (id : List ℕ) (s : State) (clock : ℕ) (place : Address) → Each (Sleeper id place) s.clients
    → sent_to place (outs_by s (ByTick clock)) ≡ []
tick_away id s clock place sleep =
    let c = ByTick clock in
    let now = later s.clock clock in
    let link = with_wills s.policy.limits s.link now s.clients in
    away_both place (flat_map (λ x. part (around s c) [] (fixed_for s c x) x) s.clients)
    (ping_dropped s.policy.limits s.up link now)
    (rows_away id s c [] place refl refl sleep)
    (none_away place (ping_dropped s.policy.limits s.up link now)
    (ping_none (is_ping_due s.up link now) (has_place s.policy.limits link)))

-- ---- any event

publish_away : (id : List ℕ) (s : State) (from : Address) (p : Publish) (q : FrameQos) (place : Address)
    → same_address from place ≡ false
    → Each (Sleeper id place) s.clients → sent_to place (outs_by s (publish_cause from p q)) ≡ []
publish_away id s from p qos.WithoutSession place off sleep = refl
publish_away id s from p qos.AtMostOnce place off sleep = message_away id s from (ToPublish p) place off sleep
publish_away id s from p qos.AtLeastOnce place off sleep =
    message_away id s from (ToPublish p) place off sleep
publish_away id s from p qos.ExactlyOnce place off sleep =
    message_away id s from (ToPublishOnce p) place off sleep

leave_away : (id : List ℕ) (s : State) (from : Address) (duration : Option ℕ) (place : Address)
    → same_address from place ≡ false
    → Each (Sleeper id place) s.clients → sent_to place (outs_by s (disconnect_cause from duration)) ≡ []
leave_away id s from None place off sleep = message_away id s from ToLeave place off sleep
leave_away id s from (Some duration) place off sleep =
    message_away id s from (ToSleep duration) place off sleep

read_away : (id : List ℕ) (s : State) (from : Address) (read : Result SnFrame FrameFault) (place : Address)
    → same_address from place ≡ false
    → names id (connect_in (message_in read)) ≡ false → Each (Sleeper id place) s.clients
    → sent_to place (outs_by s (datagram_cause from read)) ≡ []
read_away id s from (Err broke) place off unnamed sleep =
    broken_away id s from (rule_of broke) place off sleep
read_away id s from (Ok (frame.Connect connect)) place off unnamed sleep =
    connect_away id s from connect place off unnamed sleep
read_away id s from (Ok (frame.Publish p)) place off unnamed sleep =
    publish_away id s from p p.flags.qos place off sleep
read_away id s from (Ok (frame.Disconnect duration)) place off unnamed sleep =
    leave_away id s from duration place off sleep
read_away id s from (Ok (frame.PingRequest client)) place off unnamed sleep =
    message_away id s from (ToPing client) place off sleep
read_away id s from (Ok (frame.ConnectAck code)) place off unnamed sleep =
    message_away id s from (Untaken (frame.ConnectAck code)) place off sleep
read_away id s from (Ok frame.WillTopicRequest) place off unnamed sleep =
    message_away id s from (Untaken frame.WillTopicRequest) place off sleep
read_away id s from (Ok (frame.WillTopic topic)) place off unnamed sleep =
    message_away id s from (ToState (StatesTopic topic)) place off sleep
read_away id s from (Ok frame.WillMessageRequest) place off unnamed sleep =
    message_away id s from (Untaken frame.WillMessageRequest) place off sleep
read_away id s from (Ok (frame.WillMessage message)) place off unnamed sleep =
    message_away id s from (ToState (StatesMessage message)) place off sleep
read_away id s from (Ok (frame.Register register)) place off unnamed sleep =
    message_away id s from (ToRegister register) place off sleep
read_away id s from (Ok (frame.RegisterAck answer)) place off unnamed sleep =
    message_away id s from (ToConfirm answer) place off sleep
read_away id s from (Ok (frame.PublishAck answer)) place off unnamed sleep =
    message_away id s from (ToAcknowledge answer) place off sleep
read_away id s from (Ok (frame.PublishComplete n)) place off unnamed sleep =
    message_away id s from (Untaken (frame.PublishComplete n)) place off sleep
read_away id s from (Ok (frame.PublishReceived n)) place off unnamed sleep =
    message_away id s from (Untaken (frame.PublishReceived n)) place off sleep
read_away id s from (Ok (frame.PublishRelease n)) place off unnamed sleep =
    message_away id s from (ToRelease n) place off sleep
read_away id s from (Ok (frame.Subscribe request)) place off unnamed sleep =
    message_away id s from (ToSubscribe request) place off sleep
read_away id s from (Ok (frame.SubscribeAck answer)) place off unnamed sleep =
    message_away id s from (Untaken (frame.SubscribeAck answer)) place off sleep
read_away id s from (Ok (frame.Unsubscribe request)) place off unnamed sleep =
    message_away id s from (ToUnsubscribe request) place off sleep
read_away id s from (Ok (frame.UnsubscribeAck n)) place off unnamed sleep =
    message_away id s from (Untaken (frame.UnsubscribeAck n)) place off sleep
read_away id s from (Ok frame.PingResponse) place off unnamed sleep =
    message_away id s from (Untaken frame.PingResponse) place off sleep
read_away id s from (Ok (frame.WillTopicUpdate topic)) place off unnamed sleep =
    message_away id s from (ToState (UpdatesTopic topic)) place off sleep
read_away id s from (Ok (frame.WillTopicResponse code)) place off unnamed sleep =
    message_away id s from (Untaken (frame.WillTopicResponse code)) place off sleep
read_away id s from (Ok (frame.WillMessageUpdate message)) place off unnamed sleep =
    message_away id s from (ToState (UpdatesMessage message)) place off sleep
read_away id s from (Ok (frame.WillMessageResponse code)) place off unnamed sleep =
    message_away id s from (Untaken (frame.WillMessageResponse code)) place off sleep

-- an event that does not concern it
neither_holds : (a b : Bool) → (if a then true else b) ≡ false → (a ≡ false) × (b ≡ false)
neither_holds true b is = absurd cc
neither_holds false b is = (refl, is)

event_away : (id : List ℕ) (s : State) (e : Event) (place : Address) → concerns id place e ≡ false
    → Each (Sleeper id place) s.clients
    → sent_to place (outs_by s (cause_of e)) ≡ []
event_away id s (Datagram from datagram) place other sleep =
    let none =
    neither_holds (same_address from place)
    (names id (connect_in (message_in (frame_of datagram)))) other in
    read_away id s from (frame_of datagram) place none.0 none.1 sleep
event_away id s (Broker p) place other sleep = packet_away id s p place sleep
event_away id s Up place other sleep = unsent_away place (outs_by s ByUp) (row_unsent s Up refl)
event_away id s Down place other sleep = refl
event_away id s Take place other sleep = unsent_away place (outs_by s ByTake) (row_unsent s Take refl)
event_away id s (Replace policy) place other sleep =
    rows_away id s (ByReplace policy)
    (drops s (ByReplace policy) (notes_for s (ByReplace policy))) place refl refl sleep
event_away id s (Tick clock) place other sleep = tick_away id s clock place sleep

-- nothing else lets anything out to where a client sleeps
pub left_alone_law : (h : List Row) (row : Row) (id : List ℕ) (place : Address) → Lawful opening (row ∷ h)
    → is_among id (accepted h) ≡ true
    → LeftAlone h row id place
left_alone_law h row id place l among = record {
  quiet = λ asleep at other.
      let s = state_of opening h in
      let st = stands h l.0 in
      let known : is_among id (ids_of s.clients) ≡ true = ap (is_among id) st.shown.order ∙ among in
      ap (sent_to place) (exact_by s (cause_of row.event) row.outs l.1)
      ∙ event_away id s row.event place other
      (sleepers h id place s.clients asleep at st.good.places st.shown.clients known);
}
