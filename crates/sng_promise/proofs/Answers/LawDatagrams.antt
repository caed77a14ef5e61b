-- What a lawful row lets out with a datagram, in the views' words.
use Rattle.std.proofs.Common.{◌≡◌, ℕ, ◌≤◌, true, List, ◌∷◌, refl, ap, sym, ◌∙◌, subst, length}
use Rattle.std.specs.Prelude.{Option, Some, None}
use Rattle.mqtt_frames.specs.declared.packet.Packet.{Packet}
use Rattle.sng_frames.specs.declared.fault.FrameFault.{FrameFault}
use Rattle.sng_frames.specs.declared.fault.FrameFault.TheVariants as fault
use Rattle.sng_frames.specs.declared.messages.connect.Connect.{Connect}
use Rattle.sng_frames.specs.declared.messages.publish.Publish.{Publish}
use Rattle.sng_frames.specs.declared.messages.register.Register.{Register}
use Rattle.sng_frames.specs.declared.messages.subscribe.TopicRequest.{TopicRequest}
use Rattle.sng_grants.specs.declared.policy.Policy.{Policy}
use Rattle.sng_frames.specs.declared.qos.FrameQos.{FrameQos}
use Rattle.sng_frames.specs.declared.qos.FrameQos.TheVariants as qos
use Rattle.sng_frames.specs.declared.frame.SnFrame.{SnFrame}
use Rattle.sng_frames.specs.declared.frame.SnFrame.TheVariants as frame
use Rattle.sng_book.specs.declared.address.Address.{Address}
use Rattle.sng_book.specs.declared.event.Event.TheVariants.{Broker, Replace}
use Rattle.sng_book.specs.declared.row.Row.{Row}
use Rattle.sng_history.specs.Causes.{ToPing, ToLeave, ToSleep, ToRegister, ToSubscribe}
use Rattle.sng_history.specs.Causes.{ToUnsubscribe, ToState, ToRelease, Untaken, Cause, rule_of}
use Rattle.sng_history.specs.Causes.{publish_cause}
use Rattle.sng_history.specs.Causes.{frame_cause, datagram_cause, cause_of}
use Rattle.sng_history.specs.Causes.{ByConnect, ByMessage, BySource, ByBroken, ByReplace}
use Rattle.sng_history.specs.Causes.{Statement, StatesTopic, StatesMessage, UpdatesTopic, UpdatesMessage}
use Rattle.sng_history.specs.State.{opening, state_of}
use Rattle.sng_history.specs.Lawful.{Lawful}
use Rattle.sng_history.specs.Steps.{outs_by}
use Rattle.sng_laws.specs.ViewsMessages.{is_without_session}
use Rattle.sng_laws.specs.ViewsClients.{those_at}
use Rattle.sng_laws.specs.LawsAnswers.{Brought, Broken, connect_answer, source_answer, answer_to}
use Rattle.sng_laws.specs.LawsAnswers.{no_session, ping_answer, sleep_answer, leave_answer, broken_rule}
use Rattle.sng_laws.specs.LawsAnswers.{broken_stranger, broken_answer}
use Rattle.sng_laws.specs.LawsUnsupported.{is_unsupported, unsupported_stranger}
use Rattle.sng_laws.specs.LawsUnsupported.{unsupported_answer}
use Rattle.sng_laws.specs.LawsAsks.{register_stranger, register_answer, is_of_session, publish_stranger}
use Rattle.sng_laws.specs.LawsAsks.{publish_answer, packet_answer, release_answer}
use Rattle.sng_laws.specs.LawsWills.{stated_as, will_stranger, will_answer}
use Rattle.sng_history.proofs.Keeping.{exact_by}
use Rattle.sng_promise.proofs.LastWills.LawWills.{statement_row}
use Rattle.sng_promise.proofs.Clients.SeenState.{stands}
use Rattle.sng_promise.proofs.Clients.LawHere.{those_kept, most_here}
use Rattle.sng_promise.proofs.Clients.NeverAccepted.{none_waits}
use Rattle.sng_promise.proofs.Answers.LawEntry.{connect_row}
use Rattle.sng_promise.proofs.Answers.LawSource.{source_row}
use Rattle.sng_promise.proofs.Answers.LawUnsupported.{unsupported_row}
use Rattle.sng_promise.proofs.Answers.LawPings.{ping_row}
use Rattle.sng_promise.proofs.Answers.LawDisconnects.{sleep_row, leave_row, broken_row}
use Rattle.sng_laws.specs.LawsSubscriptions.{subscribe_stranger, subscribe_answer, unsubscribe_stranger}
use Rattle.sng_laws.specs.LawsSubscriptions.{unsubscribe_answer, replace_answer}
use Rattle.sng_promise.proofs.Answers.LawSubscriptions.{subscribe_row}
use Rattle.sng_promise.proofs.Answers.LawUnsubscribes.{unsubscribe_row}
use Rattle.sng_promise.proofs.Answers.LawReplaced.{replace_row}
use Rattle.sng_promise.proofs.Answers.LawRegisters.{register_row}
use Rattle.sng_promise.proofs.Answers.LawPublishes.{publish_row}
use Rattle.sng_promise.proofs.Answers.LawRepeats.{once_row, release_row}
use Rattle.sng_promise.proofs.OpenIds.OpenShown.{open_shown}
use Rattle.sng_promise.proofs.Answers.LawPackets.{packet_judged}
use Rattle.sng_promise.proofs.Link.SeenLast.{rest_shown}
use Rattle.sng_promise.proofs.WantedFilters.UpstreamWanted.{wanted_shown}

-- a lawful row lets out what its cause says
row_outs : (h : List Row) (row : Row) (c : Cause) → Lawful opening (row ∷ h) → cause_of row.event ≡ c
    → row.outs ≡ outs_by (state_of opening h) c
row_outs h row c l is =
    exact_by (state_of opening h) (cause_of row.event) row.outs l.1 ∙ ap (outs_by (state_of opening h)) is

message_cause : (row : Row) (from : Address) (message : SnFrame) → Brought row from message
    → cause_of row.event ≡ frame_cause from message
message_cause row from message brought = ap cause_of brought.event ∙ ap (datagram_cause from) brought.reads

-- ---- who is at an address

pub one_at : (h : List Row) → Lawful opening h → (from : Address) → length (those_at from h) ≤ 1
one_at h l from =
    let st = stands h l in
    subst (λ ids. length ids ≤ 1) (sym (those_kept h (state_of opening h) from st.shown))
    (most_here from (state_of opening h).clients st.good.places)

-- ---- each message

pub connect_law : (h : List Row) (row : Row) (from : Address) (connect : Connect) → Lawful opening (row ∷ h)
    → Brought row from (frame.Connect connect)
    → row.outs ≡ connect_answer h from connect
connect_law h row from connect l brought =
    row_outs h row (ByConnect from connect) l (message_cause row from (frame.Connect connect) brought)
    ∙ connect_row h (state_of opening h) from connect (stands h l.0) (none_waits h l.0 connect.client_id)

source_cause : (from : Address) (p : Publish) (q : FrameQos) → is_without_session q ≡ true
    → publish_cause from p q ≡ BySource from p
source_cause from p qos.WithoutSession is = refl
source_cause from p qos.AtMostOnce is = absurd (let e = is in cc)
source_cause from p qos.AtLeastOnce is = absurd (let e = is in cc)
source_cause from p qos.ExactlyOnce is = absurd (let e = is in cc)

pub source_law : (h : List Row) (row : Row) (from : Address) (p : Publish) → Lawful opening (row ∷ h)
    → Brought row from (frame.Publish p)
    → is_without_session p.flags.qos ≡ true
    → row.outs ≡ source_answer h from p
source_law h row from p l brought is =
    row_outs h row (BySource from p) l
    (message_cause row from (frame.Publish p) brought ∙ source_cause from p p.flags.qos is)
    ∙ source_row h (state_of opening h) from p (stands h l.0).shown

session_outs : (h : List Row) (from : Address) (p : Publish) (q : FrameQos) → p.flags.qos ≡ q
    → is_of_session q ≡ true → Lawful opening h
    → outs_by (state_of opening h) (publish_cause from p q)
    ≡ answer_to (publish_stranger from) (publish_answer h from p) (those_at from h)
session_outs h from p qos.AtMostOnce is session l =
    publish_row h (state_of opening h) from p (stands h l) (rest_shown h l).in_flight (rw is refl)
session_outs h from p qos.AtLeastOnce is session l =
    publish_row h (state_of opening h) from p (stands h l) (rest_shown h l).in_flight (rw is refl)
session_outs h from p qos.ExactlyOnce is session l =
    once_row h (state_of opening h) from p (stands h l) (open_shown h l) (rest_shown h l).in_flight (rw is refl)
session_outs h from p qos.WithoutSession is session l = absurd (let e = session in cc)

pub publish_law : (h : List Row) (row : Row) (from : Address) (p : Publish) → Lawful opening (row ∷ h)
    → Brought row from (frame.Publish p)
    → is_of_session p.flags.qos ≡ true
    → row.outs ≡ answer_to (publish_stranger from) (publish_answer h from p) (those_at from h)
publish_law h row from p l brought is =
    row_outs h row (publish_cause from p p.flags.qos) l (message_cause row from (frame.Publish p) brought)
    ∙ session_outs h from p p.flags.qos refl is l.0

pub release_law : (h : List Row) (row : Row) (from : Address) (number : ℕ) → Lawful opening (row ∷ h)
    → Brought row from (frame.PublishRelease number)
    → row.outs ≡ answer_to (no_session from) (release_answer h from number) (those_at from h)
release_law h row from number l brought =
    row_outs h row (ByMessage from (ToRelease number)) l
    (message_cause row from (frame.PublishRelease number) brought)
    ∙ release_row h (state_of opening h) from number (stands h l.0)

pub register_law : (h : List Row) (row : Row) (from : Address) (r : Register) → Lawful opening (row ∷ h)
    → Brought row from (frame.Register r)
    → row.outs ≡ answer_to (register_stranger from) (register_answer h from r) (those_at from h)
register_law h row from r l brought =
    row_outs h row (ByMessage from (ToRegister r)) l (message_cause row from (frame.Register r) brought)
    ∙ register_row h (state_of opening h) from r (stands h l.0)

pub subscribe_law : (h : List Row) (row : Row) (from : Address) (r : TopicRequest) → Lawful opening (row ∷ h)
    → Brought row from (frame.Subscribe r)
    → row.outs ≡ answer_to (subscribe_stranger from) (subscribe_answer h from r) (those_at from h)
subscribe_law h row from r l brought =
    row_outs h row (ByMessage from (ToSubscribe r)) l (message_cause row from (frame.Subscribe r) brought)
    ∙ subscribe_row h (state_of opening h) from r (stands h l.0)

pub unsubscribe_law : (h : List Row) (row : Row) (from : Address) (r : TopicRequest)
    → Lawful opening (row ∷ h)
    → Brought row from (frame.Unsubscribe r)
    → row.outs ≡ answer_to (unsubscribe_stranger from) (unsubscribe_answer h from r) (those_at from h)
unsubscribe_law h row from r l brought =
    row_outs h row (ByMessage from (ToUnsubscribe r)) l (message_cause row from (frame.Unsubscribe r) brought)
    ∙ unsubscribe_row h (state_of opening h) from r (stands h l.0)

pub replace_law : (h : List Row) (row : Row) (policy : Policy) → Lawful opening (row ∷ h)
    → row.event ≡ Replace policy
    → row.outs ≡ replace_answer h policy
replace_law h row policy l is =
    row_outs h row (ByReplace policy) l (ap cause_of is)
    ∙ replace_row h (state_of opening h) policy (stands h l.0)

pub ping_law : (h : List Row) (row : Row) (from : Address) (named : Option (List ℕ))
    → Lawful opening (row ∷ h)
    → Brought row from (frame.PingRequest named)
    → row.outs ≡ answer_to (no_session from) (ping_answer h from named) (those_at from h)
ping_law h row from named l brought =
    row_outs h row (ByMessage from (ToPing named)) l
    (message_cause row from (frame.PingRequest named) brought)
    ∙ ping_row h (state_of opening h) from named (stands h l.0)

pub sleep_law : (h : List Row) (row : Row) (from : Address) (duration : ℕ) → Lawful opening (row ∷ h)
    → Brought row from (frame.Disconnect (Some duration))
    → row.outs ≡ answer_to (no_session from) (sleep_answer h from) (those_at from h)
sleep_law h row from duration l brought =
    row_outs h row (ByMessage from (ToSleep duration)) l
    (message_cause row from (frame.Disconnect (Some duration)) brought)
    ∙ sleep_row h (state_of opening h) from duration (stands h l.0)

pub leave_law : (h : List Row) (row : Row) (from : Address) → Lawful opening (row ∷ h)
    → Brought row from (frame.Disconnect None)
    → row.outs ≡ answer_to (no_session from) (leave_answer h from) (those_at from h)
leave_law h row from l brought =
    row_outs h row (ByMessage from ToLeave) l (message_cause row from (frame.Disconnect None) brought)
    ∙ leave_row h (state_of opening h) from (stands h l.0)

statement_cause : (from : Address) (statement : Statement)
    → frame_cause from (stated_as statement) ≡ ByMessage from (ToState statement)
statement_cause from (StatesTopic topic) = refl
statement_cause from (StatesMessage message) = refl
statement_cause from (UpdatesTopic topic) = refl
statement_cause from (UpdatesMessage message) = refl

pub will_law : (h : List Row) (row : Row) (from : Address) (statement : Statement) → Lawful opening (row ∷ h)
    → Brought row from (stated_as statement)
    → row.outs ≡ answer_to (will_stranger from) (will_answer h from statement) (those_at from h)
will_law h row from statement l brought =
    row_outs h row (ByMessage from (ToState statement)) l
    (message_cause row from (stated_as statement) brought ∙ statement_cause from statement)
    ∙ statement_row h (state_of opening h) from statement (stands h l.0)

unsupported_cause : (from : Address) (message : SnFrame) → is_unsupported message ≡ true
    → frame_cause from message ≡ ByMessage from (Untaken message)
unsupported_cause from (frame.Connect connect) is = absurd (let e = is in cc)
unsupported_cause from (frame.Register r) is = absurd (let e = is in cc)
unsupported_cause from (frame.Subscribe r) is = absurd (let e = is in cc)
unsupported_cause from (frame.Unsubscribe r) is = absurd (let e = is in cc)
unsupported_cause from (frame.PingRequest client) is = absurd (let e = is in cc)
unsupported_cause from (frame.RegisterAck r) is = absurd (let e = is in cc)
unsupported_cause from (frame.PublishAck r) is = absurd (let e = is in cc)
unsupported_cause from (frame.WillTopic topic) is = absurd (let e = is in cc)
unsupported_cause from (frame.WillMessage message) is = absurd (let e = is in cc)
unsupported_cause from (frame.WillTopicUpdate topic) is = absurd (let e = is in cc)
unsupported_cause from (frame.WillMessageUpdate message) is = absurd (let e = is in cc)
unsupported_cause from (frame.Publish p) is = absurd (let e = is in cc)
unsupported_cause from (frame.PublishRelease number) is = absurd (let e = is in cc)
unsupported_cause from (frame.Disconnect duration) is = absurd (let e = is in cc)
unsupported_cause from message is = refl

pub unsupported_law : (h : List Row) (row : Row) (from : Address) (message : SnFrame)
    → Lawful opening (row ∷ h) → Brought row from message
    → is_unsupported message ≡ true
    → row.outs ≡ answer_to (unsupported_stranger from) unsupported_answer (those_at from h)
unsupported_law h row from message l brought is =
    row_outs h row (ByMessage from (Untaken message)) l
    (message_cause row from message brought ∙ unsupported_cause from message is)
    ∙ unsupported_row h (state_of opening h) from message is (stands h l.0)

rule_same : (broke : FrameFault) → rule_of broke ≡ broken_rule broke
rule_same fault.Malformed = refl
rule_same fault.NotSupported = refl
rule_same fault.TooLong = refl
rule_same fault.Memory = refl

pub broken_law : (h : List Row) (row : Row) (from : Address) (broke : FrameFault) → Lawful opening (row ∷ h)
    → Broken row from broke
    → row.outs ≡ answer_to (broken_stranger from broke) (broken_answer broke) (those_at from h)
broken_law h row from broke l broken =
    row_outs h row (ByBroken from (broken_rule broke)) l
    (ap cause_of broken.event ∙ (ap (datagram_cause from) broken.reads
    ∙ ap (ByBroken from) (rule_same broke)))
    ∙ broken_row h (state_of opening h) from (broken_rule broke) (stands h l.0)

pub packet_law : (h : List Row) (row : Row) (packet : Packet) → Lawful opening (row ∷ h)
    → row.event ≡ Broker packet
    → row.outs ≡ packet_answer h packet
packet_law h row packet l is =
    row_outs h row (cause_of (Broker packet)) l (ap cause_of is)
    ∙ packet_judged h (state_of opening h) packet (stands h l.0) (wanted_shown h l.0).wanted
