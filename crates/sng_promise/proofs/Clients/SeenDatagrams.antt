-- One client as a datagram comes: what is kept of it moves as what the rows show of it, by each message.
use Rattle.std.proofs.Common.{◌≡◌, ℕ, Bool, true, false, List, refl, ap, ◌∙◌, if◌then◌else◌, Ok, Err}
use Rattle.std.specs.Prelude.{◌&&◌, Option, Some, None, not}
use Rattle.std.specs.Str.{bytes_eq}
use Rattle.std.specs.declared.result.Result.{Result}
use Rattle.sng_states.specs.declared.state.ClientState.{ClientState}
use Rattle.sng_frames.specs.declared.fault.FrameFault.{FrameFault}
use Rattle.sng_frames.specs.declared.qos.FrameQos.{FrameQos}
use Rattle.sng_frames.specs.declared.qos.FrameQos.TheVariants as qos
use Rattle.sng_frames.specs.declared.messages.publish.Publish.{Publish}
use Rattle.sng_frames.specs.declared.frame.SnFrame.{SnFrame}
use Rattle.sng_frames.specs.declared.frame.SnFrame.TheVariants as frame
use Rattle.sng_book.specs.declared.address.Address.{Address}
use Rattle.sng_book.specs.declared.outcome.Denial.TheVariants.{Form}
use Rattle.sng_book.specs.declared.outcome.FormDenial.TheVariants.{NotSupported}
use Rattle.sng_history.specs.Causes.{Cause, StatesTopic, StatesMessage, UpdatesTopic, UpdatesMessage}
use Rattle.sng_history.specs.Causes.{ByMessage, ByBroken, datagram_cause}
use Rattle.sng_history.specs.Causes.{publish_cause, rule_of, ToSleep}
use Rattle.sng_history.specs.Causes.{ToPing, ToLeave, ToRegister, ToPublish, ToSubscribe, ToUnsubscribe}
use Rattle.sng_history.specs.Causes.{ToConfirm, ToAcknowledge, Untaken}
use Rattle.sng_history.specs.Causes.{ToPublishOnce, ToRelease}
use Rattle.sng_history.specs.Clients.{Client, Around, is_here, awake, asleep, is_waking}
use Rattle.sng_history.specs.State.{State}
use Rattle.sng_history.specs.Verdicts.{entry, is_repeat}
use Rattle.sng_history.specs.Lawful.{fixed_for}
use Rattle.sng_laws.specs.ViewsMessages.{Message as Spoken, Registers, Publishes, Subscribes, Unsubscribes}
use Rattle.sng_laws.specs.ViewsMessages.{Confirms, Acknowledges, Releases}
use Rattle.sng_laws.specs.ViewsMessages.{Other, message_in, is_without_session, Pings, Sleeps}
use Rattle.sng_laws.specs.ViewsClients.{duration_by, is_spoken, phase_spoken, slept_for, woken, is_asleep}
use Rattle.sng_promise.proofs.Clients.SeenClients.{Before, Shows, kept_of, denied_shows, broken_shows}
use Rattle.sng_promise.proofs.Clients.SeenClients.{moved_to}
use Rattle.sng_promise.proofs.Clients.SeenHeard.{ping_shows, woken_if, asleep_if, sleep_shows}
use Rattle.sng_promise.proofs.Clients.SeenHeard.{confirm_shows, acknowledge_shows, subscribe_shows}
use Rattle.sng_promise.proofs.Clients.SeenHeard.{unsubscribe_shows}
use Rattle.sng_promise.proofs.Clients.SeenHeard.{register_shows, asked_shows, once_shows, release_shows}
use Rattle.sng_promise.proofs.Clients.SeenLeft.{leave_shows}
use Rattle.sng_states.specs.States.{is_due_messages}
use Rattle.sng_states.specs.States as states
use Rattle.sng_states.specs.declared.state.ClientState.TheVariants.{Active, Asleep, Awake, Dialogue}
use Rattle.sng_states.specs.declared.state.ClientState.TheVariants.{Disconnected, Lost}
use Rattle.sng_promise.proofs.Handing.Takes.{awaiting_same}
use Rattle.sng_promise.proofs.Clients.SeenEntered.{statement_shows, connect_shows}

-- ---- any datagram

-- the client as its own message left it, before any note
abbrev pub spoken_by : Address → Result SnFrame FrameFault → Client → Client
spoken_by from (Ok (frame.PingRequest client)) x = if is_here x from then woken_if client x else x
spoken_by from (Ok (frame.Disconnect (Some duration))) x = if is_here x from then asleep_if duration x else x
spoken_by from (Ok (frame.Disconnect None)) x = x
spoken_by from (Ok message) x = x
spoken_by from (Err broke) x = x

abbrev pub before_read : State → Client → Address → Result SnFrame FrameFault → Before
before_read s x from read =
    kept_of (spoken_by from read x) (message_in read) (Some from) (duration_by (message_in read)) s.clock
    (is_spoken (message_in read) && is_here x from)

abbrev around_by : State → Cause → Around
around_by s c = record { policy = s.policy; clock = s.clock; cause = c }

publish_shows : (s : State) (x : Client) (from : Address) (p : Publish) (m : Option Spoken) (q : FrameQos)
    → let c = publish_cause from p q in
    Shows x.id (kept_of x m (Some from) None s.clock (not (is_without_session q) && is_here x from))
    (fixed_for s c x) (moved_to s c x)
publish_shows s x from p m qos.WithoutSession = (refl, refl, refl, refl)
publish_shows s x from p m qos.AtMostOnce =
    asked_shows (around_by s (ByMessage from (ToPublish p))) s x m (Some from) p (is_here x from)
publish_shows s x from p m qos.AtLeastOnce =
    asked_shows (around_by s (ByMessage from (ToPublish p))) s x m (Some from) p (is_here x from)
publish_shows s x from p m qos.ExactlyOnce =
    once_shows (around_by s (ByMessage from (ToPublishOnce p))) s x m (Some from) p (is_here x from)
    (not (is_repeat p x))

pub datagram_shows : (s : State) (x : Client) (from : Address) (read : Result SnFrame FrameFault)
    → Shows x.id (before_read s x from read) (fixed_for s (datagram_cause from read) x)
    (moved_to s (datagram_cause from read) x)
datagram_shows s x from (Ok (frame.Connect connect)) =
    connect_shows s from connect x (bytes_eq connect.client_id x.id) (is_here x from) (entry s connect)
datagram_shows s x from (Ok (frame.Publish p)) = publish_shows s x from p (Some (Publishes p)) p.flags.qos
datagram_shows s x from (Ok (frame.Register r)) =
    register_shows (around_by s (ByMessage from (ToRegister r))) s.policy x (Some (Registers r))
    (Some from) r.name (is_here x from)
datagram_shows s x from (Ok (frame.Subscribe r)) =
    subscribe_shows (around_by s (ByMessage from (ToSubscribe r))) s x (Some (Subscribes r)) (Some from) r
    (is_here x from)
datagram_shows s x from (Ok (frame.Unsubscribe r)) =
    unsubscribe_shows (around_by s (ByMessage from (ToUnsubscribe r))) s.policy x (Some (Unsubscribes r))
    (Some from) r (is_here x from)
datagram_shows s x from (Ok (frame.PingRequest client)) =
    ping_shows (around_by s (ByMessage from (ToPing client))) s.policy x (Some (Pings client))
    (Some from) client (is_here x from)
datagram_shows s x from (Ok (frame.Disconnect None)) =
    leave_shows (around_by s (ByMessage from ToLeave)) x (Some Other) (Some from) None (is_here x from)
datagram_shows s x from (Ok (frame.Disconnect (Some duration))) =
    sleep_shows (around_by s (ByMessage from (ToSleep duration))) x (Some (Sleeps duration))
    (Some from) duration (is_here x from)
datagram_shows s x from (Ok (frame.RegisterAck r)) =
    confirm_shows (around_by s (ByMessage from (ToConfirm r))) s.policy x (Some (Confirms r)) (Some from) r
    (is_here x from)
datagram_shows s x from (Ok (frame.PublishAck r)) =
    acknowledge_shows (around_by s (ByMessage from (ToAcknowledge r))) s.policy x (Some (Acknowledges r))
    (Some from) r (is_here x from)
datagram_shows s x from (Ok (frame.PublishRelease n)) =
    release_shows (around_by s (ByMessage from (ToRelease n))) x (Some (Releases n)) (Some from) n
    (is_here x from)
datagram_shows s x from (Ok (frame.WillTopic topic)) =
    statement_shows s from (StatesTopic topic) x (is_here x from)
datagram_shows s x from (Ok (frame.WillMessage message)) =
    statement_shows s from (StatesMessage message) x (is_here x from)
datagram_shows s x from (Ok (frame.WillTopicUpdate topic)) =
    statement_shows s from (UpdatesTopic topic) x (is_here x from)
datagram_shows s x from (Ok (frame.WillMessageUpdate message)) =
    statement_shows s from (UpdatesMessage message) x (is_here x from)
datagram_shows s x from (Ok message) =
    denied_shows (around_by s (ByMessage from (Untaken message))) x (Some Other) (Some from) None
    (is_here x from) message (Form NotSupported)
datagram_shows s x from (Err broke) =
    broken_shows (around_by s (ByBroken from (rule_of broke))) x None (Some from) (is_here x from)
    (rule_of broke)

-- that is what is shown of it
sleeping_same : (phase : ClientState) → is_asleep (Some phase) ≡ states.is_asleep phase
sleeping_same Asleep = refl
sleeping_same Active = refl
sleeping_same Awake = refl
sleeping_same Dialogue = refl
sleeping_same Disconnected = refl
sleeping_same Lost = refl

and_turned : (b c : Bool) → (b && c) ≡ (c && b)
and_turned true true = refl
and_turned true false = refl
and_turned false true = refl
and_turned false false = refl

woken_by : (x : Client) (b : Bool)
    → (if b then Some Awake else Some x.phase) ≡ Some (let y : Client = if b then awake x else x in y).phase
woken_by x true = refl
woken_by x false = refl

never_woken : (x : Client) (b : Bool)
    → Some x.phase ≡ Some (let y : Client = if b && false then awake x else x in y).phase
never_woken x true = refl
never_woken x false = refl

woken_same : (x : Client) (client : Option (List ℕ))
    → woken x.id client (Some x.phase) ≡ Some (woken_if client x).phase
woken_same x None = never_woken x (states.is_asleep x.phase)
woken_same x (Some named) =
    ap (λ b. if b then Some Awake else Some x.phase)
    (ap (λ b. bytes_eq named x.id && b) (sleeping_same x.phase)
    ∙ and_turned (bytes_eq named x.id) (states.is_asleep x.phase))
    ∙ woken_by x (is_waking (Some named) x)

asleep_by : (x : Client) (duration : ℕ) (b : Bool)
    → (if b then Some Asleep else Some x.phase)
    ≡ Some (let y : Client = if b then asleep duration x else x in y).phase
asleep_by x duration true = refl
asleep_by x duration false = refl

slept_by : (x : Client) (duration : ℕ) (b : Bool)
    → (if b then Some duration else Some x.duration)
    ≡ Some (let y : Client = if b then asleep duration x else x in y).duration
slept_by x duration true = refl
slept_by x duration false = refl

-- its state and its Duration, where the message is this
pub record SpokenSame (x y : Client) (m : Option Spoken) : Type 0 where
  pub id : y.id ≡ x.id
  pub phase : phase_spoken x.id m (Some x.phase) ≡ Some y.phase
  pub duration : slept_for m (Some x.phase) (Some x.duration) ≡ Some y.duration
  pub address : y.address ≡ x.address
  pub heard : y.heard ≡ x.heard

same_none : (x : Client) → SpokenSame x x None
same_none x = record { id = refl; phase = refl; duration = refl; address = refl; heard = refl }

-- a PINGREQ and a DISCONNECT with Duration leave the rest of it
record Else (x y : Client) : Type 0 where
  id : y.id ≡ x.id
  address : y.address ≡ x.address
  heard : y.heard ≡ x.heard

woken_else : (x : Client) (b : Bool) → Else x (if b then awake x else x)
woken_else x true = record { id = refl; address = refl; heard = refl }
woken_else x false = record { id = refl; address = refl; heard = refl }

woken_duration : (x : Client) (b : Bool)
    → Some x.duration ≡ Some (let y : Client = if b then awake x else x in y).duration
woken_duration x true = refl
woken_duration x false = refl

asleep_else : (duration : ℕ) (x : Client) (b : Bool) → Else x (if b then asleep duration x else x)
asleep_else duration x true = record { id = refl; address = refl; heard = refl }
asleep_else duration x false = record { id = refl; address = refl; heard = refl }

ping_same : (client : Option (List ℕ)) (x : Client) (here : Bool)
    → SpokenSame x (if here then woken_if client x else x) (if here then Some (Pings client) else None)
ping_same client x true =
    let rest = woken_else x (is_waking client x) in
    record {
      id = rest.id;
      phase = woken_same x client;
      duration = woken_duration x
          (is_waking client x);
      address = rest.address;
      heard = rest.heard;
    }
ping_same client x false = same_none x

sleep_same : (duration : ℕ) (x : Client) (here : Bool)
    → SpokenSame x (if here then asleep_if duration x else x) (if here then Some (Sleeps duration) else None)
sleep_same duration x true =
    let rest = asleep_else duration x (is_due_messages x.phase) in
    record {
      id = rest.id;
      phase =
          ap (λ b. if b then Some Asleep else Some x.phase) (awaiting_same x.phase)
          ∙ asleep_by x duration (is_due_messages x.phase);
      duration = ap (λ b. if b then Some duration else Some x.duration) (awaiting_same x.phase)
          ∙ slept_by x duration (is_due_messages x.phase);
      address = rest.address;
      heard = rest.heard;
    }
sleep_same duration x false = same_none x

still_same : (x : Client) (here : Bool) (m : Option Spoken)
    → phase_spoken x.id m (Some x.phase) ≡ Some x.phase
    → slept_for m (Some x.phase) (Some x.duration) ≡ Some x.duration
    → SpokenSame x x (if here then m else None)
still_same x true m phase duration =
    record { id = refl; phase = phase; duration = duration; address = refl; heard = refl }
still_same x false m phase duration = same_none x

pub spoken_same : (from : Address) (read : Result SnFrame FrameFault) (x : Client)
    → SpokenSame x (spoken_by from read x) (if is_here x from then message_in read else None)
spoken_same from (Ok (frame.PingRequest client)) x = ping_same client x (is_here x from)
spoken_same from (Ok (frame.Disconnect (Some duration))) x = sleep_same duration x (is_here x from)
spoken_same from (Ok (frame.Disconnect None)) x = still_same x (is_here x from) (Some Other) refl refl
spoken_same from (Ok message) x = still_same x (is_here x from) (message_in (Ok message)) refl refl
spoken_same from (Err broke) x = still_same x (is_here x from) None refl refl
