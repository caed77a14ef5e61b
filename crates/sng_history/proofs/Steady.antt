-- What the answer of a client and a message of the broker leave of a client, before any note, and what
-- handing over leaves: all but when it was heard, its topic ids, the MsgId that was given last, what waits
-- for it, and which MsgIds of its own are open. Sleep and wake-up leave it where it is, and what stands for
-- it.
use Rattle.std.proofs.Common.{◌≡◌, ℕ, Bool, true, false, List, refl, ap, sym, ◌∙◌}
use Rattle.std.specs.Prelude.{◌==◌, ◌&&◌, if◌then◌else◌, is_none, slice_get, Option, Some, None}
use Rattle.sng_states.specs.declared.state.ClientState.{ClientState}
use Rattle.sng_states.specs.declared.state.ClientState.TheVariants.{Dialogue, Active, Asleep, Awake}
use Rattle.sng_states.specs.declared.state.ClientState.TheVariants.{Disconnected, Lost}
use Rattle.sng_states.specs.States.{has_session, in_dialogue, is_due_messages, is_active, is_asleep}
use Rattle.sng_states.specs.States.{is_awake}
use Rattle.sng_frames.specs.declared.messages.acks.TopicAck.{TopicAck}
use Rattle.sng_book.specs.declared.decision.Decision.{Decision}
use Rattle.sng_book.specs.declared.outcome.Denial.{Denial}
use Rattle.sng_book.specs.declared.outcome.Outcome.{Outcome}
use Rattle.sng_book.specs.declared.outcome.Outcome.TheVariants.{Allowed, Denied}
use Rattle.sng_ids.specs.Ids.{confirmed}
use Rattle.sng_queue.specs.Buffers.{settle}
use Rattle.sng_history.specs.Causes.{Request, ToPing, ToLeave, ToSleep, ToRegister, ToPublish, ToSubscribe}
use Rattle.sng_history.specs.Causes.{ToUnsubscribe, ToConfirm, ToAcknowledge, ToState, Untaken, Cause}
use Rattle.sng_history.specs.Causes.{request_of}
use Rattle.sng_history.specs.Causes.{ByConnect, ByMessage, BySource, ByBroken, ByPacket, ByUp, ByDown, ByTake}
use Rattle.sng_history.specs.Causes.{ByReplace, ByTick}
use Rattle.sng_history.specs.Causes.{ToPublishOnce, ToRelease}
use Rattle.sng_history.specs.Clients.{Around, Client, is_author, is_confirming, is_acknowledging, is_waking}
use Rattle.sng_history.specs.Clients.{closed, confirmed_with, asleep, awake}
use Rattle.sng_history.specs.Clients.{names_own, answered_by, delivered_by, start_by, announced}
use Rattle.sng_history.specs.Clients.{is_turned_away, handed, repeated, publish_released, received}
use Rattle.sng_history.specs.Clients.{notes_by, is_drained, drained, client_by}
use Rattle.sng_history.proofs.Booleans.{left_holds}

-- the client is the same, where it was and as it stood, and what stands for it stays
pub record Steady (x y : Client) : Type 0 where
  pub id : y.id ≡ x.id
  pub address : y.address ≡ x.address
  pub phase : y.phase ≡ x.phase
  pub filters : y.filters ≡ x.filters
  pub wills : y.wills ≡ x.wills
  pub duration : y.duration ≡ x.duration

pub steady_self : (x : Client) → Steady x x
steady_self x =
    record { id = refl; address = refl; phase = refl; filters = refl; wills = refl; duration = refl }

pub steady_then : (x y z : Client) → Steady x y → Steady y z → Steady x z
steady_then x y z one two = record {
  id = two.id ∙ one.id;
  address = two.address ∙ one.address;
  phase = two.phase ∙ one.phase;
  filters = two.filters ∙ one.filters;
  wills = two.wills ∙ one.wills;
  duration = two.duration ∙ one.duration;
}

pub steady_if : (b : Bool) (x y z : Client) → Steady x y → Steady x z → Steady x (if b then y else z)
steady_if true x y z one two = one
steady_if false x y z one two = two

-- ---- before any note

pub heard_steady : (heard : ℕ) (x : Client) → Steady x (record x { heard = heard })
heard_steady heard x =
    record { id = refl; address = refl; phase = refl; filters = refl; wills = refl; duration = refl }

pub closed_steady : (x : Client) → Steady x (closed x)
closed_steady x =
    record { id = refl; address = refl; phase = refl; filters = refl; wills = refl; duration = refl }

pub confirmed_steady : (r : TopicAck) (x : Client) → Steady x (confirmed_with r x)
confirmed_steady r x = by_code (r.code.0 == 0) r x
  where
    by_code : (accepted : Bool) (r : TopicAck) (x : Client)
        → Steady x (if accepted then record (closed x) { ids = confirmed r.topic_id x.ids } else x)
    by_code true r x =
        record { id = refl; address = refl; phase = refl; filters = refl; wills = refl; duration = refl }
    by_code false r x = steady_self x

pub released_steady : (id : ℕ) (x : Client) → Steady x (publish_released id x)
released_steady id x =
    record { id = refl; address = refl; phase = refl; filters = refl; wills = refl; duration = refl }

pub confirmed_id : (r : TopicAck) (x : Client) → (confirmed_with r x).id ≡ x.id
confirmed_id r x = (confirmed_steady r x).id

-- it has a session or none, and a dialogue or none, as before; it is where it was, and what stands for it
-- stays
pub record Lasting (x y : Client) : Type 0 where
  pub id : y.id ≡ x.id
  pub address : y.address ≡ x.address
  pub here : has_session y.phase ≡ has_session x.phase
  pub talks : in_dialogue y.phase ≡ in_dialogue x.phase
  pub filters : y.filters ≡ x.filters
  pub wills : y.wills ≡ x.wills

pub steady_lasts : (x y : Client) → Steady x y → Lasting x y
steady_lasts x y s = record {
  id = s.id;
  address = s.address;
  here = ap has_session s.phase;
  talks = ap in_dialogue s.phase;
  filters = s.filters;
  wills = s.wills;
}

pub lasting_self : (x : Client) → Lasting x x
lasting_self x = steady_lasts x x (steady_self x)

pub lasting_then : (x y z : Client) → Lasting x y → Lasting y z → Lasting x z
lasting_then x y z one two = record {
  id = two.id ∙ one.id;
  address = two.address ∙ one.address;
  here = two.here ∙ one.here;
  talks = two.talks ∙ one.talks;
  filters = two.filters ∙ one.filters;
  wills = two.wills ∙ one.wills;
}

pub lasting_if : (b : Bool) (x y z : Client) → Lasting x y → Lasting x z → Lasting x (if b then y else z)
lasting_if true x y z one two = one
lasting_if false x y z one two = two

-- one that may be sent messages, or sleeps, has a session and no dialogue
pub record Settled (phase : ClientState) : Type 0 where
  pub here : has_session phase ≡ true
  pub talks : in_dialogue phase ≡ false

pub due_settled : (phase : ClientState) → is_due_messages phase ≡ true → Settled phase
due_settled Active is = record { here = refl; talks = refl }
due_settled Asleep is = record { here = refl; talks = refl }
due_settled Awake is = record { here = refl; talks = refl }
due_settled Dialogue is = absurd cc
due_settled Disconnected is = absurd cc
due_settled Lost is = absurd cc

pub asleep_settled : (phase : ClientState) → is_asleep phase ≡ true → Settled phase
asleep_settled Asleep is = record { here = refl; talks = refl }
asleep_settled Active is = absurd cc
asleep_settled Awake is = absurd cc
asleep_settled Dialogue is = absurd cc
asleep_settled Disconnected is = absurd cc
asleep_settled Lost is = absurd cc

pub awake_settled : (phase : ClientState) → is_awake phase ≡ true → Settled phase
awake_settled Awake is = record { here = refl; talks = refl }
awake_settled Active is = absurd cc
awake_settled Asleep is = absurd cc
awake_settled Dialogue is = absurd cc
awake_settled Disconnected is = absurd cc
awake_settled Lost is = absurd cc

pub asleep_lasts : (duration : ℕ) (x : Client)
    → Lasting x (if is_due_messages x.phase then asleep duration x else x)
asleep_lasts duration x = by_due (is_due_messages x.phase) refl
  where
    by_due : (due : Bool) → is_due_messages x.phase ≡ due → Lasting x (if due then asleep duration x else x)
    by_due true is =
        let settled = due_settled x.phase is in
        record {
          id = refl;
          address = refl;
          here = sym settled.here;
          talks = sym settled.talks;
          filters = refl;
          wills = refl;
        }
    by_due false is = lasting_self x

pub awake_lasts : (client : Option (List ℕ)) (x : Client)
    → Lasting x (if is_waking client x then awake x else x)
awake_lasts client x = by_waking (is_waking client x) refl
  where
    by_waking : (wakes : Bool) → is_waking client x ≡ wakes → Lasting x (if wakes then awake x else x)
    by_waking true is =
        let settled = asleep_settled x.phase (left_holds (is_asleep x.phase) (names_own client x.id) is) in
        record {
          id = refl;
          address = refl;
          here = sym settled.here;
          talks = sym settled.talks;
          filters = refl;
          wills = refl;
        }
    by_waking false is = lasting_self x

answered_lasts : (request : Option Request) (x : Client) → Lasting x (answered_by request x)
answered_lasts (Some (ToConfirm r)) x =
    steady_lasts x (answered_by (Some (ToConfirm r)) x)
    (steady_if (is_confirming r x) x (confirmed_with r x) x (confirmed_steady r x) (steady_self x))
answered_lasts (Some (ToAcknowledge r)) x =
    steady_lasts x (answered_by (Some (ToAcknowledge r)) x)
    (steady_if (is_acknowledging r x) x (closed x) x (closed_steady x) (steady_self x))
answered_lasts (Some (ToPing client)) x = awake_lasts client x
answered_lasts (Some (ToSleep duration)) x = asleep_lasts duration x
answered_lasts (Some ToLeave) x = lasting_self x
answered_lasts (Some (ToRegister r)) x = lasting_self x
answered_lasts (Some (ToPublish p)) x = lasting_self x
answered_lasts (Some (ToPublishOnce p)) x = lasting_self x
answered_lasts (Some (ToRelease id)) x =
    steady_lasts x (answered_by (Some (ToRelease id)) x)
    (steady_if (is_active x.phase) x (publish_released id x) x (released_steady id x) (steady_self x))
answered_lasts (Some (ToSubscribe r)) x = lasting_self x
answered_lasts (Some (ToUnsubscribe r)) x = lasting_self x
answered_lasts (Some (ToState statement)) x = lasting_self x
answered_lasts (Some (Untaken message)) x = lasting_self x
answered_lasts None x = lasting_self x

delivered_steady : (c : Cause) (x : Client) → Steady x (delivered_by c x)
delivered_steady (ByPacket p) x =
    record { id = refl; address = refl; phase = refl; filters = refl; wills = refl; duration = refl }
delivered_steady (ByConnect from connect) x = steady_self x
delivered_steady (ByMessage from request) x = steady_self x
delivered_steady (BySource from p) x = steady_self x
delivered_steady (ByBroken from rule) x = steady_self x
delivered_steady ByUp x = steady_self x
delivered_steady ByDown x = steady_self x
delivered_steady ByTake x = steady_self x
delivered_steady (ByReplace policy) x = steady_self x
delivered_steady (ByTick clock) x = steady_self x

pub start_lasts : (a : Around) (x : Client) → Lasting x (start_by a x)
start_lasts a x =
    let y : Client = record x { heard = a.clock } in
    let heard = steady_lasts x y (heard_steady a.clock x) in
    lasting_if (is_author a.cause x) x (answered_by (request_of a.cause) y) (delivered_by a.cause x)
    (lasting_then x y (answered_by (request_of a.cause) y) heard (answered_lasts (request_of a.cause) y))
    (steady_lasts x (delivered_by a.cause x) (delivered_steady a.cause x))

pub start_filters : (a : Around) (x : Client) → (start_by a x).filters ≡ x.filters
start_filters a x = (start_lasts a x).filters

-- ---- the notes of messages

pub announced_steady : (clock : ℕ) (name : List ℕ) (x : Client) → Steady x (announced clock name x)
announced_steady clock name x =
    record { id = refl; address = refl; phase = refl; filters = refl; wills = refl; duration = refl }

settled_steady : (x : Client) → Steady x (record x { buffer = settle x.buffer })
settled_steady x =
    record { id = refl; address = refl; phase = refl; filters = refl; wills = refl; duration = refl }

pub handed_steady : (a : Around) (name : List ℕ) (outcome : Outcome) (x : Client)
    → Steady x (handed a name outcome x)
handed_steady a name Allowed x =
    record { id = refl; address = refl; phase = refl; filters = refl; wills = refl; duration = refl }
handed_steady a name (Denied rule) x =
    steady_if (is_turned_away rule) x x (record x { buffer = settle x.buffer }) (steady_self x)
    (settled_steady x)

pub repeated_steady : (clock : ℕ) (outcome : Outcome) (x : Client) → Steady x (repeated clock outcome x)
repeated_steady clock Allowed x =
    record { id = refl; address = refl; phase = refl; filters = refl; wills = refl; duration = refl }
repeated_steady clock (Denied rule) x = closed_steady x

-- ---- the note of a PUBLISH

pub received_steady : (id : Option ℕ) (outcome : Outcome) (x : Client) → Steady x (received id outcome x)
received_steady (Some id) Allowed x =
    record { id = refl; address = refl; phase = refl; filters = refl; wills = refl; duration = refl }
received_steady (Some id) (Denied rule) x = steady_self x
received_steady None outcome x = steady_self x

pub denied_received : (id : Option ℕ) (rule : Denial) (x : Client) → received id (Denied rule) x ≡ x
denied_received (Some id) rule x = refl
denied_received None rule x = refl

-- ---- behind all notes

pub drained_lasts : (x : Client) → Lasting x (drained x)
drained_lasts x = by_drained (is_drained x) refl
  where
    by_drained : (is_so : Bool) → is_drained x ≡ is_so
        → Lasting x (if is_so then record x { phase = Asleep } else x)
    by_drained true is =
        let settled = awake_settled x.phase
        (left_holds (is_awake x.phase)
        (is_none (slice_get x.buffer.waiting 0) && is_none x.buffer.exchange) is) in
        record {
          id = refl;
          address = refl;
          here = sym settled.here;
          talks = sym settled.talks;
          filters = refl;
          wills = refl;
        }
    by_drained false is = lasting_self x

pub undrained : (x : Client) → is_drained x ≡ false → drained x ≡ x
undrained x is = rw is refl

pub client_filters : (a : Around) (notes : List Decision) (x : Client)
    → (client_by a notes x).filters ≡ (notes_by a notes (start_by a x)).filters
client_filters a notes x = (drained_lasts (notes_by a notes (start_by a x))).filters
