-- Which MsgIds of each client are open in the state that a lawful history leads to is what its rows show;
-- each is shown once, and no more than may be.
use Rattle.std.proofs.Common.{◌≡◌, ℕ, ◌≤◌, Bool, true, false, List, [], ◌∷◌, ◌++◌, refl, ap, sym, subst, ◌∙◌}
use Rattle.std.proofs.Common.{arith}
use Rattle.std.proofs.Common.{if◌then◌else◌, Ok, Err, length}
use Rattle.std.specs.Prelude.{◌&&◌, ◌||◌, ◌==◌, not, nat_le, Option, Some, None}
use Rattle.std.specs.Str.{bytes_eq}
use Rattle.std.specs.declared.result.Result.{Result}
use Rattle.sng_frames.specs.Reading.{frame_of}
use Rattle.sng_frames.specs.declared.fault.FrameFault.{FrameFault}
use Rattle.sng_frames.specs.declared.qos.FrameQos.{FrameQos}
use Rattle.sng_frames.specs.declared.qos.FrameQos.TheVariants as qos
use Rattle.sng_frames.specs.declared.messages.acks.TopicAck.{TopicAck}
use Rattle.sng_frames.specs.declared.messages.connect.Connect.{Connect}
use Rattle.sng_frames.specs.declared.messages.publish.Publish.{Publish}
use Rattle.sng_frames.specs.declared.frame.SnFrame.{SnFrame}
use Rattle.sng_frames.specs.declared.frame.SnFrame.TheVariants as frame
use Rattle.sng_ids.specs.Ids.{confirmed}
use Rattle.sng_states.specs.States.{is_due_messages}
use Rattle.sng_states.specs.OpenIds.{is_full_for, IsOpenIds}
use Rattle.sng_states.specs.declared.state.ClientState.TheVariants.{Asleep}
use Rattle.sng_states.specs.declared.limits.TheConstants.{MAX_OPEN_IDS}
use Rattle.sng_book.specs.Denials.{is_allowed}
use Rattle.sng_book.specs.declared.address.Address.{Address}
use Rattle.sng_book.specs.declared.decision.Decision.{Decision}
use Rattle.sng_book.specs.declared.decision.Decision.TheVariants as note
use Rattle.sng_book.specs.declared.decision.Who.TheVariants as who
use Rattle.sng_book.specs.declared.outcome.Denial.{Denial}
use Rattle.sng_book.specs.declared.outcome.Outcome.{Outcome}
use Rattle.sng_book.specs.declared.outcome.Outcome.TheVariants.{Allowed, Denied}
use Rattle.sng_book.specs.declared.event.Event.{Event}
use Rattle.sng_book.specs.declared.event.Event.TheVariants.{Datagram, Broker, Up, Down, Take, Replace, Tick}
use Rattle.sng_book.specs.declared.out.Out.{Out}
use Rattle.sng_book.specs.declared.row.Row.{Row}
use Rattle.sng_outbox.specs.declared.origin.Origin.TheVariants as origin
use Rattle.sng_history.specs.Causes.{Cause, Request, ByConnect, ByMessage, datagram_cause, cause_of}
use Rattle.sng_history.specs.Causes.{publish_cause, ToPing, ToLeave, ToSleep, ToRegister, ToPublish}
use Rattle.sng_history.specs.Causes.{ToPublishOnce, ToRelease, ToSubscribe, ToUnsubscribe, ToConfirm}
use Rattle.sng_history.specs.Causes.{ToAcknowledge, ToState, Untaken}
use Rattle.sng_history.specs.Causes.{BySource, ByBroken, ByPacket, ByUp, ByDown, ByTake, ByReplace, ByTick}
use Rattle.sng_history.specs.Causes.{StatesTopic, StatesMessage, UpdatesTopic, UpdatesMessage}
use Rattle.sng_history.specs.Room.{room_in}
use Rattle.sng_text.specs.declared.qos.Qos.TheVariants.{AtLeastOnce}
use Rattle.sng_book.specs.declared.outcome.Place.TheVariants as place
use Rattle.sng_book.specs.declared.outcome.Denial.TheVariants.{Form, Room}
use Rattle.sng_book.specs.declared.outcome.FormDenial.TheVariants.{OutOfTurn}
use Rattle.sng_book.specs.declared.outcome.RoomDenial.TheVariants.{UpstreamDown, Full}
use Rattle.sng_history.specs.Clients.{Client, blank, is_here, is_confirming, is_acknowledging, is_waking}
use Rattle.sng_history.specs.Clients.{closed, confirmed_with, asleep, awake, answered_by, start_by, notes_by}
use Rattle.sng_history.specs.Clients.{is_drained, publish_released, note_by, id_opened_of}
use Rattle.sng_history.specs.Notes.{notes_of}
use Rattle.sng_history.specs.State.{State, opening, around, after, state_of, is_known}
use Rattle.sng_history.specs.Whole.{any_from}
use Rattle.sng_history.specs.Lawful.{Lawful, fixed_for}
use Rattle.sng_history.specs.Verdicts.{is_active, is_repeat, publish_once_ask, publish_once_by}
use Rattle.sng_history.specs.Verdicts.{publish_once_named, may_ask, client_scope, and_then, exit}
use Rattle.sng_history.specs.Verdicts.{once_room, name_in, entry}
use Rattle.sng_history.specs.Steps.{outs_by, outs_of, newcomers_for, client_next, next_of}
use Rattle.sng_history.specs.Good.{Each}
use Rattle.sng_laws.specs.ViewsMessages.{Message, Releases, message_in, message_at, number_opening}
use Rattle.sng_laws.specs.ViewsClients as views
use Rattle.sng_laws.specs.ViewsClients.{phase_of, address_of, own_message, is_among, accepted, accepted_in}
use Rattle.sng_laws.specs.ViewsStanding.{is_clean}
use Rattle.sng_laws.specs.ViewsOpenIds.{is_open, released_by, open_by, open_after, open_of}
use Rattle.sng_laws.specs.LawsState.{ClientShown, OpenShown}
use Rattle.sng_laws.specs.LawsOnce.{EachOnce}
use Rattle.sng_history.proofs.Own.{same_self, same_means, each_map, each_append, each_mapped, each_with}
use Rattle.sng_history.proofs.Own.{OnlyAbout, each_all, absent}
use Rattle.sng_history.proofs.Kept.{client_id, unknown_away}
use Rattle.sng_history.proofs.Spelled.{part_other}
use Rattle.sng_history.proofs.SaysParts.{part_for, drops_for}
use Rattle.sng_history.proofs.Says.{says}
use Rattle.sng_history.proofs.Told.{tells}
use Rattle.sng_history.proofs.Keeping.{exact_by, next_same}
use Rattle.sng_history.proofs.ClientIds.{ids_of}
use Rattle.sng_promise.proofs.Clients.SeenState.{Stands, stands}
use Rattle.sng_promise.proofs.Clients.SeenOrder.{known_among, each_left}
use Rattle.sng_promise.proofs.Clients.LawStrangers.{among_parts}
use Rattle.sng_promise.proofs.Answers.LawPings.{active_same}
use Rattle.sng_promise.proofs.OpenIds.OpenLists.{SameOpen, none_same, same_closed}
use Rattle.sng_promise.proofs.OpenIds.OpenNotes.{open_notes, open_by_notes, alike, quiet_notes, taken_same}
use Rattle.sng_promise.proofs.OpenIds.OpenNotes.{alike_publish, alike_datagram}

-- ---- before any note

-- the message closes nothing of what is open
abbrev pub is_closing : Option Message → Bool
is_closing (Some (Releases number)) = true
is_closing other = false

kept_by : (active : Bool) (m : Option Message) (numbers : List ℕ) → is_closing m ≡ false
    → released_by active m numbers ≡ numbers
kept_by active None numbers is = refl
kept_by active (Some (Releases number)) numbers is = absurd cc
kept_by active (Some _) numbers is = refl

pub kept_if : (active here : Bool) (m : Option Message) (numbers : List ℕ) → is_closing m ≡ false
    → released_by active (if here then m else None) numbers ≡ numbers
kept_if active true m numbers is = kept_by active m numbers is
kept_if active false m numbers is = refl

none_released : (active : Bool) (m : Option Message) → released_by active m [] ≡ []
none_released active None = refl
none_released true (Some (Releases number)) = refl
none_released false (Some (Releases number)) = refl
none_released active (Some _) = refl

either_kept : (b : Bool) (x y z : Client) → y.unreleased ≡ x.unreleased → z.unreleased ≡ x.unreleased
    → (let w : Client = if b then y else z in w).unreleased ≡ x.unreleased
either_kept true x y z one two = one
either_kept false x y z one two = two

confirmed_kept : (r : TopicAck) (x : Client) → (confirmed_with r x).unreleased ≡ x.unreleased
confirmed_kept r x = either_kept (r.code.0 == 0) x (record (closed x) { ids = confirmed r.topic_id x.ids }) x
    refl refl

-- what answers a message of a client leaves what is open, but a PUBREL
abbrev is_releasing : Request → Bool
is_releasing (ToRelease number) = true
is_releasing other = false

answered_kept : (request : Request) (x : Client) → is_releasing request ≡ false
    → (answered_by (Some request) x).unreleased ≡ x.unreleased
answered_kept (ToConfirm r) x is =
    either_kept (is_confirming r x) x (confirmed_with r x) x (confirmed_kept r x) refl
answered_kept (ToAcknowledge r) x is = either_kept (is_acknowledging r x) x (closed x) x refl refl
answered_kept (ToPing client) x is = either_kept (is_waking client x) x (awake x) x refl refl
answered_kept (ToSleep duration) x is =
    either_kept (is_due_messages x.phase) x (asleep duration x) x refl refl
answered_kept ToLeave x is = refl
answered_kept (ToRegister r) x is = refl
answered_kept (ToPublish p) x is = refl
answered_kept (ToPublishOnce p) x is = refl
answered_kept (ToRelease number) x is = absurd cc
answered_kept (ToSubscribe r) x is = refl
answered_kept (ToUnsubscribe r) x is = refl
answered_kept (ToState statement) x is = refl
answered_kept (Untaken message) x is = refl

-- the client as the notes begin, and what the rows show of it then
abbrev Starts : State → Cause → Client → Bool → Option Message → Type 0
Starts s c x here m =
    (numbers : List ℕ) → SameOpen x.unreleased numbers
    → SameOpen (start_by (around s c) x).unreleased
    (released_by (views.is_active (Some x.phase)) (if here then m else None) numbers)

message_starts : (s : State) (from : Address) (request : Request) (x : Client) (m : Option Message)
    → is_releasing request ≡ false → is_closing m ≡ false
    → Starts s (ByMessage from request) x (is_here x from) m
message_starts s from request x m keeps other numbers is =
    let y : Client = record x { heard = s.clock } in
    rw (either_kept (is_here x from) x (answered_by (Some request) y) x (answered_kept request y keeps) refl)
    (subst (SameOpen x.unreleased)
    (sym (kept_if (views.is_active (Some x.phase)) (is_here x from) m numbers other)) is)

release_starts : (s : State) (from : Address) (number : ℕ) (x : Client) (here active : Bool)
    → (numbers : List ℕ) → SameOpen x.unreleased numbers
    → SameOpen
    (let y : Client = record x { heard = s.clock } in
    let z : Client = if here then (if active then publish_released number y else y) else x in z).unreleased
    (released_by active (if here then Some (Releases number) else None) numbers)
release_starts s from number x true true numbers is = same_closed number x.unreleased numbers is
release_starts s from number x true false numbers is = is
release_starts s from number x false active numbers is = is

other_starts : (s : State) (c : Cause) (x : Client) (here : Bool) (m : Option Message)
    → (start_by (around s c) x).unreleased ≡ x.unreleased → is_closing m ≡ false → Starts s c x here m
other_starts s c x here m keeps other numbers is =
    rw keeps (subst (SameOpen x.unreleased)
    (sym (kept_if (views.is_active (Some x.phase)) here m numbers other)) is)

publish_starts : (s : State) (from : Address) (p : Publish) (q : FrameQos) (x : Client) (m : Option Message)
    → is_closing m ≡ false → Starts s (publish_cause from p q) x (is_here x from) m
publish_starts s from p qos.WithoutSession x m other =
    other_starts s (publish_cause from p qos.WithoutSession) x (is_here x from) m refl other
publish_starts s from p qos.AtMostOnce x m other = message_starts s from (ToPublish p) x m refl other
publish_starts s from p qos.AtLeastOnce x m other = message_starts s from (ToPublish p) x m refl other
publish_starts s from p qos.ExactlyOnce x m other = message_starts s from (ToPublishOnce p) x m refl other

datagram_starts : (s : State) (from : Address) (read : Result SnFrame FrameFault) (x : Client)
    → Starts s (datagram_cause from read) x (is_here x from) (message_in read)
datagram_starts s from (Ok (frame.Connect connect)) x =
    other_starts s (datagram_cause from (Ok (frame.Connect connect))) x (is_here x from)
    (message_in (Ok (frame.Connect connect)))
    (either_kept (is_here x from) x (record x { heard = s.clock }) x refl refl) refl
datagram_starts s from (Ok (frame.Publish p)) x =
    publish_starts s from p p.flags.qos x (message_in (Ok (frame.Publish p))) refl
datagram_starts s from (Ok (frame.PublishRelease number)) x =
    λ numbers is. rw (sym (active_same x.phase))
    (release_starts s from number x (is_here x from) (is_active x.phase) numbers is)
datagram_starts s from (Ok (frame.Register r)) x =
    message_starts s from (ToRegister r) x (message_in (Ok (frame.Register r))) refl refl
datagram_starts s from (Ok (frame.Subscribe r)) x =
    message_starts s from (ToSubscribe r) x (message_in (Ok (frame.Subscribe r))) refl refl
datagram_starts s from (Ok (frame.Unsubscribe r)) x =
    message_starts s from (ToUnsubscribe r) x (message_in (Ok (frame.Unsubscribe r))) refl refl
datagram_starts s from (Ok (frame.PingRequest client)) x =
    message_starts s from (ToPing client) x (message_in (Ok (frame.PingRequest client))) refl refl
datagram_starts s from (Ok (frame.Disconnect None)) x =
    message_starts s from ToLeave x (message_in (Ok (frame.Disconnect None))) refl refl
datagram_starts s from (Ok (frame.Disconnect (Some duration))) x =
    message_starts s from (ToSleep duration) x (message_in (Ok (frame.Disconnect (Some duration)))) refl refl
datagram_starts s from (Ok (frame.RegisterAck r)) x =
    message_starts s from (ToConfirm r) x (message_in (Ok (frame.RegisterAck r))) refl refl
datagram_starts s from (Ok (frame.PublishAck r)) x =
    message_starts s from (ToAcknowledge r) x (message_in (Ok (frame.PublishAck r))) refl refl
datagram_starts s from (Ok (frame.WillTopic topic)) x =
    message_starts s from (ToState (StatesTopic topic)) x (message_in (Ok (frame.WillTopic topic))) refl refl
datagram_starts s from (Ok (frame.WillMessage message)) x =
    message_starts s from (ToState (StatesMessage message)) x (message_in (Ok (frame.WillMessage message)))
    refl refl
datagram_starts s from (Ok (frame.WillTopicUpdate topic)) x =
    message_starts s from (ToState (UpdatesTopic topic)) x (message_in (Ok (frame.WillTopicUpdate topic)))
    refl refl
datagram_starts s from (Ok (frame.WillMessageUpdate message)) x =
    message_starts s from (ToState (UpdatesMessage message)) x
    (message_in (Ok (frame.WillMessageUpdate message))) refl refl
datagram_starts s from (Ok message) x =
    message_starts s from (Untaken message) x (message_in (Ok message)) refl refl
datagram_starts s from (Err broke) x =
    other_starts s (datagram_cause from (Err broke)) x (is_here x from) (message_in (Err broke)) refl refl

-- ---- the notes

-- a PUBLISH at QoS 2 is allowed only where there is room for its MsgId
not_full : (may : Outcome) (up full : Bool) (down fills : Denial) (last : Outcome)
    → and_then may (if up then (if full then Denied fills else last) else Denied down) ≡ Allowed
    → full ≡ false
not_full (Denied rule) up full down fills last is = absurd cc
not_full Allowed false full down fills last is = absurd cc
not_full Allowed true true down fills last is = absurd cc
not_full Allowed true false down fills last is = refl

in_turn_first : (active : Bool) (rule : Denial) (more : Outcome)
    → and_then (if active then Allowed else Denied rule) more ≡ Allowed → active ≡ true
in_turn_first true rule more is = refl
in_turn_first false rule more is = absurd cc

-- what its note may be
record OnceCases (P : Decision → Type 0) (s : State) (x : Client) (p : Publish) : Type 0 where
  allowed : (name : List ℕ) → is_active x.phase ≡ true → is_full_for p.msg_id x.unreleased ≡ false
      → P (note.Publish (who.Client x.id) (Some name) Allowed)
  denied : (name : Option (List ℕ)) (rule : Denial) → P (note.Publish (who.Client x.id) name (Denied rule))

room_cases : (P : Decision → Type 0) (s : State) (x : Client) (p : Publish) (name : List ℕ) (o : Outcome)
    → and_then (exit s.policy (origin.Client x.id) name) (once_room s x p) ≡ o
    → is_active x.phase ≡ true → OnceCases P s x p
    → P (note.Publish (who.Client x.id) (Some name) o)
room_cases P s x p name Allowed is active cases =
    cases.allowed name active
    (not_full (exit s.policy (origin.Client x.id) name) s.up (is_full_for p.msg_id x.unreleased)
    (Room UpstreamDown) (Room (Full place.Exchanges)) (room_in s.policy.limits s.link AtLeastOnce) is)
room_cases P s x p name (Denied rule) is active cases = cases.denied (Some name) rule

named_cases : (P : Decision → Type 0) (s : State) (x : Client) (p : Publish)
    (named : Result (List ℕ) Denial)
    → is_active x.phase ≡ true → OnceCases P s x p → P (publish_once_named s x p named)
named_cases P s x p (Ok name) active cases =
    room_cases P s x p name (and_then (exit s.policy (origin.Client x.id) name) (once_room s x p)) refl active
    cases
named_cases P s x p (Err rule) active cases = cases.denied None rule

may_cases : (P : Decision → Type 0) (s : State) (x : Client) (p : Publish) (may : Outcome)
    → may_ask s.policy x ≡ may → OnceCases P s x p → P (publish_once_by s x p may)
may_cases P s x p Allowed is cases =
    named_cases P s x p (name_in s.policy (Some x.ids) p.flags.id_type p.topic_id)
    (in_turn_first (is_active x.phase) (Form OutOfTurn) (client_scope s.policy x.id) is) cases
may_cases P s x p (Denied rule) is cases = cases.denied None rule

once_cases : (P : Decision → Type 0) (s : State) (x : Client) (p : Publish) → OnceCases P s x p
    → P (publish_once_ask s x p)
once_cases P s x p cases = may_cases P s x p (may_ask s.policy x) refl cases

-- it opens its MsgId in both where it is allowed
has_room : (there full : Bool) → there ≡ false → (not there && full) ≡ false → full ≡ false
has_room true full absent is = absurd (let e = absent in cc)
has_room false full absent is = is

taken_next : (s : State) (from : Address) (p : Publish) (x : Client) (m : Option Message) (numbers : List ℕ)
    → number_opening m ≡ Some p.msg_id → is_repeat p x ≡ false → SameOpen x.unreleased numbers
    → let a = around s (ByMessage from (ToPublishOnce p)) in
    let said = publish_once_ask s x p in
    SameOpen (note_by a said (record x { heard = s.clock })).unreleased (open_by m x.id said numbers)
taken_next s from p x m numbers opens first is =
    let a = around s (ByMessage from (ToPublishOnce p)) in
    let y : Client = record x { heard = s.clock } in
    once_cases (λ said. SameOpen (note_by a said y).unreleased (open_by m x.id said numbers)) s x p
    (record {
      allowed = λ name active room.
          let absent : is_open p.msg_id x.unreleased ≡ false = (rw active at first) in
          let full = has_room (is_open p.msg_id x.unreleased) (nat_le MAX_OPEN_IDS (length x.unreleased))
          absent room in
          rw (same_self x.id, opens) (taken_same p.msg_id x.unreleased numbers absent full is);
      denied = λ name rule. rw (same_self x.id) is;
    })

once_next : (s : State) (from : Address) (p : Publish) (x : Client) (m : Option Message) (numbers : List ℕ)
    (here again : Bool) → is_repeat p x ≡ again
    → number_opening m ≡ Some p.msg_id → SameOpen x.unreleased numbers
    → let a = around s (ByMessage from (ToPublishOnce p)) in
    let notes : List Decision = if here then (if not again then publish_once_ask s x p ∷ [] else []) else [] in
    let y : Client = if here then record x { heard = s.clock } else x in
    SameOpen (notes_by a notes y).unreleased (open_notes m x.id notes numbers)
once_next s from p x m numbers true true so opens is = is
once_next s from p x m numbers true false so opens is = taken_next s from p x m numbers opens so is
once_next s from p x m numbers false again so opens is = is

-- whatever the event
abbrev Notes : State → Cause → Client → Option Message → List ℕ → Type 0
Notes s c x m numbers =
    SameOpen (notes_by (around s c) (fixed_for s c x) (start_by (around s c) x)).unreleased
    (open_notes m x.id (fixed_for s c x) numbers)

quiet_next : (s : State) (e : Event) (x : Client) (numbers : List ℕ)
    → number_opening (message_at e) ≡ None
    → SameOpen (start_by (around s (cause_of e)) x).unreleased numbers
    → Notes s (cause_of e) x (message_at e) numbers
quiet_next s e x numbers none is =
    let c = cause_of e in
    let a = around s c in
    quiet_notes a (message_at e) x.id (fixed_for s c x) (start_by a x) numbers (alike e) none (tells s c x) is

-- ---- any event

-- what the rows show before the notes, of a datagram
abbrev Read : Client → Address → Result SnFrame FrameFault → List ℕ → List ℕ
Read x from read numbers =
    released_by (views.is_active (Some x.phase)) (if is_here x from then message_in read else None) numbers

quiet_publish : (s : State) (from : Address) (p : Publish) (q : FrameQos) (x : Client) (numbers : List ℕ)
    → p.flags.qos ≡ q → number_opening (message_in (Ok (frame.Publish p))) ≡ None
    → SameOpen x.unreleased numbers
    → Notes s (publish_cause from p q) x (message_in (Ok (frame.Publish p)))
    (Read x from (Ok (frame.Publish p)) numbers)
quiet_publish s from p q x numbers is none same =
    let c = publish_cause from p q in
    let a = around s c in
    let m = message_in (Ok (frame.Publish p)) in
    quiet_notes a m x.id (fixed_for s c x) (start_by a x) (Read x from (Ok (frame.Publish p)) numbers)
    (alike_publish from p q is) none (tells s c x) (publish_starts s from p q x m refl numbers same)

quiet_read : (s : State) (from : Address) (read : Result SnFrame FrameFault) (x : Client) (numbers : List ℕ)
    → number_opening (message_in read) ≡ None → SameOpen x.unreleased numbers
    → Notes s (datagram_cause from read) x (message_in read) (Read x from read numbers)
quiet_read s from read x numbers none same =
    let c = datagram_cause from read in
    let a = around s c in
    quiet_notes a (message_in read) x.id (fixed_for s c x) (start_by a x) (Read x from read numbers)
    (alike_datagram from read) none (tells s c x) (datagram_starts s from read x numbers same)

publish_next : (s : State) (from : Address) (p : Publish) (q : FrameQos) (x : Client) (numbers : List ℕ)
    → p.flags.qos ≡ q → SameOpen x.unreleased numbers
    → Notes s (publish_cause from p q) x (message_in (Ok (frame.Publish p)))
    (Read x from (Ok (frame.Publish p)) numbers)
publish_next s from p qos.ExactlyOnce x numbers is same =
    let m = message_in (Ok (frame.Publish p)) in
    let opens : number_opening m ≡ Some p.msg_id = rw is refl in
    subst (Notes s (ByMessage from (ToPublishOnce p)) x m)
    (sym (kept_if (views.is_active (Some x.phase)) (is_here x from) m numbers refl))
    (once_next s from p x m numbers (is_here x from) (is_repeat p x) refl opens same)
publish_next s from p qos.AtMostOnce x numbers is same = quiet_publish s from p qos.AtMostOnce x numbers is
    (rw is refl) same
publish_next s from p qos.AtLeastOnce x numbers is same = quiet_publish s from p qos.AtLeastOnce x numbers is
    (rw is refl) same
publish_next s from p qos.WithoutSession x numbers is same =
    quiet_publish s from p qos.WithoutSession x numbers is (rw is refl) same

read_next : (s : State) (from : Address) (read : Result SnFrame FrameFault) (x : Client) (numbers : List ℕ)
    → SameOpen x.unreleased numbers
    → Notes s (datagram_cause from read) x (message_in read) (Read x from read numbers)
read_next s from (Ok (frame.Publish p)) x numbers same = publish_next s from p p.flags.qos x numbers refl same
read_next s from (Ok (frame.Disconnect None)) x numbers same =
    quiet_read s from (Ok (frame.Disconnect None)) x numbers refl same
read_next s from (Ok (frame.Disconnect (Some duration))) x numbers same =
    quiet_read s from (Ok (frame.Disconnect (Some duration))) x numbers refl same
read_next s from (Ok message) x numbers same = quiet_read s from (Ok message) x numbers refl same
read_next s from (Err broke) x numbers same = quiet_read s from (Err broke) x numbers refl same

event_next : (h : List Row) (s : State) (e : Event) (x : Client) (numbers : List ℕ) → ClientShown h x
    → SameOpen x.unreleased numbers
    → Notes s (cause_of e) x (message_at e)
    (released_by (views.is_active (phase_of x.id h)) (own_message (phase_of x.id h) (address_of x.id h) e)
    numbers)
event_next h s (Datagram from datagram) x numbers shown same =
    rw (shown.phase, shown.address) (read_next s from (frame_of datagram) x numbers same)
event_next h s (Broker packet) x numbers shown same = quiet_next s (Broker packet) x numbers refl same
event_next h s Up x numbers shown same = quiet_next s Up x numbers refl same
event_next h s Down x numbers shown same = quiet_next s Down x numbers refl same
event_next h s Take x numbers shown same = quiet_next s Take x numbers refl same
event_next h s (Replace policy) x numbers shown same = quiet_next s (Replace policy) x numbers refl same
event_next h s (Tick clock) x numbers shown same = quiet_next s (Tick clock) x numbers refl same

-- ---- each client

abbrev pub OpenKept : List Row → Client → Type 0
OpenKept h x = SameOpen x.unreleased (open_of x.id h)

drained_kept : (x : Client) (b : Bool)
    → (let y : Client = if b then record x { phase = Asleep } else x in y).unreleased ≡ x.unreleased
drained_kept x true = refl
drained_kept x false = refl

-- the client after the row, by its own notes
after_notes : (by : ℕ) (h : List Row) (s : State) (e : Event) (outs : List Out) (x : Client)
    → notes_of x.id outs ≡ fixed_for s (cause_of e) x
    → Notes s (cause_of e) x (message_at e)
    (released_by (views.is_active (phase_of x.id h)) (own_message (phase_of x.id h) (address_of x.id h) e)
    (open_of x.id h))
    → OpenKept (record { by = by; event = e; outs = outs } ∷ h) (client_next s (cause_of e) x)
after_notes by h s e outs x own same =
    let c = cause_of e in
    let a = around s c in
    let m = message_at e in
    let began = released_by (views.is_active (phase_of x.id h))
    (own_message (phase_of x.id h) (address_of x.id h) e) (open_of x.id h) in
    let y = notes_by a (fixed_for s c x) (start_by a x) in
    let rows = record { by = by; event = e; outs = outs } ∷ h in
    subst (λ id. SameOpen (client_next s c x).unreleased (open_of id rows))
    (sym (client_id a (fixed_for s c x) x))
    (rw (drained_kept y (is_drained y), open_by_notes m x.id outs began, own) same)

known_next : (by : ℕ) (h : List Row) (s : State) (e : Event) (outs : List Out) (x : Client)
    → ClientShown h x → notes_of x.id outs ≡ fixed_for s (cause_of e) x → OpenKept h x
    → OpenKept (record { by = by; event = e; outs = outs } ∷ h) (client_next s (cause_of e) x)
known_next by h s e outs x shown own same =
    after_notes by h s e outs x own (event_next h s e x (open_of x.id h) shown same)

-- one that is accepted for the first time
new_next : (by : ℕ) (h : List Row) (s : State) (e : Event) (outs : List Out) (x : Client)
    → number_opening (message_at e) ≡ None
    → (start_by (around s (cause_of e)) x).unreleased ≡ [] → open_of x.id h ≡ []
    → notes_of x.id outs ≡ fixed_for s (cause_of e) x
    → OpenKept (record { by = by; event = e; outs = outs } ∷ h) (client_next s (cause_of e) x)
new_next by h s e outs x quiet starts none own =
    let active = views.is_active (phase_of x.id h) in
    let spoken = own_message (phase_of x.id h) (address_of x.id h) e in
    after_notes by h s e outs x own
    (quiet_next s e x (released_by active spoken (open_of x.id h)) quiet
    (rw (starts, none, none_released active spoken) none_same))

connect_starts : (s : State) (c : Cause) (from : Address) (connect : Connect) (id : List ℕ)
    → c ≡ ByConnect from connect
    → (start_by (around s c) (blank id)).unreleased ≡ []
connect_starts s c from connect id is =
    rw is (either_kept (is_here (blank id) from) (blank id) (record (blank id) { heard = s.clock }) (blank id)
    refl refl)

new_if : (by : ℕ) (h : List Row) (s : State) (e : Event) (outs : List Out) (from : Address)
    (connect : Connect) (allowed known : Bool)
    → cause_of e ≡ ByConnect from connect
    → is_known connect.client_id s.clients ≡ known
    → ((id : List ℕ) → is_known id s.clients ≡ false → open_of id h ≡ [])
    → let xs : List Client = if allowed && not known then blank connect.client_id ∷ [] else [] in
    Each (λ x. notes_of x.id outs ≡ fixed_for s (cause_of e) x) xs
    → Each (λ x. OpenKept (record { by = by; event = e; outs = outs } ∷ h) (client_next s (cause_of e) x)) xs
new_if by h s e outs from connect true false is unknown none own = (
  new_next by h s e outs (blank connect.client_id) (sym (alike e).opens ∙ ap id_opened_of is)
      (connect_starts s (cause_of e) from connect connect.client_id is)
      (none connect.client_id unknown) own.0,
  tt,
)
new_if by h s e outs from connect true true is unknown none own = tt
new_if by h s e outs from connect false known is unknown none own = tt

new_each : (by : ℕ) (h : List Row) (s : State) (e : Event) (outs : List Out) (c : Cause) → cause_of e ≡ c
    → ((id : List ℕ) → is_known id s.clients ≡ false → open_of id h ≡ [])
    → Each (λ x. notes_of x.id outs ≡ fixed_for s (cause_of e) x) (newcomers_for s c)
    → Each (λ x. OpenKept (record { by = by; event = e; outs = outs } ∷ h) (client_next s (cause_of e) x))
    (newcomers_for s c)
new_each by h s e outs (ByConnect from connect) is none own =
    new_if by h s e outs from connect (is_allowed (entry s connect)) (is_known connect.client_id s.clients) is
    refl none own
new_each by h s e outs (ByMessage from request) is none own = tt
new_each by h s e outs (BySource from p) is none own = tt
new_each by h s e outs (ByBroken from rule) is none own = tt
new_each by h s e outs (ByPacket p) is none own = tt
new_each by h s e outs ByUp is none own = tt
new_each by h s e outs ByDown is none own = tt
new_each by h s e outs ByTake is none own = tt
new_each by h s e outs (ByReplace policy) is none own = tt
new_each by h s e outs (ByTick clock) is none own = tt

-- ---- nothing is open for a client that was never accepted

if_none : (b : Bool) → (if b then (let none : List ℕ = [] in none) else []) ≡ []
if_none true = refl
if_none false = refl

none_by : (m : Option Message) (id : List ℕ) (said : Decision) → number_opening m ≡ None
    → open_by m id said [] ≡ []
none_by m id (note.Connect client outcome) quiet =
    if_none (bytes_eq id client && (is_allowed outcome && is_clean m))
none_by m id (note.Publish whom name outcome) quiet =
    rw quiet (if_none (views.speaks_of id whom && is_allowed outcome))
none_by m id _ quiet = refl

none_notes : (m : Option Message) (id : List ℕ) (notes : List Decision) → number_opening m ≡ None
    → open_notes m id notes [] ≡ []
none_notes m id [] quiet = refl
none_notes m id (said ∷ notes) quiet =
    ap (open_notes m id notes) (none_by m id said quiet) ∙ none_notes m id notes quiet

-- a PUBLISH makes no note of a client that is not known
only_about : (s : State) (c : Cause) (x : Client) → OnlyAbout (part_for s c (drops_for s c)) x
only_about s c x id other = part_other (around s c) (drops_for s c) (fixed_for s c x) x id other (tells s c x)

unknown_notes : (s : State) (from : Address) (p : Publish) (id : List ℕ) (b : Bool)
    → any_from (ByMessage from (ToPublishOnce p)) s.clients ≡ b → is_known id s.clients ≡ false
    → notes_of id (outs_by s (ByMessage from (ToPublishOnce p))) ≡ []
unknown_notes s from p id true is unknown =
    let c = ByMessage from (ToPublishOnce p) in
    rw is
    (absent (part_for s c (drops_for s c)) id s.clients
    (each_all (OnlyAbout (part_for s c (drops_for s c))) s.clients (only_about s c))
    (unknown_away id s.clients unknown))
unknown_notes s from p id false is unknown = rw is refl

unknown_publish : (s : State) (from : Address) (p : Publish) (q : FrameQos) (id : List ℕ) → p.flags.qos ≡ q
    → is_known id s.clients ≡ false
    → open_notes (message_in (Ok (frame.Publish p))) id (notes_of id (outs_by s (publish_cause from p q))) []
    ≡ []
unknown_publish s from p qos.ExactlyOnce id is unknown =
    rw (unknown_notes s from p id (any_from (ByMessage from (ToPublishOnce p)) s.clients) refl unknown) refl
unknown_publish s from p qos.AtMostOnce id is unknown =
    none_notes (message_in (Ok (frame.Publish p))) id
    (notes_of id (outs_by s (publish_cause from p qos.AtMostOnce))) (rw is refl)
unknown_publish s from p qos.AtLeastOnce id is unknown =
    none_notes (message_in (Ok (frame.Publish p))) id
    (notes_of id (outs_by s (publish_cause from p qos.AtLeastOnce))) (rw is refl)
unknown_publish s from p qos.WithoutSession id is unknown =
    none_notes (message_in (Ok (frame.Publish p))) id
    (notes_of id (outs_by s (publish_cause from p qos.WithoutSession))) (rw is refl)

unknown_read : (s : State) (from : Address) (read : Result SnFrame FrameFault) (id : List ℕ)
    → is_known id s.clients ≡ false
    → open_notes (message_in read) id (notes_of id (outs_by s (datagram_cause from read))) [] ≡ []
unknown_read s from (Ok (frame.Publish p)) id unknown = unknown_publish s from p p.flags.qos id refl unknown
unknown_read s from (Ok (frame.Disconnect None)) id unknown =
    none_notes (message_in (Ok (frame.Disconnect None))) id
    (notes_of id (outs_by s (datagram_cause from (Ok (frame.Disconnect None))))) refl
unknown_read s from (Ok (frame.Disconnect (Some duration))) id unknown =
    none_notes (message_in (Ok (frame.Disconnect (Some duration)))) id
    (notes_of id (outs_by s (datagram_cause from (Ok (frame.Disconnect (Some duration)))))) refl
unknown_read s from (Ok message) id unknown =
    none_notes (message_in (Ok message)) id (notes_of id (outs_by s (datagram_cause from (Ok message)))) refl
unknown_read s from (Err broke) id unknown =
    none_notes None id (notes_of id (outs_by s (datagram_cause from (Err broke)))) refl

unknown_event : (s : State) (e : Event) (id : List ℕ) → is_known id s.clients ≡ false
    → open_notes (message_at e) id (notes_of id (outs_of s e)) [] ≡ []
unknown_event s (Datagram from datagram) id unknown = unknown_read s from (frame_of datagram) id unknown
unknown_event s (Broker packet) id unknown = none_notes None id (notes_of id (outs_of s (Broker packet))) refl
unknown_event s Up id unknown = none_notes None id (notes_of id (outs_of s Up)) refl
unknown_event s Down id unknown = none_notes None id (notes_of id (outs_of s Down)) refl
unknown_event s Take id unknown = none_notes None id (notes_of id (outs_of s Take)) refl
unknown_event s (Replace policy) id unknown = none_notes None id (notes_of id (outs_of s (Replace policy))) refl
unknown_event s (Tick clock) id unknown = none_notes None id (notes_of id (outs_of s (Tick clock))) refl

unknown_row : (by : ℕ) (h : List Row) (s : State) (e : Event) (id : List ℕ) → is_known id s.clients ≡ false
    → open_of id h ≡ []
    → open_of id (record { by = by; event = e; outs = outs_of s e } ∷ h) ≡ []
unknown_row by h s e id unknown none =
    let active = views.is_active (phase_of id h) in
    let spoken = own_message (phase_of id h) (address_of id h) e in
    ap (open_after (message_at e) id (outs_of s e))
    (ap (released_by active spoken) none ∙ none_released active spoken)
    ∙ (open_by_notes (message_at e) id (outs_of s e) [] ∙ unknown_event s e id unknown)

-- ---- every lawful history

record Kept (h : List Row) (s : State) : Type 0 where
  each : Each (OpenKept h) s.clients
  strangers : (id : List ℕ) → is_among id (accepted h) ≡ false → open_of id h ≡ []

each_right : (P : Client → Type 0) (xs ys : List Client) → Each P (xs ++ ys) → Each P ys
each_right P [] ys all = all
each_right P (x ∷ xs) ys all = each_right P xs ys all.1

kept_row : (by : ℕ) (h : List Row) (s : State) (e : Event) → Stands h s → Kept h s
    → Kept (record { by = by; event = e; outs = outs_of s e } ∷ h) (next_of s e)
kept_row by h s e st kept =
    let c = cause_of e in
    let outs = outs_of s e in
    let rows = record { by = by; event = e; outs = outs } ∷ h in
    let Own : Client → Type 0 = λ x. notes_of x.id outs ≡ fixed_for s c x in
    let own = (says s c st.good.apart).own in
    let away : (id : List ℕ) → is_among id (accepted h) ≡ false → is_known id s.clients ≡ false =
    λ id before. sym (known_among id s.clients) ∙ (ap (is_among id) st.shown.order ∙ before) in
    let none : (id : List ℕ) → is_known id s.clients ≡ false → open_of id h ≡ [] =
    λ id unknown. kept.strangers id
    (ap (is_among id) (sym st.shown.order) ∙ (known_among id s.clients ∙ unknown)) in
    record {
      each = each_mapped (OpenKept rows) (client_next s c) (s.clients ++ newcomers_for s c)
          (each_append (λ x. OpenKept rows (client_next s c x)) s.clients (newcomers_for s c)
          (each_with (λ x. ClientShown h x × Own x) (OpenKept h) (λ x. OpenKept rows (client_next s c x))
          s.clients
          (λ x both was. known_next by h s e outs x both.0 both.1 was)
          (each_with (ClientShown h) Own (λ x. ClientShown h x × Own x) s.clients
          (λ x one two. (one, two)) st.shown.clients
          (each_left Own s.clients (newcomers_for s c) own)) kept.each)
          (new_each by h s e outs c refl none (each_right Own s.clients (newcomers_for s c) own)));
      strangers = λ id after.
          let before = (among_parts id (accepted h) (accepted_in (accepted h) e outs) after).0 in
          unknown_row by h s e id (away id before) (kept.strangers id before);
    }

kept_after : (by : ℕ) (h : List Row) (s : State) (e : Event) (outs : List Out) → outs ≡ outs_of s e
    → Stands h s → Kept h s
    → Kept (record { by = by; event = e; outs = outs } ∷ h) (after s (cause_of e) outs)
kept_after by h s e outs is st kept =
    subst (λ o. Kept (record { by = by; event = e; outs = o } ∷ h) (after s (cause_of e) o)) (sym is)
    (subst (Kept (record { by = by; event = e; outs = outs_of s e } ∷ h))
    (sym (next_same s (cause_of e) st.good))
    (kept_row by h s e st kept))

kept : (h : List Row) → Lawful opening h → Kept h (state_of opening h)
kept [] l = record { each = tt; strangers = λ id none. refl }
kept (row ∷ h) l =
    let s = state_of opening h in
    kept_after row.by h s row.event row.outs (exact_by s (cause_of row.event) row.outs l.1) (stands h l.0)
    (kept h l.0)

-- what is kept as open is what the rows show
pub open_shown : (h : List Row) → Lawful opening h → Each (OpenShown h) (state_of opening h).clients
open_shown h l =
    each_map (OpenKept h) (OpenShown h) (state_of opening h).clients
    (λ x is. record { same = is.same; many = is.many }) (kept h l).each

-- ---- and so of any client

-- each MsgId is shown once, and no more than may be
pub record FewOnce (numbers : List ℕ) : Type 0 where
  pub once : EachOnce numbers
  pub few : length numbers ≤ MAX_OPEN_IDS

few_among : (h : List Row) (id : List ℕ) (xs : List Client) (b : Bool) → is_among id (ids_of xs) ≡ b
    → (b ≡ false → open_of id h ≡ []) → Each (OpenKept h) xs → Each (λ x. IsOpenIds x.unreleased) xs
    → FewOnce (open_of id h)
few_among h id xs false is none kept few =
    rw (none refl) (record { once = tt; few = omega arith })
few_among h id [] true is none kept few = absurd cc
few_among h id (x ∷ xs) true is none kept few =
    at (bytes_eq id x.id) refl is
    (λ later. few_among h id xs true later (λ bad. absurd cc) kept.1 few.1)
  where
    at : (same : Bool) → bytes_eq id x.id ≡ same → (same || is_among id (ids_of xs)) ≡ true
        → (is_among id (ids_of xs) ≡ true → FewOnce (open_of id h)) → FewOnce (open_of id h)
    at true same is rest =
        let e : id ≡ x.id = same_means id x.id same in
        let most : length (open_of x.id h) ≤ MAX_OPEN_IDS = (rw (← kept.0.many) few.0.few) in
        rw e (record { once = kept.0.once; few = most })
    at false same is rest = rest is

pub few_once : (h : List Row) → Lawful opening h → (id : List ℕ) → FewOnce (open_of id h)
few_once h l id =
    let s = state_of opening h in
    let st = stands h l in
    let all = kept h l in
    few_among h id s.clients (is_among id (ids_of s.clients)) refl
    (λ none. all.strangers id (subst (λ ids. is_among id ids ≡ false) st.shown.order none))
    all.each st.good.few_open
