-- Which histories are lawful.
use Rattle.std.specs.Prelude.{ℕ, ◌≡◌, List, [], ◌∷◌, ◌++◌, ◌==◌, not, if◌then◌else◌, Option, Some, None}
use Rattle.std.specs.Str.{bytes_eq}
use Rattle.sng_grants.specs.declared.policy.Policy.{Policy}
use Rattle.sng_fan.specs.declared.held.Held.{Held}
use Rattle.sng_queue.specs.Buffers.{settle}
use Rattle.sng_frames.specs.declared.messages.acks.TopicAck.{TopicAck}
use Rattle.sng_frames.specs.declared.messages.connect.Connect.{Connect}
use Rattle.sng_book.specs.declared.address.Address.{Address}
use Rattle.sng_book.specs.Denials.{is_allowed}
use Rattle.sng_book.specs.declared.decision.Decision.{Decision}
use Rattle.sng_book.specs.declared.decision.Decision.TheVariants as note
use Rattle.sng_book.specs.declared.decision.Who.TheVariants as who
use Rattle.sng_book.specs.declared.outcome.Denial.TheVariants.{Form, Peer}
use Rattle.sng_book.specs.declared.outcome.FormDenial.TheVariants.{NotSupported}
use Rattle.sng_book.specs.declared.outcome.PeerDenial.TheVariants.{BrokerRefused}
use Rattle.sng_book.specs.declared.outcome.Outcome.{Outcome}
use Rattle.sng_book.specs.declared.outcome.Outcome.TheVariants.{Allowed, Denied}
use Rattle.sng_book.specs.declared.event.Event.{Event}
use Rattle.sng_book.specs.declared.out.Out.{Out}
use Rattle.sng_book.specs.declared.row.Row.{Row}
use Rattle.sng_history.specs.Causes.{Request, ToPing, ToLeave, ToSleep, ToRegister, ToPublish, ToSubscribe}
use Rattle.sng_history.specs.Causes.{ToUnsubscribe, ToConfirm, ToAcknowledge, ToState, Untaken}
use Rattle.sng_history.specs.Causes.{ToPublishOnce, ToRelease}
use Rattle.sng_history.specs.Causes.{Cause, cause_of}
use Rattle.sng_history.specs.Causes.{ByConnect, ByMessage, BySource, ByBroken, ByPacket, ByUp, ByDown, ByTake}
use Rattle.sng_history.specs.Causes.{ByReplace, ByTick}
use Rattle.sng_states.specs.States.{is_due_messages, is_active}
use Rattle.sng_history.specs.Clients.{Client, is_here, let_in, closed, confirmed_with, is_confirming}
use Rattle.sng_history.specs.Clients.{is_acknowledging, is_waking, awake, message_due}
use Rattle.sng_history.specs.Notes.{notes_of, exits_in}
use Rattle.sng_history.specs.State.{State, state_of, Leads, present_in, later}
use Rattle.sng_history.specs.Losing.{tick_notes}
use Rattle.sng_history.specs.WillAsks.{statement_notes}
use Rattle.sng_history.specs.Packets.{answer_of, refused_filter}
use Rattle.sng_history.specs.Standing.{holds}
use Rattle.sng_history.specs.Verdicts.{entry, ping_verdict, register_ask, publish_ask, subscribe_ask}
use Rattle.sng_history.specs.Verdicts.{unsubscribe_ask, coverage, publish_once_ask, is_repeat}
use Rattle.sng_history.specs.Answers.{denied_note}
use Rattle.sng_history.specs.Exits.{exits_of, agains_of}
use Rattle.sng_history.specs.Outgoing.{all_gone, refusals, out_of_turn, handed_over, delivered_notes}
use Rattle.sng_history.specs.Whole.{whole_by, notes_in}
use Rattle.sng_history.specs.Links.{outgoing}

-- the outcomes with which publishes have to leave: at a take while up each that waits, and as a connection
-- begins each that is in flight, judged by the policy in force
abbrev pub exits_for : State → Cause → List Outcome
exits_for s ByTake = if s.up then exits_of s.policy (outgoing s.link) else []
exits_for s (ByConnect from connect) = []
exits_for s (ByMessage from request) = []
exits_for s (BySource from p) = []
exits_for s (ByBroken from rule) = []
exits_for s (ByPacket p) = []
exits_for s ByUp = agains_of s.policy s.link.in_flight
exits_for s ByDown = []
exits_for s (ByReplace policy) = []
exits_for s (ByTick clock) = []

-- a denial of a message that makes no note where it is allowed
abbrev pub denial_of : List ℕ → Outcome → List Decision
denial_of id Allowed = []
denial_of id (Denied rule) = note.Frame (who.Client id) (Denied rule) ∷ []

-- a REGACK confirms the id that was announced, and the front is handed over; one with another code is how the
-- front comes out
abbrev pub confirmations : Policy → TopicAck → Client → List Decision
confirmations policy r x =
    if r.code.0 == 0
    then handed_over policy (confirmed_with r x)
    else refusals x.id r.code.0 x.buffer.waiting ++ handed_over policy (record x { buffer = settle x.buffer })

-- to a client that wakes is handed over what waited meanwhile
abbrev pub woken_notes : Policy → Option (List ℕ) → Client → List Decision
woken_notes policy client x = if is_waking client x then handed_over policy (awake x) else []

-- the notes that a message fixes of the client from which it came: its ask with the verdict, that it leaves,
-- and any other message that is denied. A repeat of what was received makes none
abbrev pub fixed_to : State → Request → Client → List Decision
fixed_to s (ToPing client) x = denial_of x.id (ping_verdict client x) ++ woken_notes s.policy client x
fixed_to s (ToSleep duration) x = if is_due_messages x.phase then [] else out_of_turn x.id
fixed_to s ToLeave x = note.Left x.id ∷ all_gone x.id x.buffer.waiting
fixed_to s (ToRegister r) x = register_ask s.policy x r.name ∷ []
fixed_to s (ToPublish p) x = publish_ask s x p ∷ []
fixed_to s (ToPublishOnce p) x = if not (is_repeat p x) then publish_once_ask s x p ∷ [] else []
fixed_to s (ToRelease id) x = if is_active x.phase then [] else out_of_turn x.id
fixed_to s (ToSubscribe r) x = subscribe_ask s x r ∷ []
fixed_to s (ToUnsubscribe r) x = unsubscribe_ask s.policy x r ∷ []
fixed_to s (ToConfirm r) x = if is_confirming r x then confirmations s.policy r x else out_of_turn x.id
fixed_to s (ToAcknowledge r) x =
    if is_acknowledging r x then handed_over s.policy (closed x) else out_of_turn x.id
fixed_to s (ToState statement) x = statement_notes s.policy statement x
fixed_to s (Untaken message) x = denied_note message (who.Client x.id) (Form NotSupported) ∷ []

-- the end of a subscription that is not allowed any more
abbrev pub end_of : List ℕ → List ℕ → Outcome → List Decision
end_of client filter Allowed = []
end_of client filter (Denied rule) = note.End client filter (Denied rule) ∷ []

-- of the filters that stand for a client, in order, those that the policy does not cover end
abbrev pub ends_under : Policy → List ℕ → List Held → List Decision
ends_under policy client [] = []
ends_under policy client (h ∷ held) =
    end_of client h.filter (coverage policy client h.filter) ++ ends_under policy client held

-- the filter that the broker refuses ends for each client for whom it stands
abbrev pub refused_end : Client → Option (List ℕ) → List Decision
refused_end x None = []
refused_end x (Some filter) =
    if holds filter x then note.End x.id filter (Denied (Peer BrokerRefused)) ∷ [] else []

-- what a CONNECT that is accepted makes of what waits for the client: a clean one drops it, and after any
-- other it is handed over
abbrev pub entering_notes : State → Address → Connect → Client → Outcome → List Decision
entering_notes s from connect x Allowed =
    if connect.flags.clean then all_gone x.id x.buffer.waiting
    else handed_over s.policy (let_in s.clock from connect x)
entering_notes s from connect x (Denied rule) = []

-- the notes that the cause fixes of a client, as it is before the row: its CONNECT with the verdict, that
-- another client puts it out, those of its message, the ends of its subscriptions, and how what waits for it
-- comes out
abbrev pub fixed_for : State → Cause → Client → List Decision
fixed_for s (ByConnect from connect) x =
    if bytes_eq connect.client_id x.id
    then note.Connect x.id (entry s connect) ∷ entering_notes s from connect x (entry s connect)
    else (if is_allowed (entry s connect)
    then (if is_here x from then note.Left x.id ∷ all_gone x.id x.buffer.waiting else []) else [])
fixed_for s (ByMessage from request) x = if is_here x from then fixed_to s request x else []
fixed_for s (BySource from p) x = []
fixed_for s (ByBroken from rule) x =
    if is_here x from then note.Frame (who.Client x.id) (Denied rule) ∷ [] else []
fixed_for s (ByPacket p) x =
    refused_end x (refused_filter s.link (answer_of p))
    ++ delivered_notes s.policy (message_due (answer_of p) x) x
fixed_for s ByUp x = []
fixed_for s ByDown x = []
fixed_for s ByTake x = []
fixed_for s (ByReplace policy) x = ends_under policy x.id x.filters
fixed_for s (ByTick clock) x = tick_notes s.policy s.link (later s.clock clock) s.clients x

-- a row with this cause may have these notes of the client
pub record LawfulFor (s : State) (c : Cause) (x : Client) (notes : List Decision) : Type 0 where
  -- they are those that the cause fixes
  pub fixed : notes ≡ fixed_for s c x

abbrev pub EachLawful : State → Cause → List Out → List Client → Type 0
EachLawful s c outs [] = Unit {0}
EachLawful s c outs (x ∷ xs) = LawfulFor s c x (notes_of x.id outs) × EachLawful s c outs xs

-- the row may come where the state is as it is
pub record LawfulBy (s : State) (c : Cause) (outs : List Out) : Type 0 where
  -- the outs are what the cause and the row's notes make them: each frame and packet has its place, and there
  -- is no other
  pub whole : outs ≡ whole_by s c (notes_in outs)
  -- just what has to leave leaves, each publish with its outcome
  pub exits : exits_in outs ≡ exits_for s c
  -- and each client with whom the row deals has the notes that it may have
  pub clients : EachLawful s c outs (present_in c s.clients outs)

abbrev pub LawfulRow : State → Event → List Out → Type 0
LawfulRow s e outs = LawfulBy s (cause_of e) outs

-- each row may come after the rows before it; the history begins with the state `first`
abbrev pub Lawful : State → List Row → Type 0
Lawful first [] = Unit {0}
Lawful first (row ∷ earlier) = Lawful first earlier × LawfulRow (state_of first earlier) row.event row.outs

-- after any lawful history that leads to the state before, the row may come, whoever brought its event, and
-- leads to the state after
abbrev pub Keeps : State → Event → List Out → State → Type 0
Keeps before event outs after =
    (by : ℕ) (first : State) (h : List Row) → Lawful first h → Leads first h before
    → Lawful first (record { by = by; event = event; outs = outs } ∷ h)
    × Leads first (record { by = by; event = event; outs = outs } ∷ h) after
