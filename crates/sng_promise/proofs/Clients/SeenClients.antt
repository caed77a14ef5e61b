-- One client as a datagram comes: what is kept of it moves as what the rows show of it.
use Rattle.std.proofs.Common.{◌≡◌, ℕ, Bool, true, false, List, [], ◌∷◌, refl, if◌then◌else◌}
use Rattle.std.specs.Prelude.{◌&&◌, ◌||◌, Option, Some, None}
use Rattle.sng_states.specs.declared.state.ClientState.{ClientState}
use Rattle.sng_states.specs.declared.state.ClientState.TheVariants.{Active}
use Rattle.sng_frames.specs.declared.messages.subscribe.TopicRequest.{TopicRequest}
use Rattle.sng_frames.specs.declared.frame.SnFrame.{SnFrame}
use Rattle.sng_frames.specs.declared.frame.SnFrame.TheVariants as frame
use Rattle.sng_book.specs.declared.address.Address.{Address}
use Rattle.sng_book.specs.declared.decision.Decision.{Decision}
use Rattle.sng_book.specs.declared.decision.Decision.TheVariants as note
use Rattle.sng_book.specs.declared.decision.Who.{Who}
use Rattle.sng_book.specs.declared.decision.Who.TheVariants as who
use Rattle.sng_book.specs.declared.outcome.Denial.{Denial}
use Rattle.sng_book.specs.declared.outcome.Outcome.{Outcome}
use Rattle.sng_book.specs.declared.outcome.Outcome.TheVariants.{Denied}
use Rattle.sng_history.specs.Causes.{Statement, Cause}
use Rattle.sng_history.specs.Clients.{Client, Around, subscribed, id_opened_of}
use Rattle.sng_history.specs.Clients.{stated_by}
use Rattle.sng_history.specs.Clients.{subscribe_of, statement_of, note_by, notes_by}
use Rattle.sng_history.specs.Clients.{start_by}
use Rattle.sng_history.specs.Losing.{before}
use Rattle.sng_history.specs.State.{State, around}
use Rattle.sng_history.specs.Answers.{denied_note}
use Rattle.sng_history.specs.Lawful.{fixed_for}
use Rattle.sng_laws.specs.ViewsMessages.{Message as Spoken}
use Rattle.sng_laws.specs.ViewsClients.{speaks_of, phase_by, admits}
use Rattle.sng_promise.proofs.Clients.SeenNotes.{phase_notes, admitted_notes}
use Rattle.sng_history.proofs.Steady.{denied_received}

-- what was shown before of a client, and of an event: where it came from, what it states, the clock, and
-- whether the client speaks by it
pub record Before : Type 0 where
  pub phase : Option ClientState
  pub address : Option Address
  pub duration : Option ℕ
  pub heard : Option ℕ
  pub from : Option Address
  pub stated : Option ℕ
  pub clock : ℕ
  pub spoke : Bool
  pub message : Option Spoken

-- what the notes show then is the client
abbrev pub Shows : List ℕ → Before → List Decision → Client → Type 0
Shows id b n y =
    (phase_notes b.message id n b.phase ≡ Some y.phase)
    × ((if admitted_notes id n then b.from else b.address) ≡ Some y.address)
    × ((if admitted_notes id n then b.stated else b.duration) ≡ Some y.duration)
    × ((if admitted_notes id n || b.spoke then Some b.clock else b.heard) ≡ Some y.heard)

abbrev pub kept_of : Client → Option Spoken → Option Address → Option ℕ → ℕ → Bool → Before
kept_of x m from stated clock spoke = record {
  message = m;
  phase = Some x.phase;
  address = Some x.address;
  duration = Some x.duration;
  heard = Some x.heard;
  from = from;
  stated = stated;
  clock = clock;
  spoke = spoke;
}

-- the client after the notes of its row
abbrev pub moved_to : State → Cause → Client → Client
moved_to s c x = notes_by (around s c) (fixed_for s c x) (start_by (around s c) x)

-- a client that is heard
abbrev pub heard_if : Bool → ℕ → Client → Client
heard_if spoke clock x = if spoke then record x { heard = clock } else x

-- ---- a row with no note of the client, or with one that moves nothing

pub silent : (x : Client) (m : Option Spoken) (from : Option Address) (stated : Option ℕ) (clock : ℕ)
    (spoke : Bool)
    → Shows x.id (kept_of x m from stated clock spoke) [] (heard_if spoke clock x)
silent x m from stated clock true = (refl, refl, refl, refl)
silent x m from stated clock false = (refl, refl, refl, refl)

-- the note moves nothing
pub record Idle (a : Around) (said : Decision) : Type 0 where
  pub phase : (m : Option Spoken) (id : List ℕ) (before : Option ClientState)
      → phase_by m id said before ≡ before
  pub admits : (id : List ℕ) → admits id said ≡ false
  pub same : (x : Client) → note_by a said x ≡ x

idle : (a : Around) (x : Client) (m : Option Spoken) (from : Option Address) (stated : Option ℕ)
    (spoke : Bool) (said : Decision)
    → Idle a said
    → Shows x.id (kept_of x m from stated a.clock spoke) (said ∷ [])
    (note_by a said (heard_if spoke a.clock x))
idle a x m from stated spoke said is =
    rw (is.phase m x.id (Some x.phase), is.admits x.id, is.same (heard_if spoke a.clock x))
    (silent x m from stated a.clock spoke)

pub subscribed_none : (r : Option TopicRequest) (o : Outcome) (x : Client) → subscribed r None o x ≡ x
subscribed_none None o x = refl
subscribed_none (Some r) o x = refl

pub stated_none : (statement : Option Statement) (rule : Denial) (x : Client)
    → stated_by statement (Denied rule) x ≡ x
stated_none None rule x = refl
stated_none (Some statement) rule x = refl

pub will_none : (b : Bool) (before after : Option ClientState)
    → (if b && false then after else before) ≡ before
will_none true before after = refl
will_none false before after = refl

-- a statement of a will that is denied, and a will that finds no place
pub idle_will : (a : Around) (whom : Who) (name : Option (List ℕ)) (rule : Denial)
    → Idle a (note.Will whom name (Denied rule))
idle_will a whom name rule = record {
  phase = λ m id before. will_none (speaks_of id whom) before (Some Active);
  admits = λ id. refl;
  same = λ x. stated_none (statement_of a.cause) rule x;
}

denied_idle : (a : Around) (message : SnFrame) (whom : Who) (rule : Denial)
    → Idle a (denied_note message whom rule)
denied_idle a (frame.Connect connect) whom rule =
    record { phase = λ m id before. refl; admits = λ id. refl; same = λ x. refl }
denied_idle a (frame.Subscribe r) whom rule =
    record {
      phase = λ m id before. refl;
      admits = λ id. refl;
      same = λ x. subscribed_none (subscribe_of a.cause) (Denied rule) x;
    }
denied_idle a (frame.Publish p) whom rule =
    record {
      phase = λ m id before. refl;
      admits = λ id. refl;
      same = λ x. denied_received (id_opened_of a.cause) rule x;
    }
denied_idle a (frame.Unsubscribe r) whom rule =
    record { phase = λ m id before. refl; admits = λ id. refl; same = λ x. refl }
denied_idle a (frame.WillTopic topic) whom rule = idle_will a whom None rule
denied_idle a (frame.WillMessage message) whom rule = idle_will a whom None rule
denied_idle a (frame.WillTopicUpdate topic) whom rule = idle_will a whom None rule
denied_idle a (frame.WillMessageUpdate message) whom rule = idle_will a whom None rule
denied_idle a _ whom rule = record { phase = λ m id before. refl; admits = λ id. refl; same = λ x. refl }

-- a message of one that is there is denied, and by nobody else
pub denied_shows : (a : Around) (x : Client) (m : Option Spoken) (from : Option Address) (stated : Option ℕ)
    (here : Bool)
    (message : SnFrame) (rule : Denial)
    → let n = if here then denied_note message (who.Client x.id) rule ∷ [] else [] in
    Shows x.id (kept_of x m from stated a.clock here) n (notes_by a n (heard_if here a.clock x))
denied_shows a x m from stated true message rule =
    idle a x m from stated true (denied_note message (who.Client x.id) rule)
    (denied_idle a message (who.Client x.id) rule)
denied_shows a x m from stated false message rule = (refl, refl, refl, refl)

pub broken_shows : (a : Around) (x : Client) (m : Option Spoken) (from : Option Address) (here : Bool)
    (rule : Denial)
    → let n = if here then note.Frame (who.Client x.id) (Denied rule) ∷ [] else [] in
    Shows x.id (kept_of x m from None a.clock false) n (notes_by a n x)
broken_shows a x m from true rule = (refl, refl, refl, refl)
broken_shows a x m from false rule = (refl, refl, refl, refl)
