-- When a message for a client has its turn: what the rows show of the client just before each note, along the
-- row (MQTT-SN 1.2, 6.5, 6.6 and 6.14).
use Rattle.std.specs.Prelude.{ℕ, ◌≡◌, ◌==◌, ◌&&◌, ◌||◌, Bool, true, false, List, [], ◌∷◌, Option, Some, None}
use Rattle.std.specs.Prelude.{if◌then◌else◌}
use Rattle.std.specs.Str.{bytes_eq}
use Rattle.sng_grants.specs.declared.policy.Policy.{Policy}
use Rattle.sng_states.specs.declared.state.ClientState.{ClientState}
use Rattle.sng_frames.specs.Reading.{frame_of}
use Rattle.sng_queue.specs.Messages.{Message}
use Rattle.sng_book.specs.declared.decision.Decision.{Decision}
use Rattle.sng_book.specs.declared.decision.Decision.TheVariants as note
use Rattle.sng_book.specs.declared.outcome.Place.TheVariants as place
use Rattle.sng_book.specs.declared.outcome.Denial.{Denial}
use Rattle.sng_book.specs.declared.outcome.Denial.TheVariants.{Grant, Room, Peer}
use Rattle.sng_book.specs.declared.outcome.RoomDenial.TheVariants.{Full, TooLong}
use Rattle.sng_book.specs.declared.outcome.PeerDenial.TheVariants.{ClientRefused, Gone}
use Rattle.sng_book.specs.declared.outcome.Outcome.TheVariants.{Allowed, Denied}
use Rattle.sng_book.specs.declared.event.Event.{Event}
use Rattle.sng_book.specs.declared.event.Event.TheVariants.{Datagram, Broker, Tick}
use Rattle.sng_book.specs.declared.out.Out.{Out}
use Rattle.sng_book.specs.declared.out.Out.TheVariants.{Send, Wire, Note}
use Rattle.sng_book.specs.declared.row.Row.{Row}
use Rattle.sng_laws.specs.Views.{last_policy}
use Rattle.sng_laws.specs.ViewsMessages.{Message as Spoken}
use Rattle.sng_laws.specs.ViewsMessages.{Confirms}
use Rattle.sng_laws.specs.ViewsMessages.{message_in, message_at, subscribe_in}
use Rattle.sng_laws.specs.ViewsClients.{address_of, phase_spoken, own_message, phase_by, phase_of}
use Rattle.sng_laws.specs.ViewsClients.{with_name, names_by, names_told}
use Rattle.sng_laws.specs.ViewsHanding.{Opening, Announced, HandedOver, is_taking, due_of, Progress}
use Rattle.sng_laws.specs.ViewsHanding.{closes, progress_by, ends_open, progress_of, is_idle, knows_by}
use Rattle.sng_laws.specs.ViewsHanding.{confirmed_in, names_known}
use Rattle.sng_laws.specs.LawsHanding.{is_known}

-- ---- the client at a place in a row

-- its state, the names that it was told ids of and those that it knows, and how its messages stand
pub record Moment : Type 0 where
  pub phase : Option ClientState
  pub told : List (List ℕ)
  pub known : List (List ℕ)
  pub progress : Progress

-- before any note: a message of the client may wake it or let it fall asleep, closes what was open, and
-- confirms an id
abbrev pub moment_at : List ℕ → Event → List Row → Moment
moment_at id event earlier = record {
  phase =
      phase_spoken id (own_message (phase_of id earlier) (address_of id earlier) event) (phase_of id earlier);
  told = names_told id earlier;
  known = with_name (confirmed_in id earlier event) (names_known id earlier);
  progress =
      if ends_open id (progress_of id earlier) earlier event then closes (progress_of id earlier)
      else progress_of id earlier;
}

-- behind a note, where these messages were due and the row holds this message of a client
abbrev pub moment_by : Option Spoken → List ℕ → List Message → Decision → Moment → Moment
moment_by m id due said now = record {
  phase = phase_by m id said now.phase;
  told = names_by (subscribe_in m) id said now.told;
  known = knows_by (subscribe_in m) id said now.known;
  progress = progress_by id due said now.progress;
}

-- ---- what a note needs

-- the client takes messages, and nothing is open with it
abbrev pub is_free_at : Moment → Bool
is_free_at now = is_taking now.phase && is_idle now.progress.unanswered

-- the client takes messages, and an id is announced to it
abbrev pub is_announced : Option Opening → Bool
is_announced None = false
is_announced (Some (Announced name)) = true
is_announced (Some (HandedOver m)) = false

-- the name of what is open
abbrev pub name_open : Option Opening → Option (List ℕ)
name_open None = None
name_open (Some (Announced name)) = Some name
name_open (Some (HandedOver m)) = Some m.name

-- the announced front may be denied as it is judged again
abbrev pub is_judged_again : Moment → Bool
is_judged_again now = is_taking now.phase && is_announced now.progress.unanswered

-- ---- what the event of a row is for messages that wait

pub data Occasion : Type 0 where
  -- the clock moves
  AtTick : Occasion
  -- a REGACK with this code
  AtRegack : ℕ → Occasion
  -- a packet of the broker
  AtPacket : Occasion
  -- any other
  AtOther : Occasion

abbrev pub occasion_in : Option Spoken → Occasion
occasion_in (Some (Confirms r)) = AtRegack r.code.0
occasion_in other = AtOther

abbrev pub occasion_of : Event → Occasion
occasion_of (Datagram from datagram) = occasion_in (message_in (frame_of datagram))
occasion_of (Broker packet) = AtPacket
occasion_of (Tick clock) = AtTick
occasion_of other = AtOther

abbrev pub is_at_tick : Occasion → Bool
is_at_tick AtTick = true
is_at_tick other = false

abbrev pub is_at_regack : Occasion → ℕ → Bool
is_at_regack (AtRegack code) refused = code == refused
is_at_regack other refused = false

abbrev pub is_at_packet : Occasion → Bool
is_at_packet AtPacket = true
is_at_packet other = false

-- ---- how a message is denied

-- in its turn: the client is free; or, as the clock moves, its announced front is judged again
abbrev pub may_deny : Occasion → Moment → Bool
may_deny by now = is_free_at now || (is_at_tick by && is_judged_again now)

-- by the policy, and for want of an id, in its turn alone; by the client, as its REGACK with this code
-- refuses the id that is announced; as it came, just as a packet of the broker comes; and as it is gone,
-- where nothing is open any more. So before its answer an announced front is denied at a tick alone. No
-- message is denied for another reason
abbrev pub IsDeniedSo : Occasion → Denial → Moment → Type 0
IsDeniedSo by (Grant rule) now = may_deny by now ≡ true
IsDeniedSo by (Room (Full place.Ids)) now = may_deny by now ≡ true
IsDeniedSo by (Room (Full place.Queue)) now = is_at_packet by ≡ true
IsDeniedSo by (Room TooLong) now = is_at_packet by ≡ true
IsDeniedSo by (Peer (ClientRefused code)) now = (is_at_regack by code && is_judged_again now) ≡ true
IsDeniedSo by (Peer Gone) now = is_idle now.progress.unanswered ≡ true
IsDeniedSo by other now = Unit {0}

-- a message is handed over, or an id of its name announced, only where the client is free: handed over where
-- the client knows the name, and announced where it does not. One is denied as above. Only what is open with
-- a client that takes messages is sent again
abbrev pub NoteInTurn : Policy → Occasion → List ℕ → Decision → Moment → Type 0
NoteInTurn policy by id (note.Hand client name Allowed) now =
    bytes_eq id client ≡ true → (is_free_at now ≡ true) × (is_known policy now.told now.known name ≡ true)
NoteInTurn policy by id (note.Hand client name (Denied rule)) now =
    bytes_eq id client ≡ true → IsDeniedSo by rule now
NoteInTurn policy by id (note.Announce client name) now =
    bytes_eq id client ≡ true → (is_free_at now ≡ true) × (is_known policy now.told now.known name ≡ false)
NoteInTurn policy by id (note.Retry client name outcome) now =
    bytes_eq id client ≡ true → (is_taking now.phase ≡ true) × (name_open now.progress.unanswered ≡ Some name)
NoteInTurn policy by id other now = Unit {0}

abbrev pub AllInTurn : Policy → Occasion → List ℕ → List Message → Option Spoken → List Out → Moment → Type 0
AllInTurn policy by id due m [] now = Unit {0}
AllInTurn policy by id due m (Note said ∷ outs) now =
    NoteInTurn policy by id said now × AllInTurn policy by id due m outs (moment_by m id due said now)
AllInTurn policy by id due m (Send to datagram ∷ outs) now = AllInTurn policy by id due m outs now
AllInTurn policy by id due m (Wire packet ∷ outs) now = AllInTurn policy by id due m outs now

-- at each row, by the policy in force at it
abbrev pub EachInTurn : List ℕ → List Row → Type 0
EachInTurn id [] = Unit {0}
EachInTurn id (row ∷ earlier) =
    let rows = row ∷ earlier in
    EachInTurn id earlier
    × AllInTurn (last_policy rows) (occasion_of row.event) id (due_of id rows) (message_at row.event)
    row.outs
    (moment_at id row.event earlier)
