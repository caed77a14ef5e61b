-- How what the rows show of the messages for a client moves by the client's own notes, and as a message comes
-- out.
use Rattle.std.proofs.Common.{◌≡◌, ℕ, Bool, true, false, List, [], ◌∷◌, ◌++◌, refl, ap, sym, ◌∙◌, subst}
use Rattle.std.proofs.Common.{if◌then◌else◌, length}
use Rattle.std.specs.Prelude.{◌&&◌, Option, Some, None, ◌||◌, ◌==◌}
use Rattle.sng_policy.specs.Grants.{topic_id}
use Rattle.sng_ids.specs.Ids.{id_for}
use Rattle.sng_states.specs.States.{takes_messages}
use Rattle.sng_queue.specs.declared.exchange.Exchange.{Exchange}
use Rattle.sng_queue.specs.Exchanges.{awaits_ack}
use Rattle.sng_queue.specs.Messages.{Message}
use Rattle.sng_queue.specs.Buffers.{settle}
use Rattle.sng_book.specs.declared.decision.Decision.{Decision}
use Rattle.sng_book.specs.declared.decision.Decision.TheVariants as note
use Rattle.sng_book.specs.declared.outcome.Denial.{Denial}
use Rattle.sng_book.specs.declared.outcome.Outcome.{Outcome}
use Rattle.sng_book.specs.declared.outcome.Outcome.TheVariants.{Allowed, Denied}
use Rattle.sng_history.specs.Handing.{Known, known_as, known_by, given_id}
use Rattle.sng_history.specs.Clients.{Client, Around, subscribe_of, is_turned_away, handed, note_by, notes_by}
use Rattle.sng_history.specs.Clients.{statement_of}
use Rattle.sng_laws.specs.ViewsClients.{phase_by, names_by, is_among, id_told}
use Rattle.sng_laws.specs.ViewsMessages.{Message as Spoken, connect_in, statement_in}
use Rattle.sng_laws.specs.ViewsHanding.{Opening, Announced, HandedOver, is_idle}
use Rattle.sng_laws.specs.ViewsHanding.{hand_of, settlements, progress_by}
use Rattle.sng_laws.specs.ViewsHanding.{knows_by}
use Rattle.sng_laws.specs.LawsState.{exchange_shown}
use Rattle.sng_laws.specs.LawsHanding.{is_known, topic_meant}
use Rattle.sng_laws.specs.LawsTurns.{Moment, is_free_at, Occasion, AtTick, AtRegack, AtPacket, AtOther}
use Rattle.sng_laws.specs.LawsTurns.{is_at_tick, is_judged_again, may_deny, IsDeniedSo, NoteInTurn}
use Rattle.sng_history.proofs.Own.{same_self}
use Rattle.sng_promise.proofs.Names.Marked.{marked, known_marked}
use Rattle.sng_promise.proofs.Handing.Takes.{taking_same}
use Rattle.sng_promise.proofs.Handing.LawTurnFrames.{Meant, meant}
use Rattle.sng_promise.proofs.Handing.LawTurns.{mail}
use Rattle.sng_promise.proofs.Handing.SeenFollows.{View, Follows, idle_with}
use Rattle.sng_promise.proofs.Handing.SeenTurns.{come_out}
use Rattle.sng_promise.proofs.Handing.SeenTurns.{settled_follows}
use Rattle.sng_history.specs.Causes.{Request, ToPing, ToLeave, ToSleep, ToRegister, ToPublish, ToSubscribe}
use Rattle.sng_history.specs.Causes.{ToUnsubscribe, ToConfirm, ToAcknowledge, ToState, Untaken}
use Rattle.sng_history.specs.Causes.{Cause, ByConnect, ByMessage, BySource, ByBroken, ByPacket, ByUp, ByDown}
use Rattle.sng_history.specs.Causes.{ByTake, ByReplace, ByTick}
use Rattle.sng_history.specs.Causes.{ToPublishOnce, ToRelease}
use Rattle.sng_frames.specs.declared.messages.connect.Connect.{Connect}
use Rattle.sng_laws.specs.ViewsSendings.{Last, last_by, topic_by, predefined_or}
use Rattle.sng_queue.specs.declared.kind.TopicIdKind.TheVariants as kind
use Rattle.sng_history.specs.Requests.{id_in}

-- ---- the notes of a client

abbrev pub with_hands : List (List ℕ × Outcome) → List (List ℕ × Outcome) → List (List ℕ × Outcome)
with_hands [] before = before
with_hands (hand ∷ hands) before = before ++ hand ∷ hands

abbrev pub view_by : Around → List ℕ → List Message → Decision → View → View
view_by a id due said v = record {
  told = names_by (subscribe_of a.cause) id said v.told;
  known = knows_by (subscribe_of a.cause) id said v.known;
  progress = progress_by id due said v.progress;
  settled = with_hands (settlements (hand_of id said)) v.settled;
  last = last_by a.policy a.clock v.told id said v.last;
}

abbrev pub view_notes : Around → List ℕ → List Message → List Decision → View → View
view_notes a id due [] v = v
view_notes a id due (said ∷ notes) v = view_notes a id due notes (view_by a id due said v)

-- what is kept of the client is what is shown
abbrev pub Shown : List Message → View → Client → Type 0
Shown due v x = Follows due v x.ids x.number x.buffer

-- the client at a place in a row
abbrev pub at : View → Client → Moment
at v x = record { phase = Some x.phase; told = v.told; known = v.known; progress = v.progress }

-- the CONNECT that the cause is
abbrev pub connect_of : Cause → Option Connect
connect_of (ByConnect from connect) = Some connect
connect_of (ByMessage from request) = None
connect_of (BySource from p) = None
connect_of (ByBroken from rule) = None
connect_of (ByPacket p) = None
connect_of ByUp = None
connect_of ByDown = None
connect_of ByTake = None
connect_of (ByReplace policy) = None
connect_of (ByTick clock) = None

-- what the cause is for messages that wait
abbrev pub occasion_by_request : Request → Occasion
occasion_by_request (ToConfirm r) = AtRegack r.code.0
occasion_by_request (ToPing client) = AtOther
occasion_by_request (ToSleep duration) = AtOther
occasion_by_request ToLeave = AtOther
occasion_by_request (ToRegister r) = AtOther
occasion_by_request (ToPublish p) = AtOther
occasion_by_request (ToPublishOnce p) = AtOther
occasion_by_request (ToRelease n) = AtOther
occasion_by_request (ToSubscribe r) = AtOther
occasion_by_request (ToUnsubscribe r) = AtOther
occasion_by_request (ToAcknowledge r) = AtOther
occasion_by_request (ToState statement) = AtOther
occasion_by_request (Untaken message) = AtOther

abbrev pub occasion_by : Cause → Occasion
occasion_by (ByConnect from connect) = AtOther
occasion_by (ByMessage from request) = occasion_by_request request
occasion_by (BySource from p) = AtOther
occasion_by (ByBroken from rule) = AtOther
occasion_by (ByPacket p) = AtPacket
occasion_by ByUp = AtOther
occasion_by ByDown = AtOther
occasion_by ByTake = AtOther
occasion_by (ByReplace policy) = AtOther
occasion_by (ByTick clock) = AtTick

-- the row holds the message of its cause, as far as that moves the state of a client
pub record Fits (c : Cause) (m : Option Spoken) : Type 0 where
  pub connects : connect_in m ≡ connect_of c
  pub states : statement_in m ≡ statement_of c

-- a note has its turn; and an announcement tells the id that is shown
abbrev pub HasTurn : Around → List ℕ → Decision → View → Client → Type 0
HasTurn a id (note.Hand client name Allowed) v x =
    NoteInTurn a.policy (occasion_by a.cause) id (note.Hand client name Allowed) (at v x)
HasTurn a id (note.Hand client name (Denied rule)) v x =
    NoteInTurn a.policy (occasion_by a.cause) id (note.Hand client name (Denied rule)) (at v x)
HasTurn a id (note.Announce client name) v x =
    NoteInTurn a.policy (occasion_by a.cause) id (note.Announce client name) (at v x)
    × (id_for name x.ids ≡ id_told name v.told)
HasTurn a id (note.Retry client name outcome) v x =
    NoteInTurn a.policy (occasion_by a.cause) id (note.Retry client name outcome) (at v x)
HasTurn a id (note.Connect client outcome) v x = Unit {0}
HasTurn a id (note.Left client) v x = Unit {0}
HasTurn a id (note.Register whom name outcome) v x = Unit {0}
HasTurn a id (note.Publish whom name outcome) v x = Unit {0}
HasTurn a id (note.Subscribe whom filter outcome) v x = Unit {0}
HasTurn a id (note.Unsubscribe whom filter outcome) v x = Unit {0}
HasTurn a id (note.Will whom name outcome) v x = Unit {0}
HasTurn a id (note.Forward whom name outcome) v x = Unit {0}
HasTurn a id (note.Again whom name outcome) v x = Unit {0}
HasTurn a id (note.End client filter outcome) v x = Unit {0}
HasTurn a id (note.Lost client) v x = Unit {0}
HasTurn a id note.Outbox v x = Unit {0}
HasTurn a id (note.Frame whom outcome) v x = Unit {0}

-- a note has its turn, and moves the state of the client as it is shown
pub record Step (a : Around) (id : List ℕ) (said : Decision) (v : View) (x : Client) : Type 0 where
  pub phase : (m : Option Spoken) → Fits a.cause m
      → phase_by m id said (Some x.phase) ≡ Some (note_by a said x).phase
  pub turn : HasTurn a id said v x

-- each of these notes has its turn, and after them what is kept of the client still is what is shown
abbrev pub Moved : Around → List ℕ → List Message → List Decision → View → Client → Type 0
Moved a id due [] v x = Shown due v x
Moved a id due (said ∷ notes) v x =
    Step a id said v x × Moved a id due notes (view_by a id due said v) (note_by a said x)

pub moved_end : (a : Around) (id : List ℕ) (due : List Message) (notes : List Decision) (v : View)
    (x : Client) → Moved a id due notes v x
    → Shown due (view_notes a id due notes v) (notes_by a notes x)
moved_end a id due [] v x moved = moved
moved_end a id due (said ∷ notes) v x moved =
    moved_end a id due notes (view_by a id due said v) (note_by a said x) moved.1

pub moved_so : (a : Around) (id : List ℕ) (due : List Message) (notes : List Decision) (v w : View)
    (x y : Client) → v ≡ w → x ≡ y
    → Moved a id due notes w y → Moved a id due notes v x
moved_so a id due notes v w x y e f moved =
    subst (λ u. Moved a id due notes u x) (sym e) (subst (λ z. Moved a id due notes w z) (sym f) moved)

-- a denial moves no state
denied_phase : (b : Bool) (x : Client)
    → (let y : Client = if b then x else record x { buffer = settle x.buffer } in y).phase ≡ x.phase
denied_phase true x = refl
denied_phase false x = refl

-- where the client is free, the front may be denied in its turn
pub free_may : (by : Occasion) (now : Moment) → is_free_at now ≡ true → may_deny by now ≡ true
free_may by now free = ap (λ b. b || (is_at_tick by && is_judged_again now)) free

pub denied_step : (a : Around) (id name : List ℕ) (rule : Denial) (v : View) (x : Client)
    → IsDeniedSo (occasion_by a.cause) rule (at v x)
    → Step a id (note.Hand id name (Denied rule)) v x
denied_step a id name rule v x so =
    record { phase = λ m fits. ap Some (sym (denied_phase (is_turned_away rule) x)); turn = λ own. so }

-- the client is free where it takes messages and no exchange is open
idle_open : (o : Option Opening) (told : List (List ℕ)) (number : ℕ) (last : Last)
    → exchange_shown o told number last ≡ None
    → is_idle o ≡ true
idle_open None told number last none = refl
idle_open (Some (Announced name)) told number last none = absurd cc
idle_open (Some (HandedOver m)) told number last none = absurd cc

pub free_at : (due : List Message) (v : View) (x : Client) → takes_messages x.phase ≡ true
    → x.buffer.exchange ≡ None → Shown due v x
    → is_free_at (at v x) ≡ true
free_at due v x takes none shown =
    ap (λ b. b && is_idle v.progress.unanswered) (taking_same x.phase ∙ takes)
    ∙ idle_open v.progress.unanswered v.told x.number v.last (sym shown.exchange ∙ none)

-- the client knows the name, or does not
pub meant_at : (a : Around) (v : View) (x : Client) (name : List ℕ) (k : Option Known)
    → x.ids ≡ marked v.told v.known
    → known_as a.policy x.ids name ≡ k
    → Meant k (is_known a.policy v.told v.known name) (topic_meant (mail a x v.told v.known) name)
meant_at a v x name k ids is =
    subst (λ o. Meant o (is_known a.policy v.told v.known name) (topic_meant (mail a x v.told v.known) name))
    (ap (λ marks. known_as a.policy marks name) (sym ids) ∙ is)
    (meant (mail a x v.told v.known) name)

-- the topic id by which the client knows the name is the one that is shown
topic_is : (two : Bool) (number : ℕ) (predefined : Option ℕ) (b : Bool) (told : ℕ) (k : Known)
    → (if two then Some (known_by kind.Short number) else given_id predefined
    (let o : Option ℕ = if b then Some told else None in o)) ≡ Some k
    → (if two then (kind.Short, number) else predefined_or predefined told) ≡ (k.kind, k.id)
topic_is true number predefined b told k is =
    let e : known_by kind.Short number ≡ k = cc in ap (λ one. (one.kind, one.id)) e
topic_is false number (Some id) b told k is =
    let e : known_by kind.Predefined id ≡ k = cc in ap (λ one. (one.kind, one.id)) e
topic_is false number None true told k is =
    let e : known_by kind.Normal told ≡ k = cc in ap (λ one. (one.kind, one.id)) e
topic_is false number None false told k is = absurd cc

pub topic_same : (a : Around) (v : View) (x : Client) (name : List ℕ) (k : Known)
    → x.ids ≡ marked v.told v.known
    → known_as a.policy x.ids name ≡ Some k
    → topic_by a.policy v.told name ≡ (k.kind, k.id)
topic_same a v x name k ids is =
    topic_is (length name == 2) (id_in name) (topic_id a.policy name)
    (is_among name v.told && is_among name v.known)
    (id_told name v.told) k
    (ap (λ o. if length name == 2 then Some (known_by kind.Short (id_in name))
    else given_id (topic_id a.policy name) o)
    (sym (known_marked name v.told v.known))
    ∙ (ap (λ marks. known_as a.policy marks name) (sym ids) ∙ is))

-- ---- a message comes out

pub view_denied : (a : Around) (id : List ℕ) (due : List Message) (name : List ℕ) (rule : Denial) (v : View)
    → is_turned_away rule ≡ false
    → view_by a id due (note.Hand id name (Denied rule)) v ≡ come_out v name (Denied rule)
view_denied a id due name rule v turned = rw (same_self id, turned) refl

pub client_denied : (a : Around) (name : List ℕ) (rule : Denial) (x : Client) (m : Message)
    (more : List Message) (e : Option Exchange)
    → is_turned_away rule ≡ false
    → x.buffer ≡ record { waiting = m ∷ more; exchange = e } → awaits_ack e ≡ false
    → handed a name (Denied rule) x ≡ record x { buffer = idle_with more }
client_denied a name rule x m more e turned is free = rw (turned, is, free) refl

pub denied_moved : (a : Around) (id : List ℕ) (due : List Message) (notes : List Decision) (v : View)
    (x : Client) (m : Message)
    (more : List Message) (e : Option Exchange) (rule : Denial)
    → is_turned_away rule ≡ false → IsDeniedSo (occasion_by a.cause) rule (at v x)
    → x.buffer ≡ record { waiting = m ∷ more; exchange = e } → awaits_ack e ≡ false → Shown due v x
    → (Shown due (come_out v m.name (Denied rule)) (record x { buffer = idle_with more })
    → Moved a id due notes (come_out v m.name (Denied rule)) (record x { buffer = idle_with more }))
    → Moved a id due (note.Hand id m.name (Denied rule) ∷ notes) v x
denied_moved a id due notes v x m more e rule turned so is awaits f rest = (
  denied_step a id m.name rule v x so,
  moved_so a id due notes (view_by a id due (note.Hand id m.name (Denied rule)) v)
      (come_out v m.name (Denied rule))
      (note_by a (note.Hand id m.name (Denied rule)) x) (record x { buffer = idle_with more })
      (view_denied a id due m.name rule v turned) (client_denied a m.name rule x m more e turned is awaits)
      (rest (settled_follows due v x.ids x.number e m more (Denied rule)
      (subst (Follows due v x.ids x.number) is f))),
)
