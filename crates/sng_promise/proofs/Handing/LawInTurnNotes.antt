-- All notes of a row are in turn for a client where its own are.
use Rattle.std.proofs.Common.{◌≡◌, ℕ, Bool, true, false, List, [], ◌∷◌, ◌++◌, refl, ap, sym, ◌∙◌, subst}
use Rattle.std.proofs.Common.{if◌then◌else◌}
use Rattle.std.specs.Prelude.{Option, Some}
use Rattle.std.specs.Str.{bytes_eq}
use Rattle.sng_grants.specs.declared.policy.Policy.{Policy}
use Rattle.sng_queue.specs.Messages.{Message}
use Rattle.sng_book.specs.declared.decision.Decision.{Decision}
use Rattle.sng_book.specs.declared.decision.Decision.TheVariants as note
use Rattle.sng_book.specs.declared.decision.Who.{Who}
use Rattle.sng_book.specs.declared.decision.Who.TheVariants as who
use Rattle.sng_book.specs.declared.outcome.Outcome.TheVariants.{Allowed, Denied}
use Rattle.sng_book.specs.declared.out.Out.{Out}
use Rattle.sng_book.specs.declared.out.Out.TheVariants.{Send, Wire, Note}
use Rattle.sng_history.specs.Notes.{notes_of, is_of, is_client}
use Rattle.sng_history.specs.Clients.{Client, Around, note_by, subscribe_of}
use Rattle.sng_laws.specs.ViewsMessages.{Message as Spoken, subscribe_in}
use Rattle.sng_laws.specs.ViewsClients.{phase_by}
use Rattle.sng_laws.specs.ViewsClients.{speaks_of, names_by}
use Rattle.sng_laws.specs.ViewsHanding.{progress_by, knows_by}
use Rattle.sng_laws.specs.LawsTurns.{Moment, moment_by, Occasion, NoteInTurn, AllInTurn}
use Rattle.sng_promise.proofs.Handing.SeenFollows.{View}
use Rattle.sng_promise.proofs.Handing.SeenHandingNotes.{at, view_by, occasion_by, Fits, HasTurn, Step, Moved}

abbrev pub InNotes : Policy → Occasion → List ℕ → List Message → Option Spoken → List Decision → Moment
    → Type 0
InNotes policy by id due m [] now = Unit {0}
InNotes policy by id due m (said ∷ notes) now =
    NoteInTurn policy by id said now × InNotes policy by id due m notes (moment_by m id due said now)

-- the client moves as it is shown
moment_moved : (a : Around) (id : List ℕ) (due : List Message) (m : Option Spoken) (said : Decision)
    (v : View) (x : Client)
    → Fits a.cause m → subscribe_of a.cause ≡ subscribe_in m → Step a id said v x
    → at (view_by a id due said v) (note_by a said x) ≡ moment_by m id due said (at v x)
moment_moved a id due m said v x fits same step =
    ap (λ phase. let now : Moment =
    record (at (view_by a id due said v) (note_by a said x)) { phase = phase } in
    now) (sym (step.phase m fits))
    ∙ ap
    (λ r. let now : Moment = record {
      phase = phase_by m id said (Some x.phase);
      told = names_by r id said v.told;
      known = knows_by r id said v.known;
      progress = progress_by id due said v.progress;
    } in now)
    same

-- a note that has its turn, by its cause, has it by its event
turn_shown : (a : Around) (id : List ℕ) (said : Decision) (v : View) (x : Client) → HasTurn a id said v x
    → NoteInTurn a.policy (occasion_by a.cause) id said (at v x)
turn_shown a id (note.Hand client name Allowed) v x turn = turn
turn_shown a id (note.Hand client name (Denied rule)) v x turn = turn
turn_shown a id (note.Announce client name) v x turn = turn.0
turn_shown a id (note.Retry client name outcome) v x turn = turn
turn_shown a id (note.Connect client outcome) v x turn = tt
turn_shown a id (note.Left client) v x turn = tt
turn_shown a id (note.Register whom name outcome) v x turn = tt
turn_shown a id (note.Publish whom name outcome) v x turn = tt
turn_shown a id (note.Subscribe whom filter outcome) v x turn = tt
turn_shown a id (note.Unsubscribe whom filter outcome) v x turn = tt
turn_shown a id (note.Will whom name outcome) v x turn = tt
turn_shown a id (note.Forward whom name outcome) v x turn = tt
turn_shown a id (note.Again whom name outcome) v x turn = tt
turn_shown a id (note.End client filter outcome) v x turn = tt
turn_shown a id (note.Lost client) v x turn = tt
turn_shown a id note.Outbox v x turn = tt
turn_shown a id (note.Frame whom outcome) v x turn = tt

pub moved_turns : (a : Around) (by : Occasion) (id : List ℕ) (due : List Message) (m : Option Spoken)
    (notes : List Decision) (v : View) (x : Client)
    → occasion_by a.cause ≡ by → Fits a.cause m → subscribe_of a.cause ≡ subscribe_in m
    → Moved a id due notes v x
    → InNotes a.policy by id due m notes (at v x)
moved_turns a by id due m [] v x is fits same moved = tt
moved_turns a by id due m (said ∷ notes) v x is fits same moved =
    let w = view_by a id due said v in (
      subst (λ o. NoteInTurn a.policy o id said (at v x)) is (turn_shown a id said v x moved.0.turn),
      subst (InNotes a.policy by id due m notes) (moment_moved a id due m said v x fits same moved.0)
          (moved_turns a by id due m notes w (note_by a said x) is fits same moved.1),
    )

-- another's note needs nothing, and shows nothing of the client
client_same : (id : List ℕ) (whom : Who) → is_client id whom ≡ speaks_of id whom
client_same id (who.Client client) = refl
client_same id (who.Source source) = refl
client_same id (who.Address address) = refl
client_same id who.Broker = refl

moment_other : (m : Option Spoken) (id : List ℕ) (due : List Message) (said : Decision) (now : Moment)
    → is_of id said ≡ false
    → moment_by m id due said now ≡ now
moment_other m id due (note.Connect client outcome) now other = rw other refl
moment_other m id due (note.Left client) now other = rw other refl
moment_other m id due (note.Lost client) now other = rw other refl
moment_other m id due (note.Will whom name outcome) now other = rw (sym (client_same id whom) ∙ other) refl
moment_other m id due (note.Register whom name outcome) now other =
    rw (sym (client_same id whom) ∙ other) refl
moment_other m id due (note.Subscribe whom filter outcome) now other =
    rw (sym (client_same id whom) ∙ other) refl
moment_other m id due (note.Announce client name) now other = rw other refl
moment_other m id due (note.Hand client name outcome) now other = rw other refl
moment_other m id due (note.Retry client name outcome) now other = rw other refl
moment_other m id due _ now other = refl

not_own : (T : Type 0) (b : Bool) → b ≡ false → b ≡ true → T
not_own T b is own = absurd (let e : false ≡ true = sym is ∙ own in cc)

turn_other : (policy : Policy) (by : Occasion) (id : List ℕ) (said : Decision) (now : Moment)
    → is_of id said ≡ false
    → NoteInTurn policy by id said now
turn_other policy by id (note.Hand client name Allowed) now other =
    λ own. not_own _ (bytes_eq id client) other own
turn_other policy by id (note.Hand client name (Denied rule)) now other =
    λ own. not_own _ (bytes_eq id client) other own
turn_other policy by id (note.Announce client name) now other =
    λ own. not_own _ (bytes_eq id client) other own
turn_other policy by id (note.Connect client outcome) now other = tt
turn_other policy by id (note.Left client) now other = tt
turn_other policy by id (note.Register whom name outcome) now other = tt
turn_other policy by id (note.Publish whom name outcome) now other = tt
turn_other policy by id (note.Subscribe whom filter outcome) now other = tt
turn_other policy by id (note.Unsubscribe whom filter outcome) now other = tt
turn_other policy by id (note.Will whom name outcome) now other = tt
turn_other policy by id (note.Retry client name outcome) now other =
    λ own. not_own _ (bytes_eq id client) other own
turn_other policy by id (note.Forward whom name outcome) now other = tt
turn_other policy by id (note.Again whom name outcome) now other = tt
turn_other policy by id (note.End client filter outcome) now other = tt
turn_other policy by id (note.Lost client) now other = tt
turn_other policy by id note.Outbox now other = tt
turn_other policy by id (note.Frame whom outcome) now other = tt

note_turns : (policy : Policy) (by : Occasion) (id : List ℕ) (due : List Message) (m : Option Spoken)
    (said : Decision) (outs : List Out) (now : Moment) (b : Bool) → is_of id said ≡ b
    → ((later : Moment) → InNotes policy by id due m (notes_of id outs) later
    → AllInTurn policy by id due m outs later)
    → InNotes policy by id due m ((if b then said ∷ [] else []) ++ notes_of id outs) now
    → AllInTurn policy by id due m (Note said ∷ outs) now
note_turns policy by id due m said outs now true is rest own =
    (own.0, rest (moment_by m id due said now) own.1)
note_turns policy by id due m said outs now false is rest own = (
  turn_other policy by id said now is,
  rest (moment_by m id due said now)
      (subst (InNotes policy by id due m (notes_of id outs)) (sym (moment_other m id due said now is)) own),
)

pub outs_turns : (policy : Policy) (by : Occasion) (id : List ℕ) (due : List Message) (m : Option Spoken)
    (outs : List Out) (now : Moment)
    → InNotes policy by id due m (notes_of id outs) now → AllInTurn policy by id due m outs now
outs_turns policy by id due m [] now turns = tt
outs_turns policy by id due m (Note said ∷ outs) now turns =
    note_turns policy by id due m said outs now (is_of id said) refl
    (λ later. outs_turns policy by id due m outs later) turns
outs_turns policy by id due m (Send to datagram ∷ outs) now turns =
    outs_turns policy by id due m outs now turns
outs_turns policy by id due m (Wire packet ∷ outs) now turns = outs_turns policy by id due m outs now turns
