-- What the rows show of a client is read from the client's own notes.
use Rattle.std.proofs.Common.{◌≡◌, ℕ, Bool, true, false, List, [], ◌∷◌, ◌++◌, refl, ap, sym, ◌∙◌}
use Rattle.std.proofs.Common.{if◌then◌else◌}
use Rattle.std.specs.Prelude.{◌||◌, Option}
use Rattle.sng_states.specs.declared.state.ClientState.{ClientState}
use Rattle.sng_frames.specs.declared.messages.subscribe.TopicRequest.{TopicRequest}
use Rattle.sng_book.specs.declared.decision.Decision.{Decision}
use Rattle.sng_book.specs.declared.decision.Decision.TheVariants as note
use Rattle.sng_book.specs.declared.out.Out.{Out}
use Rattle.sng_book.specs.declared.out.Out.TheVariants.{Send, Wire, Note}
use Rattle.sng_book.specs.declared.decision.Who.{Who}
use Rattle.sng_book.specs.declared.decision.Who.TheVariants as who
use Rattle.sng_history.specs.Notes.{notes_of, is_of, is_client}
use Rattle.sng_laws.specs.ViewsMessages.{Message}
use Rattle.sng_laws.specs.ViewsClients.{phase_by, phase_after, admits, is_admitted, speaks_of, names_by}
use Rattle.sng_laws.specs.ViewsClients.{names_after}

abbrev pub phase_notes : Option Message → List ℕ → List Decision → Option ClientState → Option ClientState
phase_notes m id [] before = before
phase_notes m id (said ∷ notes) before = phase_notes m id notes (phase_by m id said before)

abbrev pub admitted_notes : List ℕ → List Decision → Bool
admitted_notes id [] = false
admitted_notes id (said ∷ notes) = admits id said || admitted_notes id notes

abbrev pub names_notes : Option TopicRequest → List ℕ → List Decision → List (List ℕ) → List (List ℕ)
names_notes r id [] before = before
names_notes r id (said ∷ notes) before = names_notes r id notes (names_by r id said before)

client_same : (id : List ℕ) (whom : Who) → is_client id whom ≡ speaks_of id whom
client_same id (who.Client client) = refl
client_same id (who.Source source) = refl
client_same id (who.Address address) = refl
client_same id who.Broker = refl

-- another's note shows nothing of the client
phase_other : (m : Option Message) (id : List ℕ) (said : Decision) (before : Option ClientState)
    → is_of id said ≡ false
    → phase_by m id said before ≡ before
phase_other m id (note.Connect client outcome) before other = rw other refl
phase_other m id (note.Will whom name outcome) before other = rw (sym (client_same id whom) ∙ other) refl
phase_other m id (note.Left client) before other = rw other refl
phase_other m id (note.Lost client) before other = rw other refl
phase_other m id _ before other = refl

admits_other : (id : List ℕ) (said : Decision) → is_of id said ≡ false → admits id said ≡ false
admits_other id (note.Connect client outcome) other = rw other refl
admits_other id _ other = refl

names_other : (r : Option TopicRequest) (id : List ℕ) (said : Decision) (before : List (List ℕ))
    → is_of id said ≡ false
    → names_by r id said before ≡ before
names_other r id (note.Connect client outcome) before other = rw other refl
names_other r id (note.Register whom name outcome) before other = rw (sym (client_same id whom) ∙ other) refl
names_other r id (note.Subscribe whom filter outcome) before other =
    rw (sym (client_same id whom) ∙ other) refl
names_other r id (note.Announce client name) before other = rw other refl
names_other r id _ before other = refl

phase_note : (m : Option Message) (id : List ℕ) (said : Decision) (notes : List Decision)
    (before : Option ClientState) (b : Bool)
    → is_of id said ≡ b
    → phase_notes m id notes (phase_by m id said before)
    ≡ phase_notes m id ((if b then said ∷ [] else []) ++ notes) before
phase_note m id said notes before true own = refl
phase_note m id said notes before false other =
    ap (phase_notes m id notes) (phase_other m id said before other)

admitted_note : (id : List ℕ) (said : Decision) (notes : List Decision) (b : Bool) → is_of id said ≡ b
    → (admits id said || admitted_notes id notes) ≡ admitted_notes id ((if b then said ∷ [] else []) ++ notes)
admitted_note id said notes true own = refl
admitted_note id said notes false other = rw (admits_other id said other) refl

names_note : (r : Option TopicRequest) (id : List ℕ) (said : Decision) (notes : List Decision)
    (before : List (List ℕ)) (b : Bool)
    → is_of id said ≡ b
    → names_notes r id notes (names_by r id said before)
    ≡ names_notes r id ((if b then said ∷ [] else []) ++ notes) before
names_note r id said notes before true own = refl
names_note r id said notes before false other =
    ap (names_notes r id notes) (names_other r id said before other)

pub phase_by_notes : (m : Option Message) (id : List ℕ) (outs : List Out) (before : Option ClientState)
    → phase_after m id outs before ≡ phase_notes m id (notes_of id outs) before
phase_by_notes m id [] before = refl
phase_by_notes m id (Note said ∷ outs) before =
    phase_by_notes m id outs (phase_by m id said before)
    ∙ phase_note m id said (notes_of id outs) before (is_of id said) refl
phase_by_notes m id (Send to datagram ∷ outs) before = phase_by_notes m id outs before
phase_by_notes m id (Wire packet ∷ outs) before = phase_by_notes m id outs before

pub admitted_by_notes : (id : List ℕ) (outs : List Out)
    → is_admitted id outs ≡ admitted_notes id (notes_of id outs)
admitted_by_notes id [] = refl
admitted_by_notes id (Note said ∷ outs) =
    ap (λ later. admits id said || later) (admitted_by_notes id outs)
    ∙ admitted_note id said (notes_of id outs) (is_of id said) refl
admitted_by_notes id (Send to datagram ∷ outs) = admitted_by_notes id outs
admitted_by_notes id (Wire packet ∷ outs) = admitted_by_notes id outs

pub names_by_notes : (r : Option TopicRequest) (id : List ℕ) (outs : List Out) (before : List (List ℕ))
    → names_after r id outs before ≡ names_notes r id (notes_of id outs) before
names_by_notes r id [] before = refl
names_by_notes r id (Note said ∷ outs) before =
    names_by_notes r id outs (names_by r id said before)
    ∙ names_note r id said (notes_of id outs) before (is_of id said) refl
names_by_notes r id (Send to datagram ∷ outs) before = names_by_notes r id outs before
names_by_notes r id (Wire packet ∷ outs) before = names_by_notes r id outs before
