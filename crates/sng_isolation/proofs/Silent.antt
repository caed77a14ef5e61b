-- What is not let out for a client: nothing of it is sent to its addresses, and no note is of it.
use Rattle.std.proofs.Common.{◌≡◌, ℕ, Bool, true, false, List, [], ◌∷◌, ◌++◌, refl, ap, sym, ◌∙◌, subst, cond}
use Rattle.std.proofs.Common.{if◌then◌else◌}
use Rattle.std.specs.Prelude.{◌||◌}
use Rattle.std.specs.List.{flat_map, list_any}
use Rattle.std.proofs.lemmas.List.Elements.{filter-append}
use Rattle.sng_book.specs.declared.address.Address.{Address}
use Rattle.sng_book.specs.declared.decision.Decision.{Decision}
use Rattle.sng_book.specs.declared.decision.Decision.TheVariants as note
use Rattle.sng_book.specs.declared.outcome.Outcome.{Outcome}
use Rattle.sng_book.specs.declared.out.Out.{Out}
use Rattle.sng_book.specs.declared.out.Out.TheVariants.{Send, Wire, Note}
use Rattle.sng_book.specs.Traces.{is_own, speaks_of, reaches, trace_of}
use Rattle.sng_history.specs.Clients.{Client}
use Rattle.sng_history.specs.Notes.{notes_of, exits_in, is_of, exit_of}
use Rattle.sng_history.specs.Good.{Each}
use Rattle.sng_isolation.specs.Trace.{returns, tells}
use Rattle.sng_history.proofs.SentTo.{AllTo}

-- nothing of it is for the client
abbrev pub Silent : List ℕ → List Address → List Out → Type 0
Silent id own outs = trace_of id own outs ≡ []

pub silent_both : (id : List ℕ) (own : List Address) (xs ys : List Out) → Silent id own xs → Silent id own ys
    → Silent id own (xs ++ ys)
silent_both id own xs ys one two =
    filter-append (reaches id own) xs ys ∙ (ap (λ outs. outs ++ trace_of id own ys) one ∙ two)

pub silent_flat : (id : List ℕ) (own : List Address) (f : Client → List Out) (xs : List Client)
    → Each (λ x. Silent id own (f x)) xs
    → Silent id own (flat_map f xs)
silent_flat id own f [] each = refl
silent_flat id own f (x ∷ xs) each =
    silent_both id own (f x) (flat_map f xs) each.0 (silent_flat id own f xs each.1)

pub silent_if : (id : List ℕ) (own : List Address) (b : Bool) (outs : List Out) → Silent id own outs
    → Silent id own (if b then outs else [])
silent_if id own true outs none = none
silent_if id own false outs none = refl

pub silent_either : (id : List ℕ) (own : List Address) (b : Bool) (xs ys : List Out) → Silent id own xs
    → Silent id own ys
    → Silent id own (if b then xs else ys)
silent_either id own true xs ys one two = one
silent_either id own false xs ys one two = two

-- ---- by where it goes and its notes

-- a note that is not the client's, and with which no publish leaves
unspoken : (id : List ℕ) (said : Decision) → is_of id said ≡ false → exit_of said ≡ []
    → speaks_of id said ≡ false
unspoken id (note.Connect client outcome) away none = rw away refl
unspoken id (note.Register who name outcome) away none = rw away refl
unspoken id (note.Publish who name outcome) away none = rw away refl
unspoken id (note.Subscribe who filter outcome) away none = rw away refl
unspoken id (note.Unsubscribe who filter outcome) away none = rw away refl
unspoken id (note.Will who name outcome) away none = rw away refl
unspoken id (note.Announce client name) away none = rw away refl
unspoken id (note.Hand client name outcome) away none = rw away refl
unspoken id (note.Retry client name outcome) away none = rw away refl
unspoken id (note.Forward who name outcome) away none = absurd cc
unspoken id (note.Again who name outcome) away none = absurd cc
unspoken id (note.End client filter outcome) away none = rw away refl
unspoken id (note.Lost client) away none = rw away refl
unspoken id (note.Left client) away none = rw away refl
unspoken id note.Outbox away none = refl
unspoken id (note.Frame who outcome) away none = rw away refl

no_note : (b : Bool) (said : Decision) (rest : List Decision) → (if b then said ∷ [] else []) ++ rest ≡ []
    → (b ≡ false) × (rest ≡ [])
no_note true said rest none = absurd cc
no_note false said rest none = (refl, none)

no_outcome : (xs ys : List Outcome) → xs ++ ys ≡ [] → (xs ≡ []) × (ys ≡ [])
no_outcome [] ys none = (refl, none)
no_outcome (x ∷ xs) ys none = absurd cc

pub skipped : (b : Bool) (out : Out) (rest : List Out) → b ≡ false → rest ≡ [] → cond b (out ∷ rest) rest ≡ []
skipped true out rest is none = absurd cc
skipped false out rest is none = none

-- what is sent among these is sent to none of the addresses
abbrev pub AllOff : List Address → List Out → Type 0
AllOff own [] = Unit {0}
AllOff own (Send to datagram ∷ outs) = (is_own own to ≡ false) × AllOff own outs
AllOff own (Note said ∷ outs) = AllOff own outs
AllOff own (Wire packet ∷ outs) = AllOff own outs

off_to : (own : List Address) (place : Address) (outs : List Out) → is_own own place ≡ false
    → AllTo place outs
    → AllOff own outs
off_to own place [] off all = tt
off_to own place (Send to datagram ∷ outs) off all =
    (subst (λ p. is_own own p ≡ false) (sym all.0) off, off_to own place outs off all.1)
off_to own place (Note said ∷ outs) off all = off_to own place outs off all
off_to own place (Wire packet ∷ outs) off all = off_to own place outs off all

-- what is sent elsewhere, or is not sent, with no note of the client and none with which a publish leaves
pub silent_off : (id : List ℕ) (own : List Address) (outs : List Out) → AllOff own outs
    → notes_of id outs ≡ [] → exits_in outs ≡ []
    → Silent id own outs
silent_off id own [] all none no_exit = refl
silent_off id own (Send to datagram ∷ outs) all none no_exit =
    skipped (is_own own to) (Send to datagram) (trace_of id own outs) all.0
    (silent_off id own outs all.1 none no_exit)
silent_off id own (Note said ∷ outs) all none no_exit =
    let notes = no_note (is_of id said) said (notes_of id outs) none in
    let exits = no_outcome (exit_of said) (exits_in outs) no_exit in
    skipped (speaks_of id said) (Note said) (trace_of id own outs) (unspoken id said notes.0 exits.0)
    (silent_off id own outs all notes.1 exits.1)
silent_off id own (Wire packet ∷ outs) all none no_exit = silent_off id own outs all none no_exit

pub silent_by : (id : List ℕ) (own : List Address) (place : Address) (outs : List Out)
    → is_own own place ≡ false → AllTo place outs → notes_of id outs ≡ [] → exits_in outs ≡ []
    → Silent id own outs
silent_by id own place outs off all none no_exit =
    silent_off id own outs (off_to own place outs off all) none no_exit

-- ---- no note at all

-- where nothing passes a test, the first does not, nor any behind it
none_first : (b : Bool) (out : Out) (rest : List Out) → cond b (out ∷ rest) rest ≡ []
    → (b ≡ false) × (rest ≡ [])
none_first true out rest none = absurd cc
none_first false out rest none = (refl, none)

untold : (id : List ℕ) (said : Decision) → speaks_of id said ≡ false → exit_of said ≡ []
    → (speaks_of id said || returns id said) ≡ false
untold id (note.Again who name outcome) away none = absurd cc
untold id (note.Forward who name outcome) away none = absurd cc
untold id (note.Connect client outcome) away none = rw away refl
untold id (note.Register who name outcome) away none = rw away refl
untold id (note.Publish who name outcome) away none = rw away refl
untold id (note.Subscribe who filter outcome) away none = rw away refl
untold id (note.Unsubscribe who filter outcome) away none = rw away refl
untold id (note.Will who name outcome) away none = rw away refl
untold id (note.Announce client name) away none = rw away refl
untold id (note.Hand client name outcome) away none = rw away refl
untold id (note.Retry client name outcome) away none = rw away refl
untold id (note.End client filter outcome) away none = rw away refl
untold id (note.Lost client) away none = rw away refl
untold id (note.Left client) away none = rw away refl
untold id note.Outbox away none = refl
untold id (note.Frame who outcome) away none = rw away refl

-- what is silent even where the client has no address, and lets nothing leave, has no note of it
pub none_told : (id : List ℕ) (outs : List Out) → Silent id [] outs → exits_in outs ≡ []
    → list_any (tells id) outs ≡ false
none_told id [] none no_exit = refl
none_told id (Send to datagram ∷ outs) none no_exit = none_told id outs none no_exit
none_told id (Note said ∷ outs) none no_exit =
    let both = none_first (speaks_of id said) (Note said) (trace_of id [] outs) none in
    let exits = no_outcome (exit_of said) (exits_in outs) no_exit in
    ap (λ b. b || list_any (tells id) outs) (untold id said both.0 exits.0)
    ∙ none_told id outs both.1 exits.1
none_told id (Wire packet ∷ outs) none no_exit = none_told id outs none no_exit
