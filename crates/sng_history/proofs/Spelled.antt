-- What is let out for a client has the client's notes, and no other.
use Rattle.std.proofs.Common.{◌≡◌, ℕ, Bool, true, false, List, [], ◌∷◌, ◌++◌, refl, ap, ◌∙◌}
use Rattle.std.specs.Prelude.{if◌then◌else◌, Option}
use Rattle.std.specs.Str.{bytes_eq}
use Rattle.std.proofs.lemmas.List.{append-nil}
use Rattle.sng_frames.specs.declared.messages.publish.Publish.{Publish}
use Rattle.sng_book.specs.declared.decision.Decision.{Decision}
use Rattle.sng_book.specs.declared.out.Out.{Out}
use Rattle.sng_history.specs.Causes.{Cause, request_of}
use Rattle.sng_history.specs.Clients.{Around, Client, is_author, start_by, note_by, notes_by}
use Rattle.sng_history.specs.Notes.{notes_of, exits_in, is_of, exit_of}
use Rattle.sng_history.specs.Whole.{frames_of, spell, answer, drained_outs, part}
use Rattle.sng_history.specs.Standing.{Release}
use Rattle.sng_history.specs.State.{asked_by, asked_all}
use Rattle.sng_history.specs.Steps.{asked_by_all}
use Rattle.sng_book.specs.declared.out.Out.TheVariants.{Send, Wire, Note}
use Rattle.sng_history.proofs.Sent.{AllSent, frames_sent, answer_sent, drained_sent}
use Rattle.sng_history.proofs.Hands.{Every}
use Rattle.sng_history.proofs.Own.{same_self, notes_append, exits_append, asks_append}

-- no note among these
pub record Mute (outs : List Out) : Type 0 where
  pub notes : (c : List ℕ) → notes_of c outs ≡ []
  pub exits : exits_in outs ≡ []
  pub asks : (p : Option Publish) → asked_all p outs ≡ []

pub mute_none : Mute []
mute_none = record { notes = λ c. refl; exits = refl; asks = λ p. refl }

pub mute_both : (xs ys : List Out) → Mute xs → Mute ys → Mute (xs ++ ys)
mute_both xs ys one two = record {
  notes = λ c. notes_append c xs ys ∙ (ap (λ notes. notes ++ notes_of c ys) (one.notes c) ∙ two.notes c);
  exits = exits_append xs ys ∙ (ap (λ exits. exits ++ exits_in ys) one.exits ∙ two.exits);
  asks = λ p. asks_append p xs ys ∙ (ap (λ items. items ++ asked_all p ys) (one.asks p) ∙ two.asks p);
}

-- what is sent to clients has none
pub mute_of : (outs : List Out) → AllSent outs → Mute outs
mute_of [] all = mute_none
mute_of (Send to datagram ∷ outs) all =
    let m = mute_of outs all in record { notes = m.notes; exits = m.exits; asks = m.asks }
mute_of (Note said ∷ outs) all =
    let m = mute_of outs all.1 in rw all.0 (record { notes = m.notes; exits = m.exits; asks = m.asks })
mute_of (Wire packet ∷ outs) all = absurd all

mute_frames : (a : Around) (dropped : List Release) (x : Client) (said : Decision)
    → Mute (frames_of a dropped x said)
mute_frames a dropped x said = mute_of (frames_of a dropped x said) (frames_sent a dropped x said)

mute_answer : (c : Cause) (x : Client) → Mute (answer (request_of c) x)
mute_answer c x = mute_of (answer (request_of c) x) (answer_sent (request_of c) x)

pub mute_if : (b : Bool) (outs : List Out) → Mute outs → Mute (if b then outs else [])
mute_if true outs m = m
mute_if false outs m = mute_none

-- ---- notes about one client

pub record About (c : List ℕ) (said : Decision) : Type 0 where
  pub of : (d : List ℕ) → is_of d said ≡ bytes_eq d c
  pub stays : exit_of said ≡ []

abbrev pub AllAbout : List ℕ → List Decision → Type 0
AllAbout c notes = Every (About c) notes

own_note : (b : Bool) (said : Decision) (notes : List Decision) → b ≡ true
    → (if b then said ∷ [] else []) ++ notes ≡ said ∷ notes
own_note true said notes is = refl
own_note false said notes is = absurd cc

no_note : (b : Bool) (said : Decision) (notes : List Decision) → b ≡ false
    → (if b then said ∷ [] else []) ++ notes ≡ notes
no_note true said notes is = absurd cc
no_note false said notes is = refl

pub spell_own : (a : Around) (dropped : List Release) (x : Client) (c : List ℕ) (notes : List Decision)
    → AllAbout c notes → notes_of c (spell a dropped x notes) ≡ notes
spell_own a dropped x c [] about = refl
spell_own a dropped x c (said ∷ notes) about =
    let y = note_by a said x in
    own_note (is_of c said) said (notes_of c (frames_of a dropped x said ++ spell a dropped y notes))
    (about.0.of c ∙ same_self c)
    ∙ ap (λ more. said ∷ more) (notes_append c (frames_of a dropped x said) (spell a dropped y notes)
    ∙ (ap (λ more. more ++ notes_of c (spell a dropped y notes)) ((mute_frames a dropped x said).notes c)
    ∙ spell_own a dropped y c notes about.1))

pub spell_other : (a : Around) (dropped : List Release) (x : Client) (c d : List ℕ) (notes : List Decision)
    → bytes_eq d c ≡ false → AllAbout c notes → notes_of d (spell a dropped x notes) ≡ []
spell_other a dropped x c d [] away about = refl
spell_other a dropped x c d (said ∷ notes) away about =
    let y = note_by a said x in
    no_note (is_of d said) said (notes_of d (frames_of a dropped x said ++ spell a dropped y notes))
    (about.0.of d ∙ away)
    ∙ (notes_append d (frames_of a dropped x said) (spell a dropped y notes)
    ∙ (ap (λ more. more ++ notes_of d (spell a dropped y notes)) ((mute_frames a dropped x said).notes d)
    ∙ spell_other a dropped y c d notes away about.1))

pub spell_exits : (a : Around) (dropped : List Release) (x : Client) (c : List ℕ) (notes : List Decision)
    → AllAbout c notes → exits_in (spell a dropped x notes) ≡ []
spell_exits a dropped x c [] about = refl
spell_exits a dropped x c (said ∷ notes) about =
    let y = note_by a said x in
    ap (λ more. more ++ exits_in (frames_of a dropped x said ++ spell a dropped y notes)) about.0.stays
    ∙ (exits_append (frames_of a dropped x said) (spell a dropped y notes)
    ∙ (ap (λ more. more ++ exits_in (spell a dropped y notes)) (mute_frames a dropped x said).exits
    ∙ spell_exits a dropped y c notes about.1))

lead : (c : Cause) (x : Client) → Mute (if is_author c x then answer (request_of c) x else [])
lead c x = mute_if (is_author c x) (answer (request_of c) x) (mute_answer c x)

last : (x : Client) → Mute (drained_outs x)
last x = mute_of (drained_outs x) (drained_sent x)

-- behind the answer, before which no note stands, and before the PINGRESP of one that falls asleep again
abbrev between : Around → List Release → List Decision → Client → List Out
between a dropped notes x =
    spell a dropped (start_by a x) notes ++ drained_outs (notes_by a notes (start_by a x))

part_notes : (a : Around) (dropped : List Release) (notes : List Decision) (x : Client) (d : List ℕ)
    → notes_of d (part a dropped notes x) ≡ notes_of d (spell a dropped (start_by a x) notes)
part_notes a dropped notes x d =
    let own = spell a dropped (start_by a x) notes in
    let y = notes_by a notes (start_by a x) in
    notes_append d (if is_author a.cause x then answer (request_of a.cause) x else [])
    (between a dropped notes x)
    ∙ (ap (λ more. more ++ notes_of d (between a dropped notes x)) ((lead a.cause x).notes d)
    ∙ (notes_append d own (drained_outs y)
    ∙ (ap (λ more. notes_of d own ++ more) ((last y).notes d) ∙ append-nil (notes_of d own))))

pub part_own : (a : Around) (dropped : List Release) (notes : List Decision) (x : Client)
    → AllAbout x.id notes
    → notes_of x.id (part a dropped notes x) ≡ notes
part_own a dropped notes x about =
    part_notes a dropped notes x x.id ∙ spell_own a dropped (start_by a x) x.id notes about

pub part_other : (a : Around) (dropped : List Release) (notes : List Decision) (x : Client) (d : List ℕ)
    → bytes_eq d x.id ≡ false
    → AllAbout x.id notes → notes_of d (part a dropped notes x) ≡ []
part_other a dropped notes x d away about =
    part_notes a dropped notes x d ∙ spell_other a dropped (start_by a x) x.id d notes away about

pub part_exits : (a : Around) (dropped : List Release) (notes : List Decision) (x : Client)
    → AllAbout x.id notes
    → exits_in (part a dropped notes x) ≡ []
part_exits a dropped notes x about =
    let own = spell a dropped (start_by a x) notes in
    let y = notes_by a notes (start_by a x) in
    exits_append (if is_author a.cause x then answer (request_of a.cause) x else [])
    (between a dropped notes x)
    ∙ (ap (λ more. more ++ exits_in (between a dropped notes x)) (lead a.cause x).exits
    ∙ (exits_append own (drained_outs y)
    ∙ (ap (λ more. more ++ exits_in (drained_outs y)) (spell_exits a dropped (start_by a x) x.id notes about)
    ∙ (last y).exits)))

-- what a client's part asks for is what its notes ask for
spell_asks : (a : Around) (dropped : List Release) (x : Client) (p : Option Publish) (notes : List Decision)
    → asked_all p (spell a dropped x notes) ≡ asked_by_all p notes
spell_asks a dropped x p [] = refl
spell_asks a dropped x p (said ∷ notes) =
    let y = note_by a said x in
    ap (λ more. asked_by p said ++ more)
    (asks_append p (frames_of a dropped x said) (spell a dropped y notes)
    ∙ (ap (λ more. more ++ asked_all p (spell a dropped y notes)) ((mute_frames a dropped x said).asks p)
    ∙ spell_asks a dropped y p notes))

pub part_asks : (a : Around) (dropped : List Release) (notes : List Decision) (x : Client)
    (p : Option Publish)
    → asked_all p (part a dropped notes x) ≡ asked_by_all p notes
part_asks a dropped notes x p =
    let own = spell a dropped (start_by a x) notes in
    let y = notes_by a notes (start_by a x) in
    asks_append p (if is_author a.cause x then answer (request_of a.cause) x else [])
    (between a dropped notes x)
    ∙ (ap (λ more. more ++ asked_all p (between a dropped notes x)) ((lead a.cause x).asks p)
    ∙ (asks_append p own (drained_outs y)
    ∙ (ap (λ more. asked_all p own ++ more) ((last y).asks p)
    ∙ (append-nil (asked_all p own) ∙ spell_asks a dropped (start_by a x) p notes))))
