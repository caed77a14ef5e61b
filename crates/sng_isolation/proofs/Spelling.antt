-- What is spelled for a client by its notes depends on no more of a policy than what that says to the client, and
-- what was dropped on the way to the broker is not for it.
use Rattle.std.proofs.Common.{◌≡◌, ℕ, Bool, true, false, List, [], ◌∷◌, ◌++◌, refl, ap, ap₂, sym, ◌∙◌, cond}
use Rattle.std.proofs.Common.{if◌then◌else◌}
use Rattle.std.specs.Prelude.{Option, Some, None}
use Rattle.std.specs.List.{list_any}
use Rattle.std.proofs.lemmas.List.Elements.{filter-append}
use Rattle.sng_book.specs.declared.address.Address.{Address}
use Rattle.sng_book.specs.declared.decision.Decision.{Decision}
use Rattle.sng_book.specs.declared.decision.Decision.TheVariants as note
use Rattle.sng_book.specs.declared.outcome.Outcome.{Outcome}
use Rattle.sng_book.specs.declared.outcome.Outcome.TheVariants.{Allowed, Denied}
use Rattle.sng_book.specs.declared.out.Out.{Out}
use Rattle.sng_book.specs.declared.out.Out.TheVariants.{Note}
use Rattle.sng_book.specs.Traces.{speaks_of, reaches, trace_of}
use Rattle.sng_history.specs.Causes.{request_of}
use Rattle.sng_history.specs.Clients.{Around, Client, is_author, start_by, handed, note_by, notes_by, drained}
use Rattle.sng_history.specs.Clients.{client_by}
use Rattle.sng_history.specs.Standing.{Release, is_release, drop_note}
use Rattle.sng_history.specs.Whole.{replied, dropped_with, frames_of, spell, answer, drained_outs, part}
use Rattle.sng_isolation.specs.View.{part_of}
use Rattle.sng_isolation.proofs.Silent.{Silent}

-- what the notes of the client are read by
abbrev pub own_around : List ℕ → Around → Around
own_around id a = record a { policy = part_of id a.policy }

-- ---- what the notes leave

handed_same : (id : List ℕ) (a : Around) (name : List ℕ) (o : Outcome) (x : Client)
    → handed a name o x ≡ handed (own_around id a) name o x
handed_same id a name Allowed x = refl
handed_same id a name (Denied rule) x = refl

pub note_same : (id : List ℕ) (a : Around) (said : Decision) (x : Client)
    → note_by a said x ≡ note_by (own_around id a) said x
note_same id a (note.Hand client name o) x = handed_same id a name o x
note_same id a (note.Connect client o) x = refl
note_same id a (note.Left client) x = refl
note_same id a (note.Register whom name o) x = refl
note_same id a (note.Publish whom name o) x = refl
note_same id a (note.Subscribe whom filter o) x = refl
note_same id a (note.Unsubscribe whom filter o) x = refl
note_same id a (note.Will whom name o) x = refl
note_same id a (note.Announce client name) x = refl
note_same id a (note.Retry client name o) x = refl
note_same id a (note.Forward whom name o) x = refl
note_same id a (note.Again whom name o) x = refl
note_same id a (note.End client filter o) x = refl
note_same id a (note.Lost client) x = refl
note_same id a note.Outbox x = refl
note_same id a (note.Frame whom o) x = refl

pub notes_same : (id : List ℕ) (a : Around) (notes : List Decision) (x : Client)
    → notes_by a notes x ≡ notes_by (own_around id a) notes x
notes_same id a [] x = refl
notes_same id a (said ∷ notes) x =
    notes_same id a notes (note_by a said x)
    ∙ ap (notes_by (own_around id a) notes) (note_same id a said x)

pub client_same : (id : List ℕ) (a : Around) (notes : List Decision) (x : Client)
    → client_by a notes x ≡ client_by (own_around id a) notes x
client_same id a notes x = ap drained (notes_same id a notes (start_by a x))

-- ---- what they let out

silent_drop : (id : List ℕ) (own : List Address) (b : Bool)
    → Silent id own (if b then Note note.Outbox ∷ [] else [])
silent_drop id own true = refl
silent_drop id own false = refl

-- what is silent in front makes no difference
pub silent_front : (id : List ℕ) (own : List Address) (xs ys : List Out) → Silent id own xs
    → trace_of id own (xs ++ ys) ≡ trace_of id own ys
silent_front id own xs ys none =
    filter-append (reaches id own) xs ys ∙ ap (λ outs. outs ++ trace_of id own ys) none

unsubscribed_same : (id : List ℕ) (own : List Address) (dropped : List Release) (client : List ℕ)
    (filter : Option (List ℕ)) (rest : List Out)
    → trace_of id own (dropped_with dropped client filter ++ rest)
    ≡ trace_of id own (dropped_with [] client filter ++ rest)
unsubscribed_same id own dropped client None rest = refl
unsubscribed_same id own dropped client (Some filter) rest =
    silent_front id own (drop_note dropped client filter) rest
    (silent_drop id own (list_any (is_release client filter) dropped))

pub frames_same : (id : List ℕ) (own : List Address) (a : Around) (dropped : List Release) (x : Client)
    (said : Decision)
    → trace_of id own (frames_of a dropped x said) ≡ trace_of id own (frames_of (own_around id a) [] x said)
frames_same id own a dropped x (note.Unsubscribe whom filter o) =
    unsubscribed_same id own dropped x.id filter (replied a.cause x filter o)
frames_same id own a dropped x (note.End client filter o) =
    silent_drop id own (list_any (is_release x.id filter) dropped)
frames_same id own a dropped x (note.Hand client name Allowed) = refl
frames_same id own a dropped x (note.Hand client name (Denied rule)) = refl
frames_same id own a dropped x (note.Connect client o) = refl
frames_same id own a dropped x (note.Left client) = refl
frames_same id own a dropped x (note.Register whom name o) = refl
frames_same id own a dropped x (note.Publish whom name o) = refl
frames_same id own a dropped x (note.Subscribe whom filter o) = refl
frames_same id own a dropped x (note.Will whom name o) = refl
frames_same id own a dropped x (note.Announce client name) = refl
frames_same id own a dropped x (note.Retry client name o) = refl
frames_same id own a dropped x (note.Forward whom name o) = refl
frames_same id own a dropped x (note.Again whom name o) = refl
frames_same id own a dropped x (note.Lost client) = refl
frames_same id own a dropped x note.Outbox = refl
frames_same id own a dropped x (note.Frame whom o) = refl

-- two lists of outs, each behind another
pub both_same : (id : List ℕ) (own : List Address) (xs ys us vs : List Out)
    → trace_of id own xs ≡ trace_of id own us → trace_of id own ys ≡ trace_of id own vs
    → trace_of id own (xs ++ ys) ≡ trace_of id own (us ++ vs)
both_same id own xs ys us vs one two =
    filter-append (reaches id own) xs ys
    ∙ (ap₂ (λ some more. some ++ more) one two ∙ sym (filter-append (reaches id own) us vs))

pub spell_same : (id : List ℕ) (own : List Address) (a : Around) (dropped : List Release) (x : Client)
    (notes : List Decision)
    → trace_of id own (spell a dropped x notes) ≡ trace_of id own (spell (own_around id a) [] x notes)
spell_same id own a dropped x [] = refl
spell_same id own a dropped x (said ∷ notes) =
    let b = own_around id a in
    let y = note_by a said x in
    ap (λ rest. cond (speaks_of id said) (Note said ∷ rest) rest)
    (both_same id own (frames_of a dropped x said) (spell a dropped y notes) (frames_of b [] x said)
    (spell b [] (note_by b said x) notes) (frames_same id own a dropped x said)
    (spell_same id own a dropped y notes
    ∙ ap (λ z. trace_of id own (spell b [] z notes)) (note_same id a said x)))

pub part_same : (id : List ℕ) (own : List Address) (a : Around) (dropped : List Release)
    (notes : List Decision) (x : Client)
    → trace_of id own (part a dropped notes x) ≡ trace_of id own (part (own_around id a) [] notes x)
part_same id own a dropped notes x =
    let b = own_around id a in
    let y = start_by a x in
    let first : List Out = if is_author a.cause x then answer (request_of a.cause) x else [] in
    both_same id own first (spell a dropped y notes ++ drained_outs (notes_by a notes y)) first
    (spell b [] y notes ++ drained_outs (notes_by b notes y)) refl
    (both_same id own (spell a dropped y notes) (drained_outs (notes_by a notes y)) (spell b [] y notes)
    (drained_outs (notes_by b notes y)) (spell_same id own a dropped y notes)
    (ap (λ z. trace_of id own (drained_outs z)) (notes_same id a notes y)))
