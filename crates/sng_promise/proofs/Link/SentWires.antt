-- What is sent to clients brings no packet for the broker.
use Rattle.std.proofs.Common.{◌≡◌, Bool, true, false, List, [], ◌∷◌, ◌++◌, refl, ap, sym, ◌∙◌, if◌then◌else◌}
use Rattle.std.specs.Prelude.{Option}
use Rattle.std.proofs.lemmas.List.{append-nil}
use Rattle.sng_book.specs.declared.decision.Decision.{Decision}
use Rattle.sng_book.specs.declared.out.Out.{Out}
use Rattle.sng_book.specs.declared.out.Out.TheVariants.{Send, Wire, Note}
use Rattle.sng_history.specs.Causes.{Request, request_of}
use Rattle.sng_history.specs.Clients.{Around, Client, is_author, start_by, note_by, notes_by}
use Rattle.sng_history.specs.Standing.{Release}
use Rattle.sng_history.specs.Whole.{frames_of, spell, answer, drained_outs, part}
use Rattle.sng_laws.specs.Views.{wires_in}
use Rattle.sng_history.proofs.Sent.{AllSent, frames_sent, answer_sent, drained_sent}

author_sent : (request : Option Request) (x : Client) (b : Bool)
    → AllSent (if b then answer request x else [])
author_sent request x true = answer_sent request x
author_sent request x false = tt

pub sent_wires : (xs ys : List Out) → AllSent xs → wires_in (xs ++ ys) ≡ wires_in ys
sent_wires [] ys sent = refl
sent_wires (Send to datagram ∷ xs) ys sent = sent_wires xs ys sent
sent_wires (Note said ∷ xs) ys sent = sent_wires xs ys sent.1
sent_wires (Wire packet ∷ xs) ys sent = absurd sent

pub spell_wires : (a : Around) (dropped : List Release) (x : Client) (notes : List Decision)
    → wires_in (spell a dropped x notes) ≡ []
spell_wires a dropped x [] = refl
spell_wires a dropped x (said ∷ notes) =
    sent_wires (frames_of a dropped x said) (spell a dropped (note_by a said x) notes)
    (frames_sent a dropped x said) ∙ spell_wires a dropped (note_by a said x) notes

only_sent_wires : (xs : List Out) → AllSent xs → wires_in xs ≡ []
only_sent_wires xs sent = ap wires_in (sym (append-nil xs)) ∙ sent_wires xs [] sent

both_wires : (xs ys : List Out) → wires_in xs ≡ [] → AllSent ys → wires_in (xs ++ ys) ≡ []
both_wires [] ys none sent = only_sent_wires ys sent
both_wires (Send to datagram ∷ xs) ys none sent = both_wires xs ys none sent
both_wires (Note said ∷ xs) ys none sent = both_wires xs ys none sent
both_wires (Wire packet ∷ xs) ys none sent = absurd cc

pub part_wires : (a : Around) (dropped : List Release) (notes : List Decision) (x : Client)
    → wires_in (part a dropped notes x) ≡ []
part_wires a dropped notes x =
    let y = start_by a x in
    let last = drained_outs (notes_by a notes y) in
    sent_wires (if is_author a.cause x then answer (request_of a.cause) x else [])
    (spell a dropped y notes ++ last)
    (author_sent (request_of a.cause) x (is_author a.cause x))
    ∙ both_wires (spell a dropped y notes) last (spell_wires a dropped y notes)
    (drained_sent (notes_by a notes y))
