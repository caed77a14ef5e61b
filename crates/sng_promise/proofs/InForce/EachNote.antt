-- That something holds of each note among outs: of outs behind outs, and of the part of a client.
use Rattle.std.proofs.Common.{◌≡◌, ℕ, Bool, true, false, List, [], ◌∷◌, ◌++◌, refl, sym, subst, if◌then◌else◌}
use Rattle.std.specs.List.{flat_map}
use Rattle.sng_book.specs.declared.decision.Decision.{Decision}
use Rattle.sng_book.specs.declared.decision.Decision.TheVariants as note
use Rattle.sng_book.specs.declared.decision.Who.TheVariants as who
use Rattle.sng_book.specs.declared.outcome.Outcome.{Outcome}
use Rattle.sng_book.specs.declared.outcome.Outcome.TheVariants.{Denied}
use Rattle.sng_book.specs.declared.out.Out.{Out}
use Rattle.sng_book.specs.declared.out.Out.TheVariants.{Send, Wire, Note}
use Rattle.sng_history.specs.Causes.{Cause, request_of}
use Rattle.sng_history.specs.Causes.{ByConnect, ByMessage, BySource, ByBroken, ByPacket, ByUp, ByDown, ByTake}
use Rattle.sng_history.specs.Causes.{ByReplace, ByTick}
use Rattle.sng_history.specs.Notes.{notes_of, is_of}
use Rattle.sng_history.specs.Clients.{Around, Client, is_author, start_by, note_by}
use Rattle.sng_history.specs.Clients.{notes_by, is_drained}
use Rattle.sng_history.specs.Standing.{Release}
use Rattle.sng_history.specs.State.{State}
use Rattle.sng_history.specs.Packets.{answer_of, answer_outs}
use Rattle.sng_history.specs.Verdicts.{entry}
use Rattle.sng_history.specs.Answers.{pong}
use Rattle.sng_history.specs.Lawful.{fixed_for}
use Rattle.sng_history.specs.Whole.{spell, frames_of, answer, part, stranger_to}
use Rattle.sng_history.specs.Whole.{drained_outs}
use Rattle.sng_history.specs.Steps.{outs_by}
use Rattle.sng_history.specs.Good.{Each}
use Rattle.sng_history.proofs.Hands.{Every}
use Rattle.sng_history.proofs.Sent.{AllSent, frames_sent, answer_sent}

-- it holds of each note among these outs
abbrev pub EachNote : (Decision → Type 0) → List Out → Type 0
EachNote P [] = Unit {0}
EachNote P (Note said ∷ outs) = P said × EachNote P outs
EachNote P (Send to datagram ∷ outs) = EachNote P outs
EachNote P (Wire packet ∷ outs) = EachNote P outs

-- what a row lets out that is of no client
abbrev pub of_nobody : State → Cause → List Out
of_nobody s (ByConnect from connect) = Note (note.Connect connect.client_id (entry s connect)) ∷ []
of_nobody s (ByMessage from request) = stranger_to from request
of_nobody s (BySource from p) = outs_by s (BySource from p)
of_nobody s (ByBroken from rule) = Note (note.Frame (who.Address from) (Denied rule)) ∷ []
of_nobody s (ByPacket p) = answer_outs s.policy.limits s.up s.link (answer_of p)
of_nobody s ByUp = outs_by s ByUp
of_nobody s ByDown = []
of_nobody s ByTake = outs_by s ByTake
of_nobody s (ByReplace policy) = []
of_nobody s (ByTick clock) = []

-- it holds of each note that the cause fixes of one of the clients, and of each that is of no client
pub record Fixes (P : Decision → Type 0) (s : State) (c : Cause) : Type 0 where
  pub dropped : P note.Outbox
  pub nobody : EachNote P (of_nobody s c)
  pub own : Each (λ x. Every P (fixed_for s c x)) s.clients

-- it holds of each note that is nobody's, and of each of a CONNECT
pub record Beside (P : Decision → Type 0) : Type 0 where
  pub foreign : (said : Decision) → ((id : List ℕ) → is_of id said ≡ false) → P said
  pub entry : (id : List ℕ) (o : Outcome) → P (note.Connect id o)

-- ---- outs behind outs

pub note_both : (P : Decision → Type 0) (xs ys : List Out) → EachNote P xs → EachNote P ys
    → EachNote P (xs ++ ys)
note_both P [] ys one two = two
note_both P (Note said ∷ xs) ys one two = (one.0, note_both P xs ys one.1 two)
note_both P (Send to datagram ∷ xs) ys one two = note_both P xs ys one two
note_both P (Wire packet ∷ xs) ys one two = note_both P xs ys one two

pub note_flat : (P : Decision → Type 0) (f : Client → List Out) (xs : List Client)
    → Each (λ x. EachNote P (f x)) xs
    → EachNote P (flat_map f xs)
note_flat P f [] each = tt
note_flat P f (x ∷ xs) each = note_both P (f x) (flat_map f xs) each.0 (note_flat P f xs each.1)

pub note_if : (P : Decision → Type 0) (b : Bool) (xs ys : List Out) → EachNote P xs → EachNote P ys
    → EachNote P (if b then xs else ys)
note_if P true xs ys one two = one
note_if P false xs ys one two = two

pub note_sent : (P : Decision → Type 0) (outs : List Out) → P note.Outbox → AllSent outs → EachNote P outs
note_sent P [] outbox all = tt
note_sent P (Send to datagram ∷ outs) outbox all = note_sent P outs outbox all
note_sent P (Note said ∷ outs) outbox all = (subst P (sym all.0) outbox, note_sent P outs outbox all.1)
note_sent P (Wire packet ∷ outs) outbox all = absurd all

none_first : (b : Bool) (said : Decision) (rest : List Decision) → (if b then said ∷ [] else []) ++ rest ≡ []
    → b ≡ false
none_first true said rest none = absurd cc
none_first false said rest none = refl

none_rest : (b : Bool) (said : Decision) (rest : List Decision) → (if b then said ∷ [] else []) ++ rest ≡ []
    → rest ≡ []
none_rest true said rest none = absurd cc
none_rest false said rest none = none

-- outs without a note of any client
pub note_foreign : (P : Decision → Type 0) (outs : List Out) → Beside P
    → ((id : List ℕ) → notes_of id outs ≡ [])
    → EachNote P outs
note_foreign P [] is none = tt
note_foreign P (Note said ∷ outs) is none = (
  is.foreign said (λ id. none_first (is_of id said) said (notes_of id outs) (none id)),
  note_foreign P outs is (λ id. none_rest (is_of id said) said (notes_of id outs) (none id)),
)
note_foreign P (Send to datagram ∷ outs) is none = note_foreign P outs is none
note_foreign P (Wire packet ∷ outs) is none = note_foreign P outs is none

-- ---- the part of a client

pub note_spell : (P : Decision → Type 0) (a : Around) (dropped : List Release) (x : Client)
    (notes : List Decision) → P note.Outbox
    → Every P notes
    → EachNote P (spell a dropped x notes)
note_spell P a dropped x [] outbox every = tt
note_spell P a dropped x (said ∷ notes) outbox every = (
  every.0,
  note_both P (frames_of a dropped x said) (spell a dropped (note_by a said x) notes)
      (note_sent P (frames_of a dropped x said) outbox (frames_sent a dropped x said))
      (note_spell P a dropped (note_by a said x) notes outbox every.1),
)

note_drained : (P : Decision → Type 0) (y : Client) → EachNote P (drained_outs y)
note_drained P y = note_if P (is_drained y) (pong y.address ∷ []) [] tt tt

pub note_part : (P : Decision → Type 0) (a : Around) (dropped : List Release) (notes : List Decision)
    (x : Client)
    → P note.Outbox
    → Every P notes
    → EachNote P (part a dropped notes x)
note_part P a dropped notes x outbox every =
    let first : List Out = if is_author a.cause x then answer (request_of a.cause) x else [] in
    let y = start_by a x in
    let last = drained_outs (notes_by a notes y) in
    note_both P first (spell a dropped y notes ++ last)
    (note_if P (is_author a.cause x) (answer (request_of a.cause) x) []
    (note_sent P (answer (request_of a.cause) x) outbox (answer_sent (request_of a.cause) x)) tt)
    (note_both P (spell a dropped y notes) last (note_spell P a dropped y notes outbox every)
    (note_drained P (notes_by a notes y)))
