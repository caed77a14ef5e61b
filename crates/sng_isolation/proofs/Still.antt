-- A client that a cause does not concern: nothing is let out for it, and it stays as it is.
use Rattle.std.proofs.Common.{◌≡◌, Bool, true, false, List, [], ◌∷◌, ◌++◌, refl, ap, ◌∙◌}
use Rattle.std.proofs.Common.{if◌then◌else◌}
use Rattle.std.specs.Str.{bytes_eq}
use Rattle.sng_frames.specs.declared.messages.connect.Connect.{Connect}
use Rattle.sng_book.specs.Denials.{is_allowed}
use Rattle.sng_book.specs.declared.address.Address.{Address}
use Rattle.sng_book.specs.declared.decision.Decision.{Decision}
use Rattle.sng_book.specs.declared.decision.Decision.TheVariants as note
use Rattle.sng_book.specs.declared.outcome.Denial.{Denial}
use Rattle.sng_book.specs.declared.out.Out.{Out}
use Rattle.sng_history.specs.Causes.{Request, Cause, request_of, ByConnect, ByMessage, ByBroken}
use Rattle.sng_history.specs.Clients.{Client, is_here, is_author, start_by, is_drained, drained, client_by}
use Rattle.sng_history.specs.State.{State, around}
use Rattle.sng_history.specs.Standing.{Release}
use Rattle.sng_history.specs.Verdicts.{entry}
use Rattle.sng_history.specs.Outgoing.{all_gone}
use Rattle.sng_history.specs.Answers.{pong}
use Rattle.sng_history.specs.Whole.{part, answer, drained_outs}
use Rattle.sng_history.specs.Lawful.{fixed_for}
use Rattle.sng_history.specs.Steps.{client_next}
use Rattle.sng_history.proofs.Steady.{undrained}
use Rattle.sng_history.proofs.Stayed.{beside_notes}

-- the cause brings nothing to the client, and notes nothing of it
pub record Unconcerned (s : State) (c : Cause) (x : Client) : Type 0 where
  pub fixed : fixed_for s c x ≡ []
  pub start : start_by (around s c) x ≡ x
  pub author : is_author c x ≡ false

-- a message from elsewhere, and what is no message
pub message_unconcerned : (s : State) (from : Address) (request : Request) (x : Client)
    → is_here x from ≡ false
    → Unconcerned s (ByMessage from request) x
message_unconcerned s from request x away =
    record { fixed = rw away refl; start = rw away refl; author = away }

pub broken_unconcerned : (s : State) (from : Address) (rule : Denial) (x : Client) → is_here x from ≡ false
    → Unconcerned s (ByBroken from rule) x
broken_unconcerned s from rule x away = record { fixed = rw away refl; start = refl; author = refl }

none_left : (allowed here : Bool) (notes : List Decision) → here ≡ false
    → (if allowed then (if here then notes else []) else []) ≡ []
none_left true true notes is = absurd cc
none_left true false notes is = refl
none_left false here notes is = refl

-- a CONNECT of another client from elsewhere
pub connect_unconcerned : (s : State) (from : Address) (connect : Connect) (x : Client)
    → bytes_eq connect.client_id x.id ≡ false → is_here x from ≡ false
    → Unconcerned s (ByConnect from connect) x
connect_unconcerned s from connect x other away = record {
  fixed =
      beside_notes s from connect x other
      ∙ none_left (is_allowed (entry s connect)) (is_here x from)
      (note.Left x.id ∷ all_gone x.id x.buffer.waiting) away;
  start = rw away refl;
  author = away;
}

-- ---- what follows

none_by : (b : Bool) (outs : List Out) → b ≡ false → (if b then outs else []) ≡ []
none_by true outs is = absurd cc
none_by false outs is = refl

pub part_none : (s : State) (c : Cause) (dropped : List Release) (x : Client) → is_drained x ≡ false
    → Unconcerned s c x
    → part (around s c) dropped (fixed_for s c x) x ≡ []
part_none s c dropped x busy none =
    let a = around s c in
    ap (λ notes. part a dropped notes x) none.fixed
    ∙ (ap (λ outs. outs ++ drained_outs (start_by a x))
    (none_by (is_author c x) (answer (request_of c) x) none.author)
    ∙ (ap drained_outs none.start ∙ none_by (is_drained x) (pong x.address ∷ []) busy))

pub next_none : (s : State) (c : Cause) (x : Client) → is_drained x ≡ false → Unconcerned s c x
    → client_next s c x ≡ x
next_none s c x busy none =
    ap (λ notes. client_by (around s c) notes x) none.fixed ∙ (ap drained none.start ∙ undrained x busy)
