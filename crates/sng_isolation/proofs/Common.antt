-- What a cause does to a client in two states that it cannot tell apart, where it fixes the same notes of it.
use Rattle.std.proofs.Common.{◌≡◌, ℕ, false, List, [], refl, ap, ap₂, sym, ◌∙◌, subst}
use Rattle.std.specs.Prelude.{Option, Some, None}
use Rattle.std.specs.List.{flat_map}
use Rattle.std.specs.Option.{option_map}
use Rattle.std.specs.Str.{bytes_eq}
use Rattle.sng_book.specs.declared.address.Address.{Address}
use Rattle.sng_book.specs.declared.decision.Decision.{Decision}
use Rattle.sng_book.specs.Traces.{reaches, trace_of}
use Rattle.sng_history.specs.Causes.{Cause}
use Rattle.sng_history.specs.Causes.{ByConnect, ByMessage, BySource, ByBroken, ByPacket, ByUp, ByDown, ByTake}
use Rattle.sng_history.specs.Causes.{ByReplace, ByTick}
use Rattle.sng_history.specs.Clients.{Around, Client, client_by}
use Rattle.sng_history.specs.Notes.{notes_of}
use Rattle.sng_history.specs.Standing.{Release}
use Rattle.sng_history.specs.State.{State, around, policy_by, clock_by}
use Rattle.sng_history.specs.Whole.{part}
use Rattle.sng_history.specs.Lawful.{fixed_for}
use Rattle.sng_history.specs.Steps.{outs_by, newcomers_for, client_next, clients_next}
use Rattle.sng_history.specs.Good.{Each, Good}
use Rattle.sng_history.proofs.Hands.{Every}
use Rattle.sng_history.proofs.Keeping.{each_left}
use Rattle.sng_history.proofs.Own.{same_means, each_map}
use Rattle.sng_history.proofs.Says.{says}
use Rattle.sng_isolation.specs.Own.{names}
use Rattle.sng_isolation.specs.View.{part_of}
use Rattle.sng_isolation.specs.Room.{HasRoom}
use Rattle.sng_isolation.specs.Isolation.{kept_of}
use Rattle.sng_history.proofs.Stayed.{enters_by}
use Rattle.sng_isolation.proofs.Silent.{Silent}
use Rattle.sng_isolation.proofs.Foreign.{other_silent}
use Rattle.sng_isolation.proofs.ForeignStep.{kept_next}
use Rattle.sng_isolation.proofs.Alike.{Alike, IsPlaced, Sound}
use Rattle.sng_isolation.proofs.Policies.{SaysSame, says_same}
use Rattle.sng_isolation.proofs.Spelling.{own_around, client_same, part_same}
use Rattle.sng_isolation.proofs.Fan.{kept_is, kept_each, fans}
use Rattle.sng_isolation.proofs.Roomy.{Roomy, roomy_notes}

-- the same notes are fixed of the client
abbrev pub SameNotes : List ℕ → State → State → Cause → Type 0
SameNotes id s t c =
    (x : Client) → kept_of id s.clients ≡ Some x → kept_of id t.clients ≡ Some x
    → fixed_for s c x ≡ fixed_for t c x

-- ---- by what its notes are read

policy_same : (id : List ℕ) (s t : State) (c : Cause) → Alike id s t
    → part_of id (policy_by c s.policy) ≡ part_of id (policy_by c t.policy)
policy_same id s t (ByConnect from connect) alike = alike.policy
policy_same id s t (ByMessage from request) alike = alike.policy
policy_same id s t (BySource from p) alike = alike.policy
policy_same id s t (ByBroken from rule) alike = alike.policy
policy_same id s t (ByPacket p) alike = alike.policy
policy_same id s t ByUp alike = alike.policy
policy_same id s t ByDown alike = alike.policy
policy_same id s t ByTake alike = alike.policy
policy_same id s t (ByReplace policy) alike = refl
policy_same id s t (ByTick clock) alike = alike.policy

pub around_same : (id : List ℕ) (s t : State) (c : Cause) → Alike id s t
    → own_around id (around s c) ≡ own_around id (around t c)
around_same id s t c alike =
    ap₂ (λ p k. let a : Around = record { policy = p; clock = k; cause = c } in a) (policy_same id s t c alike)
    (ap (clock_by c) alike.clock)

pub says_alike : (id : List ℕ) (s t : State) (x : Client) → Alike id s t → kept_of id s.clients ≡ Some x
    → SaysSame x.id s.policy t.policy
says_alike id s t x alike is =
    subst (λ d. SaysSame d s.policy t.policy) (same_means id x.id (kept_is id x s.clients is))
    (says_same id s.policy t.policy alike.policy)

-- ---- of its notes none says that a shared place is full

pub roomy_fixed : (id : List ℕ) (s : State) (c : Cause) (x : Client) → Good s → HasRoom id (outs_by s c)
    → kept_of id s.clients ≡ Some x → Every Roomy (fixed_for s c x)
roomy_fixed id s c x good room is =
    let outs = outs_by s c in
    let own : notes_of x.id outs ≡ fixed_for s c x =
    kept_each (λ y. notes_of y.id outs ≡ fixed_for s c y) id x s.clients is
    (each_left (λ y. notes_of y.id outs ≡ fixed_for s c y) s.clients (newcomers_for s c)
    (says s c good.apart).own) in
    subst (Every Roomy)
    (ap (λ d. notes_of d outs) (same_means id x.id (kept_is id x s.clients is)) ∙ own)
    (roomy_notes id outs room)

-- ---- what they let out

part_common : (id : List ℕ) (own : List Address) (s t : State) (c : Cause) (dropped lost : List Release)
    (x : Client) (m n : List Decision)
    → Alike id s t → m ≡ n
    → trace_of id own (part (around s c) dropped m x) ≡ trace_of id own (part (around t c) lost n x)
part_common id own s t c dropped lost x m n alike same =
    part_same id own (around s c) dropped m x
    ∙ (ap₂ (λ a notes. trace_of id own (part a [] notes x)) (around_same id s t c alike) same
    ∙ sym (part_same id own (around t c) lost n x))

pub others_silent : (id : List ℕ) (own : List Address) (s : State) (c : Cause) (dropped : List Release)
    → ((x : Client) → enters_by c x ≡ false) → Each (IsPlaced id own) s.clients
    → Each (λ x. bytes_eq id x.id ≡ false
    → Silent id own (part (around s c) dropped (fixed_for s c x) x)) s.clients
others_silent id own s c dropped others placed =
    each_map (IsPlaced id own) (λ x. bytes_eq id x.id ≡ false
    → Silent id own (part (around s c) dropped (fixed_for s c x) x)) s.clients
    (λ x at away. other_silent id own s c dropped x (others x) away (at ∙ away)) placed

pub rows_common : (id : List ℕ) (own : List Address) (s t : State) (c : Cause) (dropped lost : List Release)
    → ((x : Client) → enters_by c x ≡ false) → Sound id own s → Sound id own t → Alike id s t
    → SameNotes id s t c
    → trace_of id own (flat_map (λ x. part (around s c) dropped (fixed_for s c x) x) s.clients)
    ≡ trace_of id own (flat_map (λ x. part (around t c) lost (fixed_for t c x) x) t.clients)
rows_common id own s t c dropped lost others sound also alike notes =
    fans (reaches id own) id (λ x. part (around s c) dropped (fixed_for s c x) x)
    (λ x. part (around t c) lost (fixed_for t c x) x) s.clients t.clients sound.good.apart also.good.apart
    (others_silent id own s c dropped others sound.placed) (others_silent id own t c lost others also.placed)
    alike.kept
    (λ x is it. part_common id own s t c dropped lost x (fixed_for s c x) (fixed_for t c x) alike
    (notes x is it))

-- ---- what they leave

pub next_common : (id : List ℕ) (s t : State) (c : Cause) (x : Client) → Alike id s t
    → fixed_for s c x ≡ fixed_for t c x → client_next s c x ≡ client_next t c x
next_common id s t c x alike same =
    client_same id (around s c) (fixed_for s c x) x
    ∙ (ap₂ (λ a notes. client_by a notes x) (around_same id s t c alike) same
    ∙ sym (client_same id (around t c) (fixed_for t c x) x))

-- where the client moves alike
pub kept_moved : (id : List ℕ) (f g : Client → Client) (xs ys : List Client)
    → kept_of id xs ≡ kept_of id ys
    → ((x : Client) → kept_of id xs ≡ Some x → kept_of id ys ≡ Some x → f x ≡ g x)
    → option_map f (kept_of id xs) ≡ option_map g (kept_of id ys)
kept_moved id f g xs ys same moves =
    by_kept (kept_of id xs) refl (sym same) ∙ ap (option_map g) same
  where
    by_kept : (o : Option Client) → kept_of id xs ≡ o → kept_of id ys ≡ o → option_map f o ≡ option_map g o
    by_kept None is it = refl
    by_kept (Some x) is it = ap Some (moves x is it)

pub kept_common : (id : List ℕ) (s t : State) (c : Cause) → names id c ≡ false → Alike id s t
    → SameNotes id s t c
    → kept_of id (clients_next s c) ≡ kept_of id (clients_next t c)
kept_common id s t c named alike notes =
    kept_next id s c named
    ∙ (kept_moved id (client_next s c) (client_next t c) s.clients t.clients alike.kept
    (λ x is it. next_common id s t c x alike (notes x is it)) ∙ sym (kept_next id t c named))
