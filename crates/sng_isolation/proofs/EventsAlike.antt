-- What an event does to a client in two books that it cannot tell apart: the ends of scopes at a tick come first,
-- whoever's they are.
use Rattle.std.proofs.Common.{◌≡◌, ℕ, Bool, true, false, List, [], ◌++◌, refl, ap, sym, ◌∙◌}
use Rattle.std.proofs.Common.{if◌then◌else◌}
use Rattle.std.specs.List.{list_any}
use Rattle.std.proofs.lemmas.List.Folds.{list_any-append}
use Rattle.sng_grants.specs.Ends.{in_force}
use Rattle.sng_grants.specs.declared.policy.Policy.{Policy}
use Rattle.sng_grants.proofs.EndLemmas.{nothing_ends_before}
use Rattle.sng_book.specs.declared.address.Address.{Address}
use Rattle.sng_book.specs.declared.event.Event.{Event}
use Rattle.sng_book.specs.declared.event.Event.TheVariants as event
use Rattle.sng_book.specs.declared.out.Out.{Out}
use Rattle.sng_book.specs.Traces.{trace_of}
use Rattle.sng_history.specs.Books.{left, ends_by, ended, row_outs, row_next}
use Rattle.sng_history.specs.Causes.{Cause, ByReplace, ByTick}
use Rattle.sng_history.specs.State.{State, later}
use Rattle.sng_history.specs.Steps.{outs_by, next_by}
use Rattle.sng_history.proofs.Booleans.{or_neither}
use Rattle.sng_isolation.specs.View.{part_of}
use Rattle.sng_isolation.specs.Room.{crowds, HasRoom}
use Rattle.sng_isolation.proofs.Alike.{Alike, Sound, IsShown}
use Rattle.sng_isolation.proofs.CommonLaw.{common_event}
use Rattle.sng_isolation.proofs.CommonPolicies.{common_policy, hidden_policy}
use Rattle.sng_isolation.proofs.InForce.{in_force_same}
use Rattle.sng_isolation.proofs.Placed.{sound_next}
use Rattle.sng_isolation.proofs.Spelling.{both_same}
use Rattle.sng_isolation.proofs.Straight.{shown_straight}

-- both books let out the same for the client, and lead to states that it cannot tell apart
pub record BothGo (id : List ℕ) (own : List Address) (s t : State) (e f : Event) : Type 0 where
  pub traces : trace_of id own (row_outs s e) ≡ trace_of id own (row_outs t f)
  pub alike : Alike id (row_next s e) (row_next t f)
  pub sound : Sound id own (row_next s e)
  pub also : Sound id own (row_next t f)

pub alike_then : (id : List ℕ) (r s t : State) → Alike id r s → Alike id s t → Alike id r t
alike_then id r s t one two = record {
  kept = one.kept ∙ two.kept;
  policy = one.policy ∙ two.policy;
  clock = one.clock ∙ two.clock;
  up = one.up ∙ two.up;
  waits = one.waits ∙ two.waits;
}

pub alike_back : (id : List ℕ) (s t : State) → Alike id s t → Alike id t s
alike_back id s t alike = record {
  kept = sym alike.kept;
  policy = sym alike.policy;
  clock = sym alike.clock;
  up = sym alike.up;
  waits = sym alike.waits;
}

-- ---- an event that is of both views as it is

pub plain_go : (id : List ℕ) (own : List Address) (s t : State) (c : Cause) → Sound id own s → Sound id own t
    → Alike id s t → IsShown id own c → HasRoom id (outs_by s c) → HasRoom id (outs_by t c)
    → (trace_of id own (outs_by s c) ≡ trace_of id own (outs_by t c))
    × Alike id (next_by s c) (next_by t c) × Sound id own (next_by s c) × Sound id own (next_by t c)
plain_go id own s t c sound also alike shown room other =
    let on = common_event id own s t c sound also alike shown room other in (
      on.traces,
      on.alike,
      sound_next id own s c (shown_straight id own c shown) sound,
      sound_next id own t c (shown_straight id own c shown) also,
    )

-- ---- a policy

pub policy_goes : (id : List ℕ) (own : List Address) (s t : State) (p q : Policy) → Sound id own s
    → Sound id own t → Alike id s t → part_of id p ≡ part_of id q
    → BothGo id own s t (event.Replace p) (event.Replace q)
policy_goes id own s t p q sound also alike same =
    let on = common_policy id own s t (in_force s.clock p) (in_force t.clock q) sound also alike
    (in_force_same id s.clock t.clock p q alike.clock same) in
    record {
      traces = on.traces;
      alike = on.alike;
      sound = sound_next id own s (ByReplace (in_force s.clock p)) tt sound;
      also = sound_next id own t (ByReplace (in_force t.clock q)) tt also;
    }

-- ---- a tick

-- what is left says the same to the client
left_same : (id : List ℕ) (s t : State) (clock : ℕ) → Alike id s t
    → part_of id (left s clock) ≡ part_of id (left t clock)
left_same id s t clock alike =
    in_force_same id (later s.clock clock) (later t.clock clock) s.policy t.policy
    (ap (λ k. later k clock) alike.clock) alike.policy

-- where nothing ends, the policy is left as it is
nothing_left : (t : State) (clock : ℕ) → ends_by t clock ≡ false → left t clock ≡ t.policy
nothing_left t clock none = nothing_ends_before (later t.clock clock) t.policy none

room_behind : (id : List ℕ) (some more : List Out) → HasRoom id (some ++ more) → HasRoom id more
room_behind id some more room =
    (or_neither (list_any (crowds id) some) (list_any (crowds id) more)
    (sym (list_any-append (crowds id) some more) ∙ room)).1

-- the outs of a tick, by whether something ends
abbrev outs_if : State → ℕ → Bool → List Out
outs_if s clock b =
    if b then outs_by s (ByReplace (left s clock)) ++ outs_by (ended s clock) (ByTick clock)
    else outs_by s (ByTick clock)

abbrev next_if : State → ℕ → Bool → State
next_if s clock b = if b then next_by (ended s clock) (ByTick clock) else next_by s (ByTick clock)

pub tick_goes : (id : List ℕ) (own : List Address) (s t : State) (clock : ℕ) → Sound id own s
    → Sound id own t → Alike id s t
    → HasRoom id (row_outs s (event.Tick clock)) → HasRoom id (row_outs t (event.Tick clock))
    → BothGo id own s t (event.Tick clock) (event.Tick clock)
tick_goes id own s t clock sound also alike room other =
    let go = by_ends (ends_by s clock) (ends_by t clock) refl refl room other in
    record { traces = go.0; alike = go.1; sound = go.2; also = go.3 }
  where
    after : (r : State) → Sound id own r → Sound id own (ended r clock)
    after r is = sound_next id own r (ByReplace (left r clock)) tt is

    by_ends : (a b : Bool) → ends_by s clock ≡ a → ends_by t clock ≡ b → HasRoom id (outs_if s clock a)
        → HasRoom id (outs_if t clock b)
        → (trace_of id own (outs_if s clock a) ≡ trace_of id own (outs_if t clock b))
        × Alike id (next_if s clock a) (next_if t clock b) × Sound id own (next_if s clock a)
        × Sound id own (next_if t clock b)
    by_ends true true here there room other =
        let ends = common_policy id own s t (left s clock) (left t clock) sound also alike
        (left_same id s t clock alike) in
        let go = plain_go id own (ended s clock) (ended t clock) (ByTick clock) (after s sound) (after t also)
        ends.alike tt
        (room_behind id (outs_by s (ByReplace (left s clock))) (outs_by (ended s clock) (ByTick clock)) room)
        (room_behind id (outs_by t (ByReplace (left t clock))) (outs_by (ended t clock) (ByTick clock)) other) in (
          both_same id own (outs_by s (ByReplace (left s clock))) (outs_by (ended s clock) (ByTick clock))
              (outs_by t (ByReplace (left t clock))) (outs_by (ended t clock) (ByTick clock)) ends.traces go.0,
          go.1,
          go.2,
          go.3,
        )
    by_ends true false here there room other =
        let quiet = hidden_policy id own s (left s clock) sound
        (left_same id s t clock alike ∙ (ap (part_of id) (nothing_left t clock there) ∙ sym alike.policy)) in
        let go = plain_go id own (ended s clock) t (ByTick clock) (after s sound) also
        (alike_then id (ended s clock) s t (alike_back id s (ended s clock) quiet.alike) alike) tt
        (room_behind id (outs_by s (ByReplace (left s clock))) (outs_by (ended s clock) (ByTick clock)) room)
        other in (
          both_same id own (outs_by s (ByReplace (left s clock))) (outs_by (ended s clock) (ByTick clock)) []
              (outs_by t (ByTick clock)) quiet.silent go.0,
          go.1,
          go.2,
          go.3,
        )
    by_ends false true here there room other =
        let quiet = hidden_policy id own t (left t clock) also
        (sym (left_same id s t clock alike) ∙ (ap (part_of id) (nothing_left s clock here) ∙ alike.policy)) in
        let go = plain_go id own s (ended t clock) (ByTick clock) sound (after t also)
        (alike_then id s t (ended t clock) alike quiet.alike) tt room
        (room_behind id (outs_by t (ByReplace (left t clock))) (outs_by (ended t clock) (ByTick clock)) other) in (
          both_same id own [] (outs_by s (ByTick clock)) (outs_by t (ByReplace (left t clock)))
              (outs_by (ended t clock) (ByTick clock)) (sym quiet.silent) go.0,
          go.1,
          go.2,
          go.3,
        )
    by_ends false false here there room other =
        plain_go id own s t (ByTick clock) sound also alike tt room other
