-- What a policy does to a client that says the same to it, in two states that it cannot tell apart; and what
-- one does that says what the one in force says.
use Rattle.std.proofs.Common.{◌≡◌, ℕ, Bool, true, false, List, [], ◌∷◌, ◌++◌, refl, ap, ap₂, sym, ◌∙◌, subst}
use Rattle.std.specs.Str.{bytes_eq}
use Rattle.sng_grants.specs.declared.policy.Policy.{Policy}
use Rattle.sng_fan.specs.declared.held.Held.{Held}
use Rattle.sng_book.specs.declared.address.Address.{Address}
use Rattle.sng_book.specs.declared.decision.Decision.{Decision}
use Rattle.sng_book.specs.declared.decision.Decision.TheVariants as note
use Rattle.sng_book.specs.declared.outcome.Outcome.{Outcome}
use Rattle.sng_book.specs.declared.outcome.Outcome.TheVariants.{Allowed, Denied}
use Rattle.sng_book.specs.declared.out.Out.{Out}
use Rattle.sng_book.specs.declared.out.Out.TheVariants.{Note}
use Rattle.sng_book.specs.Traces.{reaches, trace_of}
use Rattle.sng_history.specs.Causes.{ByReplace}
use Rattle.sng_history.specs.Clients.{Around, Client, without, notes_by, drained, client_by}
use Rattle.sng_history.specs.Standing.{Release, released, unsubscribes}
use Rattle.sng_history.specs.State.{State, around}
use Rattle.sng_history.specs.Verdicts.{coverage}
use Rattle.sng_history.specs.Whole.{spell, drained_outs, part, drops}
use Rattle.sng_history.specs.Lawful.{fixed_for, end_of, ends_under}
use Rattle.sng_history.specs.Steps.{notes_for, client_next, clients_next}
use Rattle.sng_history.specs.Good.{Each, AtRest, AllCovered}
use Rattle.sng_history.proofs.Hands.{Every}
use Rattle.sng_history.proofs.Own.{each_map, each_with, same_means}
use Rattle.sng_isolation.proofs.Silent.{Silent, silent_flat}
use Rattle.sng_isolation.proofs.Still.{Unconcerned, part_none, next_none}
use Rattle.sng_isolation.proofs.Foreign.{other_silent}
use Rattle.sng_isolation.proofs.ForeignStep.{kept_next}
use Rattle.sng_isolation.proofs.KeptOf.{kept_still}
use Rattle.sng_isolation.proofs.Alike.{IsPlaced, CommonPolicy, HiddenPolicy}
use Rattle.sng_isolation.proofs.Policies.{SaysSame, says_same}
use Rattle.sng_isolation.proofs.Turned.{ends_same}
use Rattle.sng_isolation.proofs.Spelling.{own_around, part_same}
use Rattle.sng_isolation.proofs.Fan.{kept_is, fans}
use Rattle.sng_isolation.proofs.Waits.{mine_behind, mine_both, mine_unsubscribes}
use Rattle.sng_isolation.proofs.Common.{others_silent, kept_moved}

-- ---- ends of subscriptions

-- the note is that a subscription ends
abbrev IsEnd : Decision → Type 0
IsEnd (note.End client filter o) = Unit {0}
IsEnd (note.Connect client o) = ⊥
IsEnd (note.Register whom name o) = ⊥
IsEnd (note.Publish whom name o) = ⊥
IsEnd (note.Subscribe whom filter o) = ⊥
IsEnd (note.Unsubscribe whom filter o) = ⊥
IsEnd (note.Will whom name o) = ⊥
IsEnd (note.Announce client name) = ⊥
IsEnd (note.Hand client name o) = ⊥
IsEnd (note.Retry client name o) = ⊥
IsEnd (note.Forward whom name o) = ⊥
IsEnd (note.Again whom name o) = ⊥
IsEnd (note.Lost client) = ⊥
IsEnd (note.Left client) = ⊥
IsEnd note.Outbox = ⊥
IsEnd (note.Frame whom o) = ⊥

end_first : (client filter : List ℕ) (o : Outcome) (notes : List Decision) → Every IsEnd notes
    → Every IsEnd (end_of client filter o ++ notes)
end_first client filter Allowed notes every = every
end_first client filter (Denied rule) notes every = (tt, every)

just_ends : (policy : Policy) (client : List ℕ) (held : List Held) → Every IsEnd (ends_under policy client held)
just_ends policy client [] = tt
just_ends policy client (h ∷ held) =
    end_first client h.filter (coverage policy client h.filter) (ends_under policy client held)
    (just_ends policy client held)

-- it does not matter by what they are read
ends_notes : (a b : Around) (notes : List Decision) (x : Client) → Every IsEnd notes
    → notes_by a notes x ≡ notes_by b notes x
ends_notes a b [] x every = refl
ends_notes a b (note.End client filter o ∷ notes) x every = ends_notes a b notes (without filter x) every.1
ends_notes a b (note.Connect client o ∷ notes) x every = absurd every.0
ends_notes a b (note.Register whom name o ∷ notes) x every = absurd every.0
ends_notes a b (note.Publish whom name o ∷ notes) x every = absurd every.0
ends_notes a b (note.Subscribe whom filter o ∷ notes) x every = absurd every.0
ends_notes a b (note.Unsubscribe whom filter o ∷ notes) x every = absurd every.0
ends_notes a b (note.Will whom name o ∷ notes) x every = absurd every.0
ends_notes a b (note.Announce client name ∷ notes) x every = absurd every.0
ends_notes a b (note.Hand client name o ∷ notes) x every = absurd every.0
ends_notes a b (note.Retry client name o ∷ notes) x every = absurd every.0
ends_notes a b (note.Forward whom name o ∷ notes) x every = absurd every.0
ends_notes a b (note.Again whom name o ∷ notes) x every = absurd every.0
ends_notes a b (note.Lost client ∷ notes) x every = absurd every.0
ends_notes a b (note.Left client ∷ notes) x every = absurd every.0
ends_notes a b (note.Outbox ∷ notes) x every = absurd every.0
ends_notes a b (note.Frame whom o ∷ notes) x every = absurd every.0

ends_spell : (a b : Around) (notes : List Decision) (x : Client) → Every IsEnd notes
    → spell a [] x notes ≡ spell b [] x notes
ends_spell a b [] x every = refl
ends_spell a b (note.End client filter o ∷ notes) x every =
    ap (λ (outs : List Out). Note (note.End client filter o) ∷ outs)
    (ends_spell a b notes (without filter x) every.1)
ends_spell a b (note.Connect client o ∷ notes) x every = absurd every.0
ends_spell a b (note.Register whom name o ∷ notes) x every = absurd every.0
ends_spell a b (note.Publish whom name o ∷ notes) x every = absurd every.0
ends_spell a b (note.Subscribe whom filter o ∷ notes) x every = absurd every.0
ends_spell a b (note.Unsubscribe whom filter o ∷ notes) x every = absurd every.0
ends_spell a b (note.Will whom name o ∷ notes) x every = absurd every.0
ends_spell a b (note.Announce client name ∷ notes) x every = absurd every.0
ends_spell a b (note.Hand client name o ∷ notes) x every = absurd every.0
ends_spell a b (note.Retry client name o ∷ notes) x every = absurd every.0
ends_spell a b (note.Forward whom name o ∷ notes) x every = absurd every.0
ends_spell a b (note.Again whom name o ∷ notes) x every = absurd every.0
ends_spell a b (note.Lost client ∷ notes) x every = absurd every.0
ends_spell a b (note.Left client ∷ notes) x every = absurd every.0
ends_spell a b (note.Outbox ∷ notes) x every = absurd every.0
ends_spell a b (note.Frame whom o ∷ notes) x every = absurd every.0

-- ---- two policies

-- the notes of the client
ends_common : (id : List ℕ) (p q : Policy) (x : Client) → bytes_eq id x.id ≡ true → SaysSame id p q
    → ends_under p x.id x.filters ≡ ends_under q x.id x.filters
ends_common id p q x own same =
    ends_same p q x.id x.filters (subst (λ d. SaysSame d p q) (same_means id x.id own) same)

part_common : (id : List ℕ) (own : List Address) (s t : State) (p q : Policy) (dropped lost : List Release)
    (x : Client) (m n : List Decision) → m ≡ n → Every IsEnd m
    → trace_of id own (part (around s (ByReplace p)) dropped m x)
    ≡ trace_of id own (part (around t (ByReplace q)) lost n x)
part_common id own s t p q dropped lost x m n same every =
    let a = own_around id (around s (ByReplace p)) in
    let b = own_around id (around t (ByReplace q)) in
    part_same id own (around s (ByReplace p)) dropped m x
    ∙ (ap₂ (λ outs y. trace_of id own (outs ++ drained_outs y)) (ends_spell a b m x every)
    (ends_notes a b m x every)
    ∙ (ap (λ notes. trace_of id own (part b [] notes x)) same
    ∙ sym (part_same id own (around t (ByReplace q)) lost n x)))

next_common : (s t : State) (p q : Policy) (x : Client) (m n : List Decision) → m ≡ n → Every IsEnd m
    → client_by (around s (ByReplace p)) m x ≡ client_by (around t (ByReplace q)) n x
next_common s t p q x m n same every =
    ap drained (ends_notes (around s (ByReplace p)) (around t (ByReplace q)) m x every)
    ∙ ap (λ notes. client_by (around t (ByReplace q)) notes x) same

pub common_policy : CommonPolicy
common_policy id own s t p q sound also alike same =
    let c = ByReplace p in
    let d = ByReplace q in
    let says = says_same id p q same in
    record {
      traces =
          fans (reaches id own) id
          (λ x. part (around s c) (drops s c (notes_for s c)) (fixed_for s c x) x)
          (λ x. part (around t d) (drops t d (notes_for t d)) (fixed_for t d x) x) s.clients t.clients
          sound.good.apart also.good.apart
          (others_silent id own s c (drops s c (notes_for s c)) (λ x. refl) sound.placed)
          (others_silent id own t d (drops t d (notes_for t d)) (λ x. refl) also.placed) alike.kept
          (λ x is it. part_common id own s t p q (drops s c (notes_for s c)) (drops t d (notes_for t d)) x
          (fixed_for s c x) (fixed_for t d x) (ends_common id p q x (kept_is id x s.clients is) says)
          (just_ends p x.id x.filters));
      alike = record {
        kept =
            kept_next id s c refl
            ∙ (kept_moved id (client_next s c) (client_next t d) s.clients t.clients alike.kept
            (λ x is it. next_common s t p q x (fixed_for s c x) (fixed_for t d x)
            (ends_common id p q x (kept_is id x s.clients is) says) (just_ends p x.id x.filters))
            ∙ sym (kept_next id t d refl));
        policy = same;
        clock = alike.clock;
        up = alike.up;
        waits =
            mine_both id s.link.waiting (unsubscribes p.limits s.link (released s.clients (clients_next s c)))
            t.link.waiting (unsubscribes q.limits t.link (released t.clients (clients_next t d))) alike.waits
            (mine_unsubscribes p.limits id s.link (released s.clients (clients_next s c))
            ∙ sym (mine_unsubscribes q.limits id t.link (released t.clients (clients_next t d))));
      };
    }

-- ---- the policy in force, as far as the client sees

ends_none : (policy : Policy) (client : List ℕ) (held : List Held) → AllCovered policy client held
    → ends_under policy client held ≡ []
ends_none policy client [] covered = refl
ends_none policy client (h ∷ held) covered =
    ap (λ o. end_of client h.filter o ++ ends_under policy client held) covered.0
    ∙ ends_none policy client held covered.1

own_unconcerned : (id : List ℕ) (s : State) (p : Policy) (x : Client) → bytes_eq id x.id ≡ true
    → SaysSame id p s.policy → AllCovered s.policy x.id x.filters → Unconcerned s (ByReplace p) x
own_unconcerned id s p x own same covered = record {
  fixed = ends_common id p s.policy x own same ∙ ends_none s.policy x.id x.filters covered;
  start = refl;
  author = refl;
}

one_silent : (id : List ℕ) (own : List Address) (s : State) (p : Policy) (dropped : List Release) (x : Client)
    → SaysSame id p s.policy → AtRest x → AllCovered s.policy x.id x.filters → IsPlaced id own x
    → Silent id own (part (around s (ByReplace p)) dropped (fixed_for s (ByReplace p) x) x)
one_silent id own s p dropped x same rest covered placed = by_own (bytes_eq id x.id) refl
  where
    by_own : (b : Bool) → bytes_eq id x.id ≡ b
        → Silent id own (part (around s (ByReplace p)) dropped (fixed_for s (ByReplace p) x) x)
    by_own true is =
        ap (trace_of id own)
        (part_none s (ByReplace p) dropped x rest.busy (own_unconcerned id s p x is same covered))
    by_own false is = other_silent id own s (ByReplace p) dropped x refl is (placed ∙ is)

pub hidden_policy : HiddenPolicy
hidden_policy id own s p sound same =
    let c = ByReplace p in
    let says = says_same id p s.policy same in
    let dropped = drops s c (notes_for s c) in
    let known : Each (λ x. AtRest x × AllCovered s.policy x.id x.filters) s.clients =
    each_with AtRest (λ x. AllCovered s.policy x.id x.filters)
    (λ x. AtRest x × AllCovered s.policy x.id x.filters) s.clients (λ x rest covered. (rest, covered))
    sound.good.rest sound.good.covered in
    record {
      silent =
          silent_flat id own (λ x. part (around s c) dropped (fixed_for s c x) x) s.clients
          (each_with (λ x. AtRest x × AllCovered s.policy x.id x.filters) (IsPlaced id own)
          (λ x. Silent id own (part (around s c) dropped (fixed_for s c x) x)) s.clients
          (λ x is placed. one_silent id own s p dropped x says is.0 is.1 placed) known sound.placed);
      alike = record {
        kept = sym (kept_next id s c refl
            ∙ kept_still id (client_next s c) s.clients
            (each_map (λ x. AtRest x × AllCovered s.policy x.id x.filters)
            (λ x. bytes_eq id x.id ≡ true → client_next s c x ≡ x) s.clients
            (λ x is mine_is. next_none s c x is.0.busy (own_unconcerned id s p x mine_is says is.1)) known));
        policy = sym same;
        clock = refl;
        up = refl;
        waits =
            sym (mine_behind id s.link.waiting (unsubscribes p.limits s.link (released s.clients (clients_next s c)))
            (mine_unsubscribes p.limits id s.link (released s.clients (clients_next s c))));
      };
    }
