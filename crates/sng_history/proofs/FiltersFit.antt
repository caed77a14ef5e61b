-- Filters that stand once each, and that the policy allows, are so with one more, and as a new policy ends
-- some.
use Rattle.std.proofs.Common.{◌≡◌, ◌<◌, ◌+◌, ℕ, Bool, true, false, List, [], ◌∷◌, ◌++◌, length, refl, ap, sym}
use Rattle.std.proofs.Common.{◌∙◌, subst, arith, cond, ◌⊎◌, inl, inr}
use Rattle.std.specs.Prelude.{if◌then◌else◌, ◌&&◌, ◌||◌, not, nat_le, count_by}
use Rattle.std.specs.Str.{bytes_eq}
use Rattle.std.proofs.lemmas.Bool.Decides.{nat_tests}
use Rattle.std.proofs.lemmas.List.Sums.{sum_by-cons}
use Rattle.sng_text.specs.declared.qos.Qos.{Qos}
use Rattle.sng_grants.specs.declared.policy.Policy.{Policy}
use Rattle.sng_fan.specs.declared.held.Held.{Held}
use Rattle.sng_fan.specs.declared.limits.TheConstants.{MAX_SUBSCRIPTIONS}
use Rattle.sng_fan.specs.Subscriptions.{has_text, stands, is_full, with_filter, without_filter, IsOneClients}
use Rattle.sng_fan.proofs.HeldLemmas.{once_kept, once_added}
use Rattle.sng_fan.proofs.PlaceLemmas.{granted_last}
use Rattle.sng_book.specs.Denials.{is_allowed}
use Rattle.sng_book.specs.declared.decision.Decision.{Decision}
use Rattle.sng_book.specs.declared.outcome.Outcome.{Outcome}
use Rattle.sng_book.specs.declared.outcome.Outcome.TheVariants.{Allowed, Denied}
use Rattle.sng_history.specs.Clients.{Around, Client}
use Rattle.sng_history.specs.Clients.{without, notes_by}
use Rattle.sng_history.specs.Verdicts.{coverage}
use Rattle.sng_history.specs.Lawful.{end_of, ends_under}
use Rattle.sng_history.specs.Good.{AllCovered}
use Rattle.sng_history.proofs.Own.{same_self, same_means}
use Rattle.sng_history.proofs.FiltersKept.{Lasting}

-- ---- each filter stands once

pub once_less : Lasting IsOneClients
once_less =
    record {
      less = λ held text once. once_kept (λ h. not (has_text text h)) held once;
      none = (λ text. omega arith, omega arith);
    }

-- a filter that stood keeps its place
pub record SameTexts (before after : List Held) : Type 0 where
  pub counts : (text : List ℕ) → count_by (has_text text) after ≡ count_by (has_text text) before
  pub many : length after ≡ length before

same_texts_by : (h : Held) (held : List Held) (text : List ℕ) (q : Qos) (b : Bool) → has_text text h ≡ b
    → (b || stands held text) ≡ true → (stands held text ≡ true → SameTexts held (with_filter held text q))
    → SameTexts (h ∷ held) (if b then record h { qos = q } ∷ held else h ∷ with_filter held text q)
same_texts_by h held text q true is stood rest = record { counts = λ other. refl; many = refl }
same_texts_by h held text q false is stood rest =
    let later = rest stood in
    record {
      counts = λ other. sum_by-cons (λ x. cond (has_text other x) 1 0) h (with_filter held text q)
          ∙ (ap (λ n. cond (has_text other h) 1 0 + n) (later.counts other)
          ∙ sym (sum_by-cons (λ x. cond (has_text other x) 1 0) h held));
      many = omega (arith, later.many);
    }

same_texts : (held : List Held) (text : List ℕ) (q : Qos) → stands held text ≡ true
    → SameTexts held (with_filter held text q)
same_texts [] text q stood = absurd cc
same_texts (h ∷ held) text q stood =
    same_texts_by h held text q (has_text text h) refl stood (same_texts held text q)

full_by : (stood many : Bool) → (not stood && many) ≡ false → stood ≡ false → many ≡ false
full_by true many is not_there = absurd cc
full_by false many is not_there = is

fewer : (n : ℕ) → nat_le MAX_SUBSCRIPTIONS n ≡ false → n < MAX_SUBSCRIPTIONS
fewer n is = grind (arith, nat_tests)

once_more_by : (held : List Held) (text : List ℕ) (q : Qos) (b : Bool) → stands held text ≡ b
    → is_full held text ≡ false → IsOneClients held → IsOneClients (with_filter held text q)
once_more_by held text q true stood fits once =
    let same = same_texts held text q stood in
    (λ other. omega (arith, same.counts other, once.0 other), omega (arith, same.many, once.1))
once_more_by held text q false stood fits once =
    subst IsOneClients (sym (granted_last held text q stood))
    (once_added held text q stood
    (fewer (length held) (full_by (stands held text)
    (nat_le MAX_SUBSCRIPTIONS (length held)) fits stood)) once)

pub once_more : (held : List Held) (text : List ℕ) (q : Qos) → is_full held text ≡ false → IsOneClients held
    → IsOneClients (with_filter held text q)
once_more held text q fits once = once_more_by held text q (stands held text) refl fits once

-- ---- and the policy allows it

covered_less_by : (policy : Policy) (client : List ℕ) (h : Held) (held : List Held) (b : Bool)
    → coverage policy client h.filter ≡ Allowed → AllCovered policy client held
    → AllCovered policy client (if b then h ∷ held else held)
covered_less_by policy client h held true is all = (is, all)
covered_less_by policy client h held false is all = all

pub covered_without : (policy : Policy) (client : List ℕ) (held : List Held) (text : List ℕ)
    → AllCovered policy client held → AllCovered policy client (without_filter held text)
covered_without policy client [] text all = tt
covered_without policy client (h ∷ held) text all =
    covered_less_by policy client h (without_filter held text) (not (has_text text h)) all.0
    (covered_without policy client held text all.1)

covered_more_by : (policy : Policy) (client : List ℕ) (h : Held) (held : List Held) (text : List ℕ) (q : Qos)
    (b : Bool) → AllCovered policy client (h ∷ held)
    → AllCovered policy client (with_filter held text q)
    → AllCovered policy client (if b then record h { qos = q } ∷ held else h ∷ with_filter held text q)
covered_more_by policy client h held text q true all rest = (all.0, all.1)
covered_more_by policy client h held text q false all rest = (all.0, rest)

pub covered_more : (policy : Policy) (client : List ℕ) (held : List Held) (text : List ℕ) (q : Qos)
    → coverage policy client text ≡ Allowed → AllCovered policy client held
    → AllCovered policy client (with_filter held text q)
covered_more policy client [] text q is all = (is, tt)
covered_more policy client (h ∷ held) text q is all =
    covered_more_by policy client h held text q (has_text text h) all
    (covered_more policy client held text q is all.1)

-- ---- a replacement

-- each of these is allowed, or is still to be looked at
abbrev Settling : Policy → List ℕ → List Held → List Held → Type 0
Settling policy client rest [] = Unit {0}
Settling policy client rest (h ∷ held) =
    ((coverage policy client h.filter ≡ Allowed) ⊎ (stands rest h.filter ≡ true))
    × Settling policy client rest held

settled_all : (policy : Policy) (client : List ℕ) (held : List Held) → Settling policy client [] held
    → AllCovered policy client held
settled_all policy client [] all = tt
settled_all policy client (h ∷ held) all =
    (elim all.0 [ inl is ↦ is | inr bad ↦ absurd cc ], settled_all policy client held all.1)

-- one that is allowed was looked at
looked_by : (policy : Policy) (client : List ℕ) (g h : Held) (rest : List Held) (b : Bool)
    → has_text h.filter g ≡ b → coverage policy client g.filter ≡ Allowed
    → ((coverage policy client h.filter ≡ Allowed) ⊎ ((b || stands rest h.filter) ≡ true))
    → (coverage policy client h.filter ≡ Allowed) ⊎ (stands rest h.filter ≡ true)
looked_by policy client g h rest true same is either =
    inl (subst (λ text. coverage policy client text ≡ Allowed) (same_means g.filter h.filter same) is)
looked_by policy client g h rest false same is either = either

looked : (policy : Policy) (client : List ℕ) (g : Held) (rest held : List Held)
    → coverage policy client g.filter ≡ Allowed → Settling policy client (g ∷ rest) held
    → Settling policy client rest held
looked policy client g rest [] is all = tt
looked policy client g rest (h ∷ held) is all = (
  looked_by policy client g h rest (has_text h.filter g) refl is all.0,
  looked policy client g rest held is all.1,
)

-- one that is not ends
ended_by : (policy : Policy) (client : List ℕ) (g h : Held) (rest held : List Held) (b : Bool)
    → has_text g.filter h ≡ b
    → ((coverage policy client h.filter ≡ Allowed) ⊎ ((has_text h.filter g || stands rest h.filter) ≡ true))
    → Settling policy client rest held
    → Settling policy client rest (if not b then h ∷ held else held)
ended_by policy client g h rest held true same either all = all
ended_by policy client g h rest held false same either all =
    let away : has_text h.filter g ≡ false = other_way g h (has_text h.filter g) refl same in (
      subst (λ t. (coverage policy client h.filter ≡ Allowed) ⊎ ((t || stands rest h.filter) ≡ true)) away
          either,
      all,
    )
  where
    other_way : (g h : Held) (b : Bool) → has_text h.filter g ≡ b → has_text g.filter h ≡ false → b ≡ false
    other_way g h true is away =
        absurd (let same : g.filter ≡ h.filter = same_means g.filter h.filter is in
        let bad : true ≡ false =
        sym (same_self h.filter) ∙ subst (λ text. bytes_eq h.filter text ≡ false) same away in
        cc)
    other_way g h false is away = refl

ended_all : (policy : Policy) (client : List ℕ) (g : Held) (rest held : List Held)
    → Settling policy client (g ∷ rest) held → Settling policy client rest (without_filter held g.filter)
ended_all policy client g rest [] all = tt
ended_all policy client g rest (h ∷ held) all =
    ended_by policy client g h rest (without_filter held g.filter) (has_text g.filter h) refl all.0
    (ended_all policy client g rest held all.1)

-- what stands for the client once these ends were noted
abbrev after_ends : Policy → List ℕ → List Held → List Held → List Held
after_ends policy client [] held = held
after_ends policy client (h ∷ rest) held =
    after_ends policy client rest
    (if is_allowed (coverage policy client h.filter) then held else without_filter held h.filter)

looked_at : (policy : Policy) (client : List ℕ) (h : Held) (rest held : List Held) (o : Outcome)
    → coverage policy client h.filter ≡ o → Settling policy client (h ∷ rest) held
    → Settling policy client rest (if is_allowed o then held else without_filter held h.filter)
looked_at policy client h rest held Allowed is all = looked policy client h rest held is all
looked_at policy client h rest held (Denied rule) is all = ended_all policy client h rest held all

pub all_looked : (policy : Policy) (client : List ℕ) (rest held : List Held)
    → Settling policy client rest held
    → AllCovered policy client (after_ends policy client rest held)
all_looked policy client [] held all = settled_all policy client held all
all_looked policy client (h ∷ rest) held all =
    all_looked policy client rest
    (if is_allowed (coverage policy client h.filter) then held else without_filter held h.filter)
    (looked_at policy client h rest held (coverage policy client h.filter) refl all)

settling_more : (policy : Policy) (client : List ℕ) (g : Held) (rest held : List Held)
    → Settling policy client rest held → Settling policy client (g ∷ rest) held
settling_more policy client g rest [] all = tt
settling_more policy client g rest (h ∷ held) all = (
  elim all.0 [
    | inl is ↦ inl is
    | inr there ↦ inr (or_right (has_text h.filter g) (stands rest h.filter) there)
  ],
  settling_more policy client g rest held all.1,
)
  where
    or_right : (a b : Bool) → b ≡ true → (a || b) ≡ true
    or_right true b is = refl
    or_right false b is = is

pub settling_self : (policy : Policy) (client : List ℕ) (held : List Held) → Settling policy client held held
settling_self policy client [] = tt
settling_self policy client (h ∷ held) = (
  inr (ap (λ t. t || stands held h.filter) (same_self h.filter)),
  settling_more policy client h held held (settling_self policy client held),
)

-- the notes of the ends make just this of the filters
ends_by : (a : Around) (client : List ℕ) (h : Held) (notes : List Decision) (x : Client) (o : Outcome)
    → notes_by a (end_of client h.filter o ++ notes) x
    ≡ notes_by a notes (if is_allowed o then x else without h.filter x)
ends_by a client h notes x Allowed = refl
ends_by a client h notes x (Denied rule) = refl

filters_if : (b : Bool) (x y : Client)
    → (let z : Client = if b then x else y in z).filters ≡ (if b then x.filters else y.filters)
filters_if true x y = refl
filters_if false x y = refl

pub ends_filters : (a : Around) (policy : Policy) (client : List ℕ) (rest : List Held) (x : Client)
    → (notes_by a (ends_under policy client rest) x).filters ≡ after_ends policy client rest x.filters
ends_filters a policy client [] x = refl
ends_filters a policy client (h ∷ rest) x =
    let o = coverage policy client h.filter in
    let y : Client = if is_allowed o then x else without h.filter x in
    ap (λ z. z.filters) (ends_by a client h (ends_under policy client rest) x o)
    ∙ (ends_filters a policy client rest y
    ∙ ap (after_ends policy client rest) (filters_if (is_allowed o) x (without h.filter x)))
