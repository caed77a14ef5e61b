-- What is found in several places, and in the entries of a map one by one.
use Rattle.std.proofs.Common.{◌≡◌, ℕ, true, false, ◌==◌, List, [], ◌∷◌, ◌++◌, Option, Some, None, cond, ◌⊎◌}
use Rattle.std.proofs.Common.{if◌then◌else◌, refl, sym, ap, ◌∙◌, inl, inr}
use Rattle.std.proofs.lemmas.Bool.{cases_Bool}
use Rattle.std.proofs.lemmas.Map.{lookup-none}
use Rattle.std.proofs.lemmas.Map.Entries.{none_past_head}
use Rattle.std.proofs.lemmas.Map.Keys.{sorted_tail, IsDistinct-from_sorted}
use Rattle.std.specs.Borrow.{Bor}
use Rattle.std.specs.BTreeMap.{BTreeMap, get, is_at}
use Rattle.std.specs.Cmp.{unsigned_ties, nat_eq_equiv, nat_cmp_total, eq_by_cmp_equiv}
use Rattle.std.specs.List.Sorted.{IsStrictlySortedBy}
use Rattle.std.specs.Map.{lookup, keys_of}
use Rattle.std.specs.Ordering.{nat_cmp, is_eq, eq_by_cmp}
use Rattle.sng_text.specs.declared.qos.Qos.{Qos}
use Rattle.sng_text.specs.declared.qos.Qos.TheVariants.{AtMostOnce, AtLeastOnce}
use Rattle.sng_standing.specs.Found.{best_of}
use Rattle.sng_standing.specs.Greatest.{joined}

pub joined-none : (a : Option Qos) → joined a None ≡ a
joined-none None = refl
joined-none (Some q) = refl

pub joined-assoc : (a b c : Option Qos) → joined (joined a b) c ≡ joined a (joined b c)
joined-assoc None b c = refl
joined-assoc (Some p) None c = refl
joined-assoc (Some p) (Some q) None = refl
joined-assoc (Some AtMostOnce) (Some q) (Some r) = refl
joined-assoc (Some AtLeastOnce) (Some q) (Some r) = refl

-- what is found in one of two places is one of both
pub joined_one : (a b : Option Qos) (q : Qos) → joined a b ≡ Some q → (a ≡ Some q) ⊎ (b ≡ Some q)
joined_one None b q is = inr is
joined_one (Some p) None q is = inl is
joined_one (Some AtMostOnce) (Some r) q is = inr is
joined_one (Some AtLeastOnce) (Some r) q is = inl is

-- what was found is as great as this
abbrev pub AsGreat : Option Qos → Qos → Type 0
AsGreat found qos = joined found (Some qos) ≡ found

pub as_great_same : (a b : Option Qos) (q : Qos) → a ≡ b → AsGreat b q → AsGreat a q
as_great_same a b q same great = ap (λ x. joined x (Some q)) same ∙ great ∙ sym same

pub as_great_itself : (q : Qos) → AsGreat (Some q) q
as_great_itself AtMostOnce = refl
as_great_itself AtLeastOnce = refl

pub as_great_left : (a b : Option Qos) (q : Qos) → AsGreat a q → AsGreat (joined a b) q
as_great_left None b q is = cc
as_great_left (Some p) None q is = is
as_great_left (Some AtMostOnce) (Some AtMostOnce) q is = is
as_great_left (Some AtMostOnce) (Some AtLeastOnce) q is = refl
as_great_left (Some AtLeastOnce) (Some r) q is = refl

pub as_great_right : (a b : Option Qos) (q : Qos) → AsGreat b q → AsGreat (joined a b) q
as_great_right None b q is = is
as_great_right (Some p) None q is = cc
as_great_right (Some AtMostOnce) (Some r) q is = is
as_great_right (Some AtLeastOnce) (Some r) q is = refl

-- one filter more
pub best_behind : (found : List (Bor (BTreeMap ℕ Qos))) (holders : Bor (BTreeMap ℕ Qos)) (n : ℕ)
    → best_of (found ++ holders ∷ []) n ≡ joined (best_of found n) (get nat_cmp holders.now n)
best_behind [] holders n = joined-none (get nat_cmp holders.now n)
best_behind (first ∷ found) holders n =
    ap (joined (get nat_cmp first.now n)) (best_behind found holders n)
    ∙ sym (joined-assoc (get nat_cmp first.now n) (best_of found n) (get nat_cmp holders.now n))

-- the entries taken one by one
abbrev pub gathered : Option Qos → List (ℕ × Qos) → ℕ → Option Qos
gathered kept [] n = kept
gathered kept (e ∷ es) n = gathered (if e.0 == n then joined kept (Some e.1) else kept) es n

-- a map has each key once, so what it has at a number comes once
pub gathered_all : (kept : Option Qos) (es : List (ℕ × Qos)) (n : ℕ)
    → IsStrictlySortedBy nat_cmp (keys_of es)
    → gathered kept es n ≡ joined kept (lookup (is_at (nat_cmp n)) es)
gathered_all kept [] n sorted = sym (joined-none kept)
gathered_all kept (e ∷ es) n sorted =
    let rest = sorted_tail nat_cmp e.0 (keys_of es) sorted in
    let later = lookup (is_at (nat_cmp n)) es in
    let tied : is_eq (nat_cmp n e.0) ≡ (e.0 == n) =
    sym (unsigned_ties n e.0) ∙ nat_eq_equiv.symm n e.0 in
    elim (cases_Bool (e.0 == n)) [
      | inl same ↦
          let here : eq_by_cmp nat_cmp n e.0 ≡ true = tied ∙ same in
          let none : later ≡ None =
          lookup-none (is_at (nat_cmp n)) es (none_past_head (eq_by_cmp_equiv nat_cmp_total) n e es
          (IsDistinct-from_sorted nat_cmp (keys_of (e ∷ es)) sorted) here) in
          ap (λ b. gathered (cond b (joined kept (Some e.1)) kept) es n) same
          ∙ gathered_all (joined kept (Some e.1)) es n rest
          ∙ ap (joined (joined kept (Some e.1))) none
          ∙ joined-none (joined kept (Some e.1))
          ∙ ap (λ b. joined kept (cond b (Some e.1) later)) (sym here)
      | inr differs ↦
          let past : is_eq (nat_cmp n e.0) ≡ false = tied ∙ differs in
          ap (λ b. gathered (cond b (joined kept (Some e.1)) kept) es n) differs
          ∙ gathered_all kept es n rest
          ∙ ap (λ b. joined kept (cond b (Some e.1) later)) (sym past)
    ]
