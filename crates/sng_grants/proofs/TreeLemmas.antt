-- Entries that come in the order of their keys: a table that finds keys by hash has each behind the others.
use Rattle.std.proofs.Common.{◌≡◌, Bool, false, List, [], ◌∷◌, ◌++◌, if◌then◌else◌, refl, sym, ap, subst, ◌∙◌}
use Rattle.std.proofs.Common.{append_assoc}
use Rattle.std.specs.Cmp.{IsTotalOrder}
use Rattle.std.specs.List.{AllByRecursion}
use Rattle.std.specs.List.Sorted.{IsStrictlySortedBy}
use Rattle.std.specs.Map.{keys_of}
use Rattle.std.specs.Ordering.{is_eq, ordering_reverse}
use Rattle.std.specs.declared.cmp.Ordering.{Ordering}
use Rattle.std.specs.declared.cmp.Ordering.TheVariants.{Less}
use Rattle.indexmap.specs.IndexMap.{insert_entry}

-- what holds for all keys holds for the one in their midst
at-key : {K V : Type 0} (P : K → Type 0) (before rest : List (K × V)) (key : K) (value : V)
    → AllByRecursion P (keys_of (before ++ (key, value) ∷ rest)) → P key
at-key P [] rest key value all = all.0
at-key P (e ∷ es) rest key value all = at-key P es rest key value all.1

module _ {K : Type 0} (cmp : K → K → Ordering) (total : IsTotalOrder cmp) (eq : K → K → Bool)
    (ties : (k l : K) → eq k l ≡ is_eq (cmp k l)) where
  -- a key is none of those below it
  apart : (first key : K) → cmp first key ≡ Less → eq key first ≡ false
  apart first key below =
      ties key first ∙ ap is_eq (total.antisymm key first ∙ ap ordering_reverse below)

  -- so the next in order goes behind those before it
  appended : {V : Type 0} (before rest : List (K × V)) (key : K) (value : V)
      → IsStrictlySortedBy cmp (keys_of (before ++ (key, value) ∷ rest))
      → insert_entry eq before key value ≡ before ++ (key, value) ∷ []
  unfolding IsStrictlySortedBy
  appended [] rest key value sorted = refl
  appended (e ∷ es) rest key value sorted =
      let below = at-key (λ k. cmp e.0 k ≡ Less) es rest key value sorted.0 in
      ap (λ b. if b then (e.0, value) ∷ es else e ∷ insert_entry eq es key value) (apart e.0 key below)
      ∙ ap (λ l. e ∷ l) (appended es rest key value sorted.1)

  -- and what came, with what is still to come, are all that there are
  pub next-appended : {V : Type 0} (all before left rest after : List (K × V)) (key : K) (value : V)
      → IsStrictlySortedBy cmp (keys_of all) → before ++ left ≡ all → left ≡ (key, value) ∷ rest
      → after ≡ insert_entry eq before key value → after ++ rest ≡ all
  next-appended all before left rest after key value sorted are first put =
      let joined = ap (λ es. before ++ es) (sym first) ∙ are in
      let ahead = subst (λ es. IsStrictlySortedBy cmp (keys_of es)) (sym joined) sorted in
      ap (λ es. es ++ rest) (put ∙ appended before rest key value ahead)
      ∙ append_assoc before ((key, value) ∷ []) rest ∙ joined
