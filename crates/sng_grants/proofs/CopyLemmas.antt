-- Entries that are copied in their order, each of another key, have the same keys.
use Rattle.std.proofs.Common.{◌≡◌, ◌≤◌, ℕ, Bool, List, [], ◌∷◌, ◌++◌, length, refl, sym, ap, ap₂, subst, ◌∙◌}
use Rattle.std.proofs.Common.{arith}
use Rattle.std.proofs.lemmas.List.{map-append}
use Rattle.std.proofs.lemmas.List.Elements.{AllZip-push, length_all_zip}
use Rattle.std.specs.Cmp.{IsEquivalence}
use Rattle.std.specs.List.{IsDistinct}
use Rattle.std.specs.List.Sorted.{IsStrictlySortedBy}
use Rattle.std.specs.Map.{keys_of}
use Rattle.std.specs.declared.cmp.Ordering.{Ordering}
use Rattle.indexmap.specs.IndexMap.{insert_entry}
use Rattle.indexmap.proofs.MapLemmas.{absent_before, absent_from_lookup, insert_entry-absent}
use Rattle.sng_grants.specs.Listed.{AreCopies}

module _ {K V : Type 0} (is_clone : V → V → Type 0) where
  same-keys : (entries copies : List (K × V)) → AreCopies is_clone entries copies
      → keys_of copies ≡ keys_of entries
  same-keys [] [] are = refl
  same-keys [] (c ∷ cs) are = absurd are
  same-keys (e ∷ es) [] are = absurd are
  same-keys (e ∷ es) (c ∷ cs) are = ap₂ (λ k ks. k ∷ ks) are.0.0 (same-keys es cs are.1)

  -- and so with the entries that are still to be copied
  same-keys-before : (before copies rest : List (K × V)) → AreCopies is_clone before copies
      → keys_of (copies ++ rest) ≡ keys_of (before ++ rest)
  same-keys-before before copies rest are =
      map-append (λ e. e.0) copies rest ∙ ap (λ ks. ks ++ keys_of rest) (same-keys before copies are)
      ∙ sym (map-append (λ e. e.0) before rest)

  -- the next of all the keys is not among those before it, so it goes last
  pub next-copied : (eq : K → K → Bool) → IsEquivalence eq → (all before copies rest : List (K × V))
      → (key : K) (value copy : V) → IsDistinct eq (keys_of all) → before ++ (key, value) ∷ rest ≡ all
      → AreCopies is_clone before copies → is_clone value copy
      → AreCopies is_clone (before ++ (key, value) ∷ []) (insert_entry eq copies key copy)
  next-copied eq equiv all before copies rest key value copy distinct is are cloned =
      let entry : K × V = (key, value) in
      let ahead : IsDistinct eq (keys_of (before ++ entry ∷ rest)) =
      subst (λ es. IsDistinct eq (keys_of es)) (sym is) distinct in
      let apart : IsDistinct eq (keys_of (copies ++ entry ∷ rest)) =
      subst (IsDistinct eq) (sym (same-keys-before before copies (entry ∷ rest) are)) ahead in
      let absent = absent_before equiv copies rest entry apart in
      let last : insert_entry eq copies key copy ≡ copies ++ (key, copy) ∷ [] =
      insert_entry-absent eq key copy copies (absent_from_lookup (eq key) copies absent) in
      rw last (AllZip-push (λ p q. (q.0 ≡ p.0) × is_clone p.1 q.1) before copies entry (key, copy) are
      (refl, cloned))

  -- so what is listed in order still is
  pub kept-copies : (cmp : K → K → Ordering) (most : ℕ) (entries copies : List (K × V))
      → AreCopies is_clone entries copies
      → (length entries ≤ most) × IsStrictlySortedBy cmp (keys_of entries)
      → (length copies ≤ most) × IsStrictlySortedBy cmp (keys_of copies)
  kept-copies cmp most entries copies are kept = (
    omega (arith, length_all_zip (λ p q. (q.0 ≡ p.0) × is_clone p.1 q.1) entries copies are, kept.0),
    subst (IsStrictlySortedBy cmp) (sym (same-keys entries copies are)) kept.1,
  )
