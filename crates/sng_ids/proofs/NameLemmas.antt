-- Ids and the names that they name.
use Rattle.std.proofs.Common.{◌≡◌, ℕ, zero, suc, ◌+◌, Bool, true, false, List, [], ◌∷◌, ◌++◌, length, Option}
use Rattle.std.proofs.Common.{Some, None, is_some, slice_get, cond, unwrap_or, inl, inr, refl, sym, ap, ◌∙◌}
use Rattle.std.proofs.Common.{true≢false, arith}
use Rattle.std.proofs.lemmas.Option.{slice_get_cases, slice_get-map}
use Rattle.std.specs.Cmp.Lexicographic.{bytes_decides}
use Rattle.std.specs.Option.{option_map}
use Rattle.std.specs.Str.{bytes_eq}
use Rattle.std.specs.Map.{lookup_key}
use Rattle.indexmap.proofs.MapLemmas.{Found, Found-position}
use Rattle.sng_ids.specs.Ids.{Ids, place_of, name_of}
use Rattle.sng_ids.specs.Laws.{IdsNameWhatTheyWereGivenFor, IdsKeepTheirNames}
use Rattle.sng_ids.proofs.IdLemmas.{slice_get-seam}

-- a place that has a name has it still once more names follow
pub name_at-more : (ids more : Ids) (place : ℕ) (name : List ℕ)
    → option_map (λ entry. entry.0) (slice_get ids place) ≡ Some name
    → option_map (λ entry. entry.0) (slice_get (ids ++ more) place) ≡ Some name
name_at-more [] more place name at = absurd (true≢false (sym (ap is_some at)))
name_at-more (entry ∷ ids) more zero name at = at
name_at-more (entry ∷ ids) more (suc place) name at = name_at-more ids more place name at

-- and an id that has a name has it still
pub name_of-with_name : IdsKeepTheirNames
name_of-with_name ids zero name later at = absurd (true≢false (sym (ap is_some at)))
name_of-with_name ids (suc place) name later at = by (is_some (place_of later ids))
  where
    by : (known : Bool)
        → let more : Ids = cond known ids (ids ++ (later, false) ∷ []) in
        option_map (λ entry. entry.0) (slice_get more place) ≡ Some name
    by true = at
    by false = name_at-more ids ((later, false) ∷ []) place name at

-- what is looked up by a name is that name
pub lookup_key-name : (name key : List ℕ) (ids : Ids) → lookup_key (bytes_eq name) ids ≡ Some key → name ≡ key
lookup_key-name name key [] at = absurd (true≢false (sym (ap is_some at)))
lookup_key-name name key (entry ∷ ids) at = by (bytes_eq name entry.0) refl at (lookup_key-name name key ids)
  where
    by : (same : Bool) → bytes_eq name entry.0 ≡ same
        → cond same (Some entry.0) (lookup_key (bytes_eq name) ids) ≡ Some key
        → (lookup_key (bytes_eq name) ids ≡ Some key → name ≡ key) → name ≡ key
    by true e at rest = (bytes_decides name entry.0).0 e ∙ ap (λ found. unwrap_or found []) at
    by false e at rest = rest at

-- so the name stands at its place
pub name_at-place : (ids : Ids) (name : List ℕ) (place : ℕ) → place_of name ids ≡ Some place
    → option_map (λ entry. entry.0) (slice_get ids place) ≡ Some name
name_at-place ids name place e =
    let found : Found (bytes_eq name) ids place = Found-position (bytes_eq name) ids place e in
    elim (slice_get_cases ids place).1 [
      | inl h ↦
          let at : option_map (λ entry. entry.0) (slice_get ids place) ≡ Some h.0.0 =
          ap (option_map (λ entry. entry.0)) h.2 in
          let key : lookup_key (bytes_eq name) ids ≡ Some h.0.0 =
          found.key ∙ slice_get-map (λ entry. entry.0) ids place ∙ at in
          at ∙ ap Some (sym (lookup_key-name name h.0.0 ids key))
      | inr h ↦ absurd (omega (arith, h.0, found.within))
    ]

-- the id that a name is given names it
pub name_of-id_for : IdsNameWhatTheyWereGivenFor
name_of-id_for ids name = by (place_of name ids) refl
  where
    by : (found : Option ℕ) → place_of name ids ≡ found
        → let more : Ids = cond (is_some found) ids (ids ++ (name, false) ∷ []) in
        name_of (unwrap_or found (length ids) + 1) more ≡ Some name
    by None e =
        let next : length ids + 1 ≡ suc (length ids) = omega arith in
        rw (next, slice_get-seam ids (name, false)) refl
    by (Some place) e =
        let next : place + 1 ≡ suc place = omega arith in rw next (name_at-place ids name place e)
