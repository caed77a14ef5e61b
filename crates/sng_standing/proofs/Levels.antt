-- The nodes one level further down, as a map from levels, and when two lists of levels are the same.
use Rattle.std.proofs.Common.{◌≡◌, ℕ, Bool, true, false, ◌&&◌, ◌==◌, List, [], ◌∷◌, length, Option, None}
use Rattle.std.proofs.Common.{cond, refl, sym, ap, ap₂, ◌∙◌, arith, inl, inr}
use Rattle.std.proofs.lemmas.Bool.{cases_Bool, and_parts, eqb-true}
use Rattle.std.proofs.lemmas.Slice.Eq.{bytes_eq-Decides}
use Rattle.std.proofs.lemmas.Map.Text.{is_eq-slice_cmp}
use Rattle.std.specs.BTreeMap.{BTreeMap, UpdatesBy, get_by}
use Rattle.std.specs.Cmp.{eq_by_cmp_equiv}
use Rattle.std.specs.Cmp.Lexicographic.{slice_cmp, nat_list_cmp_total}
use Rattle.std.specs.List.{join_with_byte}
use Rattle.std.specs.Map.{lookup, KeepsOthers, IsKeyTest, AreApart}
use Rattle.std.specs.Ordering.{nat_cmp, is_eq}
use Rattle.std.specs.Str.{bytes_eq}
use Rattle.sng_text.specs.Levels.{levels_of}
use Rattle.sng_text.proofs.LevelLemmas.{levels_are_parts}
use Rattle.sng_standing.specs.Standing.{same_levels}

other_entries : {K X : Type 0} (eq : K → K → Bool) (test : K → Bool) (old new : List (K × X))
    → KeepsOthers eq test old new → (other : K → Bool) → IsKeyTest eq other → AreApart test other
    → lookup other new ≡ lookup other old
unfolding KeepsOthers
other_entries eq test old new h = h

-- levels that are equal to two levels are equal
apart : (level other key : List ℕ) → bytes_eq level other ≡ false
    → is_eq (slice_cmp nat_cmp level key) ≡ true → is_eq (slice_cmp nat_cmp other key) ≡ false
apart level other key differ is =
    let key_is : level ≡ key =
    (bytes_eq-Decides level key).0 (sym (is_eq-slice_cmp level key) ∙ is) in
    is_eq-slice_cmp other key ∙ flipped other key (ap (λ k. bytes_eq k other) (sym key_is) ∙ differ)
  where
    flipped : (a b : List ℕ) → bytes_eq b a ≡ false → bytes_eq a b ≡ false
    flipped a b differs = elim (cases_Bool (bytes_eq a b)) [
      | inl same ↦
          let a_is : a ≡ b = (bytes_eq-Decides a b).0 same in
          let back : bytes_eq b a ≡ true = (bytes_eq-Decides b a).1 (sym a_is) in
          cc
      | inr apart_is ↦ apart_is
    ]

-- what a change at one level leaves at any level
pub level_updates : {K X : Type 0} (m n : BTreeMap K X) (bytes : K → List ℕ) (level : List ℕ)
    (now : Option X)
    → UpdatesBy (λ x y. slice_cmp nat_cmp (bytes x) (bytes y)) (λ k. slice_cmp nat_cmp level (bytes k))
    m n now
    → (other : List ℕ) → get_by (λ k. slice_cmp nat_cmp other (bytes k)) n
    ≡ cond (bytes_eq level other) now (get_by (λ k. slice_cmp nat_cmp other (bytes k)) m)
level_updates m n bytes level now updates other =
    elim (cases_Bool (bytes_eq level other)) [
      | inl same ↦
          let is : level ≡ other = (bytes_eq-Decides level other).0 same in
          ap (λ l. get_by (λ k. slice_cmp nat_cmp l (bytes k)) n) (sym is) ∙ updates.1
          ∙ ap (λ b. cond b now (get_by (λ k. slice_cmp nat_cmp other (bytes k)) m)) (sym same)
      | inr differ ↦
          other_entries _ _ _ _ updates.3 _
          (λ x y. (eq_by_cmp_equiv nat_list_cmp_total).congr other (bytes x) (bytes y))
          (λ k. apart level other (bytes k) differ)
          ∙ ap (λ b. cond b now (get_by (λ k. slice_cmp nat_cmp other (bytes k)) m)) (sym differ)
    ]

pub none_in : {K X : Type 0} (test : K → Bool) (es : List (K × X)) → (length es == 0) ≡ true
    → lookup test es ≡ None
none_in test [] is = refl
none_in test (e ∷ es) is = absurd (omega (arith, eqb-true (length (e ∷ es)) 0 is))

pub same_by_levels : (levels others : List (List ℕ)) → same_levels levels others ≡ true → levels ≡ others
same_by_levels [] [] is = refl
same_by_levels [] (other ∷ others) is = cc
same_by_levels (level ∷ levels) [] is = cc
same_by_levels (level ∷ levels) (other ∷ others) is =
    let p = and_parts (bytes_eq level other) (same_levels levels others) is in
    ap₂ (λ (l : List ℕ) (ls : List (List ℕ)). l ∷ ls) ((bytes_eq-Decides level other).0 p.0)
    (same_by_levels levels others p.1)

same_itself : (levels : List (List ℕ)) → same_levels levels levels ≡ true
same_itself [] = refl
same_itself (level ∷ levels) =
    ap₂ (λ a b. a && b) ((bytes_eq-Decides level level).1 refl) (same_itself levels)

-- two texts have the same levels exactly where they are the same
pub same_texts : (text other : List ℕ) → same_levels (levels_of text) (levels_of other) ≡ bytes_eq text other
same_texts text other = elim (cases_Bool (bytes_eq text other)) [
  | inl same ↦
      let is : text ≡ other = (bytes_eq-Decides text other).0 same in
      ap (λ t. same_levels (levels_of text) (levels_of t)) (sym is) ∙ same_itself (levels_of text) ∙ sym same
  | inr differ ↦ elim (cases_Bool (same_levels (levels_of text) (levels_of other))) [
    | inl same ↦
        let levels : levels_of text ≡ levels_of other = same_by_levels _ _ same in
        let is : text ≡ other = sym ((levels_are_parts text).1) ∙ ap (join_with_byte 47) levels
        ∙ (levels_are_parts other).1 in
        let found : bytes_eq text other ≡ true = (bytes_eq-Decides text other).1 is in
        cc
    | inr apart_is ↦ apart_is ∙ sym differ
  ]
]
