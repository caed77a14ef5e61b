-- A front of a text without a slash stands at the head of its first level.
use Rattle.std.proofs.Common.{◌≡◌, ℕ, ◌+◌, ◌<◌, ◌≤◌, ◌==◌, ◌∙◌, Bool, true, false, cond, List, [], ◌∷◌, ◌++◌}
use Rattle.std.proofs.Common.{length, take, drop, get_or, refl, ap, suc, add-one}
use Rattle.std.proofs.Math.Seq.{drop-cons, take-suc}
use Rattle.std.proofs.lemmas.List.{take_all, drop_all}
use Rattle.std.proofs.lemmas.List.Splits.{join_with_byte-slice_split}
use Rattle.std.specs.List.{slice_split, onto_first, join_with_byte}
use Rattle.sng_text.specs.Laws.{LevelsAreParts}
use Rattle.sng_text.specs.Levels.{lengthen, levels_of}

-- the bytes join the first level
abbrev pub prepend : List ℕ → List (List ℕ) → List (List ℕ)
prepend [] levels = levels
prepend (b ∷ front) levels = lengthen b (prepend front levels)

pub prepend-push : (front : List ℕ) (b : ℕ) (levels : List (List ℕ))
    → prepend (front ++ b ∷ []) levels ≡ prepend front (lengthen b levels)
prepend-push [] b levels = refl
prepend-push (a ∷ front) b levels = ap (lengthen a) (prepend-push front b levels)

pub prepend-nil : (front : List ℕ) (levels : List (List ℕ)) → prepend front ([] ∷ levels) ≡ front ∷ levels
prepend-nil [] levels = refl
prepend-nil (a ∷ front) levels = ap (lengthen a) (prepend-nil front levels)

-- a byte that is no slash goes on with the level
pub prepend-more : (text : List ℕ) (i : ℕ) → i < length text → (get_or text i 0 == 47) ≡ false
    → prepend (take (i + 1) text) (levels_of (drop (i + 1) text))
    ≡ prepend (take i text) (levels_of (drop i text))
prepend-more text i within is =
    rw (
      add-one,
      take-suc text i 0 within,
      drop-cons text i 0 within,
      prepend-push (take i text) (get_or text i 0) (levels_of (drop (suc i) text)),
      is,
    ) refl

-- a slash ends it
pub prepend-slash : (text : List ℕ) (i : ℕ) → i < length text → get_or text i 0 ≡ 47
    → prepend (take i text) (levels_of (drop i text)) ≡ take i text ∷ levels_of (drop (i + 1) text)
prepend-slash text i within is =
    rw (add-one, drop-cons text i 0 within, is) (prepend-nil (take i text) (levels_of (drop (suc i) text)))

-- a text with no slash left is one level
pub prepend-all : (text : List ℕ) (i : ℕ) → length text ≤ i
    → prepend (take i text) (levels_of (drop i text)) ≡ text ∷ []
prepend-all text i past = rw (drop_all i text past, take_all i text past) (prepend-nil text [])

lengthen-onto_first : (b : ℕ) (levels : List (List ℕ)) → lengthen b levels ≡ onto_first b levels
lengthen-onto_first b [] = refl
lengthen-onto_first b (level ∷ levels) = refl

parts_by : (b : ℕ) (text : List ℕ) (is_slash : Bool) → levels_of text ≡ slice_split (λ c. c == 47) text
    → cond is_slash ([] ∷ levels_of text) (lengthen b (levels_of text))
    ≡ cond is_slash ([] ∷ slice_split (λ c. c == 47) text) (onto_first b (slice_split (λ c. c == 47) text))
parts_by b text true same = ap (λ (parts : List (List ℕ)). [] ∷ parts) same
parts_by b text false same = lengthen-onto_first b (levels_of text) ∙ ap (onto_first b) same

-- the levels are the parts between the slashes
pub levels_of-parts : (text : List ℕ) → levels_of text ≡ slice_split (λ b. b == 47) text
levels_of-parts [] = refl
levels_of-parts (b ∷ text) = parts_by b text (b == 47) (levels_of-parts text)

pub levels_are_parts : LevelsAreParts
levels_are_parts text =
    (levels_of-parts text, ap (join_with_byte 47) (levels_of-parts text) ∙ join_with_byte-slice_split 47 text)
