-- A text without wildcards has none in its levels, so that a name is a filter where it is not too long.
use Rattle.std.proofs.Common.{◌≡◌, ℕ, ◌≤◌, ◌==◌, true, false, List, [], ◌∷◌, length, None, refl, arith}
use Rattle.std.proofs.lemmas.Grind.{common_steps}
use Rattle.sng_text.specs.Levels.{lengthen, levels_of}
use Rattle.sng_text.specs.declared.limits.TheConstants.{MAX_FILTER}
use Rattle.sng_text.specs.Texts.{is_plain, all_plain, is_ordinary, is_in_place, is_name, filter_fault}

plain-ordinary : (level : List ℕ) → is_plain level ≡ true → is_ordinary level ≡ true
plain-ordinary level is = rw is refl

ordinary-one : (level : List ℕ) → is_ordinary level ≡ true → is_in_place (level ∷ []) ≡ true
ordinary-one level is = rw is refl

pub all_plain-in_place : (levels : List (List ℕ)) → all_plain levels ≡ true → is_in_place levels ≡ true
all_plain-in_place [] is = refl
all_plain-in_place (level ∷ []) is = grind (arith, common_steps, ordinary-one level, plain-ordinary level)
all_plain-in_place (level ∷ next ∷ levels) is =
    grind (arith, common_steps, plain-ordinary level, all_plain-in_place (next ∷ levels))

all_plain-lengthen : (b : ℕ) (levels : List (List ℕ)) → (b == 43) ≡ false → (b == 35) ≡ false
    → all_plain levels ≡ true → all_plain (lengthen b levels) ≡ true
all_plain-lengthen b [] one rest is = rw (one, rest) refl
all_plain-lengthen b (level ∷ levels) one rest is = rw (one, rest) is

pub all_plain-levels_of : (text : List ℕ) → is_plain text ≡ true → all_plain (levels_of text) ≡ true
all_plain-levels_of [] is = refl
all_plain-levels_of (b ∷ text) is =
    grind (arith, common_steps, all_plain-levels_of text, all_plain-lengthen b (levels_of text))

-- a name that is not too long is a filter
pub name-filter : (text : List ℕ) → is_name text ≡ true → length text ≤ MAX_FILTER → filter_fault text ≡ None
name-filter text is short =
    grind (arith, common_steps, all_plain-levels_of text, all_plain-in_place (levels_of text))

pub name-plain : (text : List ℕ) → is_name text ≡ true → is_plain text ≡ true
name-plain text is = grind (arith, common_steps)
