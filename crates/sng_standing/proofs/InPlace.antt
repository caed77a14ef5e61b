-- Where wildcards may stand in a filter: `#` is its last level, and what is behind a level is in place.
use Rattle.std.proofs.Common.{◌≡◌, ℕ, true, List, [], ◌∷◌, refl, sym, ap, ◌∙◌, arith}
use Rattle.std.proofs.lemmas.Bool.{and_parts}
use Rattle.std.proofs.lemmas.Grind.{common_steps}
use Rattle.sng_text.specs.Levels.{levels_of}
use Rattle.sng_text.specs.Texts.{is_ordinary, is_in_place, is_filter}

pub hash_last : (level : List ℕ) (levels : List (List ℕ)) → is_in_place (level ∷ levels) ≡ true
    → level ≡ 35 ∷ [] → levels ≡ []
hash_last level [] placed is = refl
hash_last level (next ∷ levels) placed is =
    let p = and_parts (is_ordinary level) (is_in_place (next ∷ levels)) placed in
    let no : is_ordinary (35 ∷ []) ≡ true = sym (ap is_ordinary is) ∙ p.0 in
    cc

pub placed_behind : (level : List ℕ) (levels : List (List ℕ)) → is_in_place (level ∷ levels) ≡ true
    → is_in_place levels ≡ true
placed_behind level [] placed = refl
placed_behind level (next ∷ levels) placed =
    (and_parts (is_ordinary level) (is_in_place (next ∷ levels)) placed).1

pub filter-placed : (text : List ℕ) → is_filter text ≡ true → is_in_place (levels_of text) ≡ true
filter-placed text is = grind (arith, common_steps)
