-- A text without wildcards, taken as a filter, asks for its own levels one by one.
use Rattle.std.proofs.Common.{◌≡◌, ℕ, ◌==◌, true, false, List, [], ◌∷◌, ◌++◌, refl, sym, ap, ap₂, ◌∙◌, inl}
use Rattle.std.proofs.Common.{inr}
use Rattle.std.proofs.lemmas.Bool.{and_parts, and_from, false_from_ne_true, eqb-true, cases_Bool}
use Rattle.std.proofs.lemmas.Slice.Eq.{bytes_eq-Decides}
use Rattle.std.specs.Str.{bytes_eq}
use Rattle.sng_text.specs.Levels.{lengthen, levels_of}
use Rattle.sng_text.specs.Matching.{items_of, has_rest, match_items, begins_wild, matches}
use Rattle.sng_text.specs.Texts.{is_plain, all_plain, is_plus, is_hash}
use Rattle.sng_text.proofs.NameLemmas.{all_plain-levels_of}

-- the levels, each behind a slash
abbrev joined : List (List ℕ) → List ℕ
joined [] = []
joined (level ∷ levels) = 47 ∷ (level ++ joined levels)

joined-lengthen : (b : ℕ) (text : List ℕ) (levels : List (List ℕ)) → joined levels ≡ 47 ∷ text
    → joined (lengthen b levels) ≡ 47 ∷ b ∷ text
joined-lengthen b text [] is = cc
joined-lengthen b text (level ∷ levels) is = cc

joined-levels_of : (text : List ℕ) → joined (levels_of text) ≡ 47 ∷ text
joined-levels_of [] = refl
joined-levels_of (b ∷ text) =
    let rest = joined-levels_of text in
    elim (cases_Bool (b == 47)) [
      | inl is ↦ rw (is, rest, eqb-true b 47 is) refl
      | inr is ↦ rw is (joined-lengthen b text (levels_of text) rest)
    ]

-- texts with the same levels are the same
levels_of_same : (text other : List ℕ) → levels_of text ≡ levels_of other → text ≡ other
levels_of_same text other same =
    let e : 47 ∷ text ≡ 47 ∷ other = sym (joined-levels_of text) ∙ ap joined same ∙ joined-levels_of other in
    cc

pub plain-plus : (level : List ℕ) → is_plain level ≡ true → is_plus level ≡ false
plain-plus level is = false_from_ne_true (is_plus level) (λ plus.
    let e : level ≡ 43 ∷ [] = (bytes_eq-Decides level (43 ∷ [])).0 plus in
    let no : is_plain (43 ∷ []) ≡ true = sym (ap is_plain e) ∙ is in
    cc)

pub plain-hash : (level : List ℕ) → is_plain level ≡ true → is_hash level ≡ false
plain-hash level is = false_from_ne_true (is_hash level) (λ hash.
    let e : level ≡ 35 ∷ [] = (bytes_eq-Decides level (35 ∷ [])).0 hash in
    let no : is_plain (35 ∷ []) ≡ true = sym (ap is_plain e) ∙ is in
    cc)

has_rest-plain : (levels : List (List ℕ)) → all_plain levels ≡ true → has_rest levels ≡ false
has_rest-plain [] is = refl
has_rest-plain (level ∷ levels) is =
    let p = and_parts _ _ is in
    rw (plain-hash level p.0, has_rest-plain levels p.1) refl

begins_wild-plain : (levels : List (List ℕ)) → all_plain levels ≡ true
    → begins_wild (items_of levels) false ≡ false
begins_wild-plain [] is = refl
begins_wild-plain (level ∷ levels) is =
    let p = and_parts _ _ is in
    rw (plain-hash level p.0, plain-plus level p.0) refl

matched-same : (levels found : List (List ℕ)) → all_plain levels ≡ true
    → match_items (items_of levels) false found ≡ true → levels ≡ found
matched-same [] [] is matched = refl
matched-same [] (f ∷ found) is matched = cc
matched-same (level ∷ levels) [] is matched =
    let p = and_parts _ _ is in
    let no = rw (plain-hash level p.0) at matched in
    cc
matched-same (level ∷ levels) (f ∷ found) is matched =
    let p = and_parts _ _ is in
    let m =
    and_parts (bytes_eq level f) (match_items (items_of levels) false found)
    (rw (plain-hash level p.0, plain-plus level p.0) at matched) in
    ap₂ (λ (l : List ℕ) (ls : List (List ℕ)). l ∷ ls) ((bytes_eq-Decides level f).0 m.0)
    (matched-same levels found p.1 m.1)

matched-itself : (levels : List (List ℕ)) → all_plain levels ≡ true
    → match_items (items_of levels) false levels ≡ true
matched-itself [] is = refl
matched-itself (level ∷ levels) is =
    let p = and_parts _ _ is in
    rw (plain-hash level p.0, plain-plus level p.0)
    (and_from _ _ ((bytes_eq-Decides level level).1 refl) (matched-itself levels p.1))

matches-plain : (name other : List ℕ) → is_plain name ≡ true
    → matches name other ≡ match_items (items_of (levels_of name)) false (levels_of other)
matches-plain name other is =
    let plain = all_plain-levels_of name is in
    rw (has_rest-plain (levels_of name) plain, begins_wild-plain (levels_of name) plain) refl

pub matches_same : (name other : List ℕ) → is_plain name ≡ true → matches name other ≡ true → name ≡ other
matches_same name other is matched =
    levels_of_same name other (matched-same (levels_of name) (levels_of other) (all_plain-levels_of name is)
    (sym (matches-plain name other is) ∙ matched))

pub matches_itself : (name other : List ℕ) → is_plain name ≡ true → name ≡ other → matches name other ≡ true
matches_itself name other is same =
    matches-plain name other is ∙ rw (← same) (matched-itself (levels_of name) (all_plain-levels_of name is))
