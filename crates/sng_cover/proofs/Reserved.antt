-- Names that begin with `$`: a candidate does where the asked filter does, and so does a name that it
-- matches.
use Rattle.std.proofs.Common.{◌≡◌, ℕ, suc, Bool, true, false, ◌&&◌, not, List, [], ◌∷◌, refl, sym, ap}
use Rattle.std.proofs.Common.{if◌then◌else◌, ◌∙◌, inl, inr, subst}
use Rattle.std.specs.Str.{bytes_eq}
use Rattle.std.proofs.lemmas.Slice.Eq.{bytes_eq-Decides}
use Rattle.std.proofs.lemmas.Bool.{and_parts, or_cases, or_left, or_right}
use Rattle.sng_text.specs.Levels.{levels_of}
use Rattle.sng_text.specs.Texts.{is_plus, is_hash}
use Rattle.sng_text.specs.Matching.{Item, literal, one, item_of, items_of, has_rest, match_items, begins_wild}
use Rattle.sng_text.specs.Matching.{is_reserved, matches}
use Rattle.sng_cover.specs.Candidates.{joined, is_wild, candidate_levels}
use Rattle.sng_cover.proofs.Joining.{joined_levels_of, HasLevel, some_level}
use Rattle.sng_cover.proofs.Matched.{place, first_place}

-- a name begins with `$` where its first level does
first_reserved : (level : List ℕ) (levels : List (List ℕ))
    → is_reserved (joined (level ∷ levels)) ≡ is_reserved level
first_reserved [] [] = refl
first_reserved [] (next ∷ levels) = refl
first_reserved (b ∷ level) levels = refl

-- the first level, where there is one
abbrev pub first_of_levels : List (List ℕ) → List ℕ
first_of_levels [] = []
first_of_levels (level ∷ levels) = level

joined_reserved : (levels : List (List ℕ))
    → is_reserved (joined levels) ≡ is_reserved (first_of_levels levels)
joined_reserved [] = refl
joined_reserved (level ∷ levels) = first_reserved level levels

pub text_reserved : (text : List ℕ) → is_reserved text ≡ is_reserved (first_of_levels (levels_of text))
text_reserved text = ap is_reserved (sym (joined_levels_of text)) ∙ joined_reserved (levels_of text)

wild_reserved : (level : List ℕ) → is_wild level ≡ true → is_reserved level ≡ false
wild_reserved level wild =
    elim (or_cases (is_plus level) (is_hash level) wild) [
      | inl plus ↦ let e : level ≡ 43 ∷ [] = (bytes_eq-Decides level (43 ∷ [])).0 plus in rw e refl
      | inr hash ↦ let e : level ≡ 35 ∷ [] = (bytes_eq-Decides level (35 ∷ [])).0 hash in rw e refl
    ]

place_by : (level fresh : List ℕ) (b : Bool) → is_wild level ≡ b → is_reserved fresh ≡ false
    → is_reserved (if b then fresh else level) ≡ is_reserved level
place_by level fresh true wild new = new ∙ sym (wild_reserved level wild)
place_by level fresh false wild new = refl

place_reserved : (asked : List (List ℕ)) (fresh : List ℕ) → is_reserved fresh ≡ false
    → is_reserved (place asked fresh) ≡ is_reserved (first_of_levels asked)
place_reserved [] fresh new = new
place_reserved (level ∷ asked) fresh new = place_by level fresh (is_wild level) refl new

-- a candidate begins with `$` where the asked filter does
pub candidate_reserved : (asked fresh : List ℕ) (depth : ℕ) → is_reserved fresh ≡ false
    → is_reserved (joined (candidate_levels (suc depth) (levels_of asked) fresh)) ≡ is_reserved asked
candidate_reserved asked fresh depth new =
    rw (first_place depth (levels_of asked) fresh)
    (first_reserved (place (levels_of asked) fresh) _
    ∙ (place_reserved (levels_of asked) fresh new ∙ sym (text_reserved asked)))

-- a filter that begins with a wildcard matches no name that begins with `$`
not_reserved : (reserved more : Bool) → (not (true && reserved) && more) ≡ true → reserved ≡ true → ⊥
not_reserved true more is reserved = let e : false ≡ true = is in cc
not_reserved false more is reserved = let e : false ≡ true = reserved in cc

abbrev Follows : List ℕ → List (List ℕ) → List ℕ → List (List ℕ) → Type 0
Follows level asked name levels =
    (not (begins_wild (items_of (level ∷ asked)) (has_rest (level ∷ asked)) && is_reserved name)
    && match_items (items_of (level ∷ asked)) (has_rest (level ∷ asked)) levels) ≡ true
    → is_reserved name ≡ is_reserved (first_of_levels levels) → is_reserved name ≡ true
    → is_reserved level ≡ true

literal_follows : (level : List ℕ) (items : List Item) (rest : Bool) (name : List ℕ) (levels : List (List ℕ))
    → match_items (literal level ∷ items) rest levels ≡ true
    → is_reserved name ≡ is_reserved (first_of_levels levels) → is_reserved name ≡ true
    → is_reserved level ≡ true
literal_follows level items rest name [] is same reserved = let e : false ≡ true = is in cc
literal_follows level items rest name (found ∷ levels) is same reserved =
    let parts = and_parts (bytes_eq level found) (match_items items rest levels) is in
    let e : level ≡ found = (bytes_eq-Decides level found).0 parts.0 in
    rw e (sym same ∙ reserved)

follows_by : (level : List ℕ) (asked : List (List ℕ)) (name : List ℕ) (levels : List (List ℕ))
    (hash plus : Bool) → is_hash level ≡ hash → is_plus level ≡ plus → Follows level asked name levels
follows_by level asked name levels true plus is_last is_one matching same reserved =
    let now : (not (true && is_reserved name) && match_items [] true levels) ≡ true =
    rw is_last at matching in
    absurd (not_reserved _ _ now reserved)
follows_by level asked name levels false true is_last is_one matching same reserved =
    let item : item_of level ≡ one = rw is_one refl in
    let now : (not (begins_wild (item_of level ∷ items_of asked) (has_rest asked) && is_reserved name)
    && match_items (item_of level ∷ items_of asked) (has_rest asked) levels) ≡ true =
    rw is_last at matching in
    let both : (not (true && is_reserved name) && match_items (one ∷ items_of asked) (has_rest asked) levels)
    ≡ true =
    subst (λ (item : Item). (not (begins_wild (item ∷ items_of asked) (has_rest asked) && is_reserved name)
    && match_items (item ∷ items_of asked) (has_rest asked) levels) ≡ true) item now in
    absurd (not_reserved _ _ both reserved)
follows_by level asked name levels false false is_last is_one matching same reserved =
    let item : item_of level ≡ literal level = rw is_one refl in
    let now : (not (begins_wild (item_of level ∷ items_of asked) (has_rest asked) && is_reserved name)
    && match_items (item_of level ∷ items_of asked) (has_rest asked) levels) ≡ true =
    rw is_last at matching in
    let both : (not (false && is_reserved name)
    && match_items (literal level ∷ items_of asked) (has_rest asked) levels) ≡ true =
    subst (λ (item : Item). (not (begins_wild (item ∷ items_of asked) (has_rest asked) && is_reserved name)
    && match_items (item ∷ items_of asked) (has_rest asked) levels) ≡ true) item now in
    literal_follows level (items_of asked) (has_rest asked) name levels both same reserved

follows : (asked : List (List ℕ)) (name : List ℕ) (levels : List (List ℕ)) → HasLevel asked
    → (not (begins_wild (items_of asked) (has_rest asked) && is_reserved name)
    && match_items (items_of asked) (has_rest asked) levels) ≡ true
    → is_reserved name ≡ is_reserved (first_of_levels levels) → is_reserved name ≡ true
    → is_reserved (first_of_levels asked) ≡ true
follows [] name levels some matching same reserved = absurd some
follows (level ∷ asked) name levels some matching same reserved =
    follows_by level asked name levels (is_hash level) (is_plus level) refl refl matching same reserved

-- the asked filter begins with `$` where a name does that it matches
pub name_reserved : (asked name : List ℕ) → matches asked name ≡ true → is_reserved name ≡ true
    → is_reserved asked ≡ true
name_reserved asked name matching reserved =
    text_reserved asked ∙ follows (levels_of asked) name (levels_of name) (some_level asked) matching
    (text_reserved name) reserved

wild_level : (level : List ℕ) (asked : List (List ℕ)) (hash plus : Bool) → is_hash level ≡ hash
    → is_plus level ≡ plus
    → begins_wild (items_of (level ∷ asked)) (has_rest (level ∷ asked)) ≡ true → is_wild level ≡ true
wild_level level asked true plus is_last is_one wild = or_right (is_plus level) (is_hash level) is_last
wild_level level asked false true is_last is_one wild = or_left (is_plus level) (is_hash level) is_one
wild_level level asked false false is_last is_one wild =
    let e : false ≡ true = rw (is_last, is_one) at wild in cc

wild_first : (asked : List (List ℕ)) → HasLevel asked → begins_wild (items_of asked) (has_rest asked) ≡ true
    → is_reserved (first_of_levels asked) ≡ false
wild_first [] some wild = absurd some
wild_first (level ∷ asked) some wild =
    wild_reserved level (wild_level level asked (is_hash level) (is_plus level) refl refl wild)

both_no : (wild reserved : Bool) → (wild ≡ true → reserved ≡ false) → (wild && reserved) ≡ false
both_no true reserved is_not = is_not refl
both_no false reserved is_not = refl

-- no filter that begins with a wildcard begins with `$`
pub own_reserved : (asked : List ℕ)
    → (begins_wild (items_of (levels_of asked)) (has_rest (levels_of asked)) && is_reserved asked) ≡ false
own_reserved asked =
    both_no _ (is_reserved asked)
    (λ wild. text_reserved asked ∙ wild_first (levels_of asked) (some_level asked) wild)
