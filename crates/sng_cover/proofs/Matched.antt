-- A granted filter against the candidates, level by level.
use Rattle.std.proofs.Common.{◌≡◌, ℕ, zero, suc, Bool, true, false, ◌&&◌, ◌||◌, List, [], ◌∷◌, length, refl}
use Rattle.std.proofs.Common.{sym, if◌then◌else◌, ◌∙◌, rules, tests}
use Rattle.std.specs.Str.{bytes_eq}
use Rattle.std.proofs.lemmas.Slice.Eq.{bytes_eq-Decides}
use Rattle.std.proofs.lemmas.Bool.{or_parts, and_parts, and_right, false_from_ne_true, both_ways}
use Rattle.sng_text.specs.Texts.{is_plus, is_hash}
use Rattle.sng_text.specs.Matching.{item_of, items_of, has_rest, fits, match_items}
use Rattle.sng_cover.specs.Candidates.{has_level, is_wild, candidate_levels}
use Rattle.sng_cover.specs.Reaches.{begins_with, after_first, fits_levels, reaches_depth}

-- one level more on both sides
pub reaches_suc : (fixed : ℕ) (rest : Bool) (depth : ℕ)
    → reaches_depth (suc fixed) rest (suc depth) ≡ reaches_depth fixed rest depth
reaches_suc fixed true depth = search (rules, tests)
reaches_suc fixed false depth = search (rules, tests)

pub reaches_none : (fixed : ℕ) (rest : Bool) → reaches_depth (suc fixed) rest zero ≡ false
reaches_none fixed true = search (rules, tests)
reaches_none fixed false = search (rules, tests)

pub reaches_all : (depth : ℕ) → reaches_depth zero true depth ≡ true
reaches_all depth = search (rules, tests)

pub bytes_eq_comm : (a b : List ℕ) → bytes_eq a b ≡ false → bytes_eq b a ≡ false
bytes_eq_comm a b differ =
    false_from_ne_true (bytes_eq b a)
    (λ same. both_ways (bytes_eq a b) differ
    ((bytes_eq-Decides a b).1 (sym ((bytes_eq-Decides b a).0 same))))

-- a level that is no wildcard is none that is one
not_wild : (level other : List ℕ) → is_wild other ≡ true → is_plus level ≡ false → is_hash level ≡ false
    → bytes_eq level other ≡ false
not_wild level other wild no_plus no_hash =
    false_from_ne_true (bytes_eq level other) (λ same.
    let e : level ≡ other = (bytes_eq-Decides level other).0 same in
    let is : is_wild level ≡ true = rw (← e) at wild in
    both_ways (is_wild level) (rw (no_plus, no_hash) refl) is)

-- the candidate's level at the first place
abbrev pub place : List (List ℕ) → List ℕ → List ℕ
place [] fresh = fresh
place (level ∷ asked) fresh = if is_wild level then fresh else level

pub first_place : (depth : ℕ) (asked : List (List ℕ)) (fresh : List ℕ)
    → candidate_levels (suc depth) asked fresh
    ≡ place asked fresh ∷ candidate_levels depth (after_first asked) fresh
first_place depth [] fresh = refl
first_place depth (level ∷ asked) fresh = refl

own_by : (level other fresh : List ℕ) (b : Bool) → is_wild other ≡ b → is_plus level ≡ false
    → is_hash level ≡ false → bytes_eq level fresh ≡ false
    → bytes_eq level (if b then fresh else other) ≡ bytes_eq level other
own_by level other fresh true wild no_plus no_hash new = new ∙ sym (not_wild level other wild no_plus no_hash)
own_by level other fresh false wild no_plus no_hash new = refl

own : (level : List ℕ) (asked : List (List ℕ)) (fresh : List ℕ) → is_plus level ≡ false
    → is_hash level ≡ false → bytes_eq level fresh ≡ false
    → bytes_eq level (place asked fresh) ≡ begins_with level asked
own level [] fresh no_plus no_hash new = new
own level (other ∷ asked) fresh no_plus no_hash new =
    own_by level other fresh (is_wild other) refl no_plus no_hash new

fits_by : (level : List ℕ) (asked : List (List ℕ)) (fresh : List ℕ) (b : Bool) → is_plus level ≡ b
    → is_hash level ≡ false → bytes_eq level fresh ≡ false
    → fits (item_of level) (place asked fresh) ≡ (is_plus level || begins_with level asked)
fits_by level asked fresh true plus no_hash new = rw plus refl
fits_by level asked fresh false plus no_hash new = rw plus (own level asked fresh plus no_hash new)

-- a granted filter's level fits the candidate's where it is `+` or the asked filter's own
pub fits_place : (level : List ℕ) (asked : List (List ℕ)) (fresh : List ℕ) → is_hash level ≡ false
    → bytes_eq level fresh ≡ false
    → fits (item_of level) (place asked fresh) ≡ (is_plus level || begins_with level asked)
fits_place level asked fresh no_hash new = fits_by level asked fresh (is_plus level) refl no_hash new

abbrev pub Matched : List (List ℕ) → List (List ℕ) → List ℕ → ℕ → Type 0
Matched granted asked fresh depth =
    match_items (items_of granted) (has_rest granted) (candidate_levels depth asked fresh)
    ≡ (fits_levels asked granted && reaches_depth (length (items_of granted)) (has_rest granted) depth)

pub and_assoc : (a b c : Bool) → (a && (b && c)) ≡ ((a && b) && c)
and_assoc true b c = refl
and_assoc false b c = refl

pub rest_matches : (levels : List (List ℕ)) → match_items [] true levels ≡ true
rest_matches [] = refl
rest_matches (level ∷ levels) = refl

matched_by : (level : List ℕ) (granted asked : List (List ℕ)) (fresh : List ℕ) (depth : ℕ) (b : Bool)
    → is_hash level ≡ b
    → bytes_eq level fresh ≡ false → ((asked : List (List ℕ)) (depth : ℕ) → Matched granted asked fresh depth)
    → Matched (level ∷ granted) asked fresh depth
matched_by level granted asked fresh depth true hash new more =
    rw (hash, rest_matches (candidate_levels depth asked fresh), reaches_all depth) refl
matched_by level granted asked fresh zero false hash new more =
    rw (hash, reaches_none (length (items_of granted)) (has_rest granted)) (sym (and_right _ false refl))
matched_by level granted asked fresh (suc depth) false hash new more =
    let head = fits_place level asked fresh hash new in
    rw (
      hash,
      first_place depth asked fresh,
      reaches_suc (length (items_of granted)) (has_rest granted) depth,
      head,
      more (after_first asked) depth,
    )
    (and_assoc (is_plus level || begins_with level asked) _ _)

-- what a granted filter matches of the candidates
pub matched : (granted asked : List (List ℕ)) (fresh : List ℕ) (depth : ℕ) → has_level fresh granted ≡ false
    → Matched granted asked fresh depth
matched [] asked fresh zero new = refl
matched [] asked fresh (suc depth) new = rw (first_place depth asked fresh) (search (rules, tests))
matched (level ∷ granted) asked fresh depth new =
    let parts = or_parts (bytes_eq fresh level) (has_level fresh granted) new in
    matched_by level granted asked fresh depth (is_hash level) refl (bytes_eq_comm fresh level parts.0)
    (λ (asked : List (List ℕ)) (depth : ℕ). matched granted asked fresh depth parts.1)

-- the asked filter matches its own candidates from its depth on, or of its depth alone
abbrev pub MatchesOwn : List (List ℕ) → List ℕ → ℕ → Type 0
MatchesOwn asked fresh depth =
    match_items (items_of asked) (has_rest asked) (candidate_levels depth asked fresh)
    ≡ reaches_depth (length (items_of asked)) (has_rest asked) depth

pub bytes_eq_refl : (level : List ℕ) → bytes_eq level level ≡ true
bytes_eq_refl level = (bytes_eq-Decides level level).1 refl

own_place : (level : List ℕ) (asked : List (List ℕ)) (fresh : List ℕ) (b : Bool) → is_plus level ≡ b
    → is_hash level ≡ false → fits (item_of level) (place (level ∷ asked) fresh) ≡ true
own_place level asked fresh true plus no_hash = rw plus refl
own_place level asked fresh false plus no_hash = rw (plus, no_hash) (bytes_eq_refl level)

matches_own_by : (level : List ℕ) (asked : List (List ℕ)) (fresh : List ℕ) (depth : ℕ) (b : Bool)
    → is_hash level ≡ b
    → ((depth : ℕ) → MatchesOwn asked fresh depth) → MatchesOwn (level ∷ asked) fresh depth
matches_own_by level asked fresh depth true hash more =
    rw (hash, rest_matches (candidate_levels depth (level ∷ asked) fresh), reaches_all depth) refl
matches_own_by level asked fresh zero false hash more =
    rw (hash, reaches_none (length (items_of asked)) (has_rest asked)) refl
matches_own_by level asked fresh (suc depth) false hash more =
    let head = rw hash at (own_place level asked fresh (is_plus level) refl hash) in
    rw (hash, reaches_suc (length (items_of asked)) (has_rest asked) depth, head) (more depth)

pub matches_own : (asked : List (List ℕ)) (fresh : List ℕ) (depth : ℕ) → MatchesOwn asked fresh depth
matches_own [] fresh zero = refl
matches_own [] fresh (suc depth) = search (rules, tests)
matches_own (level ∷ asked) fresh depth =
    matches_own_by level asked fresh depth (is_hash level) refl (λ (depth : ℕ). matches_own asked fresh depth)

-- levels that a filter matches are as many as it reaches
abbrev pub Reached : List (List ℕ) → List (List ℕ) → Type 0
Reached asked levels =
    match_items (items_of asked) (has_rest asked) levels ≡ true
    → reaches_depth (length (items_of asked)) (has_rest asked) (length levels) ≡ true

reached_by : (level : List ℕ) (asked levels : List (List ℕ)) (b : Bool) → is_hash level ≡ b
    → ((levels : List (List ℕ)) → Reached asked levels) → Reached (level ∷ asked) levels
reached_by level asked levels true hash more matching = rw (hash, reaches_all (length levels)) refl
reached_by level asked [] false hash more matching = let e : false ≡ true = rw hash at matching in cc
reached_by level asked (found ∷ levels) false hash more matching =
    let both : (fits (item_of level) found && match_items (items_of asked) (has_rest asked) levels) ≡ true =
    rw hash at matching in
    rw (hash, reaches_suc (length (items_of asked)) (has_rest asked) (length levels))
    (more levels (and_parts (fits (item_of level) found) _ both).1)

pub reached : (asked levels : List (List ℕ)) → Reached asked levels
reached [] [] matching = refl
reached [] (found ∷ levels) matching = let e : false ≡ true = matching in cc
reached (level ∷ asked) levels matching =
    reached_by level asked levels (is_hash level) refl
    (λ (levels : List (List ℕ)). reached asked levels) matching
