-- A filter against a name, behind the levels that both have in common.
use Rattle.std.proofs.Common.{◌≡◌, ℕ, ◌+◌, ◌<◌, ◌==◌, ◌||◌, Bool, true, false, List, [], ◌∷◌, ◌++◌, length}
use Rattle.std.proofs.Common.{refl, ap, ◌∙◌, arith, length-append}
use Rattle.std.proofs.lemmas.Bool.{and_parts, and_from}
use Rattle.std.proofs.lemmas.Slice.Eq.{bytes_eq-Decides}
use Rattle.std.specs.Str.{bytes_eq}
use Rattle.sng_text.specs.Common.{begin_alike, first_is, AreLeft}
use Rattle.sng_text.specs.Levels.{levels_of}
use Rattle.sng_text.specs.Matching.{items_of, has_rest, match_items, begins_wild}
use Rattle.sng_text.specs.Texts.{is_plain, all_plain, is_plus, is_hash}
use Rattle.sng_text.proofs.SelfLemmas.{plain-plus, plain-hash}

-- the first level of a text, and those behind it
pub record Cut (text : List ℕ) : Type 0 where
  pub level : List ℕ
  pub rest : List (List ℕ)
  pub is : levels_of text ≡ level ∷ rest

cut_by : (b : ℕ) (text : List ℕ) (levels : List (List ℕ)) (slash : Bool) → (b == 47) ≡ slash
    → levels_of text ≡ levels → Cut (b ∷ text)
cut_by b text levels true is same = record { level = []; rest = levels_of text; is = rw is refl }
cut_by b text [] false is same = record { level = b ∷ []; rest = []; is = rw (is, same) refl }
cut_by b text (level ∷ levels) false is same =
    record { level = b ∷ level; rest = levels; is = rw (is, same) refl }

pub cut : (text : List ℕ) → Cut text
cut [] = record { level = []; rest = []; is = refl }
cut (b ∷ text) = cut_by b text (levels_of text) (b == 47) refl refl

-- ---- wildcards first

wild_by : (level : List ℕ) (levels : List (List ℕ)) (hash plus : Bool) → is_hash level ≡ hash
    → is_plus level ≡ plus
    → begins_wild (items_of (level ∷ levels)) (has_rest (level ∷ levels)) ≡ (is_hash level || is_plus level)
wild_by level levels true plus hash_is plus_is = rw hash_is refl
wild_by level levels false true hash_is plus_is = rw (hash_is, plus_is) refl
wild_by level levels false false hash_is plus_is = rw (hash_is, plus_is) refl

wild_of : (levels : List (List ℕ))
    → begins_wild (items_of levels) (has_rest levels) ≡ (first_is is_hash levels || first_is is_plus levels)
wild_of [] = refl
wild_of (level ∷ levels) = wild_by level levels (is_hash level) (is_plus level) refl refl

pub begins_wild_first : (text : List ℕ)
    → begins_wild (items_of (levels_of text)) (has_rest (levels_of text))
    ≡ (first_is is_hash (levels_of text) || first_is is_plus (levels_of text))
begins_wild_first text = wild_of (levels_of text)

-- ---- levels against levels

-- the filter's levels match the name's
abbrev pub matched : List (List ℕ) → List (List ℕ) → Bool
matched filter name = match_items (items_of filter) (has_rest filter) name

matched-same : (level : List ℕ) (filter name : List (List ℕ)) → is_plain level ≡ true
    → matched (level ∷ filter) (level ∷ name) ≡ matched filter name
matched-same level filter name is =
    rw (plain-hash level is, plain-plus level is, (bytes_eq-Decides level level).1 refl) refl

matched-common : (common filter name : List (List ℕ)) → all_plain common ≡ true
    → matched (common ++ filter) (common ++ name) ≡ matched filter name
matched-common [] filter name are = refl
matched-common (level ∷ common) filter name are =
    let p = and_parts (is_plain level) (all_plain common) are in
    matched-same level (common ++ filter) (common ++ name) p.0 ∙ matched-common common filter name p.1

all_plain-parts : (common levels : List (List ℕ)) → all_plain (common ++ levels) ≡ true
    → (all_plain common ≡ true) × (all_plain levels ≡ true)
all_plain-parts [] levels are = (refl, are)
all_plain-parts (level ∷ common) levels are =
    let p = and_parts (is_plain level) (all_plain (common ++ levels)) are in
    let q = all_plain-parts common levels p.1 in
    (and_from (is_plain level) (all_plain common) p.0 q.0, q.1)

-- what is left of a name behind the levels in common is plain
pub plain_left : (filter name left found : List (List ℕ)) → AreLeft filter name left found
    → all_plain name ≡ true → all_plain found ≡ true
plain_left filter name left found are plain =
    (all_plain-parts are.common found (rw are.others_are at plain)).1

pub plain_behind : (text : List ℕ) (level : List ℕ) (levels : List (List ℕ))
    → all_plain (levels_of text) ≡ true → levels_of text ≡ level ∷ levels → all_plain levels ≡ true
plain_behind text level levels plain is = (and_parts (is_plain level) (all_plain levels) (rw is at plain)).1

-- the levels in common match
pub matched_left : (filter name left found : List (List ℕ)) → AreLeft filter name left found
    → all_plain name ≡ true → matched filter name ≡ matched left found
matched_left filter name left found are plain =
    let common = (all_plain-parts are.common found (rw are.others_are at plain)).0 in
    rw (are.levels_are, are.others_are) (matched-common are.common left found common)

over_by : (level : List ℕ) (levels : List (List ℕ)) (hash : Bool) → is_hash level ≡ hash
    → matched (level ∷ levels) [] ≡ is_hash level
over_by level levels true is = rw is refl
over_by level levels false is = rw is refl

-- a name that is over is matched by `#` alone
pub matched_over : (filter : List ℕ) → matched (levels_of filter) [] ≡ first_is is_hash (levels_of filter)
matched_over filter = let c = cut filter in rw c.is (over_by c.level c.rest (is_hash c.level) refl)

rest_takes : (found : List (List ℕ)) → match_items [] true found ≡ true
rest_takes [] = refl
rest_takes (level ∷ levels) = refl

hash_of : (left found : List (List ℕ)) → first_is is_hash left ≡ true → matched left found ≡ true
hash_of [] found is = absurd (cc)
hash_of (level ∷ levels) found is = rw is (rest_takes found)

-- `#` matches what is left
pub matched_hash : (filter : List ℕ) (found : List (List ℕ)) → first_is is_hash (levels_of filter) ≡ true
    → matched (levels_of filter) found ≡ true
matched_hash filter found is = hash_of (levels_of filter) found is

literal_of : (left found : List (List ℕ)) (level : List ℕ) (levels : List (List ℕ)) → left ≡ level ∷ levels
    → first_is is_hash left ≡ false → first_is is_plus left ≡ false
    → begin_alike left found ≡ false → matched left found ≡ false
literal_of left [] level levels is hash plus differ =
    let h : is_hash level ≡ false = rw is at hash in
    rw (is, h) refl
literal_of left (found ∷ others) level levels is hash plus differ =
    let h : is_hash level ≡ false = rw is at hash in
    let p : is_plus level ≡ false = rw is at plus in
    let d : bytes_eq level found ≡ false = rw is at differ in
    rw (is, h, p, d) refl

-- a level that is no wildcard matches no other level
pub matched_literal : (filter : List ℕ) (found : List (List ℕ)) → first_is is_hash (levels_of filter) ≡ false
    → first_is is_plus (levels_of filter) ≡ false
    → begin_alike (levels_of filter) found ≡ false → matched (levels_of filter) found ≡ false
matched_literal filter found hash plus differ =
    let c = cut filter in literal_of (levels_of filter) found c.level c.rest c.is hash plus differ

-- `+` matches any one level
pub matched_plus : (filter name : List ℕ) (level found : List ℕ) (levels others : List (List ℕ))
    → first_is is_hash (levels_of filter) ≡ false → first_is is_plus (levels_of filter) ≡ true
    → levels_of filter ≡ level ∷ levels → levels_of name ≡ found ∷ others
    → matched (levels_of filter) (levels_of name) ≡ matched levels others
matched_plus filter name level found levels others hash plus filter_is name_is =
    let h : is_hash level ≡ false = rw filter_is at hash in
    let p : is_plus level ≡ true = rw filter_is at plus in
    rw (filter_is, name_is, h, p) refl

-- what is left has no more levels
pub fewer_left : (filter name left found : List (List ℕ)) → AreLeft filter name left found
    → length left < length filter + 1
fewer_left filter name left found are =
    let e : length filter ≡ length are.common + length left =
    ap length are.levels_are ∙ length-append are.common left in
    omega (arith, e)
