-- The shape of a filter, read off its bytes.
use Rattle.std.proofs.Common.{◌≡◌, ℕ, ◌+◌, ◌-◌, ◌<◌, ◌≤◌, ◌==◌, ◌∙◌, ◌||◌, not, zero, suc, Bool, true, false}
use Rattle.std.proofs.Common.{List, [], ◌∷◌, length, get_or, count_by, refl, sym, ap, arith, inl, inr}
use Rattle.std.proofs.lemmas.Bool.{and_parts, and_from, or_parts, or_cases, or_left, or_right, not-true}
use Rattle.std.proofs.lemmas.Bool.{eqb-true, eq-eqb, ne_eqb, false_from_ne_true, both_ways}
use Rattle.std.proofs.lemmas.List.Splits.{length-slice_split}
use Rattle.std.proofs.lemmas.Slice.Eq.{bytes_eq-Decides}
use Rattle.std.specs.Str.{bytes_eq}
use Rattle.sng_text.specs.Levels.{lengthen, levels_of}
use Rattle.sng_text.specs.Matching.{items_of, has_rest}
use Rattle.sng_text.specs.Texts.{has_byte, is_plain, is_plus, is_hash, is_ordinary, is_in_place, is_filter}
use Rattle.sng_text.proofs.LevelLemmas.{levels_of-parts}
use Rattle.sng_text.proofs.MatchLemmas.{cut}
use Rattle.sng_text.proofs.SelfLemmas.{plain-hash}
use Rattle.sng_cover.specs.Candidates.{joined, run, has_level}
use Rattle.sng_cover.specs.Covering.{fixed_part}
use Rattle.sng_cover.specs.Gathered.{IsShape}
use Rattle.sng_cover.proofs.Filters.{filter_facts, few_of}
use Rattle.sng_cover.proofs.Joining.{joined_levels_of}

-- ---- wildcards in their places

pub plus-hash : (level : List ℕ) → is_plus level ≡ true → is_hash level ≡ false
plus-hash level is = let e : level ≡ 43 ∷ [] = (bytes_eq-Decides level (43 ∷ [])).0 is in ap is_hash e

ordinary_by : (level : List ℕ) (plain : Bool) → is_plain level ≡ plain → is_ordinary level ≡ true
    → (has_byte 35 level ≡ false) × (is_hash level ≡ false)
ordinary_by level true plain is =
    let p = and_parts (not (has_byte 43 level)) (not (has_byte 35 level)) plain in
    (not-true (has_byte 35 level) p.1, plain-hash level plain)
ordinary_by level false plain is =
    let plus : is_plus level ≡ true = rw plain at is in
    let e : level ≡ 43 ∷ [] = (bytes_eq-Decides level (43 ∷ [])).0 plus in (ap (has_byte 35) e, ap is_hash e)

-- a level that may stand anywhere has no `#`
ordinary : (level : List ℕ) → is_ordinary level ≡ true → (has_byte 35 level ≡ false) × (is_hash level ≡ false)
ordinary level is = ordinary_by level (is_plain level) refl is

pub in_place-tail : (level : List ℕ) (levels : List (List ℕ)) → is_in_place (level ∷ levels) ≡ true
    → is_in_place levels ≡ true
in_place-tail level [] is = refl
in_place-tail level (next ∷ levels) is = (and_parts (is_ordinary level) (is_in_place (next ∷ levels)) is).1

-- `#` is the last level
pub in_place-hash : (level next : List ℕ) (levels : List (List ℕ))
    → is_in_place (level ∷ next ∷ levels) ≡ true → is_hash level ≡ false
in_place-hash level next levels is =
    (ordinary level (and_parts (is_ordinary level) (is_in_place (next ∷ levels)) is).0).1

-- ---- bytes among the levels

abbrev any_has : ℕ → List (List ℕ) → Bool
any_has byte [] = false
any_has byte (level ∷ levels) = has_byte byte level || any_has byte levels

or_assoc : (a b c : Bool) → ((a || b) || c) ≡ (a || (b || c))
or_assoc true b c = refl
or_assoc false b c = refl

any_has-lengthen : (byte b : ℕ) (levels : List (List ℕ))
    → any_has byte (lengthen b levels) ≡ ((b == byte) || any_has byte levels)
any_has-lengthen byte b [] = or_assoc (b == byte) false false
any_has-lengthen byte b (level ∷ levels) = or_assoc (b == byte) (has_byte byte level) (any_has byte levels)

any_by : (byte b : ℕ) (text : List ℕ) (slash : Bool) → (b == 47) ≡ slash → (47 == byte) ≡ false
    → any_has byte (levels_of text) ≡ has_byte byte text
    → any_has byte (levels_of (b ∷ text)) ≡ has_byte byte (b ∷ text)
any_by byte b text true is other more =
    let e : b ≡ 47 = eqb-true b 47 is in
    let no : (b == byte) ≡ false = rw e other in
    rw (is, no, more) refl
any_by byte b text false is other more = rw is (any_has-lengthen byte b (levels_of text) ∙ rw more refl)

-- a byte other than the slash is in a text where it is in one of its levels
any_has-levels : (byte : ℕ) (text : List ℕ) → (47 == byte) ≡ false
    → any_has byte (levels_of text) ≡ has_byte byte text
any_has-levels byte [] other = refl
any_has-levels byte (b ∷ text) other =
    any_by byte b text (b == 47) refl other (any_has-levels byte text other)

or_left_of : (a b : Bool) → b ≡ false → (a || b) ≡ true → a ≡ true
or_left_of true b none is = refl
or_left_of false b none is = absurd (both_ways b none is)

rest_by : (level : List ℕ) (hash : Bool) → is_hash level ≡ hash → (is_ordinary level || is_hash level) ≡ true
    → (is_hash level || false) ≡ (has_byte 35 level || false)
rest_by level true is place = let e : level ≡ 35 ∷ [] = (bytes_eq-Decides level (35 ∷ [])).0 is in rw e refl
rest_by level false is place =
    let o : is_ordinary level ≡ true = or_left_of (is_ordinary level) (is_hash level) is place in
    let n = ordinary level o in rw (n.0, n.1) refl

-- a filter has a `#` where it ends in one
rest_has : (levels : List (List ℕ)) → is_in_place levels ≡ true → has_rest levels ≡ any_has 35 levels
rest_has [] is = refl
rest_has (level ∷ []) is = rest_by level (is_hash level) refl is
rest_has (level ∷ next ∷ levels) is =
    let p = and_parts (is_ordinary level) (is_in_place (next ∷ levels)) is in
    let n = ordinary level p.0 in
    rw (n.0, n.1) (rest_has (next ∷ levels) p.1)

pub has_rest-byte : (text : List ℕ) → is_in_place (levels_of text) ≡ true
    → has_rest (levels_of text) ≡ has_byte 35 text
has_rest-byte text is = rest_has (levels_of text) is ∙ any_has-levels 35 text refl

-- ---- the last byte

last : List ℕ → ℕ
last [] = 0
last (b ∷ []) = b
last (b ∷ c ∷ text) = last (c ∷ text)

last-place : (text : List ℕ) → last text ≡ get_or text (length text - 1) 0
unfolding last
last-place [] = refl
last-place (b ∷ []) = refl
last-place (b ∷ c ∷ text) =
    let more : suc (suc (length text)) - 1 ≡ suc (length text) = omega arith in
    let fewer : suc (length text) - 1 ≡ length text = omega arith in
    rw more (rw fewer at (last-place (c ∷ text)))

last-has : (byte : ℕ) (text : List ℕ) → (byte ≡ 0 → ⊥) → last text ≡ byte → has_byte byte text ≡ true
unfolding last
last-has byte [] some is = absurd (some (sym is))
last-has byte (b ∷ []) some is = or_left (b == byte) false (eq-eqb b byte is)
last-has byte (b ∷ c ∷ text) some is =
    or_right (b == byte) (has_byte byte (c ∷ text)) (last-has byte (c ∷ text) some is)

two_bytes : (b c : ℕ) (level : List ℕ) (byte : ℕ) → bytes_eq (b ∷ c ∷ level) (byte ∷ []) ≡ false
two_bytes b c level byte =
    false_from_ne_true (bytes_eq (b ∷ c ∷ level) (byte ∷ [])) (λ same.
    let e : b ∷ c ∷ level ≡ byte ∷ [] = (bytes_eq-Decides (b ∷ c ∷ level) (byte ∷ [])).0 same in cc)

shorter_by : (b : ℕ) (level : List ℕ) (plain : Bool) → is_plain (b ∷ level) ≡ plain
    → (is_ordinary (b ∷ level) || is_hash (b ∷ level)) ≡ true → is_ordinary level ≡ true
shorter_by b level true plain is =
    let p = and_parts (not (has_byte 43 (b ∷ level))) (not (has_byte 35 (b ∷ level))) plain in
    let q = or_parts (b == 43) (has_byte 43 level) (not-true (has_byte 43 (b ∷ level)) p.0) in
    let r = or_parts (b == 35) (has_byte 35 level) (not-true (has_byte 35 (b ∷ level)) p.1) in
    rw (q.1, r.1) refl
shorter_by b [] false plain is = refl
shorter_by b (c ∷ level) false plain is =
    absurd (both_ways false refl (rw (plain, two_bytes b c level 43, two_bytes b c level 35) at is))

-- a level that stands anywhere does so without its first byte
shorter : (b : ℕ) (level : List ℕ) (levels : List (List ℕ)) → is_in_place ((b ∷ level) ∷ levels) ≡ true
    → is_in_place (level ∷ levels) ≡ true
shorter b level [] is =
    or_left (is_ordinary level) (is_hash level) (shorter_by b level (is_plain (b ∷ level)) refl is)
shorter b level (next ∷ levels) is =
    let p = and_parts (is_ordinary (b ∷ level)) (is_in_place (next ∷ levels)) is in
    and_from (is_ordinary level) (is_in_place (next ∷ levels))
    (shorter_by b level (is_plain (b ∷ level)) refl
    (or_left (is_ordinary (b ∷ level)) (is_hash (b ∷ level)) p.0)) p.1

place_by : (b : ℕ) (text : List ℕ) (slash : Bool) → (b == 47) ≡ slash → (levels : List (List ℕ))
    → levels_of text ≡ levels → is_in_place (levels_of (b ∷ text)) ≡ true → is_in_place levels ≡ true
place_by b text true is levels same place = in_place-tail [] levels (rw (is, same) at place)
place_by b text false is [] same place = refl
place_by b text false is (level ∷ levels) same place = shorter b level levels (rw (is, same) at place)

-- so a filter without its first byte has its wildcards in place
place_behind : (b : ℕ) (text : List ℕ) → is_in_place (levels_of (b ∷ text)) ≡ true
    → is_in_place (levels_of text) ≡ true
place_behind b text place = place_by b text (b == 47) refl (levels_of text) refl place

long_level : (c : ℕ) (level : List ℕ) (levels : List (List ℕ))
    → is_in_place ((35 ∷ c ∷ level) ∷ levels) ≡ true → ⊥
long_level c level [] place =
    let none =
    (ordinary (35 ∷ c ∷ level) (or_left_of (is_ordinary (35 ∷ c ∷ level))
    (is_hash (35 ∷ c ∷ level)) refl place)).0 in
    cc
long_level c level (next ∷ levels) place =
    let none =
    (ordinary (35 ∷ c ∷ level) (and_parts (is_ordinary (35 ∷ c ∷ level))
    (is_in_place (next ∷ levels)) place).0).0 in
    cc

-- `#` stands before no other byte
longer_level : (text level : List ℕ) (levels : List (List ℕ)) → levels_of text ≡ level ∷ levels
    → (text ≡ [] → ⊥) → is_in_place ((35 ∷ level) ∷ levels) ≡ true → ⊥
longer_level text (c ∷ level) levels is some place = long_level c level levels place
longer_level text [] (next ∷ levels) is some place =
    let none =
    (ordinary (35 ∷ []) (and_parts (is_ordinary (35 ∷ [])) (is_in_place (next ∷ levels)) place).0).0 in
    cc
longer_level text [] [] is some place = some (sym (joined_levels_of text) ∙ ap joined is)

first_level : (text level : List ℕ) (levels : List (List ℕ)) → levels_of text ≡ level ∷ levels
    → levels_of (35 ∷ text) ≡ (35 ∷ level) ∷ levels
first_level text level levels is = rw is refl

hash_first : (c : ℕ) (text : List ℕ) → is_in_place (levels_of (35 ∷ c ∷ text)) ≡ true → ⊥
hash_first c text place =
    let found = cut (c ∷ text) in
    longer_level (c ∷ text) found.level found.rest found.is (λ none. cc)
    (rw (first_level (c ∷ text) found.level found.rest found.is) at place)

hash_last : (text : List ℕ) → is_in_place (levels_of text) ≡ true → has_byte 35 text ≡ true → last text ≡ 35
unfolding last
hash_last [] place has = absurd (cc)
hash_last (b ∷ []) place has = eqb-true b 35 (or_left_of (b == 35) false refl has)
hash_last (b ∷ c ∷ text) place has = elim (or_cases (b == 35) (has_byte 35 (c ∷ text)) has) [
  | inl here ↦ absurd (hash_first c text (rw (eqb-true b 35 here) at place))
  | inr more ↦ hash_last (c ∷ text) (place_behind b (c ∷ text) place) more
]

both_by : (text : List ℕ) (has : Bool) → has_byte 35 text ≡ has → is_in_place (levels_of text) ≡ true
    → (last text == 35) ≡ has
both_by text true is place = eq-eqb (last text) 35 (hash_last text place is)
both_by text false is place =
    ne_eqb (last text) 35 (λ same. both_ways (has_byte 35 text) is (last-has 35 text (λ zero_is. cc) same))

-- a filter has a `#` where its last byte is one
pub hash-last : (text : List ℕ) → is_in_place (levels_of text) ≡ true
    → (get_or text (length text - 1) 0 == 35) ≡ has_byte 35 text
hash-last text place = rw (← last-place text) (both_by text (has_byte 35 text) refl place)

-- ---- how many levels

-- one for the `#`
abbrev rest_count : Bool → ℕ
rest_count true = 1
rest_count false = 0

items_one : (level : List ℕ) (hash : Bool) → is_hash level ≡ hash
    → length (items_of (level ∷ [])) + rest_count (has_rest (level ∷ [])) ≡ 1
items_one level true is = rw is refl
items_one level false is = rw is refl

items_length : (levels : List (List ℕ)) → is_in_place levels ≡ true
    → length (items_of levels) + rest_count (has_rest levels) ≡ length levels
items_length [] is = refl
items_length (level ∷ []) is = items_one level (is_hash level) refl
items_length (level ∷ next ∷ levels) is =
    let no_hash = in_place-hash level next levels is in
    let more : length (items_of (next ∷ levels)) + rest_count (has_rest (next ∷ levels))
    ≡ suc (length levels) = items_length (next ∷ levels) (in_place-tail level (next ∷ levels) is) in
    rw no_hash (omega (arith, more))

levels_length : (text : List ℕ) → length (levels_of text) ≡ count_by (λ b. b == 47) text + 1
levels_length text = ap length (levels_of-parts text) ∙ length-slice_split (λ b. b == 47) text

-- a filter's shape, by its slashes
pub shape_rest : (filter : List ℕ) (slashes : ℕ) → is_filter filter ≡ true
    → slashes ≡ count_by (λ b. b == 47) filter → (get_or filter (length filter - 1) 0 == 35) ≡ true
    → IsShape (record { fixed = slashes; has_rest = true }) filter
shape_rest filter slashes is count hash =
    let place = (filter_facts filter is).3 in
    let rest : has_rest (levels_of filter) ≡ true =
    has_rest-byte filter place ∙ (sym (hash-last filter place) ∙ hash) in
    let items : fixed_part filter + 1 ≡ length (levels_of filter) =
    rw rest at (items_length (levels_of filter) place) in
    let few : fixed_part filter < 202 = few_of filter is in
    let size = levels_length filter in
    let fixed : slashes ≡ fixed_part filter = omega (arith, items, size, count) in
    record { fixed = fixed; few = omega (arith, fixed, few); has_rest = sym rest }

pub shape_whole : (filter : List ℕ) (slashes : ℕ) → is_filter filter ≡ true
    → slashes ≡ count_by (λ b. b == 47) filter → (get_or filter (length filter - 1) 0 == 35) ≡ false
    → IsShape (record { fixed = slashes + 1; has_rest = false }) filter
shape_whole filter slashes is count hash =
    let place = (filter_facts filter is).3 in
    let rest : has_rest (levels_of filter) ≡ false =
    has_rest-byte filter place ∙ (sym (hash-last filter place) ∙ hash) in
    let items : fixed_part filter + 0 ≡ length (levels_of filter) =
    rw rest at (items_length (levels_of filter) place) in
    let few : fixed_part filter < 202 = few_of filter is in
    let size = levels_length filter in
    let fixed : slashes + 1 ≡ fixed_part filter = omega (arith, items, size, count) in
    record { fixed = fixed; few = omega (arith, fixed, few); has_rest = sym rest }

-- ---- runs of `x`

run_among : (count : ℕ) (levels : List (List ℕ)) → any_has 120 levels ≡ false
    → has_level (run (suc count)) levels ≡ false
run_among count [] none = refl
run_among count (level ∷ levels) none =
    let p = or_parts (has_byte 120 level) (any_has 120 levels) none in
    let differ : bytes_eq (run (suc count)) level ≡ false =
    false_from_ne_true (bytes_eq (run (suc count)) level) (λ same.
    let e : run (suc count) ≡ level = (bytes_eq-Decides (run (suc count)) level).0 same in
    both_ways (has_byte 120 level) p.0 (rw (← e) refl)) in
    rw (differ, run_among count levels p.1) refl

-- a filter without an `x` has no run of it
pub no_runs : (filter : List ℕ) (count : ℕ) → has_byte 120 filter ≡ false → 1 ≤ count
    → has_level (run count) (levels_of filter) ≡ false
no_runs filter zero none some = absurd (omega (arith, some))
no_runs filter (suc count) none some =
    run_among count (levels_of filter) (any_has-levels 120 filter refl ∙ none)
