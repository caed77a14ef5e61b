-- The level that no granted filter names.
use Rattle.std.proofs.Common.{◌≡◌, ◌≤◌, ◌<◌, ◌+◌, ◌==◌, rules, ℕ, zero, suc, Bool, true, false, not, List, []}
use Rattle.std.proofs.Common.{◌∷◌, length, take, replicate, refl, ap, ◌∙◌, sym, Some, None, arith}
use Rattle.std.specs.declared.option.Option.{Option}
use Rattle.std.specs.Str.{bytes_eq, IsUtf8, IsAscii}
use Rattle.std.proofs.lemmas.Str.{IsUtf8-from_ascii, IsUtf8-append, IsUtf8-nil}
use Rattle.std.proofs.lemmas.Slice.Eq.{bytes_eq-Decides}
use Rattle.std.proofs.lemmas.Bool.{or_from, not-true, not-false, false_from_ne_true, both_ways, eq-eqb}
use Rattle.std.proofs.lemmas.Bool.{eqb-true}
use Rattle.sng_text.specs.declared.limits.TheConstants.{MAX_FILTER}
use Rattle.sng_text.specs.Levels.{levels_of}
use Rattle.sng_text.specs.Texts.{has_byte}
use Rattle.sng_cover.specs.Candidates.{run, run_of, has_level, is_taken, fresh_level}
use Rattle.sng_cover.specs.Gaps.{IsShortest}
use Rattle.sng_cover.proofs.Short.{AreShort}
use Rattle.sng_cover.proofs.Filters.{AreFilters, short_of}
use Rattle.sng_cover.proofs.Least.{Searched, searched}

same_from_iff : (a b : Bool) → (a ≡ true → b ≡ true) → (b ≡ true → a ≡ true) → a ≡ b
same_from_iff true b to from = sym (to refl)
same_from_iff false true to from = from refl
same_from_iff false false to from = refl

pub length_run : (count : ℕ) → length (run count) ≡ count
length_run zero = refl
length_run (suc count) = ap suc (length_run count)

pub run_lacks : (byte count : ℕ) → (120 == byte) ≡ false → has_byte byte (run count) ≡ false
run_lacks byte zero differs = refl
run_lacks byte (suc count) differs = rw differs (run_lacks byte count differs)

x_ascii : IsAscii (120 ∷ [])
x_ascii = search rules

pub run_utf8 : (count : ℕ) → IsUtf8 (run count)
run_utf8 zero = IsUtf8-nil
run_utf8 (suc count) =
    IsUtf8-append (120 ∷ []) (run count) (IsUtf8-from_ascii (120 ∷ []) x_ascii) (run_utf8 count)

-- a run that is longer than a level is another text
longer_run : (count : ℕ) (level : List ℕ) → length level < count → bytes_eq (run count) level ≡ false
longer_run count level long =
    false_from_ne_true (bytes_eq (run count) level) (λ same.
    let e : run count ≡ level = (bytes_eq-Decides (run count) level).0 same in
    let counts : count ≡ length level = sym (length_run count) ∙ ap length e in
    let bad : ⊥ = omega arith in absurd bad)

not_among : (most count : ℕ) (levels : List (List ℕ)) → most < count → AreShort most levels
    → has_level (run count) levels ≡ false
not_among most count [] long short = refl
not_among most count (level ∷ levels) long short =
    let here : length level ≤ most = short.0 in
    or_from (bytes_eq (run count) level) (has_level (run count) levels) (longer_run count level (omega arith))
    (not_among most count levels long short.1)

not_taken : (count : ℕ) (granted : List (List ℕ)) → MAX_FILTER < count → AreFilters granted
    → is_taken granted (run count) ≡ false
not_taken count [] long are = refl
not_taken count (filter ∷ granted) long are =
    or_from (has_level (run count) (levels_of filter)) (is_taken granted (run count))
    (not_among MAX_FILTER count (levels_of filter) long (short_of filter are.0))
    (not_taken count granted long are.1)

-- the shortest run that is no level of a granted filter, as its length
abbrev pub FreshIs : List (List ℕ) → List ℕ → Type 0
FreshIs granted fresh =
    (count : ℕ) × (IsShortest granted count × (count ≤ (MAX_FILTER + 1)) × (fresh ≡ run count))

fresh_by : (granted : List (List ℕ)) → AreFilters granted → (found : Option ℕ)
    → Searched (λ count. not (is_taken granted (run count))) MAX_FILTER 1 found
    → FreshIs granted (run_of found)
fresh_by granted are None none = (
  (MAX_FILTER + 1),
  (
    (
      omega arith,
      not_taken (MAX_FILTER + 1) granted (omega arith) are,
      λ less from below. not-false (is_taken granted (run less)) (none less from below),
    ),
    omega arith,
    refl,
  ),
)
fresh_by granted are (Some count) found =
    let below : count < 1 + MAX_FILTER = found.1 in (
      count,
      (
        (
          found.0,
          not-true (is_taken granted (run count)) found.2,
          λ less from small. not-false (is_taken granted (run less)) (found.3 less from small),
        ),
        omega arith,
        refl,
      ),
    )

pub fresh_is : (granted : List (List ℕ)) → AreFilters granted → FreshIs granted (fresh_level granted)
fresh_is granted are =
    fresh_by granted are _ (searched (λ (count : ℕ). not (is_taken granted (run count))) MAX_FILTER 1)

-- a run is one level of its own length alone
pub run_level : (count : ℕ) (level : List ℕ) → bytes_eq (run (length level)) level ≡ true
    → bytes_eq (run count) level ≡ (count == length level)
run_level count level is =
    let e : run (length level) ≡ level = (bytes_eq-Decides (run (length level)) level).0 is in
    same_from_iff (bytes_eq (run count) level) (count == length level)
    (λ same. eq-eqb count (length level)
    (sym (length_run count) ∙ ap length ((bytes_eq-Decides (run count) level).0 same)))
    (λ same. rw (eqb-true count (length level) same) is)

-- a level with another byte is no run
pub no_run : (count : ℕ) (level : List ℕ) → bytes_eq (run (length level)) level ≡ false
    → bytes_eq (run count) level ≡ false
no_run count level is_not =
    false_from_ne_true (bytes_eq (run count) level) (λ same.
    let e : run count ≡ level = (bytes_eq-Decides (run count) level).0 same in
    let counts : count ≡ length level = sym (length_run count) ∙ ap length e in
    both_ways (bytes_eq (run (length level)) level) is_not (rw (← counts) same))

-- the first so many of many `x`
pub take_run : (count most : ℕ) → count ≤ most → take count (replicate most 120) ≡ run count
take_run zero most below = refl
take_run (suc count) zero below = let bad : ⊥ = omega arith in absurd bad
take_run (suc count) (suc most) below = ap (λ (rest : List ℕ). 120 ∷ rest) (take_run count most (omega arith))
