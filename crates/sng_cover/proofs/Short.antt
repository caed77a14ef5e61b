-- How many levels a text has, and how long they are.
use Rattle.std.proofs.Common.{◌≡◌, ℕ, Bool, true, false, ◌==◌, ◌≤◌, List, [], ◌∷◌, length, suc, refl, arith}
use Rattle.std.proofs.Common.{if◌then◌else◌}
use Rattle.std.specs.List.{AllByRecursion as AllOf}
use Rattle.sng_text.specs.Levels.{lengthen, levels_of}
use Rattle.sng_text.specs.Texts.{is_hash}
use Rattle.sng_text.specs.Matching.{items_of}

-- no level has more bytes than so many
abbrev pub AreShort : ℕ → List (List ℕ) → Type 0
AreShort most levels = AllOf (λ level. length level ≤ most) levels

pub longer : (most more : ℕ) (levels : List (List ℕ)) → most ≤ more → AreShort most levels
    → AreShort more levels
longer most more [] below short = tt
longer most more (level ∷ levels) below short =
    let here : length level ≤ most = short.0 in (omega arith, longer most more levels below short.1)

short_lengthen : (most b : ℕ) (levels : List (List ℕ)) → AreShort most levels
    → AreShort (suc most) (lengthen b levels)
short_lengthen most b [] short = (omega arith, tt)
short_lengthen most b (level ∷ levels) short =
    let here : length level ≤ most = short.0 in
    (omega arith, longer most (suc most) levels (omega arith) short.1)

short_by : (most b : ℕ) (is_slash : Bool) (levels : List (List ℕ)) → AreShort most levels
    → AreShort (suc most) (if is_slash then [] ∷ levels else lengthen b levels)
short_by most b true levels short = (omega arith, longer most (suc most) levels (omega arith) short)
short_by most b false levels short = short_lengthen most b levels short

-- no level has more bytes than the text
pub short_levels : (text : List ℕ) → AreShort (length text) (levels_of text)
short_levels [] = (omega arith, tt)
short_levels (b ∷ text) = short_by (length text) b (b == 47) (levels_of text) (short_levels text)

few_lengthen : (b : ℕ) (levels : List (List ℕ)) → length (lengthen b levels) ≤ suc (length levels)
few_lengthen b [] = omega arith
few_lengthen b (level ∷ levels) = omega arith

few_by : (b : ℕ) (is_slash : Bool) (levels : List (List ℕ))
    → length (if is_slash then [] ∷ levels else lengthen b levels) ≤ suc (length levels)
few_by b true levels = omega arith
few_by b false levels = few_lengthen b levels

-- a text has at most one level more than bytes
few_levels : (text : List ℕ) → length (levels_of text) ≤ suc (length text)
few_levels [] = omega arith
few_levels (b ∷ text) =
    let rest : length (levels_of text) ≤ suc (length text) = few_levels text in
    let this : length (levels_of (b ∷ text)) ≤ suc (length (levels_of text)) =
    few_by b (b == 47) (levels_of text) in
    omega arith

few_items_by : (level : List ℕ) (is_last : Bool) (levels : List (List ℕ)) → is_hash level ≡ is_last
    → length (items_of levels) ≤ length levels → length (items_of (level ∷ levels)) ≤ suc (length levels)
few_items_by level true levels is few = rw is (omega arith)
few_items_by level false levels is few = rw is (omega arith)

few_items : (levels : List (List ℕ)) → length (items_of levels) ≤ length levels
few_items [] = omega arith
few_items (level ∷ levels) = few_items_by level (is_hash level) levels refl (few_items levels)

-- a filter has at most one level more than bytes before its `#`
pub few_fixed : (text : List ℕ) → length (items_of (levels_of text)) ≤ suc (length text)
few_fixed text =
    let items : length (items_of (levels_of text)) ≤ length (levels_of text) = few_items (levels_of text) in
    let levels : length (levels_of text) ≤ suc (length text) = few_levels text in omega arith
