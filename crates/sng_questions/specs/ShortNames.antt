-- Whether a topic filter matches a short topic name, which is a topic name of two bytes (MQTT-SN 1.2, 6.7).
use Rattle.std.specs.Prelude.{ℕ, suc, ◌≡◌, ◌↔◌, ◌+◌, ◌==◌, nat_le, Bool, true, List, [], ◌∷◌, length}
use Rattle.std.specs.Prelude.{if◌then◌else◌}
use Rattle.sng_text.specs.Levels.{levels_of}
use Rattle.sng_text.specs.Matching.{matches}
use Rattle.sng_text.specs.Texts.{is_filter, is_hash, is_name, is_plus}
use Rattle.sng_questions.specs.declared.short_name.TheConstants.{SHORT_NAME}

-- how many bytes a level of a name has at least that this one matches
abbrev pub fewest_of : List ℕ → ℕ
fewest_of level = if is_plus level then 0 else length level

-- how many bytes a name has at least that the levels match, with a slash in front of each of its levels
abbrev pub fewest_bytes : List (List ℕ) → ℕ
fewest_bytes [] = 0
fewest_bytes (level ∷ levels) = if is_hash level then 0 else suc (fewest_of level + fewest_bytes levels)

-- the filter matches a short name: it is one, or its wildcards leave room for two bytes, with the slash that
-- a name's first level has not
abbrev pub matches_short : List ℕ → Bool
matches_short filter =
    if is_name filter
    then length filter == SHORT_NAME
    else nat_le (fewest_bytes (levels_of filter)) (SHORT_NAME + 1)

-- the bytes are a short topic name
abbrev pub IsShortName : List ℕ → Type 0
IsShortName name = (is_name name ≡ true) × (length name ≡ SHORT_NAME)

-- the test passes exactly where the filter matches some short name
abbrev pub ShortNamesAreFound : Type 0
ShortNamesAreFound = (filter : List ℕ) → is_filter filter ≡ true
    → (matches_short filter ≡ true) ↔ ((name : List ℕ) × IsShortName name × (matches filter name ≡ true))
