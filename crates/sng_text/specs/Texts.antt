-- Topic names and topic filters as texts (MQTT 3.1.1, 1.5.3 and 4.7): which bytes are one, and the first
-- fault of those that are not.
use Rattle.std.specs.Prelude.{ℕ, Bool, true, false, ◌==◌, ◌&&◌, ◌||◌, not, nat_lt, List, [], ◌∷◌, length}
use Rattle.std.specs.Prelude.{if◌then◌else◌, Some, None, is_none}
use Rattle.std.specs.declared.option.Option.{Option}
use Rattle.std.specs.Str.{is_utf8, bytes_eq}
use Rattle.sng_text.specs.Levels.{levels_of}
use Rattle.sng_text.specs.declared.limits.TheConstants.{MAX_FILTER, MAX_NAME}
use Rattle.sng_text.specs.declared.fault.TextFault.{TextFault}
use Rattle.sng_text.specs.declared.fault.TextFault.TheVariants.{Empty, TooLong, NotUtf8, Null, Wildcard}

-- the byte is in the text
abbrev pub has_byte : ℕ → List ℕ → Bool
has_byte b [] = false
has_byte b (a ∷ text) = (a == b) || has_byte b text

-- the level is `+` alone, which stands for one level (4.7.1.3)
abbrev pub is_plus : List ℕ → Bool
is_plus level = bytes_eq level (43 ∷ [])

-- the level is `#` alone, which stands for all the levels that follow, and for none (4.7.1.2)
abbrev pub is_hash : List ℕ → Bool
is_hash level = bytes_eq level (35 ∷ [])

-- no wildcard is in the text
abbrev pub is_plain : List ℕ → Bool
is_plain text = not (has_byte 43 text) && not (has_byte 35 text)

-- no level has a wildcard
abbrev pub all_plain : List (List ℕ) → Bool
all_plain [] = true
all_plain (level ∷ levels) = is_plain level && all_plain levels

-- a level that may stand anywhere
abbrev pub is_ordinary : List ℕ → Bool
is_ordinary level = is_plain level || is_plus level

-- a wildcard is a level of its own, and `#` is the last
abbrev pub is_in_place : List (List ℕ) → Bool
is_in_place [] = true
is_in_place (level ∷ []) = is_ordinary level || is_hash level
is_in_place (level ∷ levels) = is_ordinary level && is_in_place levels

-- the faults of a text of at most so many bytes, in the order in which they are tested, before the fault of
-- its wildcards
abbrev pub text_fault : ℕ → List ℕ → Bool → Option TextFault
text_fault most text wildcards_fit =
    if length text == 0
    then Some Empty
    else (if nat_lt most (length text)
    then Some TooLong
    else (if not (is_utf8 text)
    then Some NotUtf8
    else (if has_byte 0 text then Some Null else (if wildcards_fit then None else Some Wildcard))))

-- a name has at least one byte and no wildcard
abbrev pub name_fault : List ℕ → Option TextFault
name_fault text = text_fault MAX_NAME text (is_plain text)

-- a filter has at least one byte, and its wildcards are in place
abbrev pub filter_fault : List ℕ → Option TextFault
filter_fault text = text_fault MAX_FILTER text (is_in_place (levels_of text))

-- the bytes are a topic name
abbrev pub is_name : List ℕ → Bool
is_name text = is_none (name_fault text)

-- the bytes are a topic filter
abbrev pub is_filter : List ℕ → Bool
is_filter text = is_none (filter_fault text)
