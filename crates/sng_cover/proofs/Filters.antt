-- What is known of texts that are filters.
use Rattle.std.proofs.Common.{◌+◌, ◌≡◌, ◌≤◌, ◌<◌, ◌==◌, nat_lt, ℕ, suc, Bool, true, false, not, List, length}
use Rattle.std.proofs.Common.{refl, Some, None, is_none, arith, if◌then◌else◌}
use Rattle.std.specs.List.{All, AllByRecursion as AllOf}
use Rattle.std.proofs.lemmas.List.Elements.{recursion_from_All}
use Rattle.std.specs.Str.{is_utf8}
use Rattle.std.proofs.lemmas.Bool.{ltb-false}
use Rattle.sng_text.specs.declared.limits.TheConstants.{MAX_FILTER}
use Rattle.sng_text.specs.declared.fault.TextFault.TheVariants.{Empty, TooLong, NotUtf8, Null, Wildcard}
use Rattle.sng_text.specs.Levels.{levels_of}
use Rattle.sng_text.specs.Texts.{is_filter, is_in_place, has_byte}
use Rattle.sng_cover.specs.Covering.{fixed_part}
use Rattle.sng_cover.proofs.Short.{AreShort, short_levels, longer, few_fixed}

no_fault : (empty long utf8 null fit : Bool)
    → is_none (if empty then Some Empty
    else (if long then Some TooLong
    else (if not utf8 then Some NotUtf8
    else (if null then Some Null else (if fit then None else Some Wildcard))))) ≡ true
    → (empty ≡ false) × (long ≡ false) × (utf8 ≡ true) × (null ≡ false) × (fit ≡ true)
no_fault true long utf8 null fit is = let e : false ≡ true = is in cc
no_fault false true utf8 null fit is = let e : false ≡ true = is in cc
no_fault false false false null fit is = let e : false ≡ true = is in cc
no_fault false false true true fit is = let e : false ≡ true = is in cc
no_fault false false true false true is = (refl, refl, refl, refl, refl)
no_fault false false true false false is = let e : false ≡ true = is in cc

-- what a filter's text is
abbrev pub FilterFacts : List ℕ → Type 0
FilterFacts text =
    (length text ≤ MAX_FILTER) × (is_utf8 text ≡ true) × (has_byte 0 text ≡ false)
    × (is_in_place (levels_of text) ≡ true)

pub filter_facts : (text : List ℕ) → is_filter text ≡ true → FilterFacts text
filter_facts text is =
    let facts =
    no_fault (length text == 0) (nat_lt MAX_FILTER (length text)) (is_utf8 text) (has_byte 0 text)
    (is_in_place (levels_of text)) is in
    (ltb-false MAX_FILTER (length text) facts.1, facts.2, facts.3, facts.4)

abbrev pub AreFilters : List (List ℕ) → Type 0
AreFilters filters = AllOf (λ filter. is_filter filter ≡ true) filters

pub filters_from_all : (filters : List (List ℕ)) → All (λ filter. is_filter filter ≡ true) filters
    → AreFilters filters
filters_from_all filters all = recursion_from_All (λ (filter : List ℕ). is_filter filter ≡ true) filters all

-- a filter has at most one level more than bytes before its `#`
pub few_of : (filter : List ℕ) → is_filter filter ≡ true → fixed_part filter < (MAX_FILTER + 2)
few_of filter is =
    let size : length filter ≤ MAX_FILTER = (filter_facts filter is).0 in
    let fixed : fixed_part filter ≤ suc (length filter) = few_fixed filter in omega arith

-- no level of a filter has more bytes than a filter may have
pub short_of : (filter : List ℕ) → is_filter filter ≡ true → AreShort MAX_FILTER (levels_of filter)
short_of filter is =
    longer (length filter) MAX_FILTER (levels_of filter) (filter_facts filter is).0 (short_levels filter)
