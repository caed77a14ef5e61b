-- A filter matches some short name exactly where its levels leave room for one.
use Rattle.std.proofs.Common.{◌≡◌, ℕ, zero, suc, ◌+◌, ◌-◌, ◌≤◌, ◌==◌, ◌&&◌, ◌||◌, not, nat_le, Bool, true}
use Rattle.std.proofs.Common.{false, List, [], ◌∷◌, ◌++◌, length, if◌then◌else◌, refl, ap, ◌∙◌, arith}
use Rattle.std.proofs.Common.{eqb-true, eq-eqb, inl, inr, length-append}
use Rattle.std.specs.List.{AllByRecursion as AllOf}
use Rattle.std.specs.Str.{bytes_eq, IsUtf8, IsAscii, is_utf8}
use Rattle.std.proofs.lemmas.Bool.{and_parts, and_from, or_parts, or_cases, not-true, both_ways}
use Rattle.std.proofs.lemmas.Grind.{common_steps}
use Rattle.std.proofs.lemmas.Slice.Eq.{bytes_eq-Decides}
use Rattle.std.proofs.lemmas.Str.{IsUtf8-append, IsUtf8-from_ascii, IsUtf8-nil}
use Rattle.std.proofs.lemmas.Str.{IsUtf8-from_is_utf8, is_utf8-from_IsUtf8}
use Rattle.sng_text.specs.Levels.{levels_of}
use Rattle.sng_text.specs.Matching.{begins_wild, has_rest, is_reserved, items_of, matches}
use Rattle.sng_text.specs.Texts.{has_byte, is_filter, is_hash, is_in_place, is_name, is_ordinary, is_plain}
use Rattle.sng_text.specs.Texts.{is_plus}
use Rattle.sng_text.proofs.MatchLemmas.{matched}
use Rattle.sng_text.proofs.NameLemmas.{name-plain}
use Rattle.sng_text.proofs.SelfLemmas.{matches_itself, matches_same}
use Rattle.sng_cover.specs.Candidates.{further, is_wild, joined, run}
use Rattle.sng_cover.proofs.Filters.{filter_facts}
use Rattle.sng_cover.proofs.Fresh.{length_run, run_lacks, run_utf8}
use Rattle.sng_cover.proofs.Joining.{HasLevel, Lack, joined_levels_of, levels_lack, levels_lack_slash}
use Rattle.sng_cover.proofs.Joining.{levels_of_joined, some_level}
use Rattle.sng_cover.proofs.Matched.{bytes_eq_refl, rest_matches}
use Rattle.sng_cover.proofs.Named.{Own, own_from_all, text_levels_utf8}
use Rattle.sng_questions.specs.ShortNames.{IsShortName, ShortNamesAreFound, fewest_bytes, matches_short}

-- ---- what is matched has at least so many bytes

further_size : (level : List ℕ) (levels : List (List ℕ))
    → length (further (level ∷ levels)) ≡ suc (length level + length (further levels))
further_size level levels = ap suc (length-append level (further levels))

-- a name has one byte less than its levels with a slash in front of each
joined_size : (levels : List (List ℕ)) → HasLevel levels
    → length (further levels) ≡ suc (length (joined levels))
joined_size [] some = absurd some
joined_size (level ∷ levels) some = refl

abbrev HasAtLeast : List (List ℕ) → List (List ℕ) → Type 0
HasAtLeast filter name = matched filter name ≡ true → fewest_bytes filter ≤ length (further name)

at_least_by : (level : List ℕ) (filter name : List (List ℕ)) (hash plus : Bool) → is_hash level ≡ hash
    → is_plus level ≡ plus → ((name : List (List ℕ)) → HasAtLeast filter name)
    → HasAtLeast (level ∷ filter) name
at_least_by level filter name true plus is_last is_one more is = rw is_last (omega arith)
at_least_by level filter [] false plus is_last is_one more is =
    let never : false ≡ true = rw is_last at is in absurd (cc)
at_least_by level filter (found ∷ name) false true is_last is_one more is =
    let rest : matched filter name ≡ true = rw (is_last, is_one) at is in
    let least = more name rest in
    rw (is_last, is_one, further_size found name) (omega arith)
at_least_by level filter (found ∷ name) false false is_last is_one more is =
    let now : (bytes_eq level found && matched filter name) ≡ true = rw (is_last, is_one) at is in
    let parts = and_parts (bytes_eq level found) (matched filter name) now in
    let same : level ≡ found = (bytes_eq-Decides level found).0 parts.0 in
    let lengths : length level ≡ length found = ap length same in
    let least = more name parts.1 in
    rw (is_last, is_one, further_size found name) (omega arith)

at_least : (filter name : List (List ℕ)) → HasAtLeast filter name
at_least [] name is = omega arith
at_least (level ∷ filter) name is =
    at_least_by level filter name (is_hash level) (is_plus level) refl refl (at_least filter) is

-- ---- the levels of a name that is matched, with so many bytes more than it needs

abbrev rest_filled : ℕ → List (List ℕ)
rest_filled zero = []
rest_filled (suc more) = run more ∷ []

abbrev filled : ℕ → List (List ℕ) → List (List ℕ)
filled more [] = []
filled more (level ∷ levels) =
    if is_hash level
    then rest_filled more
    else (if is_plus level then run more ∷ filled zero levels else level ∷ filled more levels)

-- there is a wildcard, which takes what there is more
abbrev has_wild : List (List ℕ) → Bool
has_wild [] = false
has_wild (level ∷ levels) = is_wild level || has_wild levels

rest_size : (more : ℕ) → length (further (rest_filled more)) ≡ more
rest_size zero = refl
rest_size (suc more) = further_size (run more) [] ∙ rw length_run (omega arith)

abbrev IsFilled : List (List ℕ) → ℕ → Type 0
IsFilled levels more = length (further (filled more levels)) ≡ fewest_bytes levels + more

none_size_by : (level : List ℕ) (levels : List (List ℕ)) (hash plus : Bool) → is_hash level ≡ hash
    → is_plus level ≡ plus → IsFilled levels zero → IsFilled (level ∷ levels) zero
none_size_by level levels true plus is_last is_one more = rw is_last refl
none_size_by level levels false true is_last is_one more =
    rw (is_last, is_one, further_size [] (filled zero levels), more) (omega arith)
none_size_by level levels false false is_last is_one more =
    rw (is_last, is_one, further_size level (filled zero levels), more) (omega arith)

none_size : (levels : List (List ℕ)) → IsFilled levels zero
none_size [] = refl
none_size (level ∷ levels) =
    none_size_by level levels (is_hash level) (is_plus level) refl refl (none_size levels)

filled_size_by : (level : List ℕ) (levels : List (List ℕ)) (more : ℕ) (hash plus : Bool)
    → is_hash level ≡ hash → is_plus level ≡ plus → has_wild (level ∷ levels) ≡ true
    → (has_wild levels ≡ true → IsFilled levels more) → IsFilled (level ∷ levels) more
filled_size_by level levels more true plus is_last is_one wild rest =
    rw is_last (rest_size more ∙ omega arith)
filled_size_by level levels more false true is_last is_one wild rest =
    let none = none_size levels in
    rw (is_last, is_one, further_size (run more) (filled zero levels), length_run, none) (omega arith)
filled_size_by level levels more false false is_last is_one wild rest =
    let now : has_wild levels ≡ true = rw (is_one, is_last) at wild in
    let size = rest now in
    rw (is_last, is_one, further_size level (filled more levels), size) (omega arith)

filled_size : (levels : List (List ℕ)) (more : ℕ) → has_wild levels ≡ true → IsFilled levels more
filled_size [] more wild = let never : false ≡ true = wild in absurd (cc)
filled_size (level ∷ levels) more wild =
    filled_size_by level levels more (is_hash level) (is_plus level) refl refl wild
    (λ (later : has_wild levels ≡ true). filled_size levels more later)

-- the levels match them
filled_matched_by : (level : List ℕ) (levels : List (List ℕ)) (more : ℕ) (hash plus : Bool)
    → is_hash level ≡ hash → is_plus level ≡ plus
    → ((more : ℕ) → matched levels (filled more levels) ≡ true)
    → matched (level ∷ levels) (filled more (level ∷ levels)) ≡ true
filled_matched_by level levels more true plus is_last is_one rest =
    rw is_last (rest_matches (rest_filled more))
filled_matched_by level levels more false true is_last is_one rest = rw (is_last, is_one) (rest zero)
filled_matched_by level levels more false false is_last is_one rest =
    rw (is_last, is_one) (and_from _ _ (bytes_eq_refl level) (rest more))

filled_matched : (levels : List (List ℕ)) (more : ℕ) → matched levels (filled more levels) ≡ true
filled_matched [] more = refl
filled_matched (level ∷ levels) more =
    filled_matched_by level levels more (is_hash level) (is_plus level) refl refl (filled_matched levels)

-- a wildcard in front makes no `$` there
run_reserved : (count : ℕ) (levels : List (List ℕ)) → is_reserved (run count ++ further levels) ≡ false
run_reserved zero [] = refl
run_reserved zero (level ∷ levels) = refl
run_reserved (suc count) levels = refl

rest_reserved : (more : ℕ) → is_reserved (joined (rest_filled more)) ≡ false
rest_reserved zero = refl
rest_reserved (suc more) = run_reserved more []

abbrev IsFree : List (List ℕ) → ℕ → Type 0
IsFree levels more =
    not (begins_wild (items_of levels) (has_rest levels) && is_reserved (joined (filled more levels))) ≡ true

not_both : (wild reserved : Bool) → reserved ≡ false → not (wild && reserved) ≡ true
not_both true reserved is = rw is refl
not_both false reserved is = refl

free_by : (level : List ℕ) (levels : List (List ℕ)) (more : ℕ) (hash plus : Bool)
    → is_hash level ≡ hash → is_plus level ≡ plus → IsFree (level ∷ levels) more
free_by level levels more true plus is_last is_one = rw is_last (not_both true _ (rest_reserved more))
free_by level levels more false true is_last is_one =
    rw (is_last, is_one) (not_both true _ (run_reserved more (filled zero levels)))
free_by level levels more false false is_last is_one = rw (is_last, is_one) refl

free : (levels : List (List ℕ)) (more : ℕ) → IsFree levels more
free [] more = refl
free (level ∷ levels) more = free_by level levels more (is_hash level) (is_plus level) refl refl

-- what the runs and the levels without wildcards have, all of them have
filled_all_by : (P : List ℕ → Type 0) (level : List ℕ) (levels : List (List ℕ)) (more : ℕ) (hash plus : Bool)
    → is_hash level ≡ hash → is_plus level ≡ plus → ((count : ℕ) → P (run count)) → Own P (level ∷ levels)
    → ((more : ℕ) → AllOf P (filled more levels)) → AllOf P (filled more (level ∷ levels))
filled_all_by P level levels zero true plus is_last is_one runs own rest = rw is_last tt
filled_all_by P level levels (suc more) true plus is_last is_one runs own rest = rw is_last (runs more, tt)
filled_all_by P level levels more false true is_last is_one runs own rest =
    rw (is_last, is_one) (runs more, rest zero)
filled_all_by P level levels more false false is_last is_one runs own rest =
    let tame : is_wild level ≡ false = rw (is_one, is_last) refl in
    rw (is_last, is_one) (own.0 tame, rest more)

filled_all : (P : List ℕ → Type 0) (levels : List (List ℕ)) (more : ℕ) → ((count : ℕ) → P (run count))
    → Own P levels → AllOf P (filled more levels)
filled_all P [] more runs own = tt
filled_all P (level ∷ levels) more runs own =
    filled_all_by P level levels more (is_hash level) (is_plus level) refl refl runs own
    (λ (more : ℕ). filled_all P levels more runs own.1)

-- ---- what the levels of a text have, it has

append_lacks : (byte : ℕ) (front back : List ℕ) → has_byte byte front ≡ false → has_byte byte back ≡ false
    → has_byte byte (front ++ back) ≡ false
append_lacks byte [] back no_front no_back = no_back
append_lacks byte (b ∷ front) back no_front no_back =
    let parts = or_parts (b == byte) (has_byte byte front) no_front in
    rw (parts.0, append_lacks byte front back parts.1 no_back) refl

further_lacks : (byte : ℕ) (levels : List (List ℕ)) → (47 == byte) ≡ false → Lack byte levels
    → has_byte byte (further levels) ≡ false
further_lacks byte [] differs lack = refl
further_lacks byte (level ∷ levels) differs lack =
    rw (differs, append_lacks byte level (further levels) lack.0 (further_lacks byte levels differs lack.1))
    refl

joined_lacks : (byte : ℕ) (levels : List (List ℕ)) → (47 == byte) ≡ false → Lack byte levels
    → has_byte byte (joined levels) ≡ false
joined_lacks byte [] differs lack = refl
joined_lacks byte (level ∷ levels) differs lack =
    append_lacks byte level (further levels) lack.0 (further_lacks byte levels differs lack.1)

slash_ascii : IsAscii (47 ∷ [])
slash_ascii = search (arith, common_steps)

further_utf8 : (levels : List (List ℕ)) → AllOf IsUtf8 levels → IsUtf8 (further levels)
further_utf8 [] all = IsUtf8-nil
further_utf8 (level ∷ levels) all =
    IsUtf8-append (47 ∷ []) (level ++ further levels) (IsUtf8-from_ascii (47 ∷ []) slash_ascii)
    (IsUtf8-append level (further levels) all.0 (further_utf8 levels all.1))

joined_utf8 : (levels : List (List ℕ)) → AllOf IsUtf8 levels → IsUtf8 (joined levels)
joined_utf8 [] all = IsUtf8-nil
joined_utf8 (level ∷ levels) all = IsUtf8-append level (further levels) all.0 (further_utf8 levels all.1)

-- ---- a level of a filter that is no wildcard has none

abbrev Lacks : ℕ → List ℕ → Type 0
Lacks byte level = has_byte byte level ≡ false

abbrev Plain : List ℕ → Type 0
Plain level = Lacks 43 level × Lacks 35 level

plain_level : (level : List ℕ) → is_plain level ≡ true → Plain level
plain_level level plain =
    let parts = and_parts (not (has_byte 43 level)) (not (has_byte 35 level)) plain in
    (not-true _ parts.0, not-true _ parts.1)

tame_by : (level : List ℕ) → (is_ordinary level || is_hash level) ≡ true → is_wild level ≡ false → Plain level
tame_by level is tame =
    let parts = or_parts (is_plus level) (is_hash level) tame in
    elim (or_cases (is_ordinary level) (is_hash level) is) [
      | inl ordinary ↦ elim (or_cases (is_plain level) (is_plus level) ordinary) [
        | inl plain ↦ plain_level level plain
        | inr plus ↦ absurd (both_ways (is_plus level) parts.0 plus)
      ]
      | inr hash ↦ absurd (both_ways (is_hash level) parts.1 hash)
    ]

or_first : (a b : Bool) → a ≡ true → (a || b) ≡ true
or_first a b is = rw is refl

own_plain : (levels : List (List ℕ)) → is_in_place levels ≡ true → Own Plain levels
own_plain [] place = tt
own_plain (level ∷ []) place = (λ (tame : is_wild level ≡ false). tame_by level place tame, tt)
own_plain (level ∷ next ∷ levels) place =
    let parts = and_parts (is_ordinary level) (is_in_place (next ∷ levels)) place in (
      λ (tame : is_wild level ≡ false).
          tame_by level (or_first (is_ordinary level) (is_hash level) parts.0) tame,
      own_plain (next ∷ levels) parts.1,
    )

first_part : (P Q : List ℕ → Type 0) (levels : List (List ℕ)) → AllOf (λ level. P level × Q level) levels
    → AllOf P levels
first_part P Q [] all = tt
first_part P Q (level ∷ levels) all = (all.0.0, first_part P Q levels all.1)

second_part : (P Q : List ℕ → Type 0) (levels : List (List ℕ)) → AllOf (λ level. P level × Q level) levels
    → AllOf Q levels
second_part P Q [] all = tt
second_part P Q (level ∷ levels) all = (all.0.1, second_part P Q levels all.1)

joined_plain : (levels : List (List ℕ)) → AllOf Plain levels → is_plain (joined levels) ≡ true
joined_plain levels all =
    let no_plus = joined_lacks 43 levels refl (first_part (Lacks 43) (Lacks 35) levels all) in
    let no_hash = joined_lacks 35 levels refl (second_part (Lacks 43) (Lacks 35) levels all) in
    rw (no_plus, no_hash) refl

tame_all : (P : List ℕ → Type 0) (levels : List (List ℕ)) → has_wild levels ≡ false → Own P levels
    → AllOf P levels
tame_all P [] tame own = tt
tame_all P (level ∷ levels) tame own =
    let parts = or_parts (is_wild level) (has_wild levels) tame in
    (own.0 parts.0, tame_all P levels parts.1 own.1)

plain_name : (filter : List ℕ) → is_filter filter ≡ true → is_plain filter ≡ true → is_name filter ≡ true
plain_name filter is plain = grind (arith, common_steps)

wild_by : (filter : List ℕ) (wild : Bool) → has_wild (levels_of filter) ≡ wild → is_filter filter ≡ true
    → is_name filter ≡ false → wild ≡ true
wild_by filter true has is no_name = refl
wild_by filter false has is no_name =
    let own = own_plain (levels_of filter) (filter_facts filter is).3 in
    let plain : is_plain filter ≡ true =
    rw joined_levels_of at (joined_plain (levels_of filter) (tame_all Plain (levels_of filter) has own)) in
    absurd (both_ways (is_name filter) no_name (plain_name filter is plain))

-- a filter that is no name has a wildcard
wild : (filter : List ℕ) → is_filter filter ≡ true → is_name filter ≡ false
    → has_wild (levels_of filter) ≡ true
wild filter is no_name = wild_by filter (has_wild (levels_of filter)) refl is no_name

-- ---- the name

short_by : (name : List ℕ) → length name ≡ 2 → is_utf8 name ≡ true → has_byte 0 name ≡ false
    → is_plain name ≡ true → is_name name ≡ true
short_by name size utf8 null plain = rw (size, utf8, null, plain) refl

filled_name : (filter : List ℕ) (more : ℕ) → is_filter filter ≡ true
    → length (joined (filled more (levels_of filter))) ≡ 2
    → is_name (joined (filled more (levels_of filter))) ≡ true
filled_name filter more is size =
    let facts = filter_facts filter is in
    let levels = levels_of filter in
    let utf8 =
    filled_all IsUtf8 levels more run_utf8
    (own_from_all IsUtf8 levels (text_levels_utf8 filter (IsUtf8-from_is_utf8 filter facts.1))) in
    let null =
    filled_all (Lacks 0) levels more (λ (count : ℕ). run_lacks 0 count refl)
    (own_from_all (Lacks 0) levels (levels_lack 0 filter facts.2)) in
    let plain =
    filled_all Plain levels more (λ (count : ℕ). (run_lacks 43 count refl, run_lacks 35 count refl))
    (own_plain levels facts.3) in
    short_by (joined (filled more levels)) size
    (is_utf8-from_IsUtf8 (joined (filled more levels)) (joined_utf8 (filled more levels) utf8))
    (joined_lacks 0 (filled more levels) refl null) (joined_plain (filled more levels) plain)

has_level : (levels : List (List ℕ)) (more : ℕ) → length (further levels) ≡ suc more → HasLevel levels
has_level [] more is = absurd (omega (arith, is))
has_level (level ∷ levels) more is = tt

joined_back : (levels : List (List ℕ)) → HasLevel levels → Lack 47 levels → levels_of (joined levels) ≡ levels
joined_back [] some lack = absurd some
joined_back (level ∷ levels) some lack = levels_of_joined level levels lack

filled_matches : (filter : List ℕ) (more : ℕ) → HasLevel (filled more (levels_of filter))
    → matches filter (joined (filled more (levels_of filter))) ≡ true
filled_matches filter more some =
    let levels = levels_of filter in
    let lack =
    filled_all (Lacks 47) levels more (λ (count : ℕ). run_lacks 47 count refl)
    (own_from_all (Lacks 47) levels (levels_lack_slash filter)) in
    let back = joined_back (filled more levels) some lack in
    rw back (and_from _ _ (free levels more) (filled_matched levels more))

abbrev MatchesSome : List ℕ → Type 0
MatchesSome filter = (name : List ℕ) × IsShortName name × (matches filter name ≡ true)

-- ---- the test

room : (filter : List ℕ) (more : ℕ) → is_filter filter ≡ true → is_name filter ≡ false
    → fewest_bytes (levels_of filter) + more ≡ 3 → MatchesSome filter
room filter more is no_name enough =
    let levels = filled more (levels_of filter) in
    let size = filled_size (levels_of filter) more (wild filter is no_name) in
    let three : length (further levels) ≡ 3 = size ∙ enough in
    let some = has_level levels 2 three in
    let next = joined_size levels some in
    let two : length (joined levels) ≡ 2 = omega arith in
    (joined levels, (filled_name filter more is two, two), filled_matches filter more some)

found_by : (filter : List ℕ) (name : Bool) → is_name filter ≡ name → is_filter filter ≡ true
    → matches_short filter ≡ true → MatchesSome filter
found_by filter true is_one is short =
    let size : length filter ≡ 2 = eqb-true (length filter) 2 (rw is_one at short) in
    (filter, (is_one, size), matches_itself filter filter (name-plain filter is_one) refl)
found_by filter false is_one is short =
    let fits : nat_le (fewest_bytes (levels_of filter)) 3 ≡ true = rw is_one at short in
    let enough : fewest_bytes (levels_of filter) + (3 - fewest_bytes (levels_of filter)) ≡ 3 =
    grind (arith, common_steps) in
    room filter (3 - fewest_bytes (levels_of filter)) is is_one enough

passes_by : (filter name : List ℕ) (is_one : Bool) → is_name filter ≡ is_one → length name ≡ 2
    → matches filter name ≡ true → matches_short filter ≡ true
passes_by filter name true is_one size is =
    let same : filter ≡ name = matches_same filter name (name-plain filter is_one) is in
    let lengths : length filter ≡ 2 = ap length same ∙ size in
    rw is_one (eq-eqb (length filter) 2 lengths)
passes_by filter name false is_one size is =
    let levels = levels_of filter in
    let parts = and_parts _ (matched levels (levels_of name)) is in
    let least = at_least levels (levels_of name) parts.1 in
    let more = joined_size (levels_of name) (some_level name) in
    let text = ap length (joined_levels_of name) in
    let fits : fewest_bytes levels ≤ 3 = omega arith in
    rw is_one (grind (arith, common_steps))

pub short_names_are_found : ShortNamesAreFound
short_names_are_found filter is = (
  λ (short : matches_short filter ≡ true). found_by filter (is_name filter) refl is short,
  λ (found : MatchesSome filter). passes_by filter found.0 (is_name filter) refl found.1.1 found.2,
)
