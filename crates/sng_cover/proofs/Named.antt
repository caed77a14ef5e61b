-- A candidate is a topic name, where it has a text.
use Rattle.std.proofs.Common.{◌≡◌, ◌≤◌, ◌<◌, ◌+◌, ◌*◌, ◌==◌, nat_lt, ℕ, zero, suc, Bool, true, false, not}
use Rattle.std.proofs.Common.{List, [], ◌∷◌, ◌++◌, length, refl, ap, arith, if◌then◌else◌, Some, None}
use Rattle.std.proofs.Common.{is_none, rules, tests, get_or, take, drop, inl, inr}
use Rattle.std.specs.List.{AllByRecursion as AllOf}
use Rattle.std.specs.Str.{bytes_eq, IsUtf8, IsAscii, is_utf8}
use Rattle.std.proofs.lemmas.Str.{IsUtf8-from_ascii, IsUtf8-append, IsUtf8-nil, IsUtf8-take, IsUtf8-drop}
use Rattle.std.proofs.lemmas.Str.{IsCharBoundary-before_ascii, IsCharBoundary-after_ascii}
use Rattle.std.proofs.lemmas.Str.{IsUtf8-from_is_utf8, is_utf8-from_IsUtf8}
use Rattle.std.proofs.lemmas.Bool.{and_parts, or_parts, not-true, le-ltb, both_ways, or_cases}
use Rattle.std.proofs.lemmas.List.{append-nil, length-append, take_at, drop_at, get_or_at, append_assoc}
use Rattle.std.proofs.lemmas.List.{length_push}
use Rattle.sng_text.specs.declared.limits.TheConstants.{MAX_FILTER, MAX_NAME}
use Rattle.sng_text.specs.declared.fault.TextFault.TheVariants.{Empty, TooLong, NotUtf8, Null, Wildcard}
use Rattle.sng_text.specs.Levels.{levels_of}
use Rattle.sng_text.specs.Texts.{has_byte, is_filter, is_name, is_plain, is_plus, is_hash, is_in_place}
use Rattle.sng_text.specs.Texts.{is_ordinary}
use Rattle.sng_cover.specs.Candidates.{joined, further, run, is_wild, candidate_levels}
use Rattle.sng_cover.proofs.Joining.{Lack, levels_lack, levels_lack_slash, joined_levels_of}
use Rattle.sng_cover.proofs.Short.{AreShort, short_levels, longer}
use Rattle.sng_cover.proofs.Filters.{filter_facts}
use Rattle.sng_cover.proofs.Fresh.{length_run, run_lacks, run_utf8}

-- what holds of the asked filter's own levels, where they stand, and of the fresh one, holds of all levels of
-- a candidate
candidate_place : (P : List ℕ → Type 0) (level fresh : List ℕ) (b : Bool) → is_wild level ≡ b
    → (is_wild level ≡ false → P level) → P fresh → P (if b then fresh else level)
candidate_place P level fresh true wild own new = new
candidate_place P level fresh false wild own new = own wild

abbrev pub Own : (List ℕ → Type 0) → List (List ℕ) → Type 0
Own P asked = AllOf (λ level. is_wild level ≡ false → P level) asked

pub candidate_all : (P : List ℕ → Type 0) (depth : ℕ) (asked : List (List ℕ)) (fresh : List ℕ) → Own P asked
    → P fresh → AllOf P (candidate_levels depth asked fresh)
candidate_all P zero asked fresh own new = tt
candidate_all P (suc depth) [] fresh own new = (new, candidate_all P depth [] fresh own new)
candidate_all P (suc depth) (level ∷ asked) fresh own new = (
  candidate_place P level fresh (is_wild level) refl own.0 new,
  candidate_all P depth asked fresh own.1 new,
)

pub own_from_all : (P : List ℕ → Type 0) (levels : List (List ℕ)) → AllOf P levels → Own P levels
own_from_all P [] all = tt
own_from_all P (level ∷ levels) all = (λ (is : is_wild level ≡ false). all.0, own_from_all P levels all.1)

-- a byte that no level has, and that is no slash, is not in the text
append_lacks : (byte : ℕ) (front back : List ℕ) → has_byte byte front ≡ false → has_byte byte back ≡ false
    → has_byte byte (front ++ back) ≡ false
append_lacks byte [] back no_front no_back = no_back
append_lacks byte (b ∷ front) back no_front no_back =
    let parts = or_parts (b == byte) (has_byte byte front) no_front in
    rw (parts.0, append_lacks byte front back parts.1 no_back) refl

further_lacks : (byte : ℕ) (levels : List (List ℕ)) → (47 == byte) ≡ false → Lack byte levels
    → has_byte byte (further levels) ≡ false
further_lacks byte [] differs lack = refl
further_lacks byte (level ∷ levels) differs lack =
    rw (differs, append_lacks byte level (further levels) lack.0 (further_lacks byte levels differs lack.1))
    refl

joined_lacks : (byte : ℕ) (levels : List (List ℕ)) → (47 == byte) ≡ false → Lack byte levels
    → has_byte byte (joined levels) ≡ false
joined_lacks byte [] differs lack = refl
joined_lacks byte (level ∷ levels) differs lack =
    append_lacks byte level (further levels) lack.0 (further_lacks byte levels differs lack.1)

-- UTF-8 is kept by joining, and by cutting at a slash
slash_ascii : IsAscii (47 ∷ [])
slash_ascii = search rules

further_utf8 : (levels : List (List ℕ)) → AllOf IsUtf8 levels → IsUtf8 (further levels)
further_utf8 [] all = IsUtf8-nil
further_utf8 (level ∷ levels) all =
    IsUtf8-append (47 ∷ []) (level ++ further levels) (IsUtf8-from_ascii (47 ∷ []) slash_ascii)
    (IsUtf8-append level (further levels) all.0 (further_utf8 levels all.1))

joined_utf8 : (levels : List (List ℕ)) → AllOf IsUtf8 levels → IsUtf8 (joined levels)
joined_utf8 [] all = IsUtf8-nil
joined_utf8 (level ∷ levels) all = IsUtf8-append level (further levels) all.0 (further_utf8 levels all.1)

cut_utf8 : (level rest : List ℕ) → IsUtf8 (level ++ 47 ∷ rest) → IsUtf8 level × IsUtf8 rest
cut_utf8 level rest whole =
    let text = level ++ 47 ∷ rest in
    let at : get_or text (length level) 0 ≡ 47 = get_or_at level 47 rest 0 (length level) refl in
    let lengths : length text ≡ length level + length (47 ∷ rest) = length-append level (47 ∷ rest) in
    let within : length level < length text = omega arith in
    let small : get_or text (length level) 0 < 128 = rw at (omega arith) in
    let front : IsUtf8 (take (length level) text) =
    IsUtf8-take text (length level) whole
    (IsCharBoundary-before_ascii text (length level) within small) in
    let back : IsUtf8 (drop (length level + 1) text) =
    IsUtf8-drop text (length level + 1) whole
    (IsCharBoundary-after_ascii text (length level) whole within small) in
    let front_is : take (length level) text ≡ level = take_at level (47 ∷ rest) (length level) refl in
    let back_is : drop (length level + 1) text ≡ rest =
    rw append_assoc at (drop_at (level ++ 47 ∷ []) rest (length level + 1) (length_push level 47)) in
    (rw front_is at front, rw back_is at back)

levels_utf8 : (level : List ℕ) (levels : List (List ℕ)) → IsUtf8 (joined (level ∷ levels))
    → AllOf IsUtf8 (level ∷ levels)
levels_utf8 level [] whole = (rw append-nil at whole, tt)
levels_utf8 level (next ∷ levels) whole =
    let parts = cut_utf8 level (next ++ further levels) whole in (parts.0, levels_utf8 next levels parts.1)

all_utf8 : (levels : List (List ℕ)) → IsUtf8 (joined levels) → AllOf IsUtf8 levels
all_utf8 [] whole = tt
all_utf8 (level ∷ levels) whole = levels_utf8 level levels whole

pub text_levels_utf8 : (text : List ℕ) → IsUtf8 text → AllOf IsUtf8 (levels_of text)
text_levels_utf8 text whole = all_utf8 (levels_of text) (rw joined_levels_of whole)

-- a level of a filter has no wildcard, but where it is one
plain_level : (level : List ℕ) → is_plain level ≡ true
    → (has_byte 43 level ≡ false) × (has_byte 35 level ≡ false)
plain_level level plain =
    let parts = and_parts (not (has_byte 43 level)) (not (has_byte 35 level)) plain in
    (not-true _ parts.0, not-true _ parts.1)

abbrev Plain : List ℕ → Type 0
Plain level = (has_byte 43 level ≡ false) × (has_byte 35 level ≡ false)

ordinary_plain : (level : List ℕ) → is_ordinary level ≡ true → is_wild level ≡ false → Plain level
ordinary_plain level ordinary tame =
    elim (or_cases (is_plain level) (is_plus level) ordinary) [
      | inl plain ↦ plain_level level plain
      | inr plus ↦ absurd (both_ways (is_plus level) (or_parts (is_plus level) (is_hash level) tame).0 plus)
    ]

own_plain : (asked : List (List ℕ)) → is_in_place asked ≡ true → Own Plain asked
own_plain [] place = tt
own_plain (level ∷ []) place = (
  λ (tame : is_wild level ≡ false). elim (or_cases (is_ordinary level) (is_hash level) place) [
    | inl ordinary ↦ ordinary_plain level ordinary tame
    | inr hash ↦ absurd (both_ways (is_hash level) (or_parts (is_plus level) (is_hash level) tame).1 hash)
  ],
  tt,
)
own_plain (level ∷ next ∷ asked) place =
    let parts = and_parts (is_ordinary level) (is_in_place (next ∷ asked)) place in
    (λ (tame : is_wild level ≡ false). ordinary_plain level parts.0 tame, own_plain (next ∷ asked) parts.1)

first_part : (P Q : List ℕ → Type 0) (levels : List (List ℕ)) → AllOf (λ level. P level × Q level) levels
    → AllOf P levels
first_part P Q [] all = tt
first_part P Q (level ∷ levels) all = (all.0.0, first_part P Q levels all.1)

second_part : (P Q : List ℕ → Type 0) (levels : List (List ℕ)) → AllOf (λ level. P level × Q level) levels
    → AllOf Q levels
second_part P Q [] all = tt
second_part P Q (level ∷ levels) all = (all.0.1, second_part P Q levels all.1)

-- how long the text is at most
further_short : (levels : List (List ℕ)) → AreShort (MAX_FILTER + 1) levels
    → length (further levels) ≤ length levels * (MAX_FILTER + 2)
further_short [] short = omega arith
further_short (level ∷ levels) short =
    let here : length level ≤ (MAX_FILTER + 1) = short.0 in
    let more : length (further levels) ≤ length levels * (MAX_FILTER + 2) = further_short levels short.1 in
    let whole : length (level ++ further levels) ≡ length level + length (further levels) =
    length-append level (further levels) in
    omega arith

joined_short : (levels : List (List ℕ)) → AreShort (MAX_FILTER + 1) levels
    → length (joined levels) ≤ length levels * (MAX_FILTER + 2)
joined_short [] short = omega arith
joined_short (level ∷ levels) short =
    let here : length level ≤ (MAX_FILTER + 1) = short.0 in
    let more : length (further levels) ≤ length levels * (MAX_FILTER + 2) = further_short levels short.1 in
    let whole : length (level ++ further levels) ≡ length level + length (further levels) =
    length-append level (further levels) in
    omega arith

pub length_candidate : (depth : ℕ) (asked : List (List ℕ)) (fresh : List ℕ)
    → length (candidate_levels depth asked fresh) ≡ depth
length_candidate zero asked fresh = refl
length_candidate (suc depth) [] fresh = ap suc (length_candidate depth [] fresh)
length_candidate (suc depth) (level ∷ asked) fresh = ap suc (length_candidate depth asked fresh)

-- the facts on the asked filter
asked_lacks : (byte : ℕ) (asked : List ℕ) → has_byte byte asked ≡ false → (120 == byte) ≡ false
    → (depth count : ℕ) → Lack byte (candidate_levels depth (levels_of asked) (run count))
asked_lacks byte asked none differs depth count =
    candidate_all (λ (level : List ℕ). has_byte byte level ≡ false) depth (levels_of asked) (run count)
    (own_from_all (λ (level : List ℕ). has_byte byte level ≡ false) (levels_of asked)
    (levels_lack byte asked none)) (run_lacks byte count differs)

pub candidate_lacks_slash : (asked : List ℕ) (depth count : ℕ)
    → Lack 47 (candidate_levels depth (levels_of asked) (run count))
candidate_lacks_slash asked depth count =
    candidate_all (λ (level : List ℕ). has_byte 47 level ≡ false) depth (levels_of asked) (run count)
    (own_from_all (λ (level : List ℕ). has_byte 47 level ≡ false) (levels_of asked) (levels_lack_slash asked))
    (run_lacks 47 count refl)

no_fault : (empty long utf8 null plain : Bool) → empty ≡ false → long ≡ false → utf8 ≡ true → null ≡ false
    → plain ≡ true
    → is_none (if empty then Some Empty
    else (if long then Some TooLong
    else (if not utf8 then Some NotUtf8
    else (if null then Some Null else (if plain then None else Some Wildcard))))) ≡ true
no_fault empty long utf8 null plain a b c d e = rw (a, b, c, d, e) refl

not_empty : (text : List ℕ) → bytes_eq text [] ≡ false → (length text == 0) ≡ false
not_empty [] some = let e : true ≡ false = some in cc
not_empty (b ∷ text) some = search (rules, tests)

-- a candidate that has a text is a name
pub candidate_is_name : (asked : List ℕ) (depth count : ℕ) → is_filter asked ≡ true → depth ≤ (MAX_FILTER + 2)
    → count ≤ (MAX_FILTER + 1)
    → bytes_eq (joined (candidate_levels depth (levels_of asked) (run count))) [] ≡ false
    → is_name (joined (candidate_levels depth (levels_of asked) (run count))) ≡ true
candidate_is_name asked depth count is few short some =
    let facts = filter_facts asked is in
    let size : length asked ≤ MAX_FILTER = facts.0 in
    let levels = candidate_levels depth (levels_of asked) (run count) in
    let lengths : AreShort (MAX_FILTER + 1) levels =
    candidate_all (λ (level : List ℕ). length level ≤ (MAX_FILTER + 1)) depth (levels_of asked) (run count)
    (own_from_all (λ (level : List ℕ). length level ≤ (MAX_FILTER + 1)) (levels_of asked)
    (longer (length asked) (MAX_FILTER + 1) (levels_of asked) (omega arith) (short_levels asked)))
    (rw length_run short) in
    let utf8 : AllOf IsUtf8 levels =
    candidate_all IsUtf8 depth (levels_of asked) (run count)
    (own_from_all IsUtf8 (levels_of asked) (text_levels_utf8 asked (IsUtf8-from_is_utf8 asked facts.1)))
    (run_utf8 count) in
    let plain : AllOf Plain levels =
    candidate_all Plain depth (levels_of asked) (run count) (own_plain (levels_of asked) facts.3)
    (run_lacks 43 count refl, run_lacks 35 count refl) in
    let most : length (joined levels) ≤ length levels * (MAX_FILTER + 2) = joined_short levels lengths in
    let depth_is : length levels ≡ depth = length_candidate depth (levels_of asked) (run count) in
    let within : length (joined levels) ≤ MAX_NAME = omega arith in
    let no_plus : has_byte 43 (joined levels) ≡ false =
    joined_lacks 43 levels refl (first_part _ _ levels plain) in
    let no_hash : has_byte 35 (joined levels) ≡ false =
    joined_lacks 35 levels refl (second_part _ _ levels plain) in
    no_fault (length (joined levels) == 0) (nat_lt MAX_NAME (length (joined levels)))
    (is_utf8 (joined levels)) (has_byte 0 (joined levels)) (is_plain (joined levels))
    (not_empty (joined levels) some) (le-ltb MAX_NAME (length (joined levels)) within)
    (is_utf8-from_IsUtf8 (joined levels) (joined_utf8 levels utf8))
    (joined_lacks 0 levels refl (asked_lacks 0 asked facts.2 refl depth count)) (rw (no_plus, no_hash) refl)
