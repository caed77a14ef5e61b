-- The entries of a text, one after the other.
use Rattle.std.proofs.Common.{◌≡◌, ℕ, zero, suc, ◌-◌, ◌<◌, ◌==◌, true, false, List, [], ◌∷◌, ◌++◌, length, Ok}
use Rattle.std.proofs.Common.{Err, IsUtf8, ap, refl, arith}
use Rattle.std.proofs.lemmas.Bool.Decides.{nat_tests}
use Rattle.std.proofs.lemmas.Str.{utf8_valid_len-IsUtf8, utf8_valid_len-IsValidUpTo}
use Rattle.std.specs.Str.{IsValidUpTo}
use Rattle.std.specs.Str.Lossy.{utf8_valid_len}
use Rattle.toml_parser.specs.Lexical.{skip_blank}
use Rattle.toml.specs.Parse.{skip_bom}
use Rattle.sng_config.specs.Places.{line_at}
use Rattle.sng_config.specs.Values.{Set, SetAt}
use Rattle.sng_config.specs.Reading.{Why, not_toml, settled, refused, entry, entries, outcome_of}

pub entries-end : (n : ℕ) (text : List ℕ) (before : List SetAt) (rest : List ℕ) → 0 < n
    → length (skip_blank rest) ≡ 0 → entries n text before rest ≡ settled before
unfolding entries
entries-end zero text before rest some none = absurd (omega arith)
entries-end (suc n) text before rest some none = rw none refl

pub entries-more : (n : ℕ) (text : List ℕ) (before : List SetAt) (rest : List ℕ) (set : Set) (after : List ℕ)
    → 0 < n → (length (skip_blank rest) == 0) ≡ false → entry before (skip_blank rest) ≡ Ok (set, after)
    → entries n text before rest
    ≡ entries (n - 1) text
    (before ++ record { line = line_at text (length text - length (skip_blank rest)); set = set } ∷ [])
    after
unfolding entries
entries-more zero text before rest set after some other read = absurd (omega arith)
entries-more (suc n) text before rest set after some other read =
    let less : suc n - 1 ≡ n = omega arith in
    rw (other, read, less) refl

pub entries-refused : (n : ℕ) (text : List ℕ) (before : List SetAt) (rest : List ℕ) (why : Why)
    → 0 < n → (length (skip_blank rest) == 0) ≡ false → entry before (skip_blank rest) ≡ Err why
    → entries n text before rest ≡ refused (length text - length (skip_blank rest)) why
unfolding entries
entries-refused zero text before rest why some other read = absurd (omega arith)
entries-refused (suc n) text before rest why some other read = rw (other, read) refl

-- what a text sets that is UTF-8, and what one sets that is not
pub outcome-utf8 : (text : List ℕ) → IsUtf8 text
    → outcome_of text ≡ entries (suc (length text)) text [] (skip_bom text)
unfolding outcome_of
outcome-utf8 text utf8 =
    let all : (utf8_valid_len text == length text) ≡ true =
    grind (arith, nat_tests, utf8_valid_len-IsUtf8 text utf8) in
    rw all refl

pub outcome-not_utf8 : (text : List ℕ) (at : ℕ) → IsValidUpTo text at → outcome_of text ≡ refused at not_toml
unfolding outcome_of
outcome-not_utf8 text at valid =
    let here : utf8_valid_len text ≡ at = utf8_valid_len-IsValidUpTo text at valid in
    let short : at < length text = valid.short in
    let part : (utf8_valid_len text == length text) ≡ false = grind (arith, nat_tests) in
    rw part (ap (λ n. refused n not_toml) here)
