-- The number of a topic id's text is what `parse` reads.
use Rattle.std.proofs.Common.{◌≡◌, ℕ, ◌<◌, ◌≤◌, ◌^◌, Bool, true, false, leb, List, [], ◌∷◌, length, Some}
use Rattle.std.proofs.Common.{None, Result, Ok, Err, refl, arith, rules}
use Rattle.std.proofs.lemmas.Bool.{leb-true, le-leb, lt-leb}
use Rattle.std.proofs.lemmas.Grind.{common_steps}
use Rattle.std.proofs.lemmas.Str.Parse.{IsNumeralModel, numerals_by_fold, parse_digits}
use Rattle.std.specs.Str.Parse.{ParsesUnsigned}
use Rattle.sng_scope.specs.Numerals.{are_digits, is_numeral, number_onto, topic_id_of}

pub numerals : IsNumeralModel (λ ds. are_digits ds ≡ true) (number_onto 0)
numerals = numerals_by_fold _ (search rules) number_onto (search rules)

pub numeral-digits : (text : List ℕ) → is_numeral text ≡ true → (are_digits text ≡ true) × (0 < length text)
numeral-digits [] is = absurd (cc)
numeral-digits (b ∷ bs) is = (grind (arith, common_steps), omega arith)

pub some_id : (text : List ℕ) → is_numeral text ≡ true → number_onto 0 text ≤ 65534
    → topic_id_of text ≡ Some (number_onto 0 text)
some_id text is fits = rw (is, le-leb (number_onto 0 text) 65534 fits) refl

no_id : (text : List ℕ) → is_numeral text ≡ true → 65534 < number_onto 0 text → topic_id_of text ≡ None
no_id text is past = rw (is, lt-leb (number_onto 0 text) 65534 past) refl

-- a number that was read, and is a topic id
pub ok_id : {E : Type 0} (text : List ℕ) (r : Result ℕ E) (n : ℕ) → is_numeral text ≡ true
    → ParsesUnsigned 16 10 text r → r ≡ Ok n → n ≤ 65534 → Some n ≡ topic_id_of text
ok_id text r n is read ok fits =
    let value = rw ok at (parse_digits numerals 16 text r read (numeral-digits text is).0) in
    rw (some_id text is (omega (arith, value.1)), value.1) refl

-- one that is past the last
pub past_id : {E : Type 0} (text : List ℕ) (r : Result ℕ E) (n : ℕ) → is_numeral text ≡ true
    → ParsesUnsigned 16 10 text r → r ≡ Ok n → 65534 < n → None ≡ topic_id_of text
past_id text r n is read ok past =
    let value = rw ok at (parse_digits numerals 16 text r read (numeral-digits text is).0) in
    rw (no_id text is (omega (arith, value.1))) refl

none_read : (b : Bool) (text : List ℕ) → leb (number_onto 0 text) 65534 ≡ b → is_numeral text ≡ true
    → ((0 < length text) × (number_onto 0 text < 2 ^ 16) → ⊥) → None ≡ topic_id_of text
none_read true text fits is none =
    let few : number_onto 0 text ≤ 65534 = leb-true (number_onto 0 text) 65534 fits in
    absurd (none ((numeral-digits text is).1, omega arith))
none_read false text past is none = rw (is, past) refl

-- no number that fits 16 bits
pub no_number : {E : Type 0} (text : List ℕ) (r : Result ℕ E) (e : E) → is_numeral text ≡ true
    → ParsesUnsigned 16 10 text r → r ≡ Err e → None ≡ topic_id_of text
no_number text r e is read err =
    none_read (leb (number_onto 0 text) 65534) text refl is
    (rw err at (parse_digits numerals 16 text r read (numeral-digits text is).0))
