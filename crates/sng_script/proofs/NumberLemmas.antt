-- The number of a number's decimal digits is the number, and the port of a port's is the port.
use Rattle.std.proofs.Common.{◌≡◌, ℕ, ◌+◌, ◌-◌, ◌*◌, ◌/◌, ◌%◌, ◌<◌, ◌≤◌, ◌^◌, ◌&&◌, ◌++◌, Bool, true, false}
use Rattle.std.proofs.Common.{List, [], ◌∷◌, Some, refl, ap, ◌∙◌, arith}
use Rattle.std.proofs.lemmas.Bool.{le-leb, lt-ltb, and_parts, and_from}
use Rattle.std.proofs.lemmas.Fmt.{decimal_by_steps, digits_value-decimal}
use Rattle.std.specs.Fmt.{decimal}
use Rattle.sng_text.specs.Ipv4.{is_digit}
use Rattle.sng_scope.specs.Numerals.{are_digits, number_onto}
use Rattle.sng_scope.proofs.NumeralLemmas.{numerals}
use Rattle.sng_script.specs.Laws.{NumbersAreDecimal, PortsAreDecimal}
use Rattle.sng_script.specs.Lines.{digits_onto, number_of}

number_onto-least : (n : ℕ) (text : List ℕ) → n ≤ number_onto n text
number_onto-least n [] = omega arith
number_onto-least n (b ∷ bs) = omega (arith, number_onto-least (10 * n + (b - 48)) bs)

digits_onto-number : (n : ℕ) (text : List ℕ) → are_digits text ≡ true → number_onto n text < 2 ^ 64
    → digits_onto n text ≡ Some (number_onto n text)
digits_onto-number n [] are fits = refl
digits_onto-number n (b ∷ bs) are fits =
    let p = and_parts (is_digit b) (are_digits bs) are in
    let small : 10 * n + (b - 48) < 2 ^ 64 = omega (arith, number_onto-least (10 * n + (b - 48)) bs) in
    rw (p.0, lt-ltb (10 * n + (b - 48)) (2 ^ 64) small) (digits_onto-number (10 * n + (b - 48)) bs p.1 fits)

-- one digit or more, and nothing else
abbrev is_number : List ℕ → Bool
is_number [] = false
is_number (b ∷ bs) = is_digit b && are_digits bs

number_of-number : (text : List ℕ) → is_number text ≡ true → number_onto 0 text < 2 ^ 64
    → number_of text ≡ Some (number_onto 0 text)
number_of-number [] is fits = absurd (cc)
number_of-number (b ∷ bs) is fits = digits_onto-number 0 (b ∷ bs) is fits

are_digits-more : (text : List ℕ) (b : ℕ) → are_digits text ≡ true → is_digit b ≡ true
    → are_digits (text ++ b ∷ []) ≡ true
are_digits-more [] b are is = and_from _ _ is refl
are_digits-more (a ∷ text) b are is =
    let p = and_parts _ _ are in and_from _ _ p.0 (are_digits-more text b p.1 is)

abbrev Spelled : ℕ → List ℕ → Type 0
Spelled n text = is_number text ≡ true

digit : (n : ℕ) → n < 10 → is_digit (48 + n) ≡ true
digit n few = and_from _ _ (le-leb 48 (48 + n) (omega arith)) (le-leb (48 + n) 57 (omega arith))

spelled-one : (n : ℕ) → n < 10 → Spelled n ((48 + n) ∷ [])
spelled-one n few = and_from _ _ (digit n few) refl

is_number-more : (text : List ℕ) (b : ℕ) → is_number text ≡ true → is_digit b ≡ true
    → is_number (text ++ b ∷ []) ≡ true
is_number-more [] b is last = absurd (cc)
is_number-more (a ∷ text) b is last =
    let p = and_parts _ _ is in and_from _ _ p.0 (are_digits-more text b p.1 last)

spelled-more : (n : ℕ) (text : List ℕ) → 10 ≤ n → Spelled (n / 10) text
    → Spelled n (text ++ ((48 + n % 10) ∷ []))
spelled-more n text many before = is_number-more text (48 + n % 10) before (digit (n % 10) (omega arith))

pub numbers_are_decimal : NumbersAreDecimal
numbers_are_decimal number fits =
    let spelled : is_number (decimal number) ≡ true =
    decimal_by_steps Spelled spelled-one spelled-more number fits in
    let value : number_onto 0 (decimal number) ≡ number = digits_value-decimal numerals number fits in
    number_of-number (decimal number) spelled (omega (arith, value)) ∙ ap Some value

pub ports_are_decimal : PortsAreDecimal
ports_are_decimal port fits =
    rw (numbers_are_decimal port (omega arith), lt-ltb port (2 ^ 16) fits) refl
