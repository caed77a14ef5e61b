-- Topic ids have one text each.
use Rattle.std.proofs.Common.{◌≡◌, ℕ, ◌+◌, ◌-◌, ◌*◌, ◌/◌, ◌%◌, ◌<◌, ◌≤◌, ◌^◌, ◌&&◌, ◌++◌, Bool, true, false}
use Rattle.std.proofs.Common.{cond, leb, List, [], ◌∷◌, length, get_or, Some, None, refl, sym, ap, ◌∙◌, arith}
use Rattle.std.proofs.lemmas.Bool.{leb-true, le-leb, and_parts, and_from}
use Rattle.std.proofs.lemmas.Fmt.{decimal_by_steps, decimal-digits_value, digits_value-decimal}
use Rattle.std.specs.Fmt.{decimal}
use Rattle.sng_text.specs.Ipv4.{is_digit, is_leading}
use Rattle.sng_scope.specs.Laws.{TopicIdsAreDecimal}
use Rattle.sng_scope.specs.Numerals.{are_digits, is_numeral, number_onto, topic_id_of}
use Rattle.sng_scope.proofs.NumeralLemmas.{numerals, numeral-digits, some_id}

number_onto-least : (n : ℕ) (text : List ℕ) → n ≤ number_onto n text
number_onto-least n [] = omega arith
number_onto-least n (b ∷ bs) = omega (arith, number_onto-least (10 * n + (b - 48)) bs)

leading : (b : ℕ) → is_leading b ≡ true → 49 ≤ b
leading b is = leb-true 49 b (and_parts _ _ is).0

numeral-some : (text : List ℕ) → is_numeral text ≡ true → 1 ≤ number_onto 0 text
numeral-some [] is = absurd (cc)
numeral-some (b ∷ bs) is =
    let first = leading b (and_parts _ _ is).0 in
    omega (arith, number_onto-least (10 * 0 + (b - 48)) bs)

no_zero : (text : List ℕ) → is_numeral text ≡ true → get_or text 0 0 ≡ 48 → length text ≡ 1
no_zero [] is zero = absurd (cc)
no_zero (b ∷ bs) is zero =
    let first = leading b (and_parts _ _ is).0 in
    absurd (omega arith)

tested : (b c : Bool) (v id : ℕ) → cond (b && c) (Some v) None ≡ Some id → (b ≡ true) × (c ≡ true) × (v ≡ id)
tested true true v id is = (refl, refl, cc)
tested true false v id is = absurd (cc)
tested false c v id is = absurd (cc)

pub to_decimal : (text : List ℕ) (id : ℕ) → topic_id_of text ≡ Some id
    → (1 ≤ id) × (id ≤ 65534) × (text ≡ decimal id)
to_decimal text id is =
    let t = tested (is_numeral text) (leb (number_onto 0 text) 65534) (number_onto 0 text) id is in
    let fits : number_onto 0 text ≤ 65534 = leb-true (number_onto 0 text) 65534 t.1 in
    let some : 1 ≤ number_onto 0 text = numeral-some text t.0 in
    let digits = numeral-digits text t.0 in
    let spelled : decimal (number_onto 0 text) ≡ text =
    decimal-digits_value numerals text digits.0 digits.1 (no_zero text t.0) (omega arith) in
    (omega (arith, t.2), omega (arith, t.2), sym spelled ∙ ap decimal t.2)

are_digits-more : (text : List ℕ) (b : ℕ) → are_digits text ≡ true → is_digit b ≡ true
    → are_digits (text ++ b ∷ []) ≡ true
are_digits-more [] b are is = and_from _ _ is refl
are_digits-more (a ∷ text) b are is =
    let p = and_parts _ _ are in and_from _ _ p.0 (are_digits-more text b p.1 is)

is_numeral-more : (text : List ℕ) (b : ℕ) → is_numeral text ≡ true → is_digit b ≡ true
    → is_numeral (text ++ b ∷ []) ≡ true
is_numeral-more [] b is digit = absurd (cc)
is_numeral-more (a ∷ text) b is digit =
    let p = and_parts _ _ is in and_from _ _ p.0 (are_digits-more text b p.1 digit)

abbrev Spelled : ℕ → List ℕ → Type 0
Spelled n text = 1 ≤ n → is_numeral text ≡ true

spelled-one : (n : ℕ) → n < 10 → Spelled n ((48 + n) ∷ [])
spelled-one n few some =
    and_from _ _ (and_from _ _ (le-leb 49 (48 + n) (omega arith)) (le-leb (48 + n) 57 (omega arith))) refl

spelled-more : (n : ℕ) (text : List ℕ) → 10 ≤ n → Spelled (n / 10) text
    → Spelled n (text ++ ((48 + n % 10) ∷ []))
spelled-more n text many before some =
    is_numeral-more text (48 + n % 10) (before (omega arith))
    (and_from _ _ (le-leb 48 (48 + n % 10) (omega arith)) (le-leb (48 + n % 10) 57 (omega arith)))

from_decimal : (text : List ℕ) (id : ℕ) → (1 ≤ id) × (id ≤ 65534) × (text ≡ decimal id)
    → topic_id_of text ≡ Some id
from_decimal text id (some, fits, is) =
    let small : id < 2 ^ 64 = omega arith in
    let numeral : is_numeral (decimal id) ≡ true =
    decimal_by_steps Spelled spelled-one spelled-more id small some in
    let value : number_onto 0 (decimal id) ≡ id = digits_value-decimal numerals id small in
    rw is (some_id (decimal id) numeral (omega (arith, value)) ∙ ap Some value)

pub topic_ids_are_decimal : TopicIdsAreDecimal
topic_ids_are_decimal text id = (to_decimal text id, from_decimal text id)
