-- The texts of addresses are their numbers in decimal, joined by points.
use Rattle.std.proofs.Common.{◌≡◌, ℕ, ◌+◌, ◌<◌, ◌≤◌, ◌==◌, List, [], ◌∷◌, ◌++◌, ◌/◌, ◌%◌, ◌*◌, ◌-◌, map}
use Rattle.std.proofs.Common.{Option, Some, None, option_and_then, IfSome, cond, leb, Bool, true, false, ◌&&◌}
use Rattle.std.proofs.Common.{refl, sym, ap, ◌∙◌, arith, inl, inr}
use Rattle.std.proofs.lemmas.Bool.{leb-true, le-leb, and_parts, and_from, ne_eqb, cases_lt}
use Rattle.std.proofs.lemmas.Fmt.{decimal_digit, decimal_step, decimal_by_steps}
use Rattle.std.proofs.lemmas.List.Elements.{All-from_recursion}
use Rattle.std.proofs.lemmas.List.Splits.{slice_split_at, slice_split_none, join_with_byte-slice_split}
use Rattle.std.specs.Fmt.{decimal}
use Rattle.std.specs.List.{All, AllByRecursion, join_with_byte}
use Rattle.sng_text.specs.Ipv4.{IsAddress, is_digit, is_leading, octet_of, parts_of, four_of, ipv4_of}
use Rattle.sng_text.specs.Laws.{SpellsAddress, AddressesAreDecimal}

-- ---- a number and its digits

-- a number below 256, and the digits are its decimal ones
abbrev IsWritten : List ℕ → ℕ → Type 0
IsWritten digits n = (n < 256) × (decimal n ≡ digits)

-- what a test of digits tells of them
digit : (b : ℕ) → is_digit b ≡ true → (48 ≤ b) × (b ≤ 57)
digit b is = let p = and_parts (leb 48 b) (leb b 57) is in (leb-true 48 b p.0, leb-true b 57 p.1)

leading : (b : ℕ) → is_leading b ≡ true → (49 ≤ b) × (b ≤ 57)
leading b is = let p = and_parts (leb 49 b) (leb b 57) is in (leb-true 49 b p.0, leb-true b 57 p.1)

-- a digit behind others
one_more : (n front last : ℕ) → n ≡ 10 * front + last → 0 < front → front < 100 → last < 10
    → decimal n ≡ decimal front ++ ((48 + last) ∷ [])
one_more n front last is some few small =
    let f : n / 10 ≡ front = omega arith in
    let l : n % 10 ≡ last = omega arith in
    decimal_step n (omega arith) (omega arith) ∙ rw (f, l) refl

one_digit : (a : ℕ) → is_digit a ≡ true → IsWritten (a ∷ []) (a - 48)
one_digit a is =
    let d = digit a is in
    let back : 48 + (a - 48) ≡ a = omega (arith, d.0) in
    (omega (arith, d.1), decimal_digit (a - 48) (omega (arith, d.1)) ∙ rw back refl)

two_digits : (a b : ℕ) → is_leading a ≡ true → is_digit b ≡ true
    → IsWritten (a ∷ b ∷ []) (10 * (a - 48) + (b - 48))
two_digits a b first is =
    let l = leading a first in
    let d = digit b is in
    let back_a : 48 + (a - 48) ≡ a = omega (arith, l.0) in
    let back_b : 48 + (b - 48) ≡ b = omega (arith, d.0) in (
      omega (arith, l.1, d.1),
      one_more (10 * (a - 48) + (b - 48)) (a - 48) (b - 48) refl (omega (arith, l.0)) (omega (arith, l.1))
          (omega (arith, d.1))
          ∙ rw (decimal_digit (a - 48) (omega (arith, l.1)), back_a, back_b) refl,
    )

three_digits : (a b c : ℕ) → is_leading a ≡ true → is_digit b ≡ true → is_digit c ≡ true
    → 100 * (a - 48) + 10 * (b - 48) + (c - 48) ≤ 255
    → IsWritten (a ∷ b ∷ c ∷ []) (100 * (a - 48) + 10 * (b - 48) + (c - 48))
three_digits a b c first second is small =
    let l = leading a first in
    let d = digit c is in
    let two = two_digits a b first second in
    let back : 48 + (c - 48) ≡ c = omega (arith, d.0) in (
      omega (arith, small),
      one_more (100 * (a - 48) + 10 * (b - 48) + (c - 48)) (10 * (a - 48) + (b - 48)) (c - 48) (omega arith)
          (omega (arith, l.0)) (omega (arith, small)) (omega (arith, d.1))
          ∙ rw (two.1, back) refl,
    )

tested : (b : Bool) (n : ℕ) (P : ℕ → Type 0) → (b ≡ true → P n) → IfSome (cond b (Some n) None) P
tested true n P h = h refl
tested false n P h = tt

-- the digits that are read are those of the number
octet_of-written : (digits : List ℕ) → IfSome (octet_of digits) (IsWritten digits)
octet_of-written [] = tt
octet_of-written (a ∷ []) = tested (is_digit a) (a - 48) (IsWritten (a ∷ [])) (one_digit a)
octet_of-written (a ∷ b ∷ []) =
    tested (is_leading a && is_digit b) _ (IsWritten (a ∷ b ∷ [])) (λ is.
    let p = and_parts (is_leading a) (is_digit b) is in
    two_digits a b p.0 p.1)
octet_of-written (a ∷ b ∷ c ∷ []) =
    tested (is_leading a && is_digit b && is_digit c && leb (100 * (a - 48) + 10 * (b - 48) + (c - 48)) 255) _
    (IsWritten (a ∷ b ∷ c ∷ [])) (λ is.
    let p = and_parts (is_leading a && is_digit b && is_digit c) _ is in
    let q = and_parts (is_leading a && is_digit b) (is_digit c) p.0 in
    let r = and_parts (is_leading a) (is_digit b) q.0 in
    three_digits a b c r.0 r.1 q.1 (leb-true (100 * (a - 48) + 10 * (b - 48) + (c - 48)) 255 p.1))
octet_of-written (a ∷ b ∷ c ∷ d ∷ more) = tt

is_digit-of : (n : ℕ) → n < 10 → is_digit (48 + n) ≡ true
is_digit-of n small = and_from _ _ (le-leb 48 (48 + n) (omega arith)) (le-leb (48 + n) 57 (omega arith))

is_leading-of : (n : ℕ) → 0 < n → n < 10 → is_leading (48 + n) ≡ true
is_leading-of n some small =
    and_from _ _ (le-leb 49 (48 + n) (omega arith)) (le-leb (48 + n) 57 (omega arith))

-- the digits of a number are read as that number
read_one : (n : ℕ) → n < 10 → octet_of (decimal n) ≡ Some n
read_one n small =
    let back : (48 + n) - 48 ≡ n = omega arith in
    rw (decimal_digit n small, is_digit-of n small, back) refl

read_two : (front last : ℕ) → 0 < front → front < 10 → last < 10
    → octet_of (decimal (10 * front + last)) ≡ Some (10 * front + last)
read_two front last some few small =
    let back_f : (48 + front) - 48 ≡ front = omega arith in
    let back_l : (48 + last) - 48 ≡ last = omega arith in
    rw (
      one_more (10 * front + last) front last refl some (omega arith) small,
      decimal_digit front few,
      is_leading-of front some few,
      is_digit-of last small,
      back_f,
      back_l,
    ) refl

read_three : (first second last : ℕ) → 0 < first → first < 10 → second < 10 → last < 10
    → 100 * first + 10 * second + last ≤ 255
    → octet_of (decimal (100 * first + 10 * second + last)) ≡ Some (100 * first + 10 * second + last)
read_three first second last some few mid small fits =
    let back_f : (48 + first) - 48 ≡ first = omega arith in
    let back_s : (48 + second) - 48 ≡ second = omega arith in
    let back_l : (48 + last) - 48 ≡ last = omega arith in
    let fits_is : leb (100 * first + 10 * second + last) 255 ≡ true = le-leb _ _ fits in
    rw (
      one_more (100 * first + 10 * second + last) (10 * first + second) last (omega arith) (omega arith)
          (omega arith) small,
      one_more (10 * first + second) first second refl some (omega arith) mid,
      decimal_digit first few,
      is_leading-of first some few,
      is_digit-of second mid,
      is_digit-of last small,
      back_f,
      back_s,
      back_l,
      fits_is,
    ) refl

octet_of-decimal : (n : ℕ) → n < 256 → octet_of (decimal n) ≡ Some n
octet_of-decimal n fits = elim (cases_lt n 10) [
  | inl small ↦ read_one n small
  | inr more ↦ elim (cases_lt n 100) [
    | inl few ↦
        let whole : 10 * (n / 10) + n % 10 ≡ n = omega arith in
        rw whole at (read_two (n / 10) (n % 10) (omega arith) (omega arith) (omega arith))
    | inr many ↦
        let whole : 100 * (n / 100) + 10 * (n / 10 % 10) + n % 10 ≡ n = omega arith in
        rw whole at (read_three (n / 100) (n / 10 % 10) (n % 10) (omega arith) (omega arith) (omega arith)
        (omega arith) (omega arith))
  ]
]

-- ---- the numbers and their text

then_some : {A B : Type 0} (o : Option A) (next : A → Option B) (P : A → Type 0) (Q : B → Type 0) → IfSome o P
    → ((a : A) → P a → IfSome (next a) Q) → IfSome (option_and_then next o) Q
then_some None next P Q h k = tt
then_some (Some a) next P Q h k = k a h

-- an address, and the parts are its numbers
abbrev pub AreWritten : List (List ℕ) → List ℕ → Type 0
AreWritten parts octets = IsAddress octets × (map decimal octets ≡ parts)

four_written : (a b c d : List ℕ) (w x y z : ℕ) → IsWritten a w → IsWritten b x → IsWritten c y
    → IsWritten d z
    → AreWritten (a ∷ b ∷ c ∷ d ∷ []) (w ∷ x ∷ y ∷ z ∷ [])
four_written a b c d w x y z h i j k =
    let small : All (λ octet. octet < 256) (w ∷ x ∷ y ∷ z ∷ []) =
    All-from_recursion (λ octet. octet < 256) (w ∷ x ∷ y ∷ z ∷ []) (h.0, (i.0, (j.0, (k.0, tt)))) in
    ((refl, small), rw (h.1, i.1, j.1, k.1) refl)

pub four_of-written : (parts : List (List ℕ)) → IfSome (four_of parts) (AreWritten parts)
four_of-written [] = tt
four_of-written (a ∷ []) = tt
four_of-written (a ∷ b ∷ []) = tt
four_of-written (a ∷ b ∷ c ∷ []) = tt
four_of-written (a ∷ b ∷ c ∷ d ∷ []) =
    let Q : List ℕ → Type 0 = AreWritten (a ∷ b ∷ c ∷ d ∷ []) in
    then_some (octet_of a) _ (IsWritten a) Q (octet_of-written a) (λ w h.
    then_some (octet_of b) _ (IsWritten b) Q (octet_of-written b) (λ x i.
    then_some (octet_of c) _ (IsWritten c) Q (octet_of-written c) (λ y j.
    then_some (octet_of d) _ (IsWritten d) Q (octet_of-written d) (λ z k.
    four_written a b c d w x y z h i j k))))
four_of-written (a ∷ b ∷ c ∷ d ∷ e ∷ more) = tt

of_some : {A : Type 0} (o : Option A) (a : A) (P : A → Type 0) → IfSome o P → o ≡ Some a → P a
of_some o a P h is = rw is at h

spells : (text octets : List ℕ) → ipv4_of text ≡ Some octets → SpellsAddress text octets
spells text octets is =
    let w = of_some (ipv4_of text) octets (AreWritten (parts_of text)) (four_of-written (parts_of text)) is in
    (w.0, ap (join_with_byte 46) w.1 ∙ join_with_byte-slice_split 46 text)

-- no byte is a point
abbrev HasNoPoint : List ℕ → Type 0
HasNoPoint text = All (λ b. (b == 46) ≡ false) text

abbrev NoPoint : ℕ → List ℕ → Type 0
NoPoint n digits = AllByRecursion (λ b. (b == 46) ≡ false) digits

no_point-more : (digits : List ℕ) (b : ℕ) → AllByRecursion (λ b. (b == 46) ≡ false) digits → (b == 46) ≡ false
    → AllByRecursion (λ b. (b == 46) ≡ false) (digits ++ b ∷ [])
no_point-more [] b all is = (is, tt)
no_point-more (a ∷ digits) b all is = (all.0, no_point-more digits b all.1 is)

decimal-no_point : (n : ℕ) → n < 256 → HasNoPoint (decimal n)
decimal-no_point n fits =
    All-from_recursion (λ b. (b == 46) ≡ false) (decimal n)
    (decimal_by_steps NoPoint
    (λ n small. (ne_eqb (48 + n) 46 (λ e. omega (arith, e)), tt))
    (λ n digits many before. no_point-more digits (48 + n % 10) before
    (ne_eqb (48 + n % 10) 46 (λ e. omega (arith, e)))) n (omega arith))

-- the parts of joined numbers are those numbers
parts_of-decimals : (a b c d : ℕ) → a < 256 → b < 256 → c < 256 → d < 256
    → parts_of (join_with_byte 46 (decimal a ∷ decimal b ∷ decimal c ∷ decimal d ∷ []))
    ≡ decimal a ∷ decimal b ∷ decimal c ∷ decimal d ∷ []
parts_of-decimals a b c d h i j k =
    let test : ℕ → Bool = λ b. b == 46 in
    slice_split_at test (decimal a) 46 (join_with_byte 46 (decimal b ∷ decimal c ∷ decimal d ∷ []))
    (decimal-no_point a h) refl
    ∙ ap (λ parts. decimal a ∷ parts)
    (slice_split_at test (decimal b) 46 (join_with_byte 46 (decimal c ∷ decimal d ∷ []))
    (decimal-no_point b i) refl
    ∙ ap (λ parts. decimal b ∷ parts)
    (slice_split_at test (decimal c) 46 (decimal d) (decimal-no_point c j) refl
    ∙ ap (λ parts. decimal c ∷ parts) (slice_split_none test (decimal d) (decimal-no_point d k))))

four_of-decimals : (a b c d : ℕ) → a < 256 → b < 256 → c < 256 → d < 256
    → four_of (decimal a ∷ decimal b ∷ decimal c ∷ decimal d ∷ []) ≡ Some (a ∷ b ∷ c ∷ d ∷ [])
four_of-decimals a b c d h i j k =
    rw (octet_of-decimal a h, octet_of-decimal b i, octet_of-decimal c j, octet_of-decimal d k) refl

read_by : (octets : List ℕ) → IsAddress octets
    → ipv4_of (join_with_byte 46 (map decimal octets)) ≡ Some octets
read_by [] is = absurd (omega (arith, is.0))
read_by (a ∷ []) is = absurd (omega (arith, is.0))
read_by (a ∷ b ∷ []) is = absurd (omega (arith, is.0))
read_by (a ∷ b ∷ c ∷ []) is = absurd (omega (arith, is.0))
read_by (a ∷ b ∷ c ∷ d ∷ []) is =
    let h : a < 256 = is.1 0 0 (omega arith) in
    let i : b < 256 = is.1 1 0 (omega arith) in
    let j : c < 256 = is.1 2 0 (omega arith) in
    let k : d < 256 = is.1 3 0 (omega arith) in
    ap four_of (parts_of-decimals a b c d h i j k) ∙ four_of-decimals a b c d h i j k
read_by (a ∷ b ∷ c ∷ d ∷ e ∷ more) is = absurd (omega (arith, is.0))

pub addresses_are_decimal : AddressesAreDecimal
addresses_are_decimal text octets = (
  spells text octets,
  λ spelled. ap ipv4_of (sym spelled.1) ∙ read_by octets spelled.0,
)
