-- A text and its parts between points, and the four octets of an address.
use Rattle.std.proofs.Common.{◌≡◌, ℕ, ◌+◌, ◌<◌, ◌≤◌, ◌==◌, List, [], ◌∷◌, length, map, take, drop, Option}
use Rattle.std.proofs.Common.{Some, None, IfSome, cond, Bool, true, false, refl, arith}
use Rattle.std.specs.List.{position, position_or_len}
use Rattle.std.proofs.lemmas.Bool.{ltb-false}
use Rattle.std.proofs.lemmas.List.Quantifiers.{position-Some}
use Rattle.std.proofs.lemmas.List.Sums.{position_or_len_is, fails_before_first}
use Rattle.std.proofs.lemmas.List.Splits.{slice_split_first, slice_split_none, length-slice_split}
use Rattle.std.specs.Fmt.{decimal}
use Rattle.sng_text.specs.Ipv4.{IsAddress, parts_of, four_of, ipv4_of}
use Rattle.sng_text.proofs.AddressLemmas.{four_of-written}

abbrev is_point : ℕ → Bool
is_point b = b == 46

-- the first point ends the first part
pub parts_of-cut : (text : List ℕ) (at : ℕ) → position (λ b. b == 46) text ≡ Some at
    → parts_of text ≡ take at text ∷ parts_of (drop (at + 1) text)
parts_of-cut text at is =
    let found = position-Some is_point text at 0 is in
    let place : position_or_len is_point text ≡ at =
    position_or_len_is is_point text at 0 (omega arith) found.2 (λ _. found.1) in
    let within : position_or_len is_point text < length text = omega arith in
    rw place at (slice_split_first is_point text 0 within)

past : (b : Bool) (i : ℕ) → cond b (Some i) None ≡ None → b ≡ false
past true i is = cc
past false i is = refl

-- with no point, the text is one part
pub parts_of-whole : (text : List ℕ) → position (λ b. b == 46) text ≡ None → parts_of text ≡ text ∷ []
parts_of-whole text is =
    let end : length text ≤ position_or_len is_point text = ltb-false _ _ (past _ _ is) in
    slice_split_none is_point text (λ k d within. fails_before_first is_point text k d (omega arith))

four_of-more : (a b c d : List ℕ) (parts : List (List ℕ)) → 0 < length parts
    → four_of (a ∷ b ∷ c ∷ d ∷ parts) ≡ None
four_of-more a b c d [] some = absurd (omega arith)
four_of-more a b c d (part ∷ parts) some = refl

-- five parts are too many
pub four_of-five : (a b c d text : List ℕ) → four_of (a ∷ b ∷ c ∷ d ∷ parts_of text) ≡ None
four_of-five a b c d text =
    four_of-more a b c d (parts_of text) (omega (arith, length-slice_split is_point text))

first_part : {A : Type 0} (o : Option A) (P : A → Type 0) (Q : A → Type 0) → IfSome o (λ a. P a × Q a)
    → IfSome o P
first_part None P Q h = tt
first_part (Some a) P Q h = h.0

-- an address has four octets
pub ipv4_of-octets : (text : List ℕ) → IfSome (ipv4_of text) IsAddress
ipv4_of-octets text =
    first_part (ipv4_of text) IsAddress (λ octets. map decimal octets ≡ parts_of text)
    (four_of-written (parts_of text))
