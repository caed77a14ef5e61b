-- Whole numbers in decimal digits, as they are read.
use Rattle.std.specs.Prelude.{ℕ, ◌+◌, ◌-◌, ◌*◌, ◌^◌, ◌&&◌, nat_lt, List, [], ◌∷◌}
use Rattle.std.specs.Prelude.{if◌then◌else◌, Some, None}
use Rattle.std.specs.declared.option.Option.{Option}
use Rattle.sng_text.specs.Ipv4.{is_digit}

-- the number that digits write behind those of this one, below 2 ^ 64
abbrev pub digits_onto : ℕ → List ℕ → Option ℕ
digits_onto n [] = Some n
digits_onto n (b ∷ bs) =
    if is_digit b && nat_lt (10 * n + (b - 48)) (2 ^ 64)
    then digits_onto (10 * n + (b - 48)) bs
    else None

-- the number that a text writes: one digit or more
abbrev pub number_of : List ℕ → Option ℕ
number_of [] = None
number_of (b ∷ bs) = digits_onto 0 (b ∷ bs)
