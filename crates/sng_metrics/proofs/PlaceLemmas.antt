-- Where something stands first in a list.
use Rattle.std.proofs.Common.{ℕ, ◌≡◌, ◌≤◌, ◌<◌, Bool, true, false, List, length, cond, Option, Some, None, arith, sym}
use Rattle.std.specs.Prelude.{nat_lt}
use Rattle.std.specs.List.{position, position_or_len}
use Rattle.std.proofs.lemmas.List.Sums.{prefix_len-le-length}

of-some : (b : Bool) (m at : ℕ) → Some at ≡ cond b (Some m) None → at ≡ m
of-some true m at h = cc
of-some false m at h = cc

of-none : (m n : ℕ) → None ≡ cond (nat_lt m n) (Some m) None → m ≤ n → n ≡ m
of-none m n h le = grind arith

pub place-some : (p : ℕ → Bool) (xs : List ℕ) (at : ℕ) → Some at ≡ position p xs → at ≡ position_or_len p xs
place-some p xs at h = of-some (nat_lt (position_or_len p xs) (length xs)) (position_or_len p xs) at h

pub place-none : (p : ℕ → Bool) (xs : List ℕ) → None ≡ position p xs → length xs ≡ position_or_len p xs
place-none p xs h = of-none (position_or_len p xs) (length xs) h (prefix_len-le-length _ xs)
