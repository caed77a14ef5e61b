-- Two texts that are the same as far as both go.
use Rattle.std.proofs.Common.{◌≡◌, ℕ, zero, suc, ◌<◌, min, List, [], ◌∷◌, length, drop, refl, ap, ◌∙◌, arith}
use Rattle.std.specs.declared.cmp.Ordering.{Ordering}
use Rattle.std.specs.declared.cmp.Ordering.TheVariants.{Less, Equal, Greater}
use Rattle.std.specs.Cmp.{ranked, nat_cmp_is}
use Rattle.std.specs.Cmp.Lexicographic.{slice_cmp}
use Rattle.std.specs.Ordering.{nat_cmp, MatchOrdering}

suc_ranked : (a b : ℕ) (r : Ordering) → MatchOrdering r (a < b) (a ≡ b) (b < a)
    → MatchOrdering r (suc a < suc b) (suc a ≡ suc b) (suc b < suc a)
suc_ranked a b Less h = let l : a < b = h in omega arith
suc_ranked a b Equal h = ap suc h
suc_ranked a b Greater h = let l : b < a = h in omega arith

nat_cmp-suc : (a b : ℕ) → nat_cmp a b ≡ nat_cmp (suc a) (suc b)
nat_cmp-suc a b =
    nat_cmp_is (suc a) (suc b) (nat_cmp a b) (suc_ranked a b (nat_cmp a b) (ranked a b (nat_cmp a b) refl))

-- nothing is left of one, and the lengths decide
pub over : (xs ys : List ℕ) (at : ℕ) → at ≡ min (length xs) (length ys)
    → slice_cmp nat_cmp (drop at xs) (drop at ys) ≡ nat_cmp (length xs) (length ys)
over [] [] zero m = refl
over [] [] (suc at) m = absurd (omega arith)
over [] (y ∷ ys) zero m = nat_cmp_is 0 (length (y ∷ ys)) Less (omega arith)
over [] (y ∷ ys) (suc at) m = absurd (omega arith)
over (x ∷ xs) [] zero m = nat_cmp_is (length (x ∷ xs)) 0 Greater (omega arith)
over (x ∷ xs) [] (suc at) m = absurd (omega arith)
over (x ∷ xs) (y ∷ ys) zero m = absurd (omega arith)
over (x ∷ xs) (y ∷ ys) (suc at) m = over xs ys at (omega arith) ∙ nat_cmp-suc (length xs) (length ys)
