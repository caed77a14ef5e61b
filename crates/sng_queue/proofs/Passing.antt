-- What is left of messages as one after the other is passed.
use Rattle.std.proofs.Common.{◌≡◌, ℕ, zero, suc, List, [], ◌∷◌, Some, None, drop, refl, sym, ap, ◌∙◌}
use Rattle.std.specs.declared.option.Option.{Option}
use Rattle.std.specs.Map.Iter.{TakesFirst, deref}
use denote.Ref.{Bor}

drop-suc : {X : Type 0} (n : ℕ) (xs : List X) → drop 1 (drop n xs) ≡ drop (suc n) xs
drop-suc zero xs = refl
drop-suc (suc n) [] = refl
drop-suc (suc n) (x ∷ xs) = drop-suc n xs

-- one more is passed, where there is one
pub passed : {X : Type 0} (xs s : List X) (n : ℕ) (r : Option (Bor X)) (t : List X)
    → TakesFirst deref s r t → s ≡ drop n xs → t ≡ drop (suc n) xs
passed xs s n None t (e, f) is = f ∙ ap (drop 1) (sym e) ∙ ap (drop 1) is ∙ drop-suc n xs
passed xs s n (Some x) t e is = sym (ap (drop 1) e) ∙ ap (drop 1) is ∙ drop-suc n xs
