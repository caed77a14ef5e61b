-- What is read of a file within a limit.
use Rattle.std.proofs.Common.{◌≡◌, ℕ, ◌<◌, ◌≤◌, ◌∙◌, min, List, [], ◌++◌, length, take, Option, Some, None}
use Rattle.std.proofs.Common.{IfSome, ap, arith}
use Rattle.std.proofs.lemmas.List.{length-take, take_all}
use Rattle.std.specs.Option.{option_map}

-- what stays below a limit is not cut off by it
within_limit : (left : Option (List ℕ)) (limit : ℕ) (text : List ℕ)
    → IfSome (option_map (take limit) left) (λ bytes. text ≡ bytes) → length text < limit
    → IfSome left (λ bytes. text ≡ bytes)
within_limit None limit text is short = tt
within_limit (Some bytes) limit text is short =
    let lengths : length text ≡ min limit (length bytes) = ap length is ∙ length-take limit bytes in
    let within : length bytes ≤ limit = omega arith in
    is ∙ take_all limit bytes within

-- so it is all that a reader had, behind nothing
pub all_read : (given left : Option (List ℕ)) (limit : ℕ) (front text : List ℕ)
    → IfSome (option_map (take limit) given) (λ bytes. text ≡ front ++ bytes) → given ≡ left → front ≡ []
    → length text < limit → IfSome left (λ bytes. text ≡ bytes)
all_read given left limit front text is same none short =
    within_limit left limit text (rw (same, none) at is) short
