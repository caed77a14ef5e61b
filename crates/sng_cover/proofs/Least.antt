-- The least number that passes a test, from what is known of the test.
use Rattle.std.proofs.Common.{◌≡◌, ◌≤◌, ◌<◌, ◌+◌, ℕ, zero, suc, Bool, true, false, Some, None, refl, sym, ap}
use Rattle.std.proofs.Common.{arith, inl, inr, subst, if◌then◌else◌}
use Rattle.std.specs.declared.option.Option.{Option}
use Rattle.std.proofs.Math.Nat.{eq-or-lt_of_le}
use Rattle.sng_cover.specs.Search.{least}

-- what an answer says of the numbers that were tried
abbrev pub Searched : (ℕ → Bool) → ℕ → ℕ → Option ℕ → Type 0
Searched passes more number None = (other : ℕ) → number ≤ other → other < number + more → passes other ≡ false
Searched passes more number (Some found) =
    (number ≤ found) × (found < number + more) × (passes found ≡ true)
    × ((other : ℕ) → number ≤ other → other < found → passes other ≡ false)

-- one number that fails, before others that do
pub one_more : (passes : ℕ → Bool) (number top : ℕ) → passes number ≡ false
    → ((other : ℕ) → suc number ≤ other → other < top → passes other ≡ false)
    → (other : ℕ) → number ≤ other → other < top → passes other ≡ false
one_more passes number top fails later other from below =
    elim (eq-or-lt_of_le from) [
      | inl same ↦ subst (λ n. passes n ≡ false) same fails
      | inr after ↦ later other (omega arith) below
    ]

searched_by : (passes : ℕ → Bool) (more number : ℕ) (b : Bool) → passes number ≡ b
    → (rest : Option ℕ) → Searched passes more (suc number) rest
    → Searched passes (suc more) number (if b then Some number else rest)
searched_by passes more number true is rest later =
    (omega arith, omega arith, is, λ other from below. let none : ⊥ = omega arith in absurd none)
searched_by passes more number false is None later =
    one_more passes number (number + suc more) is (λ other from below. later other from (omega arith))
searched_by passes more number false is (Some found) later =
    let from : suc number ≤ found = later.0 in
    let below : found < suc number + more = later.1 in
    (omega arith, omega arith, later.2, one_more passes number found is later.3)

-- an answer says just this
pub searched : (passes : ℕ → Bool) (more number : ℕ) → Searched passes more number (least passes more number)
searched passes zero number = λ other from below. let none : ⊥ = omega arith in absurd none
searched passes (suc more) number =
    searched_by passes more number (passes number) refl (least passes more (suc number))
    (searched passes more (suc number))

pub least_never : (passes : ℕ → Bool) (more number : ℕ)
    → ((other : ℕ) → number ≤ other → other < number + more → passes other ≡ false)
    → least passes more number ≡ None
least_never passes zero number fails = refl
least_never passes (suc more) number fails =
    rw (fails number (omega arith) (omega arith))
    (least_never passes more (suc number) (λ other from below. fails other (omega arith) (omega arith)))

pub least_found : (passes : ℕ → Bool) (more number found : ℕ) → number ≤ found → found < number + more
    → passes found ≡ true
    → ((other : ℕ) → number ≤ other → other < found → passes other ≡ false)
    → least passes more number ≡ Some found
least_found passes zero number found from below is fails = let none : ⊥ = omega arith in absurd none
least_found passes (suc more) number found from below is fails =
    elim (eq-or-lt_of_le from) [
      | inl same ↦ let here : passes number ≡ true =
          subst (λ n. passes n ≡ true) (sym same) is in rw here (ap Some same)
      | inr after ↦
          rw (fails number (omega arith) after)
          (least_found passes more (suc number) found (omega arith) (omega arith) is
          (λ other more_from less. fails other (omega arith) less))
    ]
