-- What is in force at a clock says the same to a client, where the policies did.
use Rattle.std.proofs.Common.{◌≡◌, ℕ, Bool, true, false, List, [], ◌∷◌, refl, ap, ap₂, sym, ◌∙◌, cond}
use Rattle.std.specs.List.{filter}
use Rattle.sng_grants.specs.Ends.{in_force}
use Rattle.sng_grants.specs.declared.policy.Policy.{Policy}
use Rattle.sng_isolation.specs.View.{part_of}
use Rattle.sng_grants.specs.Policies.{no_policy}

-- two tests may be asked in either order
swapped : {A : Type 0} (f g : A → Bool) (xs : List A) → filter f (filter g xs) ≡ filter g (filter f xs)
swapped f g [] = refl
swapped {A} f g (x ∷ xs) = by_two (f x) (g x) refl refl (swapped f g xs)
  where
    by_two : (a b : Bool) → f x ≡ a → g x ≡ b → filter f (filter g xs) ≡ filter g (filter f xs)
        → filter f (cond b (x ∷ filter g xs) (filter g xs)) ≡ filter g (cond a (x ∷ filter f xs) (filter f xs))
    by_two true true one two rest =
        ap (λ t. cond t (x ∷ filter f (filter g xs)) (filter f (filter g xs))) one
        ∙ (ap (λ (ys : List A). x ∷ ys) rest
        ∙ sym (ap (λ t. cond t (x ∷ filter g (filter f xs)) (filter g (filter f xs))) two))
    by_two true false one two rest =
        rest ∙ sym (ap (λ t. cond t (x ∷ filter g (filter f xs)) (filter g (filter f xs))) two)
    by_two false true one two rest =
        ap (λ t. cond t (x ∷ filter f (filter g xs)) (filter f (filter g xs))) one ∙ rest
    by_two false false one two rest = rest

pub in_force_part : (id : List ℕ) (clock : ℕ) (p : Policy)
    → part_of id (in_force clock p) ≡ in_force clock (part_of id p)
in_force_part id clock p =
    ap (λ listed. let q : Policy = record no_policy { clients = listed; topics = p.topics } in q)
    (swapped _ _ p.clients)

pub in_force_same : (id : List ℕ) (one two : ℕ) (p q : Policy) → one ≡ two → part_of id p ≡ part_of id q
    → part_of id (in_force one p) ≡ part_of id (in_force two q)
in_force_same id one two p q clock same =
    in_force_part id one p ∙ (ap₂ in_force clock same ∙ sym (in_force_part id two q))
