-- A list in order that has each place at which a filter stands, and no other, is that of the clients in
-- order.
use Rattle.std.proofs.Common.{◌≡◌, ℕ, suc, ◌+◌, ◌-◌, ◌<◌, ◌≤◌, ◌==◌, ◌||◌, Bool, true, false, List, []}
use Rattle.std.proofs.Common.{◌∷◌}
use Rattle.std.proofs.Common.{cond, nat_lt, zero-add, refl, sym, ap, ◌∙◌, subst, true≢false, arith}
use Rattle.std.proofs.Common.{Less, Equal, Greater}
use Rattle.std.proofs.lemmas.Bool.{eqb-true, eqb-false, eq-eqb, ltb-true}
use Rattle.std.proofs.lemmas.Map.Keys.{sorted_head, sorted_tail}
use Rattle.std.specs.List.{AllByRecursion, list_any}
use Rattle.std.specs.List.Sorted.{IsStrictlySortedBy}
use Rattle.std.specs.Ordering.{nat_cmp}
use Rattle.sng_history.specs.Clients.{Client}
use Rattle.sng_history.specs.Standing.{holds}
use Rattle.sng_sessions.specs.Standing.{client_at}
use Rattle.sng_sessions.specs.Holding.{places_from}
use Rattle.sng_sessions.specs.Kept.{Keeps}
use Rattle.sng_sessions.proofs.HoldersLemmas.{says}
use Rattle.sng_standing.specs.declared.node.Node.{Node}
use Rattle.sng_standing.specs.Holders.{AreClients}

-- it is one of these
abbrev is_in : ℕ → List ℕ → Bool
is_in n places = list_any (λ other. n == other) places

-- all are this place or behind it
abbrev AreFrom : ℕ → List ℕ → Type 0
AreFrom place [] = Unit {0}
AreFrom place (p ∷ places) = (place ≤ p) × AreFrom place places

from_later : (place more : ℕ) (places : List ℕ) → more ≤ place → AreFrom place places → AreFrom more places
from_later place more [] fewer from = tt
from_later place more (p ∷ places) fewer from =
    (omega (arith, from.0, fewer), from_later place more places fewer from.1)

before_first : (place n : ℕ) (places : List ℕ) → n < place → AreFrom place places → is_in n places ≡ false
before_first place n [] less from = refl
before_first place n (p ∷ places) less from =
    by (n == p) refl (before_first place n places less from.1)
  where
    by : (b : Bool) → (n == p) ≡ b → is_in n places ≡ false → (b || is_in n places) ≡ false
    by true is rest = absurd (omega (arith, eqb-true n p is, from.0, less))
    by false is rest = rest

-- those behind one in order are behind its place
behind : (place : ℕ) (places : List ℕ) → AllByRecursion (λ other. nat_cmp place other ≡ Less) places
    → AreFrom (suc place) places
behind place [] above = tt
behind place (p ∷ places) above = (less place p above.0, behind place places above.1)
  where
    less : (a b : ℕ) → nat_cmp a b ≡ Less → suc a ≤ b
    less a b is = by (nat_lt a b) (a == b) refl is
      where
        by : (below same : Bool) → nat_lt a b ≡ below → cond below Less (cond same Equal Greater) ≡ Less
            → suc a ≤ b
        by true same below is = omega (arith, ltb-true a b below)
        by false true below is = absurd (cc)
        by false false below is = absurd (cc)

first_found : (p : ℕ) (places : List ℕ) → is_in p (p ∷ places) ≡ true
first_found p places = rw (eq-eqb p p refl) refl

-- the list has a place exactly where the filter stands for the client there
abbrev SaysOf : List ℕ → ℕ → List Client → List ℕ → Type 0
SaysOf filter place xs places = (n : ℕ) → is_in (n + place) places ≡ holds filter (client_at xs n)

-- the list is that of the clients from a place on
abbrev IsListed : List ℕ → ℕ → List Client → Type 0
IsListed filter place xs =
    (places : List ℕ) → IsStrictlySortedBy nat_cmp places → AreFrom place places
    → SaysOf filter place xs places
    → places ≡ places_from place filter xs

one_listed : (filter : List ℕ) (place : ℕ) (x : Client) (xs : List Client) (p : ℕ) (places : List ℕ)
    → IsListed filter (suc place) xs → IsStrictlySortedBy nat_cmp (p ∷ places) → AreFrom place (p ∷ places)
    → SaysOf filter place (x ∷ xs) (p ∷ places)
    → p ∷ places ≡ places_from place filter (x ∷ xs)
one_listed filter place x xs p places later sorted from all = by (place == p) refl
  where
    above : AreFrom (suc p) places
    above = behind p places (sorted_head nat_cmp p places sorted)

    first : holds filter x ≡ is_in place (p ∷ places)
    first = sym (all 0) ∙ ap (λ n. is_in n (p ∷ places)) (zero-add place)

    shift : (n : ℕ) → n + suc place ≡ suc n + place
    shift n = omega arith

    past : place ≡ p → (n : ℕ) → is_in (n + suc place) places ≡ is_in (suc n + place) (p ∷ places)
    past here n = ap (λ m. is_in m places) (shift n) ∙ other (suc n + place == p) refl
      where
        other : (b : Bool) → (suc n + place == p) ≡ b
            → is_in (suc n + place) places ≡ (b || is_in (suc n + place) places)
        other true is = absurd (omega (arith, eqb-true (suc n + place) p is, here))
        other false is = refl

    by : (b : Bool) → (place == p) ≡ b → p ∷ places ≡ places_from place filter (x ∷ xs)
    by true is =
        let here : place ≡ p = eqb-true place p is in
        let found : holds filter x ≡ true =
        first ∙ (ap (λ n. is_in n (p ∷ places)) here ∙ first_found p places) in
        let rest : places ≡ places_from (suc place) filter xs =
        later places (sorted_tail nat_cmp p places sorted)
        (subst (λ q. AreFrom (suc q) places) (sym here) above)
        (λ n. past here n ∙ all (suc n)) in
        let back : p ≡ place = sym here in
        rw found (λ i. back i ∷ rest i)
    by false is =
        let more : suc place ≤ p = omega (arith, from.0, eqb-false place p is) in
        let behind_it : AreFrom (suc place) (p ∷ places) =
        (more, from_later (suc p) (suc place) places (omega (arith, more)) above) in
        let none : holds filter x ≡ false =
        first ∙ before_first (suc place) place (p ∷ places) (omega arith) behind_it in
        let rest : p ∷ places ≡ places_from (suc place) filter xs =
        later (p ∷ places) sorted behind_it (λ n. ap (λ m. is_in m (p ∷ places)) (shift n) ∙ all (suc n)) in
        rw none rest

listed : (filter : List ℕ) (place : ℕ) (xs : List Client) → IsListed filter place xs
listed filter place [] [] sorted from all = refl
listed filter place [] (p ∷ places) sorted from all =
    let at : p - place + place ≡ p = omega (arith, from.0) in
    let there : is_in (p - place + place) (p ∷ places) ≡ true =
    ap (λ n. is_in n (p ∷ places)) at ∙ first_found p places in
    absurd (true≢false (sym there ∙ all (p - place)))
listed filter place (x ∷ xs) [] sorted from all =
    let rest : [] ≡ places_from (suc place) filter xs =
    listed filter (suc place) xs [] sorted tt (λ n. all (suc n)) in
    rw (sym (all 0)) rest
listed filter place (x ∷ xs) (p ∷ places) sorted from all =
    one_listed filter place x xs p places (listed filter (suc place) xs) sorted from all

from_first : (places : List ℕ) → AreFrom 0 places
from_first [] = tt
from_first (p ∷ places) = (omega arith, from_first places)

pub are-places : (root : Node) (xs : List Client) (filter places : List ℕ) → Keeps root xs
    → AreClients root filter places → places ≡ places_from 0 filter xs
are-places root xs filter places keeps are =
    listed filter 0 xs places are.0 (from_first places)
    (λ n. ap (λ m. is_in m places) (omega arith) ∙ are.1 n ∙ says root xs filter n keeps)
