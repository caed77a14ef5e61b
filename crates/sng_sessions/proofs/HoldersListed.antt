-- A list in order of places that says of each place what is found there is that of the clients in order.
use Rattle.std.proofs.Common.{◌≡◌, ℕ, suc, ◌+◌, ◌-◌, ◌<◌, ◌≤◌, ◌==◌, Bool, true, false, List, []}
use Rattle.std.proofs.Common.{◌∷◌}
use Rattle.std.proofs.Common.{map, Some, None, is_some, cond, nat_lt, zero-add, refl, sym, ap}
use Rattle.std.proofs.Common.{◌∙◌, subst}
use Rattle.std.proofs.Common.{true≢false, arith}
use Rattle.std.proofs.lemmas.Bool.{eqb-true, eqb-false, eq-eqb, ltb-true}
use Rattle.std.proofs.lemmas.Map.Keys.{sorted_head, sorted_tail}
use Rattle.std.specs.List.{AllByRecursion}
use Rattle.std.specs.Ordering.{nat_cmp}
use Rattle.std.proofs.Common.{Less, Equal, Greater}
use Rattle.sng_fan.specs.Greatest.{greatest_qos}
use Rattle.sng_history.specs.Clients.{Client}
use Rattle.sng_sessions.specs.Standing.{client_at}
use Rattle.sng_sessions.specs.Holding.{holders_from}
use Rattle.sng_sessions.specs.Kept.{Keeps}
use Rattle.sng_sessions.proofs.GreatestHeld.{greatest-held}
use Rattle.sng_standing.specs.declared.holder.Holder.{Holder}
use Rattle.sng_standing.specs.declared.node.Node.{Node}
use Rattle.sng_standing.specs.Holders.{qos_of, AreInOrder, AreHolders}

-- all stand at this place or behind it
abbrev AreFrom : ℕ → List Holder → Type 0
AreFrom place [] = Unit {0}
AreFrom place (h ∷ holders) = (place ≤ h.client) × AreFrom place holders

from_later : (place more : ℕ) (holders : List Holder) → more ≤ place → AreFrom place holders
    → AreFrom more holders
from_later place more [] fewer from = tt
from_later place more (h ∷ holders) fewer from =
    (omega (arith, from.0, fewer), from_later place more holders fewer from.1)

-- nobody stands before the first
before_first : (place client : ℕ) (holders : List Holder) → client < place → AreFrom place holders
    → qos_of client holders ≡ None
before_first place client [] less from = refl
before_first place client (h ∷ holders) less from =
    by (client == h.client) refl (before_first place client holders less from.1)
  where
    by : (b : Bool) → (client == h.client) ≡ b → qos_of client holders ≡ None
        → qos_of client (h ∷ holders) ≡ None
    by true is rest = absurd (omega (arith, eqb-true client h.client is, from.0, less))
    by false is rest = rw is rest

-- those behind one in order stand behind its place
behind : (place : ℕ) (holders : List Holder)
    → AllByRecursion (λ other. nat_cmp place other ≡ Less) (map (λ h. h.client) holders)
    → AreFrom (suc place) holders
behind place [] above = tt
behind place (h ∷ holders) above = (less place h.client above.0, behind place holders above.1)
  where
    less : (a b : ℕ) → nat_cmp a b ≡ Less → suc a ≤ b
    less a b is = by (nat_lt a b) (a == b) refl is
      where
        by : (below same : Bool) → nat_lt a b ≡ below → cond below Less (cond same Equal Greater) ≡ Less
            → suc a ≤ b
        by true same below is = omega (arith, ltb-true a b below)
        by false true below is = absurd (cc)
        by false false below is = absurd (cc)

-- one that stands there is found
first_found : (h : Holder) (holders : List Holder) → qos_of h.client (h ∷ holders) ≡ Some h.qos
first_found h holders = rw (eq-eqb h.client h.client refl) refl

-- what the list says of a place is the greatest QoS of the client there
abbrev SaysOf : List ℕ → ℕ → List Client → List Holder → Type 0
SaysOf name place xs holders =
    (n : ℕ) → qos_of (n + place) holders ≡ greatest_qos (client_at xs n).filters name

-- the list is that of the clients from a place on
abbrev IsListed : List ℕ → ℕ → List Client → Type 0
IsListed name place xs =
    (holders : List Holder) → AreInOrder holders → AreFrom place holders → SaysOf name place xs holders
    → holders ≡ holders_from place name xs

one_listed : (name : List ℕ) (place : ℕ) (x : Client) (xs : List Client) (h : Holder) (holders : List Holder)
    → IsListed name (suc place) xs → AreInOrder (h ∷ holders) → AreFrom place (h ∷ holders)
    → SaysOf name place (x ∷ xs) (h ∷ holders)
    → h ∷ holders ≡ holders_from place name (x ∷ xs)
one_listed name place x xs h holders later sorted from all = by (place == h.client) refl
  where
    above : AreFrom (suc h.client) holders
    above = behind h.client holders (sorted_head nat_cmp h.client (map (λ h. h.client) holders) sorted)

    first : greatest_qos x.filters name ≡ qos_of place (h ∷ holders)
    first = sym (all 0) ∙ ap (λ n. qos_of n (h ∷ holders)) (zero-add place)

    shift : (n : ℕ) → n + suc place ≡ suc n + place
    shift n = omega arith

    past : place ≡ h.client → (n : ℕ)
        → qos_of (n + suc place) holders ≡ qos_of (suc n + place) (h ∷ holders)
    past here n = ap (λ m. qos_of m holders) (shift n) ∙ other (suc n + place == h.client) refl
      where
        other : (b : Bool) → (suc n + place == h.client) ≡ b
            → qos_of (suc n + place) holders ≡ qos_of (suc n + place) (h ∷ holders)
        other true is = absurd (omega (arith, eqb-true (suc n + place) h.client is, here))
        other false is = rw is refl

    by : (b : Bool) → (place == h.client) ≡ b → h ∷ holders ≡ holders_from place name (x ∷ xs)
    by true is =
        let here : place ≡ h.client = eqb-true place h.client is in
        let found : greatest_qos x.filters name ≡ Some h.qos =
        first ∙ (ap (λ n. qos_of n (h ∷ holders)) here ∙ first_found h holders) in
        let same : h ≡ record { client = place; qos = h.qos } =
        ap (λ c. let holder : Holder = record { client = c; qos = h.qos } in holder) (sym here) in
        let rest : holders ≡ holders_from (suc place) name xs =
        later holders (sorted_tail nat_cmp h.client (map (λ h. h.client) holders) sorted)
        (subst (λ p. AreFrom (suc p) holders) (sym here) above)
        (λ n. past here n ∙ all (suc n)) in
        rw found (λ i. same i ∷ rest i)
    by false is =
        let more : suc place ≤ h.client = omega (arith, from.0, eqb-false place h.client is) in
        let behind_it : AreFrom (suc place) (h ∷ holders) =
        (more, from_later (suc h.client) (suc place) holders (omega (arith, more)) above) in
        let none : greatest_qos x.filters name ≡ None =
        first ∙ before_first (suc place) place (h ∷ holders) (omega arith) behind_it in
        let rest : h ∷ holders ≡ holders_from (suc place) name xs =
        later (h ∷ holders) sorted behind_it
        (λ n. ap (λ m. qos_of m (h ∷ holders)) (shift n) ∙ all (suc n)) in
        rw none rest

listed : (name : List ℕ) (place : ℕ) (xs : List Client) → IsListed name place xs
listed name place [] [] sorted from all = refl
listed name place [] (h ∷ holders) sorted from all =
    let at : h.client - place + place ≡ h.client = omega (arith, from.0) in
    let there : is_some (qos_of (h.client - place + place) (h ∷ holders)) ≡ true =
    ap (λ n. is_some (qos_of n (h ∷ holders))) at ∙ ap is_some (first_found h holders) in
    absurd (true≢false (sym there ∙ ap is_some (all (h.client - place))))
listed name place (x ∷ xs) [] sorted from all =
    let rest : [] ≡ holders_from (suc place) name xs =
    listed name (suc place) xs [] sorted tt (λ n. all (suc n)) in
    rw (sym (all 0)) rest
listed name place (x ∷ xs) (h ∷ holders) sorted from all =
    one_listed name place x xs h holders (listed name (suc place) xs) sorted from all

from_first : (holders : List Holder) → AreFrom 0 holders
from_first [] = tt
from_first (h ∷ holders) = (omega arith, from_first holders)

pub are-holders : (root : Node) (xs : List Client) (name : List ℕ) (holders : List Holder) → Keeps root xs
    → AreHolders root name holders → holders ≡ holders_from 0 name xs
are-holders root xs name holders keeps are =
    listed name 0 xs holders are.0 (from_first holders)
    (λ n. ap (λ m. qos_of m holders) (omega arith)
    ∙ greatest-held root xs name n (qos_of n holders) keeps (are.1 n))
