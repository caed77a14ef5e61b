-- Whoever holds a filter that matches the levels of a name is found, at a QoS as great.
use Rattle.std.proofs.Common.{◌≡◌, ℕ, Bool, true, false, List, [], ◌∷◌, Option, Some, None}
use Rattle.std.proofs.Common.{refl, sym, ap, ◌∙◌, inl, inr, ◌⊎◌}
use Rattle.std.proofs.lemmas.Bool.{cases_Bool, and_parts}
use Rattle.std.proofs.lemmas.Slice.Eq.{bytes_eq-Decides}
use Rattle.std.specs.Str.{bytes_eq}
use Rattle.sng_text.specs.Texts.{is_plus, is_hash, is_in_place}
use Rattle.sng_text.specs.declared.qos.Qos.{Qos}
use Rattle.sng_text.proofs.MatchLemmas.{matched}
use Rattle.sng_standing.specs.declared.node.Node.{Node}
use Rattle.sng_standing.specs.Tree.{qos_here, node_below, in_node, qos_left}
use Rattle.sng_standing.specs.Greatest.{joined, rest_here, greatest_left}
use Rattle.sng_standing.proofs.Joins.{AsGreat, as_great_same, as_great_itself, as_great_left}
use Rattle.sng_standing.proofs.Joins.{as_great_right}
use Rattle.sng_standing.proofs.InPlace.{hash_last, placed_behind}

-- the filter's first level is `#`, `+`, or the name's own
take_level : (level found : List ℕ) (levels others : List (List ℕ)) → is_hash level ≡ false
    → matched (level ∷ levels) (found ∷ others) ≡ true
    → ((level ≡ 43 ∷ []) ⊎ (level ≡ found)) × (matched levels others ≡ true)
take_level level found levels others hash is = by (is_plus level) refl
  where
    by : (plus : Bool) → is_plus level ≡ plus
        → ((level ≡ 43 ∷ []) ⊎ (level ≡ found)) × (matched levels others ≡ true)
    by true plus = (inl ((bytes_eq-Decides level (43 ∷ [])).0 plus), rw (hash, plus) at is)
    by false plus =
        let p = and_parts (bytes_eq level found) (matched levels others) (rw (hash, plus) at is) in
        (inr ((bytes_eq-Decides level found).0 p.0), p.1)

-- a filter with a level more matches no name that is over
over_not : (level : List ℕ) (levels : List (List ℕ)) → is_hash level ≡ false
    → matched (level ∷ levels) [] ≡ true → ⊥
over_not level levels hash is = let no : false ≡ true = rw hash at is in cc

pub in_some : (x : Option Node) (f g : Node → Option Qos) (q : Qos)
    → ((child : Node) → f child ≡ Some q → AsGreat (g child) q)
    → in_node x f ≡ Some q → AsGreat (in_node x g) q
in_some None f g q each is = cc
in_some (Some child) f g q each is = each child is

rest_of : (node : Node) (n : ℕ) (level : List ℕ) (levels : List (List ℕ)) (q : Qos)
    → is_in_place (level ∷ levels) ≡ true → level ≡ 35 ∷ [] → qos_left node n (level ∷ levels) ≡ Some q
    → AsGreat (rest_here node n) q
rest_of node n level levels q placed is held =
    let last = hash_last level levels placed is in
    let there : rest_here node n ≡ Some q =
    sym (ap (λ l. in_node (node_below node l) (λ child. qos_here child n)) is)
    ∙ sym (ap (λ ls. qos_left node n (level ∷ ls)) last) ∙ held in
    as_great_same _ _ q there (as_great_itself q)

pub found_all : (node : Node) (n : ℕ) (filter name : List (List ℕ)) (q : Qos) → is_in_place filter ≡ true
    → matched filter name ≡ true → qos_left node n filter ≡ Some q → AsGreat (greatest_left node n name) q
found_all node n [] [] q placed is held =
    as_great_left (qos_here node n) (rest_here node n) q (as_great_same _ _ q held (as_great_itself q))
found_all node n [] (found ∷ others) q placed is held = cc
found_all node n (level ∷ levels) [] q placed is held = elim (cases_Bool (is_hash level)) [
  | inl hash ↦ as_great_right (qos_here node n) (rest_here node n) q
      (rest_of node n level levels q placed ((bytes_eq-Decides level (35 ∷ [])).0 hash) held)
  | inr hash ↦ absurd (over_not level levels hash is)
]
found_all node n (level ∷ levels) (found ∷ others) q placed is held =
    let same = in_node (node_below node found) (λ child. greatest_left child n others) in
    let any = in_node (node_below node (43 ∷ [])) (λ child. greatest_left child n others) in
    let below = placed_behind level levels placed in
    elim (cases_Bool (is_hash level)) [
      | inl hash ↦ as_great_right (joined same any) (rest_here node n) q
          (rest_of node n level levels q placed ((bytes_eq-Decides level (35 ∷ [])).0 hash) held)
      | inr hash ↦
          let taken = take_level level found levels others hash is in
          as_great_left (joined same any) (rest_here node n) q (elim (taken.0) [
            | inl plus ↦ as_great_right same any q (in_some (node_below node (43 ∷ []))
                (λ child. qos_left child n levels) (λ child. greatest_left child n others) q
                (λ child there. found_all child n levels others q below taken.1 there)
                (sym (ap (λ l. in_node (node_below node l) (λ child. qos_left child n levels)) plus) ∙ held))
            | inr own ↦ as_great_left same any q (in_some (node_below node found)
                (λ child. qos_left child n levels) (λ child. greatest_left child n others) q
                (λ child there. found_all child n levels others q below taken.1 there)
                (sym (ap (λ l. in_node (node_below node l) (λ child. qos_left child n levels)) own) ∙ held))
          ])
    ]
