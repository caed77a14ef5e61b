-- Whoever is found holds a filter that matches the levels of the name, at that QoS.
use Rattle.std.proofs.Common.{◌≡◌, ℕ, true, List, [], ◌∷◌, Option, Some, None, refl, ap, ◌∙◌, inl, inr}
use Rattle.std.proofs.lemmas.Bool.{and_parts}
use Rattle.std.proofs.lemmas.Slice.Eq.{bytes_eq-Decides}
use Rattle.sng_text.specs.Texts.{is_plain, all_plain}
use Rattle.sng_text.specs.declared.qos.Qos.{Qos}
use Rattle.sng_text.proofs.MatchLemmas.{matched}
use Rattle.sng_text.proofs.SelfLemmas.{plain-plus, plain-hash}
use Rattle.sng_standing.specs.declared.node.Node.{Node}
use Rattle.sng_standing.specs.Tree.{qos_here, node_below, in_node, qos_left}
use Rattle.sng_standing.specs.Greatest.{joined, rest_here, greatest_left}
use Rattle.sng_standing.proofs.Joins.{joined_one}

-- a filter of these levels that matches, at this QoS
abbrev pub Holds : Node → ℕ → List (List ℕ) → Qos → Type 0
Holds node n name q =
    (filter : List (List ℕ)) × (matched filter name ≡ true) × (qos_left node n filter ≡ Some q)

pub matched_own : (found : List ℕ) (filter name : List (List ℕ)) → is_plain found ≡ true
    → matched filter name ≡ true → matched (found ∷ filter) (found ∷ name) ≡ true
matched_own found filter name plain is =
    rw (plain-hash found plain, plain-plus found plain, (bytes_eq-Decides found found).1 refl) is

pub in_found : (x : Option Node) (g : Node → Option Qos) (q : Qos) → in_node x g ≡ Some q
    → (child : Node) × (x ≡ Some child) × (g child ≡ Some q)
in_found None g q is = absurd (cc)
in_found (Some child) g q is = (child, refl, is)

of_rest : (node : Node) (n : ℕ) (name : List (List ℕ)) (q : Qos) → rest_here node n ≡ Some q
    → Holds node n name q
of_rest node n [] q is = ((35 ∷ []) ∷ [], refl, is)
of_rest node n (found ∷ others) q is = ((35 ∷ []) ∷ [], refl, is)

of_own : (node : Node) (n : ℕ) (found : List ℕ) (others : List (List ℕ)) (q : Qos) (child : Node)
    → is_plain found ≡ true → node_below node found ≡ Some child → Holds child n others q
    → Holds node n (found ∷ others) q
of_own node n found others q child plain is holds = (
  found ∷ holds.0,
  matched_own found holds.0 others plain holds.1,
  ap (λ x. in_node x (λ c. qos_left c n holds.0)) is ∙ holds.2,
)

of_any : (node : Node) (n : ℕ) (found : List ℕ) (others : List (List ℕ)) (q : Qos) (child : Node)
    → node_below node (43 ∷ []) ≡ Some child → Holds child n others q → Holds node n (found ∷ others) q
of_any node n found others q child is holds = (
  (43 ∷ []) ∷ holds.0,
  holds.1,
  ap (λ x. in_node x (λ c. qos_left c n holds.0)) is ∙ holds.2,
)

pub all_match : (node : Node) (n : ℕ) (name : List (List ℕ)) (q : Qos) → all_plain name ≡ true
    → greatest_left node n name ≡ Some q → Holds node n name q
all_match node n [] q plain is =
    elim (joined_one (qos_here node n) (rest_here node n) q is)
    [ inl here ↦ ([], refl, here) | inr rest ↦ of_rest node n [] q rest ]
all_match node n (found ∷ others) q plain is =
    let p = and_parts (is_plain found) (all_plain others) plain in
    let same = in_node (node_below node found) (λ child. greatest_left child n others) in
    let any = in_node (node_below node (43 ∷ [])) (λ child. greatest_left child n others) in
    elim (joined_one (joined same any) (rest_here node n) q is) [
      | inl below ↦ elim (joined_one same any q below) [
        | inl own ↦
            let c = in_found (node_below node found) (λ child. greatest_left child n others) q own in
            of_own node n found others q c.0 p.0 c.1 (all_match c.0 n others q p.1 c.2)
        | inr plus ↦
            let c = in_found (node_below node (43 ∷ [])) (λ child. greatest_left child n others) q plus in
            of_any node n found others q c.0 c.1 (all_match c.0 n others q p.1 c.2)
      ]
      | inr rest ↦ of_rest node n (found ∷ others) q rest
    ]
