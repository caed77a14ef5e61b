-- Who holds a filter, by the entries of one map.
use Rattle.std.proofs.Common.{◌≡◌, ℕ, Bool, true, false, ◌==◌, ◌≤◌, List, [], ◌∷◌, length, Option, Some, None}
use Rattle.std.proofs.Common.{cond, is_some, nat_lt, inl, inr, refl, sym, ap, ◌∙◌, subst, arith, eqb-true}
use Rattle.std.proofs.Common.{ltb-true, ltb-false}
use Rattle.std.proofs.lemmas.Bool.{cases_Bool}
use Rattle.std.proofs.lemmas.Map.Keys.{sorted_head}
use Rattle.std.specs.BTreeMap.{is_at}
use Rattle.std.specs.declared.cmp.Ordering.TheVariants.{Less}
use Rattle.std.specs.Cmp.{unsigned_ties, nat_eq_equiv, nat_cmp_total, tied_itself}
use Rattle.std.specs.List.Sorted.{IsStrictlySortedBy}
use Rattle.std.specs.Map.{lookup, keys_of}
use Rattle.std.specs.Ordering.{nat_cmp, is_eq}
use Rattle.sng_text.specs.Levels.{levels_of}
use Rattle.sng_text.specs.declared.qos.Qos.{Qos}
use Rattle.sng_standing.specs.declared.node.Node.{Node}
use Rattle.sng_standing.specs.Tree.{qos_here, in_node, on_node, node_below, node_left, qos_left, qos_at}
use Rattle.sng_standing.specs.Standing.{IsHeldBy, IsHeldBeside}

-- what the entries have at a number
abbrev at : List (ℕ × Qos) → ℕ → Option Qos
at es n = lookup (is_at (nat_cmp n)) es

tied : (n : ℕ) → is_eq (nat_cmp n n) ≡ true
tied n = ap is_eq (tied_itself nat_cmp_total n)

first_held : (e : ℕ × Qos) (es : List (ℕ × Qos)) → is_some (at (e ∷ es) e.0) ≡ true
first_held e es = ap (λ b. is_some (cond b (Some e.1) (at es e.0))) (tied e.0)

pub held_by : (es : List (ℕ × Qos)) (held : Bool) → held ≡ nat_lt 0 (length es) → IsHeldBy (at es) held
held_by [] true is = absurd (omega (arith, ltb-true 0 0 (sym is)))
held_by [] false is = λ n. refl
held_by (e ∷ es) true is = (e.0, first_held e es)
held_by (e ∷ es) false is = absurd (omega (arith, ltb-false 0 (length (e ∷ es)) (sym is)))

-- a number that is not the first is not there, where there is one alone
alone : (e : ℕ × Qos) (client n : ℕ) → (client == e.0) ≡ true → (client == n) ≡ false
    → at (e ∷ []) n ≡ None
alone e client n same differs =
    let e_is : client ≡ e.0 = eqb-true client e.0 same in
    let past : is_eq (nat_cmp n e.0) ≡ false =
    sym (unsigned_ties n e.0) ∙ ap (λ k. n == k) (sym e_is) ∙ nat_eq_equiv.symm n client ∙ differs in
    ap (λ b. cond b (Some e.1) None) past

-- the client is the first
first_is : (e : ℕ × Qos) (es : List (ℕ × Qos)) (client : ℕ) (same : Bool) → (client == e.0) ≡ same
    → at (e ∷ es) client ≡ cond same (Some e.1) (at es client)
first_is e es client same is =
    ap (λ b. cond b (Some e.1) (at es client)) (sym (unsigned_ties client e.0) ∙ is)

-- the second is there, and is not the first
second_held : (e f : ℕ × Qos) (es : List (ℕ × Qos)) (client : ℕ) → (client == e.0) ≡ true
    → IsStrictlySortedBy nat_cmp (keys_of (e ∷ f ∷ es))
    → ((client == f.0) ≡ false) × (is_some (at (e ∷ f ∷ es) f.0) ≡ true)
second_held e f es client same sorted =
    let e_is : client ≡ e.0 = eqb-true client e.0 same in
    let less : nat_cmp e.0 f.0 ≡ Less = (sorted_head nat_cmp e.0 (keys_of (f ∷ es)) sorted).0 in
    let apart : (client == f.0) ≡ false =
    ap (λ k. k == f.0) e_is ∙ unsigned_ties e.0 f.0 ∙ ap is_eq less in
    let past : (f.0 == e.0) ≡ false = nat_eq_equiv.symm f.0 e.0 ∙ ap (λ k. k == f.0) (sym e_is) ∙ apart in
    (apart, ap is_some (first_is e (f ∷ es) f.0 false past) ∙ first_held f es)

own_at_most : (found : Option Qos) (own : ℕ) → own ≡ cond (is_some found) 1 0 → own ≤ 1
own_at_most None own is = omega (arith, is)
own_at_most (Some q) own is = omega (arith, is)

pub held_beside : (es : List (ℕ × Qos)) (client own : ℕ) (held : Bool)
    → IsStrictlySortedBy nat_cmp (keys_of es) → own ≡ cond (is_some (at es client)) 1 0
    → held ≡ nat_lt own (length es) → IsHeldBeside (at es) client held
held_beside [] client own true sorted own_is is = absurd (omega (arith, ltb-true own 0 (sym is)))
held_beside [] client own false sorted own_is is = λ n differs. refl
held_beside (e ∷ []) client own held sorted own_is is = elim (cases_Bool (client == e.0)) [
  | inl same ↦
      let one : own ≡ 1 = own_is ∙ ap (λ x. cond (is_some x) 1 0) (first_is e [] client true same) in
      let none : held ≡ false = is ∙ ap (λ k. nat_lt k 1) one in
      subst (λ b. IsHeldBeside (at (e ∷ [])) client b) (sym none) (λ n differs. alone e client n same differs)
  | inr differs ↦
      let zero_is : own ≡ 0 = own_is ∙ ap (λ x. cond (is_some x) 1 0) (first_is e [] client false differs) in
      let some : held ≡ true = is ∙ ap (λ k. nat_lt k 1) zero_is in
      subst (λ b. IsHeldBeside (at (e ∷ [])) client b) (sym some) (e.0, differs, first_held e [])
]
held_beside (e ∷ f ∷ es) client own false sorted own_is is =
    let most = own_at_most (at (e ∷ f ∷ es) client) own own_is in
    absurd (omega (arith, most, ltb-false own (length (e ∷ f ∷ es)) (sym is)))
held_beside (e ∷ f ∷ es) client own true sorted own_is is = elim (cases_Bool (client == e.0)) [
  | inl same ↦ let second = second_held e f es client same sorted in (f.0, second.0, second.1)
  | inr differs ↦ (e.0, differs, first_held e (f ∷ es))
]

-- the filter that ends at the node
qos_of_node : (node : Node) (n : ℕ) (levels : List (List ℕ))
    → qos_left node n levels ≡ in_node (node_left node levels) (λ m. qos_here m n)
qos_of_node node n [] = refl
qos_of_node node n (level ∷ levels) = by (node_below node level) (λ child. qos_of_node child n levels)
  where
    by : (x : Option Node)
        → ((child : Node) → qos_left child n levels ≡ in_node (node_left child levels) (λ m. qos_here m n))
        → in_node x (λ child. qos_left child n levels)
        ≡ in_node (on_node x (λ child. node_left child levels)) (λ m. qos_here m n)
    by None below = refl
    by (Some child) below = below child

-- the same of a function that says the same
pub held_same : (f g : ℕ → Option Qos) (held : Bool) → ((n : ℕ) → f n ≡ g n) → IsHeldBy g held
    → IsHeldBy f held
held_same f g true same is = (is.0, ap is_some (same is.0) ∙ is.1)
held_same f g false same is = λ n. same n ∙ is n

pub beside_same : (f g : ℕ → Option Qos) (client : ℕ) (held : Bool) → ((n : ℕ) → f n ≡ g n)
    → IsHeldBeside g client held → IsHeldBeside f client held
beside_same f g client true same is = (is.0, is.1, ap is_some (same is.0) ∙ is.2)
beside_same f g client false same is = λ n differs. same n ∙ is n differs

-- who holds a filter, given the node that was found at its text
found_in : (root : Node) (text filter : List ℕ) (found : Option Node)
    → found ≡ node_left root (levels_of text) → text ≡ filter → (n : ℕ)
    → qos_at root n filter ≡ in_node found (λ m. qos_here m n)
found_in root text filter found is same n =
    ap (qos_at root n) (sym same) ∙ qos_of_node root n (levels_of text)
    ∙ ap (λ x. in_node x (λ m. qos_here m n)) (sym is)

pub qos_at_node : (root node : Node) (text filter : List ℕ) → Some node ≡ node_left root (levels_of text)
    → text ≡ filter → (n : ℕ) → qos_at root n filter ≡ qos_here node n
qos_at_node root node text filter is same n = found_in root text filter (Some node) is same n

pub qos_at_none : (root : Node) (text filter : List ℕ) → None ≡ node_left root (levels_of text)
    → text ≡ filter → (n : ℕ) → qos_at root n filter ≡ None
qos_at_none root text filter is same n = found_in root text filter None is same n
