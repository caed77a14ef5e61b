-- The clients that hold one filter, from the entries of the node where it ends.
use Rattle.std.proofs.Common.{◌≡◌, ℕ, ◌==◌, List, [], ◌∷◌, ◌||◌, Some, None, is_some, refl, sym, ap, ap₂}
use Rattle.std.proofs.Common.{◌∙◌, subst}
use Rattle.std.proofs.lemmas.Map.Made.{is_some-lookup}
use Rattle.std.specs.BTreeMap.{is_at, keys, IsOrdered}
use Rattle.std.specs.Cmp.{unsigned_ties}
use Rattle.std.specs.List.{list_any}
use Rattle.std.specs.List.Sorted.{IsStrictlySortedBy}
use Rattle.std.specs.Ordering.{nat_cmp}
use Rattle.sng_text.specs.Levels.{levels_of}
use Rattle.sng_standing.specs.declared.node.Node.{Node, out-Node}
use Rattle.sng_standing.specs.Holders.{AreClients}
use Rattle.sng_standing.specs.Tree.{node_left}
use Rattle.sng_standing.proofs.Held.{qos_at_none, qos_at_node}

-- whether a number is among the keys, by `==` and by the map's order
is_among : (n : ℕ) (ks : List ℕ) → list_any (λ k. n == k) ks ≡ list_any (is_at (nat_cmp n)) ks
is_among n [] = refl
is_among n (k ∷ ks) = ap₂ (λ a b. a || b) (unsigned_ties n k) (is_among n ks)

-- the filter ends at the node, whose keys are the clients
pub are_clients : (root node : Node) (text filter clients : List ℕ)
    → Some node ≡ node_left root (levels_of text) → text ≡ filter → IsOrdered nat_cmp (out-Node node).here
    → clients ≡ keys (out-Node node).here → AreClients root filter clients
are_clients root node text filter clients is same ordered listed =
    let here = (out-Node node).here in (
      subst (IsStrictlySortedBy nat_cmp) (sym listed) ordered,
      λ n. ap (list_any (λ k. n == k)) listed ∙ is_among n (keys here)
          ∙ sym (is_some-lookup (is_at (nat_cmp n)) here.entries)
          ∙ ap is_some (sym (qos_at_node root node text filter is same n)),
    )

-- no node is at the filter, so it has no clients
pub are_clients_none : (root : Node) (text filter clients : List ℕ) → None ≡ node_left root (levels_of text)
    → text ≡ filter → clients ≡ [] → AreClients root filter clients
unfolding IsStrictlySortedBy
are_clients_none root text filter clients is same listed = (
  subst (IsStrictlySortedBy nat_cmp) (sym listed) tt,
  λ n. ap (list_any (λ k. n == k)) listed ∙ ap is_some (sym (qos_at_none root text filter is same n)),
)
