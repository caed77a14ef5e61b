-- How what stands at a node and below it moves as one of the node's two maps does.
use Rattle.std.proofs.Common.{◌≡◌, ℕ, true, List, ◌∷◌, Option, Some, None, cond, ap, ◌∙◌, subst}
use Rattle.std.proofs.Common.{Vec, Global}
use Rattle.std.specs.BTreeMap.{BTreeMap, get, get_by, is_at, UpdatesBy}
use Rattle.std.specs.Cmp.Lexicographic.{slice_cmp}
use Rattle.std.specs.Map.{lookup}
use Rattle.std.specs.Ordering.{nat_cmp}
use Rattle.std.specs.Str.{bytes_eq}
use Rattle.sng_text.specs.declared.qos.Qos.{Qos}
use Rattle.sng_standing.specs.declared.node.Node.{Node, Node-F, out-Node, roll-Node, out-roll-Node}
use Rattle.sng_standing.specs.declared.node.Node.{roll-out-Node}
use Rattle.sng_standing.specs.Tree.{qos_here, node_below, is_idle}
use Rattle.sng_standing.specs.Standing.{SaysSame, Moves, IsOne}
use Rattle.sng_standing.proofs.Levels.{level_updates}
use Rattle.sng_standing.proofs.Moved.{moved_child, moved_branch, moved_same, same_child, same_parts}
use Rattle.sng_standing.proofs.Moved.{same_without}

-- who holds a filter, and the nodes one level further down
abbrev pub Here : Type 0
Here = BTreeMap ℕ Qos

abbrev pub Below : Type 0
Below = BTreeMap (Vec ℕ Global) Node

-- the node with other holders
abbrev here_parts : Node → Here → Node-F Node
here_parts node here = record { here = here; below = (out-Node node).below }

abbrev pub with_here : Node → Here → Node
with_here node here = roll-Node (here_parts node here)

-- the node with other nodes below
abbrev below_parts : Node → Below → Node-F Node
below_parts node below = record { here = (out-Node node).here; below = below }

abbrev pub with_below : Node → Below → Node
with_below node below = roll-Node (below_parts node below)

-- the nodes below are the same but at one level
abbrev pub ChangesAt : List ℕ → Below → Below → Option Node → Type 0
ChangesAt level before after now =
    UpdatesBy (λ x y. slice_cmp nat_cmp x.items y.items) (λ k. slice_cmp nat_cmp level k.items)
    before after now

here_kept : (node : Node) (below : Below) (n : ℕ) → qos_here (with_below node below) n ≡ qos_here node n
here_kept node below n = ap (λ p. get nat_cmp p.here n) (out-roll-Node (below_parts node below))

below_is : (node : Node) (below : Below) (level : List ℕ)
    → node_below (with_below node below) level ≡ get_by (λ k. slice_cmp nat_cmp level k.items) below
below_is node below level =
    ap (λ p. get_by (λ k. slice_cmp nat_cmp level k.items) p.below) (out-roll-Node (below_parts node below))

below_changed : (node : Node) (below : Below) (level : List ℕ) (now : Option Node)
    → ChangesAt level (out-Node node).below below now → (other : List ℕ)
    → node_below (with_below node below) other ≡ cond (bytes_eq level other) now (node_below node other)
below_changed node below level now changes other =
    below_is node below other
    ∙ level_updates (out-Node node).below below (λ k. k.items) level now changes other

-- ---- another node at a level

-- one that has moved
pub moves_child : (node child next : Node) (below : Below) (client : ℕ) (level : List ℕ)
    (levels : List (List ℕ)) (now : Option Qos) → node_below node level ≡ Some child
    → ChangesAt level (out-Node node).below below (Some next) → Moves child next client levels now
    → Moves node (with_below node below) client (level ∷ levels) now
moves_child node child next below client level levels now there changes moves =
    moved_child node (with_below node below) child next client level levels now (here_kept node below) there
    (below_changed node below level (Some next) changes) moves

-- one that has moved, and goes since nobody needs it any more
pub moves_without : (node child next : Node) (below left : Below) (client : ℕ) (level : List ℕ)
    (levels : List (List ℕ)) (now : Option Qos) → node_below node level ≡ Some child
    → ChangesAt level (out-Node node).below below (Some next) → Moves child next client levels now
    → is_idle next ≡ true → ChangesAt level (out-Node (with_below node below)).below left None
    → Moves node (with_below (with_below node below) left) client (level ∷ levels) now
moves_without node child next below left client level levels now there changes moves idle goes =
    let between = with_below node below in
    moved_same node between (with_below between left) client (level ∷ levels) now
    (moves_child node child next below client level levels now there changes moves)
    (same_without between (with_below between left) next level (here_kept between left)
    (below_is node below level ∙ changes.1) idle (below_changed between left level None goes))

-- one that says the same
pub stays_child : (node child next : Node) (below : Below) (level : List ℕ)
    → node_below node level ≡ Some child → ChangesAt level (out-Node node).below below (Some next)
    → SaysSame child next → SaysSame node (with_below node below)
stays_child node child next below level there changes same =
    same_child node (with_below node below) child next level (here_kept node below) there same
    (below_changed node below level (Some next) changes)

-- one where none was
pub moves_branch : (node next : Node) (below : Below) (client : ℕ) (level key : List ℕ)
    (levels : List (List ℕ)) (qos : Qos) → node_below node level ≡ None → key ≡ level
    → ChangesAt key (out-Node node).below below (Some next) → IsOne next client levels qos
    → Moves node (with_below node below) client (level ∷ levels) (Some qos)
moves_branch node next below client level key levels qos none key_is changes one =
    moved_branch node (with_below node below) next client level levels qos (here_kept node below) none
    (below_changed node below level (Some next)
    (subst (λ (k : List ℕ). ChangesAt k (out-Node node).below below (Some next)) key_is changes)) one

-- ---- the same entries

pub stays_here : (node : Node) (here : Here) → here.entries ≡ (out-Node node).here.entries
    → SaysSame node (with_here node here)
stays_here node here same =
    same_parts node (with_here node here)
    (λ n. ap (λ p. get nat_cmp p.here n) (out-roll-Node (here_parts node here))
    ∙ ap (lookup (is_at (nat_cmp n))) same)
    (λ level. ap (λ p. get_by (λ k. slice_cmp nat_cmp level k.items) p.below)
    (out-roll-Node (here_parts node here)))

stays_below : (node : Node) (below : Below) → below.entries ≡ (out-Node node).below.entries
    → SaysSame node (with_below node below)
stays_below node below same =
    same_parts node (with_below node below) (here_kept node below)
    (λ level. below_is node below level ∙ ap (lookup (is_at (λ k. slice_cmp nat_cmp level k.items))) same)

-- ---- a node whose map below was lent, and came back as it was

as_it_was : (node : Node) (back : Below) → back ≡ (out-Node node).below → with_below node back ≡ node
as_it_was node back same = ap (with_below node) same ∙ roll-out-Node node

pub stays_back : (node : Node) (back below : Below) → back ≡ (out-Node node).below
    → below.entries ≡ (out-Node (with_below node back)).below.entries
    → SaysSame node (with_below (with_below node back) below)
stays_back node back below same entries =
    let between = with_below node back in
    subst (λ first. SaysSame first (with_below between below)) (as_it_was node back same)
    (stays_below between below entries)

pub moves_back : (node next : Node) (back below : Below) (client : ℕ) (level key : List ℕ)
    (levels : List (List ℕ)) (qos : Qos) → back ≡ (out-Node node).below → node_below node level ≡ None
    → key ≡ level → ChangesAt key (out-Node (with_below node back)).below below (Some next)
    → IsOne next client levels qos
    → Moves node (with_below (with_below node back) below) client (level ∷ levels) (Some qos)
moves_back node next back below client level key levels qos same none key_is changes one =
    let between = with_below node back in
    let is = as_it_was node back same in
    subst (λ first. Moves first (with_below between below) client (level ∷ levels) (Some qos)) is
    (moves_branch between next below client level key levels qos
    (ap (λ first. node_below first level) is ∙ none) key_is changes one)
