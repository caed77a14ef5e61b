-- Who holds what below a node, read level by level (MQTT 3.1.1, 4.7.1.1).
use Rattle.std.specs.Prelude.{ℕ, Bool, ◌&&◌, ◌==◌, List, [], ◌∷◌, length, Some, None}
use Rattle.std.specs.declared.option.Option.{Option}
use Rattle.std.specs.Ordering.{nat_cmp}
use Rattle.std.specs.BTreeMap.{get, get_by}
use Rattle.std.specs.Cmp.Lexicographic.{slice_cmp}
use Rattle.sng_text.specs.Levels.{levels_of}
use Rattle.sng_text.specs.declared.qos.Qos.{Qos}
use Rattle.sng_standing.specs.declared.node.Node.{Node, out-Node}

-- at which QoS the client holds the filter that ends at the node, if it does
abbrev pub qos_here : Node → ℕ → Option Qos
qos_here node client = get nat_cmp (out-Node node).here client

-- the node that is one level further down
abbrev pub node_below : Node → List ℕ → Option Node
node_below node level = get_by (λ k. slice_cmp nat_cmp level k.items) (out-Node node).below

-- what is found in a node, where there is one
abbrev pub in_node : Option Node → (Node → Option Qos) → Option Qos
in_node None found = None
in_node (Some node) found = found node

-- the node that is found in a node, where there is one
abbrev pub on_node : Option Node → (Node → Option Node) → Option Node
on_node None found = None
on_node (Some node) found = found node

-- at which QoS the client holds the filter of these levels below the node, if it does
abbrev pub qos_left : Node → ℕ → List (List ℕ) → Option Qos
qos_left node client [] = qos_here node client
qos_left node client (level ∷ levels) =
    in_node (node_below node level) (λ child. qos_left child client levels)

-- the node at which the filter of these levels below the node ends, if there is one
abbrev pub node_left : Node → List (List ℕ) → Option Node
node_left node [] = Some node
node_left node (level ∷ levels) = on_node (node_below node level) (λ child. node_left child levels)

-- at which QoS the client holds the filter, given as its text, if it does
abbrev pub qos_at : Node → ℕ → List ℕ → Option Qos
qos_at root client filter = qos_left root client (levels_of filter)

-- nobody holds the filter that ends at the node, and no node is below
abbrev pub is_idle : Node → Bool
is_idle node = (length (out-Node node).here.entries == 0) && (length (out-Node node).below.entries == 0)
