-- The greatest QoS among the filters that match a name, found level by level (MQTT 3.1.1, 4.7).
use Rattle.std.specs.Prelude.{ℕ, List, [], ◌∷◌, Some, None, if◌then◌else◌}
use Rattle.std.specs.declared.option.Option.{Option}
use Rattle.sng_fan.specs.Greatest.{greater}
use Rattle.sng_text.specs.Levels.{levels_of}
use Rattle.sng_text.specs.Matching.{is_reserved}
use Rattle.sng_text.specs.declared.qos.Qos.{Qos}
use Rattle.sng_standing.specs.declared.node.Node.{Node}
use Rattle.sng_standing.specs.Tree.{qos_here, node_below, in_node}

-- the greater of what was found in two places
abbrev pub joined : Option Qos → Option Qos → Option Qos
joined None other = other
joined (Some qos) None = Some qos
joined (Some qos) (Some other) = Some (greater qos other)

-- the QoS of the filter that goes on with `#` here, byte 35
abbrev pub rest_here : Node → ℕ → Option Qos
rest_here node client = in_node (node_below node (35 ∷ [])) (λ child. qos_here child client)

-- the greatest of those that match the levels of a name that are left; `+` is byte 43
abbrev pub greatest_left : Node → ℕ → List (List ℕ) → Option Qos
greatest_left node client [] = joined (qos_here node client) (rest_here node client)
greatest_left node client (level ∷ levels) =
    joined
    (joined (in_node (node_below node level) (λ child. greatest_left child client levels))
    (in_node (node_below node (43 ∷ [])) (λ child. greatest_left child client levels)))
    (rest_here node client)

-- of a name that begins with `$`: its first level is taken by no wildcard (4.7.2)
abbrev pub greatest_reserved : Node → ℕ → List (List ℕ) → Option Qos
greatest_reserved root client [] = None
greatest_reserved root client (level ∷ levels) =
    in_node (node_below root level) (λ child. greatest_left child client levels)

-- the greatest of those that match the name
abbrev pub greatest_at : Node → ℕ → List ℕ → Option Qos
greatest_at root client name =
    if is_reserved name
    then greatest_reserved root client (levels_of name)
    else greatest_left root client (levels_of name)
