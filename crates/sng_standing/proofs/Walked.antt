-- What is found at one level, added to what was found before.
use Rattle.std.proofs.Common.{◌≡◌, Option, Some, None, sym, ap, ◌∙◌}
use Rattle.sng_text.specs.declared.qos.Qos.{Qos}
use Rattle.sng_standing.specs.declared.node.Node.{Node}
use Rattle.sng_standing.specs.Tree.{in_node}
use Rattle.sng_standing.specs.Greatest.{joined}
use Rattle.sng_standing.proofs.Joins.{joined-none, joined-assoc}

-- the node is there, and was walked
pub found_child : (there : Option Node) (child : Node) (g : Node → Option Qos) (was now : Option Qos)
    → Some child ≡ there → now ≡ joined was (g child) → now ≡ joined was (in_node there g)
found_child there child g was now is found = found ∙ ap (λ x. joined was (in_node x g)) is

-- it is not there
pub found_none : (there : Option Node) (g : Node → Option Qos) (was : Option Qos)
    → None ≡ there → was ≡ joined was (in_node there g)
found_none there g was is = sym (joined-none was) ∙ ap (λ x. joined was (in_node x g)) is

-- first the level itself, then `+`, then `#`
pub found_level : (was first second third own any rest : Option Qos) → first ≡ joined was own
    → second ≡ joined first any → third ≡ joined second rest
    → third ≡ joined was (joined (joined own any) rest)
found_level was first second third own any rest first_is second_is third_is =
    third_is
    ∙ ap (λ x. joined x rest) (second_is ∙ ap (λ x. joined x any) first_is ∙ joined-assoc was own any)
    ∙ joined-assoc was (joined own any) rest
