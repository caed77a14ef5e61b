-- The tree of filters may go to another thread. A node leads back to itself, so what shows it of a node stands in
-- its `TheKnot`.
use denote.Param.Send.{IsSend, struct_send, recorded_send, view_send, sendable}
use denote.Struct.Declared.{shape}
use Rattle.std.proofs.Crossing.{crosses}
use Rattle.std.proofs.MapsCrossing as maps
use Rattle.sng_standing.proofs.node.Node.TheLaws.TheKnot as knot
use Rattle.sng_standing.specs.contracts.node.Node as Node
use Rattle.sng_standing.specs.contracts.standing.Standing as Standing
use Rattle.sng_standing.specs.contracts.standing.Standing.TheInside as standing

node_send : IsSend (Node.the_field).row
node_send = search (maps.crosses, crosses, knot.crosses, sendable) depth 60 fits 20000

standing_fields : IsSend (standing.the_field).row
standing_fields = struct_send (shape standing.the_type) (node_send, tt)

standing_inside : IsSend standing.the_row
standing_inside = recorded_send (standing.the_field).row (standing.the_type).D (standing.the_type).to
    (standing.the_type).to_one standing_fields

pub standing_send : IsSend Standing.the_row
standing_send = view_send standing.the_row _ _ _ _ standing_inside
