use Rattle.std.proofs.Common.{ap, nat_lt}
use Rattle.sng_standing.specs.declared.node.Node.{out-Node}
use Rattle.sng_standing.proofs.Held.{held_by}
use Rattle.sng_standing.proofs.node.Node.is_held.Goals as goal

pub returns : goal.returns
returns c =
    held_by (out-Node c.args.self.now).here.entries (nat_lt 0 c.len.result) (ap (nat_lt 0) c.len.ensures.len)
