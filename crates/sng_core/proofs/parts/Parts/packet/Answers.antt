use Rattle.std.proofs.Common.{◌∙◌}
use Rattle.sng_core.proofs.Refusing.{packet_row}
use Rattle.sng_core.proofs.parts.Parts.packet.Goals as goal

pub returns-clause-outs : goal.returns-clause-outs
returns-clause-outs c = c.in_ok-outs.ensures.outs ∙ (packet_row c.args.self.now c.args.packet c.requires).outs

pub returns-clause-next : goal.returns-clause-next
returns-clause-next c = c.in_ok-outs.ensures.next ∙ (packet_row c.args.self.now c.args.packet c.requires).next
