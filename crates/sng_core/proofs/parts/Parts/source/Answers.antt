use Rattle.std.proofs.Common.{◌∙◌}
use Rattle.sng_core.proofs.IdleRows.{source_row}
use Rattle.sng_core.proofs.parts.Parts.source.Goals as goal

pub returns-clause-next : goal.returns-clause-next
returns-clause-next c =
    c.in_ok-outs.ensures.next ∙ (source_row c.args.self.now c.args.from c.args.publish c.requires).next
