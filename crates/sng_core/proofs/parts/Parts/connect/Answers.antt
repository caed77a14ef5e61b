use Rattle.std.proofs.Common.{◌∙◌}
use Rattle.sng_core.proofs.Connected.{connect_row}
use Rattle.sng_core.proofs.parts.Parts.connect.Goals as goal

pub returns-clause-outs : goal.returns-clause-outs
returns-clause-outs c =
    c.in_ok-outs.ensures.outs ∙ (connect_row c.args.self.now c.args.from c.args.connect c.requires.good).outs

pub returns-clause-next : goal.returns-clause-next
returns-clause-next c =
    c.in_ok-outs.ensures.next ∙ (connect_row c.args.self.now c.args.from c.args.connect c.requires.good).next
