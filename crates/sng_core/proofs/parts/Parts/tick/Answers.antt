use Rattle.std.proofs.Common.{sym}
use Rattle.sng_core.proofs.EndingRows.{ended_outs, ended_next_is, quiet_outs, quiet_next}
use Rattle.sng_core.proofs.parts.Parts.tick.Goals as goal

pub returns-then-ends_by-clause-outs : goal.returns-then-ends_by-clause-outs
returns-then-ends_by-clause-outs c =
    ended_outs c.args.self.now c.args.clock c.later-clock.result _ c.requires c.later-clock.ensures
    (sym c.if-ends_by.ensures) c.in_ok-ended.ensures.outs

pub returns-then-ends_by-clause-next : goal.returns-then-ends_by-clause-next
returns-then-ends_by-clause-next c =
    ended_next_is c.args.self.now c.args.clock c.later-clock.result _ c.requires c.later-clock.ensures
    (sym c.if-ends_by.ensures) c.in_ok-ended.ensures.next

pub returns-clause-outs : goal.returns-clause-outs
returns-clause-outs c =
    quiet_outs c.args.self.now c.args.clock c.later-clock.result _ c.requires c.later-clock.ensures
    (sym c.if-ends_by.ensures) c.in_ok-outs.ensures.outs

pub returns-clause-next : goal.returns-clause-next
returns-clause-next c =
    quiet_next c.args.self.now c.args.clock c.later-clock.result _ c.requires c.later-clock.ensures
    (sym c.if-ends_by.ensures) c.in_ok-outs.ensures.next
