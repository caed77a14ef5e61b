-- As far as both go they are the same.
use Rattle.std.proofs.Common.{sym, ◌∙◌, arith}
use Rattle.sng_text.proofs.OrderLemmas.{over}
use Rattle.sng_text.proofs.order.ordered.Goals as goal

pub returns : goal.returns
returns c =
    c.cmp-2.ensures ∙ sym (over c.args.one.now c.args.two.now c.loop-at.at (omega arith)) ∙ c.loop-at.invariant
