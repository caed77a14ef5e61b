-- One more is settled.
use Rattle.std.proofs.Common.{◌≡◌, ◌+◌, ◌-◌, suc, ap, sym, ◌∙◌, arith}
use Rattle.sng_sessions.specs.Handed.{settled_times}
use Rattle.sng_sessions.proofs.handing.settle.Goals as goal

pub loop-turn-preserved : goal.loop-turn-preserved
loop-turn-preserved c =
    let left : c.args.count - c.loop-turn.turn ≡ suc (c.args.count - (c.loop-turn.turn + 1)) =
    omega (arith, c.loop-turn-test.true) in
    ap (settled_times (c.args.count - (c.loop-turn.turn + 1))) c.settle-settled.ensures.rest
    ∙ sym (ap (λ n. settled_times n c.loop-turn.queue) left)
    ∙ c.loop-turn.invariant
