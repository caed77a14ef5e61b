-- The next block is passed over.
use Rattle.std.proofs.Common.{◌<◌, rules, arith}
use Rattle.sng_sessions.specs.Dues.{time_at}
use Rattle.sng_sessions.proofs.DueLemmas.{quiet_on}
use Rattle.sng_sessions.proofs.dues.next_due.Goals as goal

pub loop-next-preserved : goal.loop-next-preserved
loop-next-preserved c =
    let here : c.args.clock < time_at c.args.times.now c.loop-next.next = search rules in record {
      after = omega (arith, c.loop-next.invariant.after, c.next_block-next.ensures.later);
      quiet =
          quiet_on c.args.times.now c.args.clock c.args.place c.loop-next.next c.next_block-next.result
          c.loop-next.invariant.quiet here c.next_block-next.ensures.same;
    }
