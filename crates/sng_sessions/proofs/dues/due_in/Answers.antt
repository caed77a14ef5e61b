-- The places of a block are as many from its first on; behind the last client there is none.
use Rattle.std.proofs.Common.{arith}
use Rattle.sng_sessions.specs.Dues.{is_due}
use Rattle.sng_sessions.proofs.DueLemmas.{holds-past}
use Rattle.sng_sessions.proofs.dues.due_in.Goals as goal

pub returns-then-count-block : goal.returns-then-count-block
returns-then-count-block c =
    λ place clock block before. holds-past (is_due clock) c.args.clients.now.entries place
    (omega (arith, block, c.len-count.ensures.len, c.if-count-block.true))

pub returns : goal.returns
returns c =
    λ place clock block before. c.due_from.ensures place clock (omega (arith, block)) (omega (arith, block)) before
