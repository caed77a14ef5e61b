use Rattle.sng_link.proofs.Parting.{Judged}
use Rattle.sng_link.proofs.again.judge.Given as goal

abbrev pub invariant-loop-place : goal.invariant-loop-place
invariant-loop-place l =
    Judged l.policy l.outbox.sending.in_flight l.place l.fn.outs l.outs l.denied.items l.log.items
