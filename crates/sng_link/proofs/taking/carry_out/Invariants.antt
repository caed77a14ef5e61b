use Rattle.std.proofs.Common.{◌≡◌, ◌++◌, drop, length}
use Rattle.sng_link.specs.Taking.{flights}
use Rattle.sng_link.proofs.taking.carry_out.Given as goal

abbrev pub invariant-loop-step : goal.invariant-loop-step
invariant-loop-step l = record {
  as_many : length (drop l.step-index l.plan) ≡ length l.outbox.sending.waiting;
  left : l.outbox.sending.in_flight ++ flights l.outbox.sending.waiting (drop l.step-index l.plan)
      ≡ l.fn.outbox.sending.in_flight ++ flights l.fn.outbox.sending.waiting l.plan;
  places : l.outbox.places ≡ l.fn.outbox.places;
  flights : l.outbox.flights ≡ l.fn.outbox.flights;
}
