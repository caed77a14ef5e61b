use Rattle.std.proofs.Common.{◌≡◌, drop}
use Rattle.sng_link.specs.Resending.{without_all}
use Rattle.sng_link.proofs.again.forget_all.Given as goal

abbrev pub invariant-loop-packet_id : goal.invariant-loop-packet_id
invariant-loop-packet_id l = record {
  left : without_all l.outbox.sending.in_flight (drop l.packet_id-index l.denied)
      ≡ without_all l.fn.outbox.sending.in_flight l.denied;
  waiting : l.outbox.sending.waiting ≡ l.fn.outbox.sending.waiting;
  places : l.outbox.places ≡ l.fn.outbox.places;
  flights : l.outbox.flights ≡ l.fn.outbox.flights;
}
