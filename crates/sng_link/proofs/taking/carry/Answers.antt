use Rattle.std.proofs.Common.{◌++◌, [], ◌∷◌}
use Rattle.sng_text.specs.declared.qos.Qos.TheVariants.{AtLeastOnce}
use Rattle.sng_outbox.specs.declared.in_flight.InFlight.{InFlight}
use Rattle.sng_link.specs.Flights.{ids_of, AreDistinct}
use Rattle.sng_link.proofs.Taken.{last_new}
use Rattle.sng_link.proofs.taking.carry.Goals as goal

pub track-requires-clause-new : goal.track-requires-clause-new
track-requires-clause-new c =
    let sent : InFlight =
    record {
      packet_id = c.in-AtLeastOnce-Some.packet_id;
      publication = record c.in-Publish.publication { qos = AtLeastOnce };
    } in
    let distinct : AreDistinct (ids_of (c.args.outbox.now.sending.in_flight ++ sent ∷ [])) =
    rw (c.in-Publish.is, c.in-AtLeastOnce-Some.is-0, c.in-AtLeastOnce-Some.is-1) at c.requires.distinct in
    last_new c.args.outbox.now.sending.in_flight sent distinct
