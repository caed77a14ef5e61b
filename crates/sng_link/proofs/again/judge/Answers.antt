use Rattle.std.proofs.Common.{◌≡◌}
use Rattle.std.specs.Prelude.{slice_get, Some}
use Rattle.sng_outbox.specs.declared.in_flight.InFlight.{InFlight}
use Rattle.sng_link.proofs.Parting.{judged_more}
use Rattle.sng_link.proofs.again.judge.Goals as goal

pub loop-place-preserved : goal.loop-place-preserved
loop-place-preserved c =
    let sent : InFlight =
    record { packet_id = c.in-Some.packet_id; publication = c.in-Some.publication.now } in
    let there : slice_get c.args.outbox.now.sending.in_flight c.loop-place.place ≡ Some sent =
    c.in-Some.ensures in
    judged_more c.args.policy.now c.args.outbox.now.sending.in_flight c.loop-place.place c.args.outs.now
    c.loop-place.outs c.sent_again.new.outs c.loop-place.denied.items c.note_denied.new.denied.items
    c.loop-place.log.items c.note_denied.new.log.items sent c.in_ok-stays.stays c.loop-place.invariant there
    c.in_ok-stays.ensures.outs c.in_ok-stays.ensures.stays c.in_ok-note_denied.ensures.denied
    c.in_ok-note_denied.ensures.log
