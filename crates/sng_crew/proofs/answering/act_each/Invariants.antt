use Rattle.std.proofs.Common.{◌+◌, ◌≤◌, ◌≡◌, ◌++◌, List, length, map}
use Rattle.std.specs.Vec.Iter.{into_iter_items}
use Rattle.mqtt_frames.specs.declared.packet.Packet.{Packet}
use Rattle.sng_book.specs.declared.event.Event.TheVariants.{Broker}
use Rattle.sng_desk.specs.Acts.{Acted}
use Rattle.sng_crew.proofs.answering.act_each.Given as goal

abbrev pub invariant-loop-packet : goal.invariant-loop-packet
invariant-loop-packet g l = record {
  can : (goal.iterator-loop-packet g).can_next l.packet-iterator;
  finite : (goal.iterator-loop-packet g).is_finite l.packet-iterator;
  acted : (done : List Packet) × (done ++ into_iter_items l.packet-iterator ≡ l.fn.packets.items)
      × Acted (map (λ p. Broker p) done) l.fn.hand.log.trail l.fn.hand.share l.hand.log.trail l.hand.share
      l.fine
      × (l.fn.hand.log.spare ≤ l.hand.log.spare + length done);
}
