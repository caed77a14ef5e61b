use Rattle.std.proofs.Common.{◌≡◌, ◌++◌, None}
use Rattle.mqtt_frames.proofs.PieceLemmas.{few_taken, waits_then, ready_from, waits_ready}
use Rattle.mqtt_frames.proofs.stream.Stream.feed.Goals as goal

pub invariant_of-self-in-None : goal.invariant_of-self-in-None
invariant_of-self-in-None c =
    let held = c.self.inside.held.items in
    let taken = c.in_ok-taken-in-Reading in
    let none : taken.taken.fault ≡ None = cc c.in-None.is in (
      ready_from c.self.inside.status c.take.new.held.items c.in-Reading.is
          (waits_then (held ++ c.args.piece.now) taken.taken.packets.items taken.taken.fault
          c.take.new.held.items taken.ensures.ok none),
      taken.ensures.missing,
    )

pub returns-in-None-clause-most : goal.returns-in-None-clause-most
returns-in-None-clause-most c =
    let held = c.self.inside.held.items in
    let taken = c.in_ok-taken-in-Reading in
    few_taken held c.args.piece.now taken.taken.packets.items taken.taken.fault c.take.new.held.items
    (waits_ready c.self.inside.status held c.in-Reading.is c.self.invariant.0) taken.ensures.ok

pub returns-else-is_empty-2-clause-most : goal.returns-else-is_empty-2-clause-most
returns-else-is_empty-2-clause-most c =
    let held = c.self.inside.held.items in
    let taken = c.in_ok-taken-in-Reading in
    few_taken held c.args.piece.now taken.taken.packets.items taken.taken.fault c.take.new.held.items
    (waits_ready c.self.inside.status held c.in-Reading.is c.self.invariant.0) taken.ensures.ok
