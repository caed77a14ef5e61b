use Rattle.std.proofs.Common.{Ok, Err, ap}
use Rattle.sng_gateway.proofs.ArrivalLemmas.{arrival-asked, nothing-taken}
use Rattle.sng_gateway.proofs.broker.arrival.Goals as goal

pub returns-in-Ok-feed-clause-ok : goal.returns-in-Ok-feed-clause-ok
returns-in-Ok-feed-clause-ok c =
    arrival-asked c.args.stream.now c.feed.new.self c.feed-2.new.self c.args.piece.now c.in-Ok.packets.items
    (Ok c.in-Ok-feed.field-0.items) c.in-Ok.ensures.ok c.in-Ok-feed.ensures.ok

pub returns-in-Err-feed : goal.returns-in-Err-feed
returns-in-Err-feed c =
    let told = c.in-Err-feed.ensures.err (λ is. nothing-taken c.feed.new.self
    (c.in-Err-feed.ensures.memory (ap Err is)).1) in
    record {
      ok = arrival-asked c.args.stream.now c.feed.new.self c.feed-2.new.self c.args.piece.now
          c.in-Ok.packets.items (Err c.in-Err-feed.fault) c.in-Ok.ensures.ok told;
      err = tt;
    }
