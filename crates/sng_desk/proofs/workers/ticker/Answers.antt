use Rattle.sng_desk.proofs.Lining.{cut_out}
use Rattle.sng_desk.proofs.workers.ticker.Goals as goal

pub returns-clause-ended : goal.returns-clause-ended
returns-clause-ended g c =
    let e = c.work-rest.ensures.ended in
    let w = e.going.worked in
    record {
      going = record {
        trail = e.going.trail;
        handed = e.going.handed;
        worked = record {
          acts = w.acts;
          gives = record { told = w.gives.told; done = w.gives.done };
          sends = record { told = w.sends.told; done = w.sends.done };
          logs = w.logs;
          failures = w.failures;
        };
      };
      ends = e.ends;
      left_over = e.left_over;
    }

pub returns-clause-volumes : goal.returns-clause-volumes
returns-clause-volumes g c =
    let v = g.V.Filing in
    let post = c.args.post in
    let cuts = c.work-rest.result.source.cuts in
    cut_out v.tells v.took post.first post.rows post.volume_filing cuts.filing cuts.volumes.items cuts.rows
    cuts.next c.over-volumes.result.1 c.over-volumes.result.0.items
    (rw (c.new.ensures.cut.0, c.new.ensures.cut.1, c.new.ensures.line.0, c.new.ensures.line.1) at
    c.work-rest.ensures.line) c.over-volumes.ensures.filed
