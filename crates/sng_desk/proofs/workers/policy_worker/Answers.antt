use Rattle.sng_desk.proofs.workers.policy_worker.Goals as goal

pub returns : goal.returns
returns g c =
    let e = c.work-rest.ensures.ended in
    let w = e.going.worked in
    record {
      going = record {
        trail = e.going.trail;
        handed = e.going.handed;
        worked = record {
          acts = w.acts;
          gives = record { told = w.gives.told; done = w.gives.done };
          sends = record { told = w.sends.told; done = w.sends.done };
          logs = w.logs;
          failures = w.failures;
        };
      };
      ends = e.ends;
      left_over = e.left_over;
    }
