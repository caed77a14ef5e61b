use Rattle.std.proofs.Common.{◌≡◌, rules, refl, ◌∙◌, ap}
use Rattle.std.specs.Duration.{as_nanos}
use Rattle.sng_serve.proofs.reception.Reception.accept.Goals as goal

pub returns-clause-come : goal.returns-clause-come
returns-clause-come c =
    let is_new = c.in_ok-visit.ensures in
    let time : as_nanos c.in_ok-visit.visit.end ≡ as_nanos c.saturating_add-end.result = ap as_nanos is_new.time in
    record {
      visit = c.in_ok-visit.visit;
      has_come = (
        record { stage = is_new.stage; octets = is_new.octets; written = is_new.written; time = refl },
        time ∙ search rules,
      );
      others = c.in_ok-push.ensures.items;
    }
