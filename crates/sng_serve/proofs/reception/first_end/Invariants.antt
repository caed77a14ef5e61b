use Rattle.std.proofs.Common.{◌≤◌, take}
use Rattle.std.specs.Duration.{as_nanos}
use Rattle.sng_serve.specs.Visits.{IsWithin}
use Rattle.sng_serve.proofs.reception.first_end.Given as goal

abbrev pub invariant-loop-visit : goal.invariant-loop-visit
invariant-loop-visit l =
    (as_nanos l.end ≤ as_nanos l.fn.latest) × IsWithin l.end (take l.visit-index l.visits)
