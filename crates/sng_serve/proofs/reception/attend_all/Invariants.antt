use Rattle.std.proofs.Common.{◌≡◌, ◌++◌, List, take, drop}
use Rattle.std.specs.List.{AllZip}
use Rattle.sng_serve.specs.Visits.{IsTurn}
use Rattle.sng_serve.specs.declared.visit.Visit.{Visit}
use Rattle.sng_serve.proofs.reception.attend_all.Given as goal

abbrev pub invariant-loop-visit : goal.invariant-loop-visit
invariant-loop-visit g l =
    (turned : List Visit)
    × AllZip (IsTurn l.fn.now) (take l.visit-index l.initial.visit-items) turned
    × (l.visit-items ≡ turned ++ drop l.visit-index l.initial.visit-items)
