use Rattle.sng_serve.specs.Visits.{HaveCome}
use Rattle.sng_serve.proofs.reception.Reception.accept_all.Given as goal

abbrev pub invariant-loop : goal.invariant-loop
invariant-loop l = HaveCome l.fn.now l.fn.self.visits.items l.self.visits.items
