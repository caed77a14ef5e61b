use Rattle.std.proofs.Common.{inl, inr, refl}
use Rattle.sng_crew.proofs.upstream.BrokerWorker.go.Goals as goal

pub returns-then-open-clause-went : goal.returns-then-open-clause-went
returns-then-open-clause-went g c = inl (rw c.room.ensures.same at c.open.ensures.taken)

pub returns-in-Away-clause-went : goal.returns-in-Away-clause-went
returns-in-Away-clause-went g c = inl (rw c.room.ensures.same at c.open.ensures.taken)

pub returns-clause-went : goal.returns-clause-went
returns-clause-went g c = inl (rw c.room.ensures.same at c.listen.ensures.taken)

pub returns-in-Fallen-clause-went : goal.returns-in-Fallen-clause-went
returns-in-Fallen-clause-went g c = inr (refl, refl, refl, refl, refl, refl)

pub returns-then-has_given_up-clause-went : goal.returns-then-has_given_up-clause-went
returns-then-has_given_up-clause-went g c = inr (refl, refl, refl, refl, refl, refl)

pub returns-then-not-before-clause-went : goal.returns-then-not-before-clause-went
returns-then-not-before-clause-went g c = inr (refl, refl, refl, refl, refl, refl)

pub returns-then-is_err-clause-went : goal.returns-then-is_err-clause-went
returns-then-is_err-clause-went g c = inr (refl, refl, refl, refl, c.room.ensures.same, refl)
