use Rattle.sng_fan.proofs.subscriptions.Subscriptions.filters.Goals as goal

pub returns-clause-once : goal.returns-clause-once
returns-clause-once c = rw (← c.self.view_is) c.self.invariant.0
