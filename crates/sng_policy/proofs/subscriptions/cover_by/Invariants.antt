use Rattle.std.proofs.Common.{take}
use Rattle.sng_cover.specs.Gathered.{Gathered}
use Rattle.sng_grants.specs.Scopes.{subscribed}
use Rattle.sng_policy.proofs.subscriptions.cover_by.Given as goal

abbrev pub invariant-loop-pair : goal.invariant-loop-pair
invariant-loop-pair l = Gathered l.question l.filter (subscribed (take l.pair-index l.pairs))
