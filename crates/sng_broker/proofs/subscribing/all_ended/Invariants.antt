use Rattle.std.proofs.Common.{◌≡◌, drop}
use Rattle.sng_broker.specs.Steps.{all_ended}
use Rattle.sng_broker.proofs.subscribing.all_ended.Given as goal

abbrev pub invariant-loop-filter : goal.invariant-loop-filter
invariant-loop-filter l =
    all_ended l.conn l.standing.items (drop l.filter-index l.filters)
    ≡ all_ended l.conn l.initial.standing.items l.filters
