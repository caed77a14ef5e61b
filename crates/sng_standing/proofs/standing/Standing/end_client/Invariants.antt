use Rattle.std.proofs.Common.{◌≡◌, ℕ, List, drop}
use Rattle.sng_standing.specs.Tree.{qos_at}
use Rattle.sng_standing.proofs.Ended.{ended}
use Rattle.sng_standing.proofs.standing.Standing.end_client.Given as goal

abbrev pub invariant-loop-one : goal.invariant-loop-one
invariant-loop-one l = (n : ℕ) (filter : List ℕ)
    → ended l.client (drop l.one-index l.held) n filter (qos_at l.self n filter)
    ≡ ended l.client l.held n filter (qos_at l.fn.self n filter)
