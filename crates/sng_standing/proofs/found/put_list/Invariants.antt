use Rattle.std.proofs.Common.{◌≡◌, ◌++◌, map}
use Rattle.sng_standing.specs.Holders.{holder_of}
use Rattle.sng_standing.proofs.found.put_list.Given as goal

abbrev pub invariant-loop-client : goal.invariant-loop-client
invariant-loop-client l = l.list.items ++ map holder_of l.client-iterator ≡ map holder_of l.fn.found.entries
