use Rattle.std.proofs.Common.{◌≡◌, ◌++◌, List}
use Rattle.sng_grants.specs.Listed.{AreCopies}
use Rattle.sng_grants.proofs.listed.copy_of.Given as goal

-- what was copied are the entries before the rest
abbrev pub invariant-loop-key : goal.invariant-loop-key
invariant-loop-key g l =
    (before : List (g.row.K.Denot × g.row.V.Denot)) × (before ++ l.rest ≡ l.fn.table.entries)
    × AreCopies g.V.Clone.is_clone before l.copy.entries
