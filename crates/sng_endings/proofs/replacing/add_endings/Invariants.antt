use Rattle.std.proofs.Common.{◌≡◌, ◌++◌, drop}
use Rattle.sng_endings.specs.Replacing.{endings_by}
use Rattle.sng_endings.proofs.replacing.add_endings.Given as goal

abbrev pub invariant-loop-held : goal.invariant-loop-held
invariant-loop-held l =
    l.endings.items ++ endings_by l.policy l.place l.client (drop l.held-index l.held-items)
    ≡ l.initial.endings.items ++ endings_by l.policy l.place l.client l.held-items
