use Rattle.std.proofs.Common.{length}
use Rattle.sng_text.specs.Levels.{levels_left}
use Rattle.sng_standing.proofs.adding.+branch.Given as goal

abbrev pub decreases-branch : goal.decreases-branch
decreases-branch l = length (levels_left l.path)
