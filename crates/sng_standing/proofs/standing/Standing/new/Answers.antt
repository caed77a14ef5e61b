use Rattle.sng_text.specs.Levels.{levels_of}
use Rattle.sng_standing.proofs.Filters.{bare_filters}
use Rattle.sng_standing.proofs.Moved.{idle_bare}
use Rattle.sng_standing.proofs.standing.Standing.new.Goals as goal

pub invariant_of-result : goal.invariant_of-result
invariant_of-result c = bare_filters c.new.result (idle_bare c.new.result c.new.ensures)

pub returns : goal.returns
returns c = λ client filter. idle_bare c.new.result c.new.ensures client (levels_of filter)
