use Rattle.std.proofs.Common.{◌+◌, ◌∙◌}
use Rattle.sng_text.specs.declared.limits.TheConstants.{MAX_FILTER}
use Rattle.sng_cover.proofs.Fresh.{take_run}
use Rattle.sng_cover.proofs.runs.fresh_level.Goals as goal

pub returns : goal.returns
returns c =
    λ granted are. take_run c.fresh_count.result (MAX_FILTER + 1) c.fresh_count.ensures.few
    ∙ c.fresh_count.ensures.value granted are
