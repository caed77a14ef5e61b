use Rattle.sng_check.proofs.Checked.{forgotten}
use Rattle.sng_check.proofs.checking.check.Goals as goal

pub returns : goal.returns
returns g c = forgotten _ _ _ _ _ c.print_check.ensures
