use Rattle.std.proofs.Common.{refl}
use Rattle.sng_desk.specs.Pieces.{no_line}
use Rattle.sng_desk.proofs.Lining.{grown_none}
use Rattle.sng_desk.proofs.events.LoaderSource.tend.Goals as goal

pub returns-clause-line : goal.returns-clause-line
returns-clause-line g c = grown_none no_line no_line refl
