use Rattle.sng_states.proofs.OpenIdLemmas.{has_admitted, has_without}
use Rattle.sng_states.proofs.laws.ids_open_and_close.Goals as goal

pub returns-clause-admitted : goal.returns-clause-admitted
returns-clause-admitted c = has_admitted

pub returns-clause-closed : goal.returns-clause-closed
returns-clause-closed c = has_without
