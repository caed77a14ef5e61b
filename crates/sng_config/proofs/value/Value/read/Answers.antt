use Rattle.std.proofs.Common.{rules}
use Rattle.toml.specs.Parse.{atom}
use Rattle.sng_config.proofs.value.Value.read.Goals as goal

pub returns-in_err-value-clause-value : goal.returns-in_err-value-clause-value
unfolding atom
returns-in_err-value-clause-value c = search rules

pub returns-in_err-value-2-clause-value : goal.returns-in_err-value-2-clause-value
unfolding atom
returns-in_err-value-2-clause-value c = search rules

pub returns-in_ok-value-clause-value : goal.returns-in_ok-value-clause-value
unfolding atom
returns-in_ok-value-clause-value c = search rules

pub returns-in_ok-value-2-clause-value : goal.returns-in_ok-value-2-clause-value
unfolding atom
returns-in_ok-value-2-clause-value c = search rules
