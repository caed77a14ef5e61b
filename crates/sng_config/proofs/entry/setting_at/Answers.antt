use Rattle.std.proofs.Common.{rules}
use Rattle.sng_config.specs.Reading.{valued}
use Rattle.sng_config.proofs.entry.setting_at.Goals as goal

pub returns-then-matches-clause-valued : goal.returns-then-matches-clause-valued
unfolding valued
returns-then-matches-clause-valued c = search rules

pub returns-in_err-value-clause-valued : goal.returns-in_err-value-clause-valued
unfolding valued
returns-in_err-value-clause-valued c = search rules

pub returns-then-not-matches-clause-valued : goal.returns-then-not-matches-clause-valued
unfolding valued
returns-then-not-matches-clause-valued c = search rules

pub returns-in-Some-clause-valued : goal.returns-in-Some-clause-valued
unfolding valued
returns-in-Some-clause-valued c = search rules

pub returns-in-None-clause-valued : goal.returns-in-None-clause-valued
unfolding valued
returns-in-None-clause-valued c = search rules
