use Rattle.std.proofs.Common.{rules}
use Rattle.sng_config.specs.Reading.{named}
use Rattle.sng_config.proofs.RefusalLemmas.{stops-rest}
use Rattle.sng_config.proofs.entry.name_at.Goals as goal

pub returns-then-first-eq91-clause-named : goal.returns-then-first-eq91-clause-named
unfolding named
returns-then-first-eq91-clause-named c = search rules

pub returns-in_err-key-clause-named : goal.returns-in_err-key-clause-named
unfolding named
returns-in_err-key-clause-named c = search rules

pub returns-in_err-name-clause-named : goal.returns-in_err-name-clause-named
unfolding named
returns-in_err-name-clause-named c = search (rules, stops-rest)

pub returns-clause-named : goal.returns-clause-named
unfolding named
returns-clause-named c = search rules
