use Rattle.std.proofs.Common.{rules}
use Rattle.sng_config.proofs.RefusalLemmas.{stops-name}
use Rattle.sng_config.proofs.entry.entry_at.Goals as goal

pub returns-in_err-name-clause-entry : goal.returns-in_err-name-clause-entry
returns-in_err-name-clause-entry c = search (rules, stops-name)
