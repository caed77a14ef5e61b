use Rattle.sng_core.proofs.Found.{here_within}
use Rattle.sng_core.proofs.entry.accepted_outs.Goals as goal

pub put_out-requires : goal.put_out-requires
put_out-requires c = here_within c.args.from c.args.sessions.now c.args.at c.requires
