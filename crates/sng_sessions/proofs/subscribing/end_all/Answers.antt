-- The tree of filters says that the session holds nothing.
use Rattle.std.proofs.Common.{subst}
use Rattle.sng_sessions.proofs.KeptLemmas.{Clears, says-cleared}
use Rattle.sng_sessions.proofs.subscribing.end_all.Goals as goal

pub returns-clause-held : goal.returns-clause-held
returns-clause-held c =
    says-cleared c.args.standing.now c.end_client.new.self c.args.place c.args.filters.now
    (subst (Clears c.args.standing.now c.end_client.new.self c.args.place) c.filters.ensures.value
    c.end_client.ensures) c.requires
