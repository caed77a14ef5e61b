-- The session is that of the client at the place.
use Rattle.std.proofs.Common.{sym, ap, ◌∙◌, arith}
use Rattle.std.specs.Map.Iter.{deref_pair}
use Rattle.std.specs.Option.{option_map}
use Rattle.sng_sessions.specs.Dues.{is_due}
use Rattle.sng_sessions.proofs.DueLemmas.{holds-not, holds-none}
use Rattle.sng_sessions.proofs.dues.time_with.Goals as goal

pub returns-in-Some-clause-here : goal.returns-in-Some-clause-here
returns-in-Some-clause-here c =
    let found = sym c.get_index.ensures.entry ∙ ap (option_map deref_pair) c.in-Some.is in
    λ clock before. holds-not (is_due clock) c.args.clients.now.entries c.args.place _ found
    (λ id. c.due_at.ensures id clock (omega (arith, before, c.earlier.ensures.other)))

pub returns-in-None-clause-here : goal.returns-in-None-clause-here
returns-in-None-clause-here c =
    λ clock before. holds-none (is_due clock) c.args.clients.now.entries c.args.place
    (sym c.get_index.ensures.entry ∙ ap (option_map deref_pair) c.in-None.is)
