-- The clients that the tree has at the filter are those for whom it stands.
use Rattle.std.proofs.Common.{ap, ◌∙◌}
use Rattle.std.proofs.lemmas.Result.{IfOk-weaker}
use Rattle.sng_sessions.specs.Holding.{places_from}
use Rattle.sng_sessions.proofs.PlacesListed.{are-places}
use Rattle.sng_sessions.proofs.sessions.Sessions.holding.Goals as goal

pub returns : goal.returns
returns c =
    IfOk-weaker c.clients.result _ _
    (λ list are. are-places c.self.inside.standing _ c.args.filter.now list.items c.self.invariant.1.0 are
    ∙ ap (places_from 0 c.args.filter.now) c.self.view_is) c.clients.ensures
