-- The key is the client's id.
use Rattle.std.proofs.Common.{◌≡◌, sym, ap, ◌∙◌, subst}
use Rattle.std.specs.Map.Iter.{deref_pair}
use Rattle.std.specs.Option.{option_map}
use Rattle.sng_sessions.specs.Standing.{client_at}
use Rattle.sng_sessions.proofs.Moves.{key-there}
use Rattle.sng_sessions.proofs.sessions.Sessions.id.Goals as goal

pub returns : goal.returns
returns c =
    subst (λ xs. c.in-Some.id.now ≡ (client_at xs c.args.place).id) c.self.view_is
    (key-there c.self.inside.clients.entries c.args.place _
    (sym c.get_index.ensures.entry ∙ ap (option_map deref_pair) c.in-Some.is))
