-- The key is the client's id.
use Rattle.std.proofs.Common.{sym, ap, ◌∙◌}
use Rattle.std.specs.Map.Iter.{deref_pair}
use Rattle.std.specs.Option.{option_map}
use Rattle.sng_sessions.proofs.Moves.{named-key, named-none}
use Rattle.sng_sessions.proofs.places.is_named.Goals as goal

pub returns-in-Some : goal.returns-in-Some
returns-in-Some c =
    c.eq.ensures ∙ sym (named-key c.args.id.now c.args.clients.now.entries c.args.place _
    (sym c.get_index.ensures.entry ∙ ap (option_map deref_pair) c.in-Some.is))

pub returns-in-None : goal.returns-in-None
returns-in-None c =
    sym (named-none c.args.id.now c.args.clients.now.entries c.args.place
    (sym c.get_index.ensures.entry ∙ ap (option_map deref_pair) c.in-None.is))
