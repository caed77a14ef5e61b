-- The insertion settles the client, and the look-ups follow.
use Rattle.std.proofs.Common.{sym, ap, ◌∙◌, subst, cond, Some, None, if◌then◌else◌}
use Rattle.indexmap.specs.IndexMap.{get}
use Rattle.sng_history.specs.Clients.{same_address}
use Rattle.sng_sessions.specs.Places.{presence_in, was_at, clients_of, Indexed}
use Rattle.sng_sessions.proofs.Looks.{distinct}
use Rattle.sng_sessions.proofs.Moves.{clients-insert, settled-indexed}
use Rattle.sng_sessions.proofs.places.settle.Goals as goal

pub returns-clause-clients : goal.returns-clause-clients
returns-clause-clients c =
    ap clients_of c.in-Ok.ensures.entries
    ∙ clients-insert c.args.id c.args.session c.args.clients.now.entries
    (distinct c.args.clients.now.entries c.len-count.ensures.unique)

pub returns-clause-indexed : goal.returns-clause-indexed
returns-clause-indexed c =
    let places = c.args.places.now in
    subst (λ entries. Indexed (get same_address c.insert.new.self) (clients_of entries))
    (sym c.in-Ok.ensures.entries)
    (settled-indexed c.args.id c.args.session
    (get same_address places) _ c.args.clients.now.entries c.requires.indexed
    (distinct c.args.clients.now.entries c.len-count.ensures.unique) c.requires.there c.requires.alone
    (λ from. c.in-Ok-insert.ensures.updates.0 from
    ∙ (λ i. cond (same_address c.args.session.presence.address from) (Some (c.in-Ok.ensures.index i))
    ((c.release.ensures.looks from
    ∙ ap (λ o. if was_at o from then None else get same_address places from)
    (c.presence_in.ensures ∙ ap presence_in c.in-Ok.ensures.old)) i))))
