-- Once the address is clear, the client returns there.
use Rattle.std.proofs.Common.{◌≡◌, true, sym, ap, ◌∙◌, subst}
use Rattle.sng_history.specs.Clients.{let_in}
use Rattle.sng_sessions.specs.Dues.{WaitsBeside}
use Rattle.sng_sessions.specs.Kept.{Keeps}
use Rattle.sng_sessions.specs.Places.{clients_of, stands_at, is_place, moved_at, vacated}
use Rattle.sng_sessions.proofs.KeptLemmas.{keeps-same, filters-mapped}
use Rattle.sng_sessions.proofs.Looks.{distinct}
use Rattle.sng_sessions.proofs.Moves.{named-found, vacated-filters, vacated-sole, returned-entered}
use Rattle.sng_sessions.proofs.DueLemmas.{entered-known}
use Rattle.sng_sessions.proofs.places.readmit.Goals as goal

pub return_at-requires-clause-kept : goal.return_at-requires-clause-kept
return_at-requires-clause-kept c =
    let id = c.args.connect.now.client_id in
    subst (Keeps c.args.standing.now) (sym c.vacate.ensures.clients)
    (keeps-same c.args.standing.now (clients_of c.args.clients.now.entries) _
    (filters-mapped (vacated c.args.clock c.args.from id) (vacated-filters c.args.clock c.args.from id)
    (clients_of c.args.clients.now.entries)) c.requires.kept)

pub return_at-requires-clause-alone : goal.return_at-requires-clause-alone
return_at-requires-clause-alone c =
    let entries = c.args.clients.now.entries in
    let id = c.args.connect.now.client_id in
    let only =
    named-found id entries c.args.place (distinct entries c.len-count.ensures.unique) c.requires.place in
    λ other. subst (λ xs. stands_at c.args.from xs other ≡ true → is_place c.args.place other ≡ true)
    (sym c.vacate.ensures.clients)
    (vacated-sole c.args.clock c.args.from id (clients_of entries) c.args.place only other)

pub returns-clause-clients : goal.returns-clause-clients
returns-clause-clients c =
    let entries = c.args.clients.now.entries in
    let only =
    named-found c.args.connect.now.client_id entries c.args.place
    (distinct entries c.len-count.ensures.unique) c.requires.place in
    c.return_at.ensures.clients
    ∙ ap (moved_at c.args.place (let_in c.args.clock c.args.from c.args.connect.now)) c.vacate.ensures.clients
    ∙ returned-entered c.args.clock c.args.from c.args.connect.now (clients_of entries) c.args.place only

pub returns-clause-beside : goal.returns-clause-beside
returns-clause-beside c =
    let entries = c.args.clients.now.entries in
    let only =
    named-found c.args.connect.now.client_id entries c.args.place
    (distinct entries c.len-count.ensures.unique) c.requires.place in
    λ times waits. subst (WaitsBeside c.args.place times) (sym (returns-clause-clients c))
    (entered-known times c.args.clock c.args.from c.args.connect.now (clients_of entries) c.args.place only
    waits)
