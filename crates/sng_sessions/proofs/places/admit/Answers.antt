-- Once the address is clear, the client settles there.
use Rattle.std.proofs.Common.{◌≡◌, true, length, sym, ap, ◌∙◌, subst}
use Rattle.std.specs.Str.{bytes_eq}
use Rattle.sng_sessions.specs.Dues.{WaitsBeside}
use Rattle.sng_sessions.specs.Places.{settled, stands_at, holds_at}
use Rattle.sng_sessions.proofs.Moves.{settled-entered, vacated-alone, session_by}
use Rattle.sng_sessions.proofs.DueLemmas.{entered-new}
use Rattle.sng_sessions.proofs.places.admit.Goals as goal

pub settle-requires-clause-alone : goal.settle-requires-clause-alone
settle-requires-clause-alone c =
    λ place. subst (λ xs. stands_at c.args.from xs place ≡ true
    → holds_at (λ x. bytes_eq c.args.connect.client_id x.id) xs place ≡ true)
    (sym c.vacate.ensures.clients) (vacated-alone c.args.clock c.args.from c.args.connect.client_id _ place)

pub returns-clause-clients : goal.returns-clause-clients
returns-clause-clients c =
    c.settle.ensures.clients
    ∙ ap (settled c.args.connect.client_id
    (session_by c.args.clock c.args.from c.args.connect c.phase_opened.result c.args.tables.ids c.args.tables.queue
    c.args.tables.filters c.open.new.wills c.new.result)) c.vacate.ensures.clients
    ∙ settled-entered c.args.clock c.args.from c.args.connect c.phase_opened.result c.args.tables.ids c.args.tables.queue
    c.args.tables.filters c.args.tables.wills c.open.new.wills c.new.result c.requires.none c.phase_opened.ensures
    c.open.ensures c.new.ensures _
    c.requires.new

pub returns-clause-beside : goal.returns-clause-beside
returns-clause-beside c =
    λ times waits. subst (WaitsBeside (length c.args.clients.now.entries) times)
    (sym (returns-clause-clients c))
    (entered-new times c.args.clock c.args.from c.args.connect c.args.clients.now.entries c.requires.new waits)
