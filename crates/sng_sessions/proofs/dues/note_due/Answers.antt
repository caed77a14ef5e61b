-- The times follow as one client changed.
use Rattle.std.proofs.Common.{sym, ap, ◌∙◌, arith}
use Rattle.std.specs.Map.Iter.{deref_pair}
use Rattle.std.specs.Option.{option_map}
use Rattle.sng_sessions.specs.Dues.{is_due}
use Rattle.sng_sessions.specs.Places.{clients_of}
use Rattle.sng_sessions.proofs.DueLemmas.{waits-noted, holds-not, holds-none}
use Rattle.sng_sessions.proofs.dues.note_due.Goals as goal

pub returns-in-Some : goal.returns-in-Some
returns-in-Some c =
    let entries = c.args.clients.now.entries in
    let found = sym c.get_index.ensures.entry ∙ ap (option_map deref_pair) c.in-Some.is in
    waits-noted c.args.times.now.items c.lower.new.times.items (clients_of entries) c.args.place c.requires
    c.lower.ensures.others
    (λ clock before. holds-not (is_due clock) entries c.args.place _ found
    (λ id. c.due_at.ensures id clock (omega (arith, before, c.lower.ensures.own))))

pub returns-in_default : goal.returns-in_default
returns-in_default c =
    let entries = c.args.clients.now.entries in
    waits-noted c.args.times.now.items c.args.times.now.items (clients_of entries) c.args.place c.requires
    (λ block. omega arith)
    (λ clock before. holds-none (is_due clock) entries c.args.place
    (sym c.get_index.ensures.entry ∙ ap (option_map deref_pair) c.in_default.is))
