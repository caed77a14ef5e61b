use Rattle.std.proofs.Common.{sym, ◌∙◌}
use Rattle.sng_wanted.specs.Shown.{shown}
use Rattle.sng_wanted.proofs.OpenLemmas.{none_opened_of, alone_opened_of}
use Rattle.sng_wanted.proofs.owing.has_open.Goals as goal

pub returns-in-None : goal.returns-in-None
returns-in-None c = sym (none_opened_of (shown c.args.filters.now.entries) c.args.filter.now c.in-None.ensures)

pub returns-in-Some : goal.returns-in-Some
returns-in-Some c =
    let there = c.in-Some.ensures in
    c.is_some.ensures ∙ sym (alone_opened_of c.args.filters.now.entries c.args.filter.now c.in-Some.field-0-0
    c.in-Some.stand there.0 there.1)
