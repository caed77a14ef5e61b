use Rattle.std.proofs.Common.{sym}
use Rattle.sng_wanted.specs.Shown.{shown}
use Rattle.sng_wanted.proofs.OwedLemmas.{none_owed, alone_owed}
use Rattle.sng_wanted.proofs.wanted.Wanted.is_owed.Goals as goal

pub returns-in-None : goal.returns-in-None
returns-in-None c =
    rw (← c.self.view_is)
    (sym (none_owed (shown c.self.inside.filters.entries) c.args.filter.now c.in-None.ensures))

pub returns-in-Some : goal.returns-in-Some
returns-in-Some c =
    let there = c.in-Some.ensures in
    rw (← c.self.view_is) (sym (alone_owed c.self.inside.filters.entries c.args.filter.now
    c.in-Some.field-0-0 c.in-Some.stand there.0 there.1))
