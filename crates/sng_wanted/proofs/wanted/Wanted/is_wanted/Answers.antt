use Rattle.std.proofs.Common.{sym}
use Rattle.sng_wanted.proofs.ShownLemmas.{alone_wants}
use Rattle.sng_wanted.proofs.wanted.Wanted.is_wanted.Goals as goal

pub returns-in-Some : goal.returns-in-Some
returns-in-Some c =
    let there = c.in-Some.ensures in
    rw (← c.self.view_is) (sym (alone_wants c.self.inside.filters.entries c.args.filter.now
    c.in-Some.field-0.0 c.in-Some.field-0.1 there.0 there.1))
