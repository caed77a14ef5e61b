use Rattle.std.proofs.Common.{sym}
use Rattle.sng_wanted.specs.Shown.{shown}
use Rattle.sng_wanted.proofs.ShownLemmas.{none_id, alone_id}
use Rattle.sng_wanted.proofs.wanted.Wanted.open_id.Goals as goal

pub returns-in_err-stand : goal.returns-in_err-stand
returns-in_err-stand c =
    rw (c.from_residual.ensures, ← c.self.view_is)
    (sym (none_id (shown c.self.inside.filters.entries) c.args.filter.now c.in_err-stand.ensures))

pub returns : goal.returns
returns c =
    let there = c.in_ok-stand.ensures in
    rw (← c.self.view_is) (sym (alone_id c.self.inside.filters.entries c.args.filter.now
    c.in_ok-stand.field-0-0 c.in_ok-stand.stand there.0 there.1))
