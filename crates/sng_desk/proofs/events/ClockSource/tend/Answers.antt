use Rattle.sng_desk.proofs.Lining.{grown_tended}
use Rattle.sng_desk.proofs.events.ClockSource.tend.Goals as goal

pub returns-clause-line : goal.returns-clause-line
returns-clause-line g c =
    let v = g.V.Filing in
    let old = c.args.self.now.cuts in
    let new = c.tend.new.self in
    grown_tended v.tells v.took old.rows old.next old.filing old.volumes.items new.rows new.next new.filing
    new.volumes.items c.tend.ensures.rows c.tend.ensures.tended
