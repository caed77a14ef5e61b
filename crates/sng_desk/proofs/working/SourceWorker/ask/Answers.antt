use Rattle.std.proofs.Common.{refl, arith}
use Rattle.sng_desk.proofs.Lining.{grown_none, grown_on}
use Rattle.sng_desk.proofs.Going.{still, worked_none, worked_one}
use Rattle.sng_desk.proofs.working.SourceWorker.ask.Goals as goal

pub returns-in-Came-clause-worked : goal.returns-in-Came-clause-worked
returns-in-Came-clause-worked g c =
    let s = g.S.Source in
    let old = c.args.self.now in
    let e = c.in-Came.ensures in
    let new = c.serve.new.self in
    worked_one s.tells s.gave s.failures s.told s.passed old.source c.ask.new.self new.source
    old.hand.log.trail old.hand.share c.in-Came.event new.hand.log.trail new.hand.share
    e.given e.passed e.failures (rw c.room.ensures.same at c.serve.ensures.served)

pub returns-then-not-before-clause-worked : goal.returns-then-not-before-clause-worked
returns-then-not-before-clause-worked g c =
    let s = g.S.Source in
    let old = c.args.self.now in
    worked_none s.tells s.gave s.failures s.told s.passed old.source old.source old.hand.log.trail
    old.hand.share old.source old.source old.hand.log.trail old.hand.share (still s.tells s.gave old.source)
    (still s.told s.passed old.source) (omega arith) refl refl

pub returns-then-is_err-clause-worked : goal.returns-then-is_err-clause-worked
returns-then-is_err-clause-worked g c =
    let s = g.S.Source in
    let old = c.args.self.now in
    worked_none s.tells s.gave s.failures s.told s.passed old.source old.source old.hand.log.trail
    old.hand.share old.source old.source c.room.new.self.trail old.hand.share
    (still s.tells s.gave old.source) (still s.told s.passed old.source) (omega arith)
    c.room.ensures.same refl

pub returns-in-Nothing-clause-worked : goal.returns-in-Nothing-clause-worked
returns-in-Nothing-clause-worked g c =
    let s = g.S.Source in
    let old = c.args.self.now in
    let e = c.in-Nothing.ensures in
    worked_none s.tells s.gave s.failures s.told s.passed old.source old.source old.hand.log.trail
    old.hand.share c.ask.new.self c.ask.new.self c.room.new.self.trail old.hand.share e.given e.passed
    e.failures c.room.ensures.same refl

pub returns-in-Ended-clause-worked : goal.returns-in-Ended-clause-worked
returns-in-Ended-clause-worked g c =
    let s = g.S.Source in
    let old = c.args.self.now in
    let e = c.in-Ended.ensures in
    worked_none s.tells s.gave s.failures s.told s.passed old.source old.source old.hand.log.trail
    old.hand.share c.ask.new.self c.ask.new.self c.room.new.self.trail old.hand.share e.given e.passed
    e.failures c.room.ensures.same refl

pub returns-in-Failed-clause-worked : goal.returns-in-Failed-clause-worked
returns-in-Failed-clause-worked g c =
    let s = g.S.Source in
    let old = c.args.self.now in
    let e = c.in-Failed.ensures in
    worked_none s.tells s.gave s.failures s.told s.passed old.source old.source old.hand.log.trail
    old.hand.share c.ask.new.self c.ask.new.self c.room.new.self.trail old.hand.share e.given e.passed
    e.failures c.room.ensures.same refl

-- with nothing the worker goes on
pub returns-in-Nothing-clause-over : goal.returns-in-Nothing-clause-over
returns-in-Nothing-clause-over g c = tt

pub returns-in-Came-clause-line : goal.returns-in-Came-clause-line
returns-in-Came-clause-line g c =
    let s = g.S.Source in
    let old = s.line c.args.self.now.source in
    let mid = s.line c.ask.new.self in
    grown_on old mid (s.line c.serve.new.self.source) (grown_none old mid c.in-Came.ensures.line)
    c.serve.ensures.line

pub returns-then-not-before-clause-line : goal.returns-then-not-before-clause-line
returns-then-not-before-clause-line g c =
    let old = g.S.Source.line c.args.self.now.source in
    grown_none old old refl

pub returns-then-is_err-clause-line : goal.returns-then-is_err-clause-line
returns-then-is_err-clause-line g c =
    let old = g.S.Source.line c.args.self.now.source in
    grown_none old old refl

pub returns-in-Nothing-clause-line : goal.returns-in-Nothing-clause-line
returns-in-Nothing-clause-line g c =
    let s = g.S.Source in
    grown_none (s.line c.args.self.now.source) (s.line c.ask.new.self) c.in-Nothing.ensures.line

pub returns-in-Ended-clause-line : goal.returns-in-Ended-clause-line
returns-in-Ended-clause-line g c =
    let s = g.S.Source in
    grown_none (s.line c.args.self.now.source) (s.line c.ask.new.self) c.in-Ended.ensures.line

pub returns-in-Failed-clause-line : goal.returns-in-Failed-clause-line
returns-in-Failed-clause-line g c =
    let s = g.S.Source in
    grown_none (s.line c.args.self.now.source) (s.line c.ask.new.self) c.in-Failed.ensures.line
