use Rattle.std.proofs.Common.{refl}
use Rattle.sng_desk.proofs.Lining.{grown_none, grown_on}
use Rattle.sng_desk.proofs.Wholes.{going_none, has_ended}
use Rattle.sng_desk.proofs.working.work.Goals as goal

pub loop-init : goal.loop-init
loop-init g c =
    let s = g.S.Source in
    let f = g.F.Filing in
    record {
      can = tt;
      finite = tt;
      going = rw (c.new-log.ensures, c.tag.ensures) (going_none s.tells s.gave s.failures s.told s.passed
          f.tells f.took c.args.source c.args.share c.args.filing);
      line = grown_none (s.line c.args.source) (s.line c.args.source) refl;
    }

pub loop-preserved : goal.loop-preserved
loop-preserved g c =
    let s = g.S.Source in
    record {
      can = tt;
      finite = tt;
      going = c.turn.ensures.going c.args.source c.args.share c.args.filing c.loop.invariant.going;
      line = grown_on (s.line c.args.source) (s.line c.loop.worker.source) (s.line c.turn.new.self.source)
          c.loop.invariant.line c.turn.ensures.line;
    }

pub returns-in-Over-clause-ended : goal.returns-in-Over-clause-ended
returns-in-Over-clause-ended g c =
    let s = g.S.Source in
    let f = g.F.Filing in
    let new = c.turn.new.self in
    let end = c.ended.result in
    let same = c.ended.ensures.same in
    rw (same.0, same.1, same.2) (has_ended s.tells s.gave s.failures s.has_ended s.told s.passed f.tells
    f.took f.handed_back c.args.source c.args.source c.args.share c.args.filing (g.G.Gate.may_stop
    c.args.gate.now) c.loop.worker.source new.source new.source new.hand.share new.filer.filing
    new.filer.place new.hand.log.trail end.filing end.rest c.in-Over.fault
    (c.turn.ensures.going c.args.source c.args.share c.args.filing c.loop.invariant.going)
    c.loop.invariant.going.worked.failures c.in-Over.ensures.over c.ended.ensures.off c.ended.ensures.left)

pub returns-in-Over-clause-line : goal.returns-in-Over-clause-line
returns-in-Over-clause-line g c =
    let s = g.S.Source in
    rw c.ended.ensures.same.0 (grown_on (s.line c.args.source) (s.line c.loop.worker.source)
    (s.line c.turn.new.self.source) c.loop.invariant.line c.turn.ensures.line)
