use Rattle.std.proofs.Common.{arith, ◌≤◌, []}
use Rattle.std.proofs.lemmas.List.{append-nil}
use Rattle.sng_desk.specs.Acts.{Moves, sends_of}
use Rattle.sng_desk.proofs.Lining.{grown_none, grown_on}
use Rattle.sng_desk.proofs.Going.{moves_on, served}
use Rattle.sng_desk.proofs.working.SourceWorker.serve.Goals as goal

pub returns-clause-served : goal.returns-clause-served
returns-clause-served g c =
    let s = g.S.Source in
    let old = c.args.self.now in
    let hand = c.act-taken.new.self in
    let sent = c.send_all.new.source in
    let now = c.tend.new.self in
    let sends = sends_of c.receipts_from.result.now in
    let kept : s.failures old.source ≤ s.failures now = omega
    (arith, c.send_all.ensures.failures, c.tend.ensures.failures) in
    let given : Moves s.tells s.gave old.source now [] = moves_on s.tells s.gave old.source sent now [] []
    c.send_all.ensures.given c.tend.ensures.given in
    let passed : Moves s.told s.passed old.source now sends = rw (append-nil sends) at
    (moves_on s.told s.passed old.source sent now sends [] c.send_all.ensures.passed c.tend.ensures.passed) in
    served s.tells s.gave s.failures s.told s.passed c.args.event old.source now
    old.hand.log.trail old.hand.share hand.log.trail hand.share c.act-taken.result c.count-from.result
    c.count-from.ensures c.act-taken.ensures.acted given
    (rw c.receipts_from.ensures at passed) kept

pub returns-clause-line : goal.returns-clause-line
returns-clause-line g c =
    let s = g.S.Source in
    let old = s.line c.args.self.now.source in
    let sent = s.line c.send_all.new.source in
    grown_on old sent (s.line c.tend.new.self) (grown_none old sent c.send_all.ensures.line)
    c.tend.ensures.line
