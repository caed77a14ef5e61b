use Rattle.sng_desk.specs.Pieces.{piece_of}
use Rattle.sng_desk.proofs.Wholes.{going_off, going_on}
use Rattle.sng_desk.proofs.working.SourceWorker.turn.Goals as goal

pub returns-clause-going : goal.returns-clause-going
returns-clause-going g c source share filing w =
    let s = g.S.Source in
    let f = g.F.Filing in
    let old = c.args.self.now in
    let filer = c.offer.new.self in
    let trail = c.offer.new.log.trail in
    let new = c.ask.new.self in
    rw c.ask.ensures.filer (going_on s.tells s.gave s.failures s.told s.passed f.tells f.took source source
    share filing old.source old.source old.hand.share filer.filing filer.place trail new.source new.source
    new.hand.log.trail new.hand.share
    (going_off s.tells s.gave s.failures s.told s.passed f.tells f.took source source share filing old.source
    old.source old.hand.share old.filer.filing (piece_of old.filer.place old.hand.log.trail) filer.filing
    (piece_of filer.place trail) c.offer.ensures w)
    c.ask.ensures.worked)
