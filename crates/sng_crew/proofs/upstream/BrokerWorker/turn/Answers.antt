use Rattle.sng_desk.specs.Pieces.{piece_of}
use Rattle.sng_crew.proofs.Wholes.{going_off, going_on}
use Rattle.sng_crew.proofs.upstream.BrokerWorker.turn.Goals as goal

pub returns-clause-going : goal.returns-clause-going
returns-clause-going g c up sink share filing w =
    let u = g.U.Upstream in
    let d = g.D.Datagrams in
    let f = g.F.Filing in
    let old = c.args.self.now in
    let filer = c.offer.new.self in
    let trail = c.offer.new.log.trail in
    let new = c.go.new.self in
    rw c.go.ensures.filer (going_on u.tells u.did d.tells d.passed f.tells f.took c.args.terms.now up sink
    share filing old.stage old.stream old.up old.sink old.hand.share filer.filing filer.place trail new.stage
    new.stream new.up new.sink new.hand.log.trail new.hand.share
    (going_off u.tells u.did d.tells d.passed f.tells f.took c.args.terms.now up sink share filing old.stage
    old.stream old.up old.sink old.hand.share old.filer.filing (piece_of old.filer.place old.hand.log.trail)
    filer.filing (piece_of filer.place trail) c.offer.ensures w) c.go.ensures.went)
