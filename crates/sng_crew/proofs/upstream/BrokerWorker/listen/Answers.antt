use Rattle.sng_crew.proofs.Turns.{listened}
use Rattle.sng_crew.proofs.upstream.BrokerWorker.listen.Goals as goal

pub returns-clause-taken : goal.returns-clause-taken
returns-clause-taken g c =
    let u = g.U.Upstream in
    let d = g.D.Datagrams in
    let self = c.args.self.now in
    let fed = c.hear-packets.result in
    let said = c.answer-said.result in
    let mid = c.answer-said.new.hand in
    let end = c.down-told.new.hand in
    listened u.tells u.did d.tells d.passed c.args.terms.now self.stage self.stream c.hear-packets.new.stream
    self.up c.hear-packets.new.up c.settle-close.new.up self.sink c.send_all.new.sink self.hand.log.trail
    self.hand.share mid.log.trail mid.share end.log.trail end.share
    fed.packets.items fed.broken said.up said.stays said.greeted c.down-told.result c.count-from.result
    c.settle-close.result c.stage_next-self.result
    c.requires.connected c.count-from.ensures c.hear-packets.ensures.heard c.answer-said.ensures.answered
    (rw c.receipts_from.ensures at c.settle-close.ensures) c.down-told.ensures
    (rw c.receipts_from-2.ensures at c.send_all.ensures) c.stage_next-self.ensures.next
