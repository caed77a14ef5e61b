use Rattle.std.proofs.Common.{[], refl, true, false}
use Rattle.sng_crew.specs.declared.connection.Opening.TheVariants.{Made, Missed}
use Rattle.sng_crew.proofs.Turns.{none_left, opened}
use Rattle.sng_crew.proofs.upstream.BrokerWorker.open.Goals as goal

pub returns-in-NoneLeft-clause-taken : goal.returns-in-NoneLeft-clause-taken
returns-in-NoneLeft-clause-taken g c =
    let u = g.U.Upstream in
    let d = g.D.Datagrams in
    let self = c.args.self.now in
    none_left u.tells u.did d.tells d.passed c.args.terms.now self.stage self.stream self.up
    c.connect.new.self self.sink self.hand.log.trail self.hand.share c.requires.away
    c.in-NoneLeft.ensures.did

pub returns-in-Missed-clause-taken : goal.returns-in-Missed-clause-taken
returns-in-Missed-clause-taken g c =
    let u = g.U.Upstream in
    let d = g.D.Datagrams in
    let self = c.args.self.now in
    opened u.tells u.did d.tells d.passed c.args.terms.now self.stage self.stream self.stream self.up
    c.connect.new.self c.settle_bytes-close.new.up self.sink self.hand.log.trail self.hand.share Missed []
    false c.settle_bytes-close.result c.stage_next-self.result
    c.requires.away c.in-Missed.ensures.did c.settle_bytes-close.ensures refl refl refl
    (rw c.of_try.ensures at c.stage_next-self.ensures.next)

pub returns-in-Made-clause-taken : goal.returns-in-Made-clause-taken
returns-in-Made-clause-taken g c =
    let u = g.U.Upstream in
    let d = g.D.Datagrams in
    let self = c.args.self.now in
    opened u.tells u.did d.tells d.passed c.args.terms.now self.stage self.stream c.new.result self.up
    c.connect.new.self c.settle_bytes-close-in-Made.new.up self.sink self.hand.log.trail self.hand.share
    Made c.args.terms.now.greeting true c.settle_bytes-close-in-Made.result
    c.stage_next-self-in-Made.result
    c.requires.away c.in-Made.ensures.did (rw c.as_slice.ensures at c.settle_bytes-close-in-Made.ensures) refl
    refl c.new.ensures (rw c.of_try-in-Made.ensures at c.stage_next-self-in-Made.ensures.next)
