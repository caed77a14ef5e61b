use Rattle.std.proofs.Common.{arith}
use Rattle.sng_crew.proofs.Wholes.{going_none, has_ended}
use Rattle.sng_crew.proofs.upstream.upstream_worker.Goals as goal

pub loop-init : goal.loop-init
loop-init g c =
    let u = g.U.Upstream in
    let d = g.D.Datagrams in
    let f = g.F.Filing in
    record {
      can = tt;
      finite = tt;
      below = omega arith;
      going = rw (c.new-log.ensures, c.tag.ensures, c.new.ensures) (going_none u.tells u.did d.tells d.passed
          f.tells f.took c.args.post.terms c.args.post.source c.args.post.sender c.args.post.share c.args.post.filing);
    }

pub loop-preserved : goal.loop-preserved
loop-preserved g c = record {
  can = tt;
  finite = tt;
  below = c.turn.ensures.below;
  going = c.turn.ensures.going c.args.post.source c.args.post.sender c.args.post.share c.args.post.filing c.loop.invariant.going;
}

pub returns-in-Over : goal.returns-in-Over
returns-in-Over g c =
    let u = g.U.Upstream in
    let d = g.D.Datagrams in
    let f = g.F.Filing in
    let new = c.turn.new.self in
    let same = c.ended.ensures.same in
    has_ended u.tells u.did d.tells d.passed u.has_ended f.tells f.took f.handed_back c.args.post.terms
    c.args.post.source c.args.post.sender c.args.post.share c.args.post.filing (g.G.Gate.may_stop c.args.gate.now) new.stage
    new.stream new.filer.filing new.filer.place new.hand.log.trail c.ended.result
    (rw (same.0, same.1, same.2) (c.turn.ensures.going c.args.post.source c.args.post.sender c.args.post.share c.args.post.filing
    c.loop.invariant.going)) (rw (same.0, same.3) c.in-Over.ensures.over) c.ended.ensures.off
    c.ended.ensures.left
