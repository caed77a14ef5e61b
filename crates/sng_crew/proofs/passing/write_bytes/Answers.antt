use Rattle.std.proofs.Common.{◌++◌, [], arith, drop, take, sym}
use Rattle.std.specs.Prelude.{true, false}
use Rattle.std.proofs.lemmas.List.{append-nil, take-append-drop, take_rest}
use Rattle.sng_crew.proofs.Writing.{writes_on, writes_less, writes_one, writes_fail, take_join}
use Rattle.sng_crew.proofs.passing.write_bytes.Goals as goal

pub loop-at-preserved : goal.loop-at-preserved
loop-at-preserved g c =
    let u = g.U.Upstream in
    let at = c.loop-at.at in
    let bytes = c.args.bytes.now in
    let piece = take c.in-Took.n (drop at bytes) in
    let e = c.in-Took.ensures in
    record {
      within = omega (arith, e.taken);
      writes = rw (take_join at c.in-Took.n bytes) (writes_on u.tells u.did c.args.up.now c.loop-at.up
          c.write.new.self (take at bytes) piece true c.loop-at.invariant.writes
          (writes_one u.tells u.did c.loop-at.up c.write.new.self piece (rw (take_rest bytes at) at e.did)));
    }

pub returns-in_default : goal.returns-in_default
returns-in_default g c =
    let u = g.U.Upstream in
    let at = c.loop-at.at in
    let bytes = c.args.bytes.now in
    let e = c.in_default.ensures in
    writes_less u.tells u.did c.args.up.now c.write.new.self (take at bytes
    ++ []) (drop at bytes) bytes (rw (append-nil (take at bytes)) (sym (take-append-drop at bytes)))
    (writes_on u.tells u.did c.args.up.now c.loop-at.up c.write.new.self (take at bytes) [] false
    c.loop-at.invariant.writes (writes_fail u.tells u.did c.loop-at.up c.write.new.self e.did))
