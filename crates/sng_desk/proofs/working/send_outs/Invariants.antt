use Rattle.std.proofs.Common.{◌≡◌, take, []}
use Rattle.sng_desk.specs.Acts.{Moves, sends_in}
use Rattle.sng_desk.proofs.working.send_outs.Given as goal

abbrev pub invariant-loop-out : goal.invariant-loop-out
invariant-loop-out g l = record {
  given : Moves g.S.Source.tells g.S.Source.gave l.fn.source l.source [];
  passed : Moves g.S.Source.told g.S.Source.passed l.fn.source l.source (sends_in (take l.out-index l.outs));
  failures : g.S.Source.failures l.source ≡ g.S.Source.failures l.fn.source;
  line : g.S.Source.line l.source ≡ g.S.Source.line l.fn.source;
}
