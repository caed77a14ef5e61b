use Rattle.std.proofs.Common.{◌≡◌, ◌≤◌, take, length}
use Rattle.sng_desk.specs.Acts.{sends_in}
use Rattle.sng_serve.proofs.parcels.datagrams_in.Given as goal

abbrev pub invariant-loop-out : goal.invariant-loop-out
invariant-loop-out l = record {
  count : l.count ≡ length (sends_in (take l.out-index l.outs));
  few : l.count ≤ l.out-index;
}
