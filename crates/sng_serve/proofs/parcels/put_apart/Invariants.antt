use Rattle.std.proofs.Common.{◌≡◌, ◌≢◌, ◌++◌, take}
use Rattle.std.specs.List.{All}
use Rattle.sng_desk.specs.Acts.{sends_in}
use Rattle.sng_serve.specs.Parcels.{couriers}
use Rattle.sng_serve.proofs.parcels.put_apart.Given as goal

abbrev pub invariant-loop-out : goal.invariant-loop-out
invariant-loop-out l = record {
  parts : l.parcels.items ≡ l.fn.parcels.items ++ couriers (sends_in (take l.out-index l.outs));
  free : All (λ p. p.1 ≢ l.held) (sends_in (take l.out-index l.outs));
}
