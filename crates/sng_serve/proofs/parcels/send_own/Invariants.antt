use Rattle.std.proofs.Common.{◌≡◌, ◌≤◌, take}
use Rattle.sng_desk.specs.Acts.{Moves, sends_in}
use Rattle.sng_serve.specs.Parcels.{own}
use Rattle.sng_serve.proofs.parcels.send_own.Given as goal

abbrev pub invariant-loop-out : goal.invariant-loop-out
invariant-loop-out g l = record {
  passed : Moves g.S.Sender.tells g.S.Sender.passed l.fn.sender l.sender
      (own l.is_shared (sends_in (take l.out-index l.outs)));
  unsent : g.S.Sender.unsent l.fn.sender ≤ g.S.Sender.unsent l.sender;
  failures : g.S.Sender.failures l.sender ≡ g.S.Sender.failures l.fn.sender;
}
