use Rattle.std.proofs.Common.{◌≡◌, ◌≤◌, take}
use Rattle.sng_desk.specs.Acts.{Moves}
use Rattle.sng_serve.proofs.parcels.send_parcels.Given as goal

abbrev pub invariant-loop-parcel : goal.invariant-loop-parcel
invariant-loop-parcel g l = record {
  passed : Moves g.S.Sender.tells g.S.Sender.passed l.fn.sender l.sender (take l.parcel-index l.parcels);
  unsent : g.S.Sender.unsent l.fn.sender ≤ g.S.Sender.unsent l.sender;
  failures : g.S.Sender.failures l.sender ≡ g.S.Sender.failures l.fn.sender;
}
