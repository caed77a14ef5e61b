use Rattle.std.proofs.Common.{◌≡◌, ◌++◌, drop}
use Rattle.sng_core.specs.Refusing.{end_notes}
use Rattle.sng_core.proofs.RefusedPlaces.{notes_at, AreWithin}
use Rattle.sng_core.proofs.packets.ends.Given as goal

abbrev pub invariant-loop-place : goal.invariant-loop-place
invariant-loop-place l = record {
  within : AreWithin l.sessions (drop l.place-index l.places);
  notes : l.outs ++ notes_at l.filter l.sessions (drop l.place-index l.places)
      ≡ end_notes l.filter l.sessions;
}
