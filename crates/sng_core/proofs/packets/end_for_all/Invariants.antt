use Rattle.std.proofs.Common.{◌≡◌, map, drop}
use Rattle.sng_history.specs.Clients.{without}
use Rattle.sng_core.proofs.RefusedPlaces.{ended_at}
use Rattle.sng_core.proofs.packets.end_for_all.Given as goal

abbrev pub invariant-loop-place : goal.invariant-loop-place
invariant-loop-place l =
    ended_at l.filter (drop l.place-index l.places) l.sessions ≡ map (without l.filter) l.initial.sessions
