use Rattle.std.proofs.Common.{◌≡◌, take}
use Rattle.sng_core.specs.Connecting.{alone_in, held_beside}
use Rattle.sng_core.proofs.entry.alone_at.Given as goal

abbrev pub invariant-loop-held : goal.invariant-loop-held
invariant-loop-held l =
    l.alone.items ≡ alone_in (held_beside l.sessions l.place) (take l.held-index l.filters)
