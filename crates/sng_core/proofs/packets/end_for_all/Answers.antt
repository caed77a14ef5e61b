-- The clients at these places are all for whom the filter stood.
use Rattle.std.proofs.Common.{◌∙◌, ap}
use Rattle.sng_core.proofs.RefusedPlaces.{ended_at, ended-all}
use Rattle.sng_core.proofs.packets.end_for_all.Goals as goal

pub loop-place-init : goal.loop-place-init
loop-place-init c =
    ap (λ places. ended_at c.args.filter.now places c.args.sessions.now) c.requires
    ∙ ended-all c.args.filter.now c.args.sessions.now
