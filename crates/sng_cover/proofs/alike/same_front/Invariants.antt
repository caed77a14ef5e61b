use Rattle.std.proofs.Common.{◌≡◌, ◌*◌, take}
use Rattle.sng_cover.proofs.alike.same_front.Given as goal

abbrev pub invariant-loop-step : goal.invariant-loop-step
invariant-loop-step l = take (8 * l.step) l.text ≡ take (8 * l.step) l.other
