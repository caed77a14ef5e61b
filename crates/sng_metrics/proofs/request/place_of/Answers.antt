use Rattle.std.specs.Prelude.{◌==◌}
use Rattle.sng_metrics.proofs.PlaceLemmas.{place-some, place-none}
use Rattle.sng_metrics.proofs.request.place_of.Goals as goal

pub returns-in-Some-clause-place : goal.returns-in-Some-clause-place
returns-in-Some-clause-place c = place-some (λ b. b == c.args.byte) c.args.text.now c.in-Some.at c.in-Some.ensures

pub returns-in-None-clause-place : goal.returns-in-None-clause-place
returns-in-None-clause-place c = place-none (λ b. b == c.args.byte) c.args.text.now c.in-None.ensures
