use Rattle.std.proofs.Common.{◌∙◌, ap, sym}
use Rattle.std.specs.Prelude.{is_some}
use Rattle.sng_core.proofs.ConnectingServed.{known_place}
use Rattle.sng_core.proofs.verdict.is_known.Goals as goal

pub returns : goal.returns
returns c =
    c.is_some.ensures ∙ (ap is_some c.find.ensures.place
    ∙ sym (known_place c.args.id.now c.args.sessions.now))
