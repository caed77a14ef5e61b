use Rattle.std.proofs.Common.{ap, sym, ◌∙◌}
use Rattle.std.specs.Option.{option_copied}
use Rattle.sng_core.specs.Refusing.{packet_next}
use Rattle.sng_history.specs.Packets.{Refuses}
use Rattle.sng_history.specs.State.{State}
use Rattle.sng_core.specs.contracts.parts.Parts.{the_view}
use Rattle.sng_core.proofs.RefusedFilters.{nothing_open}
use Rattle.sng_core.proofs.parts.Parts.refuse.Goals as goal

pub returns-in_default-clause-next : goal.returns-in_default-clause-next
returns-in_default-clause-next c =
    let s : State = the_view c.self.inside in
    sym c.self.view_is
    ∙ (nothing_open s c.args.packet_id (sym c.filter_open.ensures ∙ ap option_copied c.in_default.is)
    ∙ ap (λ t. packet_next t (Refuses c.args.packet_id)) c.self.view_is)
