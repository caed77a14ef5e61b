use Rattle.std.proofs.Common.{true, ap, ◌∙◌}
use Rattle.sng_history.specs.State.{State}
use Rattle.sng_link.specs.Rooms.{LinkRoom}
use Rattle.sng_core.specs.Forms.{begun_next}
use Rattle.sng_core.specs.contracts.parts.Parts.{the_view}
use Rattle.sng_core.proofs.IdleRows.{begun}
use Rattle.sng_core.proofs.parts.Parts.begin_connection.Goals as goal

pub returns-clause-next : goal.returns-clause-next
returns-clause-next c =
    let s : State = the_view c.self.inside in
    ap (λ t. let u : State = record t { up = true } in u) (c.self-2.view_is ∙ c.drop_items.ensures)
    ∙ (begun s c.begin.new.self.link (ap (λ (l : LinkRoom). l.link) c.in_ok-outs.ensures.after)
    ∙ ap begun_next c.self.view_is)
