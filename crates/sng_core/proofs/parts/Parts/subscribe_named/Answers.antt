use Rattle.std.proofs.Common.{ap, sym, ◌∙◌}
use Rattle.sng_history.specs.Verdicts.{coverage, filter_in}
use Rattle.sng_core.specs.Forms.{client_at}
use Rattle.sng_core.proofs.SubscribeRows.{named_is}
use Rattle.sng_core.proofs.parts.Parts.subscribe_named.Goals as goal

pub returns-in_ok-room-in-Ok : goal.returns-in_ok-room-in-Ok
returns-in_ok-room-in-Ok c =
    let r = c.args.request.now in
    named_is c.args.self.now (client_at c.args.self.now.clients c.args.place) r c.in-Ok.filter
    c.id-id.result.now c.in_ok-covered-in-Ok.covered c.in_ok-room-in-Ok.room c.and_then-outcome.result
    (sym (ap (λ s. filter_in s.policy r.flags.id_type r.topic) c.self.view_is)
    ∙ (sym c.in_ok-filter.ensures ∙ c.in-Ok.is))
    c.and_then-outcome.ensures
    (c.in_ok-covered-in-Ok.ensures
    ∙ ap (λ s. coverage s.policy c.id-id.result.now c.in-Ok.filter) c.self.view_is)
    (c.id-id.ensures ∙ ap (λ s. (client_at s.clients c.args.place).id) c.self.view_is)
    c.in_ok-room-in-Ok.ensures
