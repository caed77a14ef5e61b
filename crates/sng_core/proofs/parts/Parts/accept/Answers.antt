use Rattle.std.proofs.Common.{List, ◌++◌, ◌-◌, length, ap, ◌∙◌}
use Rattle.sng_book.specs.declared.outcome.Outcome.TheVariants.{Allowed}
use Rattle.sng_history.specs.Clients.{Client}
use Rattle.sng_history.specs.Links.{Link}
use Rattle.sng_history.specs.Standing.{places_left}
use Rattle.sng_history.specs.State.{State}
use Rattle.sng_sessions.specs.Handed.{handed_by}
use Rattle.sng_core.specs.Forms.{at_place, moved_if, entered}
use Rattle.sng_core.specs.Connecting.{alone_by, let_go, own_outs, own_plan, accepted_outs, dropped_by}
use Rattle.sng_core.specs.Connecting.{connect_outs, connect_next}
use Rattle.sng_core.specs.contracts.parts.Parts.{the_view}
use Rattle.sng_core.proofs.parts.Parts.accept.Goals as goal

abbrev with_both : State → Link → List Client → State
with_both s link xs = record s { link = link; clients = xs }

pub returns-clause-next : goal.returns-clause-next
returns-clause-next c =
    let s : State = the_view c.self.inside in
    let connect = c.args.connect in
    let handed =
    c.in-Ok-entering.ensures.plan ∙ ap
    (λ place. own_plan s.policy connect (at_place s.clients place)) c.find-place.ensures.place in
    ap (λ link. with_both s link c.enter.new.sessions)
    (c.let_go.ensures ∙ (λ i. let_go (c.limits-limits.ensures i) (c.room.ensures.link i)
    (c.in_ok-alone.ensures i)))
    ∙ (ap (with_both s (let_go s.policy.limits s.link (alone_by connect s.clients))) (c.in-Ok-enter.ensures.ok
    ∙ (λ i. moved_if (c.find-place.ensures.place i) (handed_by s.clock (handed i))
    (entered s.clock c.args.from connect s.clients)))
    ∙ ap (λ t. connect_next t c.args.from connect Allowed) c.self.view_is)

pub returns-clause-outs : goal.returns-clause-outs
returns-clause-outs c =
    let s : State = the_view c.self.inside in
    let from = c.args.from in
    let connect = c.args.connect in
    let count =
    c.unplaced-dropped.ensures
    ∙ (λ i. length (c.in_ok-alone.ensures i) - places_left (c.limits-limits.ensures i) s.link) in
    c.in-Ok-of.ensures
    ∙ (c.in-Ok-entering.ensures.outs
    ∙ (ap (λ outs. outs ++ own_outs s.policy from connect (at_place s.clients c.find-place.result))
    (c.in-Ok.ensures ∙ ap (accepted_outs from connect.client_id s.clients) count)
    ∙ (ap (λ place. accepted_outs from connect.client_id s.clients (dropped_by s connect)
    ++ own_outs s.policy from connect (at_place s.clients place)) c.find-place.ensures.place
    ∙ ap (λ t. connect_outs t from connect Allowed) c.self.view_is)))
