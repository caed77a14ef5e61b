use Rattle.std.proofs.Common.{ap, sym, subst, ◌∙◌, Some}
use Rattle.sng_book.specs.declared.outcome.Outcome.TheVariants.{Allowed}
use Rattle.sng_history.specs.Links.{Link}
use Rattle.sng_link.specs.Rooms.{LinkRoom}
use Rattle.sng_core.specs.Forms.{client_at}
use Rattle.sng_core.specs.Subscribing.{stands_at, HasRoom}
use Rattle.sng_core.specs.contracts.parts.Parts.{the_view}
use Rattle.sng_core.proofs.SubscribeRows.{kept, subscribed_link, told_fits}
use Rattle.sng_core.proofs.parts.Parts.keep.Goals as goal

pub returns-clause-ok : goal.returns-clause-ok
returns-clause-ok c =
    kept (the_view c.self.inside) c.args.request.now c.args.place c.args.filter c.in_ok-item.item
    c.in_ok-name.name c.granted-qos.result _ _
    c.in_ok-item.ensures c.in_ok-name.ensures c.granted-qos.ensures
    (ap (λ (l : LinkRoom). l.link) c.subscribe-2.ensures
    ∙ ap (λ (link : Link). subscribed_link link c.in_ok-item.item) c.make_room.ensures.link)
    c.in_ok-subscribe.ensures.ok
    ∙ ap (λ s. stands_at s c.args.request.now c.args.place
    (record { filter = Some c.args.filter; outcome = Allowed })) c.self.view_is

pub subscribe-requires-clause-names : goal.subscribe-requires-clause-names
subscribe-requires-clause-names c =
    λ x is.
    let s = the_view c.self.inside in
    let has : HasRoom s (client_at s.clients c.args.place) c.args.request.now c.args.filter =
    subst (λ t. HasRoom t (client_at t.clients c.args.place) c.args.request.now c.args.filter)
    (sym c.self.view_is) c.requires in
    told_fits _ c.args.filter x (client_at s.clients c.args.place).ids has.ids (sym c.in_ok-name.ensures ∙ is)
