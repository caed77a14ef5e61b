use Rattle.std.proofs.Common.{◌≡◌, true, false, sym, ap, ◌∙◌}
use Rattle.std.specs.List.{list_any}
use Rattle.sng_history.specs.Links.{is_open}
use Rattle.sng_link.specs.Flights.{link_of, ids_of}
use Rattle.sng_link.proofs.Wanting.{closed_marked, closed_closed, none_closed, some_copied}
use Rattle.sng_link.proofs.link.Link.subscribe_ack.Goals as goal

pub invariant_of-self : goal.invariant_of-self
invariant_of-self c =
    let found : list_any (is_open c.args.packet_id) c.self.inside.wanted.wanted ≡ true =
    sym (some_copied c.opened_by.result c.self.inside.wanted.wanted c.args.packet_id c.opened_by.ensures)
    ∙ sym c.is_some.ensures ∙ c.if-is_some.true in
    rw (c.close.ensures, c.free.ensures) (
      closed_marked (ids_of c.self.inside.outbox.sending.in_flight) c.self.inside.wanted.wanted
          c.args.packet_id c.self.inside.ids.marks found c.self.invariant.0,
      closed_closed c.self.inside.wanted.wanted c.args.packet_id c.self.invariant.1,
    )

pub returns-else-is_some : goal.returns-else-is_some
returns-else-is_some c =
    let none : list_any (is_open c.args.packet_id) c.self.inside.wanted.wanted ≡ false =
    sym (some_copied c.opened_by.result c.self.inside.wanted.wanted c.args.packet_id c.opened_by.ensures)
    ∙ sym c.is_some.ensures ∙ c.if-is_some.false in
    rw (← c.self.view_is) (ap (λ w. record {
      link =
          record (link_of c.self.inside.outbox.sending c.self.inside.ids c.self.inside.wanted.wanted
          c.self.inside.pinged) { wanted = w };
      places = c.self.inside.outbox.places;
      flights = c.self.inside.outbox.flights;
      filters = c.self.inside.wanted.room;
    }) (sym (none_closed c.self.inside.wanted.wanted c.args.packet_id none)))
