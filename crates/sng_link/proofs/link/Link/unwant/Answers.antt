use Rattle.std.proofs.Common.{◌≡◌, Some, None, sym}
use Rattle.sng_wanted.specs.Filters.{id_for}
use Rattle.sng_link.specs.Flights.{ids_of}
use Rattle.sng_link.proofs.Wanting.{without_marked, closed_without}
use Rattle.sng_link.proofs.link.Link.unwant.Goals as goal

pub invariant_of-self : goal.invariant_of-self
invariant_of-self c =
    let id : id_for c.self.inside.wanted.wanted c.args.filter.now ≡ Some c.in-Some.packet_id =
    sym c.in-Some.ensures.open_id in
    let left =
    without_marked (ids_of c.self.inside.outbox.sending.in_flight) c.self.inside.wanted.wanted
    c.args.filter.now c.self.inside.ids.marks c.len-stand.ensures.once c.self.invariant.0 in
    rw (c.end.ensures.wanted, c.free.ensures)
    ((rw id at left), closed_without c.self.inside.wanted.wanted c.args.filter.now c.self.invariant.1)

pub invariant_of-self-in_default : goal.invariant_of-self-in_default
invariant_of-self-in_default c =
    let id : id_for c.self.inside.wanted.wanted c.args.filter.now ≡ None = sym c.in_default.ensures.open_id in
    let left =
    without_marked (ids_of c.self.inside.outbox.sending.in_flight) c.self.inside.wanted.wanted
    c.args.filter.now c.self.inside.ids.marks c.len-stand.ensures.once c.self.invariant.0 in
    rw c.end.ensures.wanted
    ((rw id at left), closed_without c.self.inside.wanted.wanted c.args.filter.now c.self.invariant.1)
