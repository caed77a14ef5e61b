use Rattle.std.proofs.Common.{◌≡◌, true, false, sym, ◌∙◌}
use Rattle.sng_outbox.specs.Sending.{is_in_flight}
use Rattle.sng_history.specs.Links.{open_ids}
use Rattle.sng_link.proofs.Marks.{freed, none_freed}
use Rattle.sng_link.proofs.link.Link.acked.Goals as goal

pub invariant_of-self : goal.invariant_of-self
invariant_of-self c =
    let found : is_in_flight c.self.inside.outbox.sending.in_flight c.args.packet_id ≡ true =
    sym c.acked.ensures.found ∙ c.if-acked.true in
    rw (c.acked.ensures.rest, c.free.ensures) (
      freed c.self.inside.outbox.sending.in_flight (open_ids c.self.inside.wanted.wanted)
          c.self.inside.ids.marks c.args.packet_id c.self.invariant.0 found,
      c.self.invariant.1,
    )

pub invariant_of-self-else-acked : goal.invariant_of-self-else-acked
invariant_of-self-else-acked c =
    let none : is_in_flight c.self.inside.outbox.sending.in_flight c.args.packet_id ≡ false =
    sym c.acked.ensures.found ∙ c.if-acked.false in
    rw (c.acked.ensures.rest, none_freed c.self.inside.outbox.sending.in_flight c.args.packet_id none)
    c.self.invariant
