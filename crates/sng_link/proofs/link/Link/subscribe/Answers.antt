use Rattle.sng_link.proofs.Wanting.{open_with, closed_with}
use Rattle.sng_link.proofs.link.Link.subscribe.Goals as goal

pub invariant_of-self : goal.invariant_of-self
invariant_of-self c =
    rw (c.want.ensures, c.push.ensures) (
      rw (open_with c.self.inside.wanted.wanted c.args.copy) c.self.invariant.0,
      closed_with c.self.inside.wanted.wanted c.args.copy c.self.invariant.1,
    )
