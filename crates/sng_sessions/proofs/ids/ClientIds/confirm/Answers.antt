-- There are as many ids as before.
use Rattle.std.proofs.Common.{◌≡◌, length, ap, ◌∙◌, arith}
use Rattle.sng_sessions.proofs.IdLemmas.{length-confirmed}
use Rattle.sng_sessions.proofs.ids.ClientIds.confirm.Goals as goal

pub invariant_of-self : goal.invariant_of-self
invariant_of-self c =
    let size : length c.confirm.new.self.ids ≡ length c.self.inside.table.ids =
    ap length c.confirm.ensures.ids ∙ length-confirmed c.args.id _ in
    λ some.
    let before = c.self.invariant (omega (arith, size, some)) in
    omega (arith, before, size, c.confirm.ensures.spare)
