use Rattle.std.proofs.Common.{◌≡◌, Bool, true, false, ap, cond, nat_lt, refl, ◌∙◌}
use Rattle.std.specs.Int.{from_bool}
use Rattle.sng_standing.specs.declared.node.Node.{out-Node}
use Rattle.sng_standing.proofs.Held.{held_beside}
use Rattle.sng_standing.proofs.node.Node.is_held_by_others.Goals as goal

as_number : (b : Bool) → from_bool b ≡ cond b 1 0
as_number true = refl
as_number false = refl

pub returns : goal.returns
returns c =
    let own = c.from-own.result in
    held_beside (out-Node c.args.self.now).here.entries c.args.client own (nat_lt own c.len.result)
    c.len.ensures.ordered
    (c.from-own.ensures ∙ as_number c.contains_key.result ∙ ap (λ b. cond b 1 0) c.contains_key.ensures)
    (ap (nat_lt own) c.len.ensures.len)
