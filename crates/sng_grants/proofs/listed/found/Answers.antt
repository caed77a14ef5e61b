use Rattle.std.proofs.Common.{sym, ap, ◌∙◌, cond, None, Some, arith}
use Rattle.sng_grants.proofs.OrderLemmas.{lookup-one}
use Rattle.sng_grants.proofs.listed.found.Goals as goal

pub returns-else-eq : goal.returns-else-eq
returns-else-eq g c =
    ap (λ b. cond b (Some c.in_ok-one.value.now) None) (sym (sym c.eq.ensures ∙ c.if-eq.false))
    ∙ sym (lookup-one (g.K.PartialEq.eq c.args.key.now) c.args.table.now.entries
    (c.in_ok-one.one.now, c.in_ok-one.value.now) (omega (arith, c.if-len-gt1.false, c.len.ensures.len))
    (sym c.in_ok-one.ensures.entry))
