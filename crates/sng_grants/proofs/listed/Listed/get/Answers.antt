use Rattle.std.proofs.Common.{ap, sym, ◌∙◌}
use Rattle.std.specs.BTreeMap.{is_at}
use Rattle.std.specs.Map.{lookup}
use Rattle.sng_grants.specs.Listed.{entries_in}
use Rattle.sng_grants.proofs.OrderLemmas.{lookup-same}
use Rattle.sng_grants.proofs.listed.Listed.get.Goals as goal

pub returns-in-Some : goal.returns-in-Some
returns-in-Some g c =
    let here = is_at (g.K.Ord.cmp c.args.key.now) in
    c.found.ensures
    ∙ lookup-same (g.K.PartialEq.eq c.args.key.now) here (g.met.K.Ord.matches_eq c.args.key.now)
    c.deref.result.now.entries
    ∙ ap (λ table. lookup here table.entries) c.deref.ensures
    ∙ ap (λ held. lookup here (entries_in held (λ table. table.value.entries))) (sym c.in-Some.is)
    ∙ ap (lookup here) c.self.view_is
