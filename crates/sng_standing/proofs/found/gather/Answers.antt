use Rattle.std.proofs.Common.{sym, ap, ◌∙◌}
use Rattle.std.proofs.lemmas.Map.Iter.{rest_more, rest_all}
use Rattle.std.specs.BTreeMap.{get}
use Rattle.std.specs.Map.Iter.{deref_pair}
use Rattle.std.specs.Ordering.{nat_cmp}
use Rattle.sng_standing.proofs.Joins.{gathered, gathered_all}
use Rattle.sng_standing.proofs.found.gather.Goals as goal

pub loop-client-init : goal.loop-client-init
loop-client-init c = λ n.
    ap (λ es. gathered (get nat_cmp c.args.found.now n) es n)
    c.into_iter-client-iterator.ensures.into_iter_gives.0

pub loop-client-preserved : goal.loop-client-preserved
loop-client-preserved c = λ n.
    let first =
    rest_more deref_pair _ _ _ (c.in-Some.client, c.in-Some.qos) c.in-Some.is c.next.ensures.steps in
    ap (λ kept. gathered kept c.next.new.self n) (c.in_ok-raise.ensures n)
    ∙ sym (ap (λ es. gathered (get nat_cmp c.loop-client.found n) es n) first) ∙ c.loop-client.invariant n

pub returns : goal.returns
returns c = λ n.
    let over = rest_all deref_pair _ _ _ c.in-None.is c.next.ensures.steps in
    sym (ap (λ es. gathered (get nat_cmp c.loop-client.found n) es n) over) ∙ c.loop-client.invariant n
    ∙ gathered_all (get nat_cmp c.args.found.now n) c.args.holders.now.entries n
    c.into_iter-client-iterator.ensures.into_iter_gives.5
