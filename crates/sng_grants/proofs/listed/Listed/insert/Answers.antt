use Rattle.std.proofs.Common.{◌≡◌, ◌+◌, ◌≤◌, sym, subst, ap, ◌∙◌, length, arith}
use Rattle.std.specs.List.Sorted.{IsStrictlySortedBy}
use Rattle.std.specs.Map.{keys_of}
use Rattle.sng_grants.specs.Listed.{entries_in}
use Rattle.sng_grants.proofs.OrderLemmas.{sorted-one, sorted-put, length-put, length-ok}
use Rattle.sng_grants.proofs.listed.Listed.insert.Goals as goal

pub invariant_of-self-in-None : goal.invariant_of-self-in-None
invariant_of-self-in-None g c =
    let only = c.in_ok-entries-in-None.ensures in
    (omega (arith, c.requires, ap length only), rw only (sorted-one g.K.Ord.cmp c.args.key))

pub invariant_of-self-in-Some : goal.invariant_of-self-in-Some
invariant_of-self-in-Some g c =
    let cmp = g.K.Ord.cmp in
    let total = g.met.K.Ord.total in
    let old = c.deref_mut.result.now.entries in
    let new = c.put.new.table.entries in
    let held = entries_in c.self.inside.entries (λ table. table.value.entries) in
    let same : held ≡ old =
    ap (λ boxed. entries_in boxed (λ table. table.value.entries)) c.in-Some.is
    ∙ ap (λ table. table.entries) (sym c.deref_mut.ensures.value) in
    let few : length new ≤ length old + 1 =
    length-put cmp total c.args.key c.args.value c.put.result old new c.put.ensures.ok
    c.put.ensures.err in (
      omega (arith, few, ap length same, ap length c.self.view_is, c.requires),
      sorted-put cmp total c.args.key c.args.value c.put.result old new c.put.ensures.ok c.put.ensures.err
          (subst (λ es. IsStrictlySortedBy cmp (keys_of es)) same c.self.invariant.1),
    )

pub returns-in-Some-clause-one_more : goal.returns-in-Some-clause-one_more
returns-in-Some-clause-one_more g c =
    let same =
    ap (λ table. table.entries) c.deref_mut.ensures.value
    ∙ ap (λ boxed. entries_in boxed (λ table. table.value.entries)) (sym c.in-Some.is)
    ∙ c.self.view_is in
    length-ok g.K.Ord.cmp g.met.K.Ord.total c.args.key c.args.value c.put.result
    c.deref_mut.result.now.entries c.put.new.table.entries c.args.self.now same c.put.ensures.ok
    c.put.ensures.err
