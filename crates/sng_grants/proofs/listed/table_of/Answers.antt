-- The keys of the tree are in order, so each entry goes behind those before it.
use Rattle.std.proofs.Common.{◌≡◌, [], ◌∷◌, ◌++◌, sym, ap, subst, ◌∙◌, append-nil, rules}
use Rattle.std.specs.List.Sorted.{IsStrictlySortedBy}
use Rattle.std.specs.Map.{keys_of}
use Rattle.sng_grants.proofs.TreeLemmas.{next-appended}
use Rattle.sng_grants.proofs.listed.table_of.Goals as goal

pub loop-key-preserved : goal.loop-key-preserved
loop-key-preserved g c =
    let left : c.loop-key.key-iterator ≡ (c.in-Some.key, c.in-Some.value) ∷ c.next.new.self = search rules in
    next-appended g.K.Ord.cmp g.met.K.Ord.total g.K.PartialEq.eq g.met.K.Ord.matches_eq
    c.args.entries.entries c.loop-key.table.entries c.loop-key.key-iterator c.next.new.self
    c.add.new.table.entries c.in-Some.key c.in-Some.value c.len.ensures.ordered c.loop-key.invariant left
    c.in_ok-add.ensures

pub returns-clause-same : goal.returns-clause-same
returns-clause-same g c =
    let table = c.loop-key.table.entries in
    let none : c.loop-key.key-iterator ≡ [] = search rules in
    ap (λ t. t.entries) c.in_ok-new.ensures.ok ∙ sym (append-nil table) ∙ ap (λ l. table ++ l) (sym none)
    ∙ c.loop-key.invariant

pub returns-clause-ordered : goal.returns-clause-ordered
returns-clause-ordered g c =
    subst (λ es. IsStrictlySortedBy g.K.Ord.cmp (keys_of es)) (sym (returns-clause-same g c))
    c.len.ensures.ordered
