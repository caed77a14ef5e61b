use Rattle.std.proofs.Common.{◌≡◌, ◌≤◌, sym, subst, ap, ◌∙◌, length}
use Rattle.std.specs.List.Sorted.{IsStrictlySortedBy}
use Rattle.std.specs.Map.{keys_of}
use Rattle.sng_grants.specs.Listed.{entries_in}
use Rattle.sng_grants.proofs.CopyLemmas.{kept-copies}
use Rattle.sng_grants.proofs.listed.ListedClone.clone.Goals as goal

pub invariant_of-result-in-Some : goal.invariant_of-result-in-Some
invariant_of-result-in-Some g c =
    let cmp = g.K.Ord.cmp in
    let held = entries_in c.self.inside.entries (λ table. table.value.entries) in
    let entries = c.deref.result.now.entries in
    let same : held ≡ entries =
    ap (λ boxed. entries_in boxed (λ table. table.value.entries)) c.in-Some.is
    ∙ ap (λ table. table.entries) (sym c.deref.ensures) in
    kept-copies g.V.Clone.is_clone cmp g.row.MOST entries c.in_ok-copy-in-Some.copy.value.entries
    c.in_ok-copy-in-Some.ensures
    (subst (λ es. (length es ≤ g.row.MOST) × IsStrictlySortedBy cmp (keys_of es)) same c.self.invariant)
