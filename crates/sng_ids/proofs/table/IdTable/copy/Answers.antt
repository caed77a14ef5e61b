-- The names are inserted in their order, and each of them once.
use Rattle.std.proofs.Common.{◌≡◌, ◌∷◌, ◌++◌, sym, ap, ◌∙◌, rules}
use Rattle.sng_ids.proofs.CopyLemmas.{next-inserted}
use Rattle.sng_ids.proofs.table.IdTable.copy.Goals as goal

pub loop-name-preserved : goal.loop-name-preserved
loop-name-preserved c =
    let all = c.self.inside.names.entries in
    let before = c.loop-name.names.entries in
    let name = c.in-Some.name.now in
    let mark = c.in-Some.is_confirmed.now in
    let left : c.loop-name.rest ≡ (name, mark) ∷ c.next.new.self = search rules in
    let joined : before ++ (name, mark) ∷ c.next.new.self ≡ all =
    ap (λ rest. before ++ rest) (sym left) ∙ c.loop-name.invariant ∙ ap (λ t. t.ids) (sym c.self.view_is) in
    let inserted = next-inserted all before c.next.new.self name mark c.iter-rest.ensures.unique joined in
    rw (c.in_ok-insert.ensures.entries, c.in_ok-copy.ensures, ← c.self.view_is) inserted
