-- The entries are copied in their order, and each key is there once.
use Rattle.std.proofs.Common.{◌≡◌, [], ◌∷◌, ◌++◌, sym, ap, subst, ◌∙◌, append_assoc, rules}
use Rattle.sng_grants.specs.Listed.{AreCopies}
use Rattle.sng_grants.proofs.CopyLemmas.{next-copied}
use Rattle.sng_grants.proofs.listed.copy_of.Goals as goal

pub loop-key-preserved : goal.loop-key-preserved
loop-key-preserved g c =
    let all = c.args.table.now.entries in
    let before = c.loop-key.invariant.0 in
    let copies = c.loop-key.copy.entries in
    let key = c.in-Some.key.now in
    let value = c.in-Some.value.now in
    let left : c.loop-key.rest ≡ (key, value) ∷ c.next.new.self = search rules in
    let joined : before ++ (key, value) ∷ c.next.new.self ≡ all =
    ap (λ rest. before ++ rest) (sym left) ∙ c.loop-key.invariant.1 in
    let added = c.in_ok-add_copy.ensures in
    let are = next-copied g.V.Clone.is_clone g.K.PartialEq.eq g.met.K.Eq.laws all before copies
    c.next.new.self key value added.0 c.iter-rest.ensures.unique joined c.loop-key.invariant.2 added.1 in (
      before ++ (key, value) ∷ [],
      append_assoc before ((key, value) ∷ []) c.next.new.self ∙ joined,
      subst (AreCopies g.V.Clone.is_clone (before ++ (key, value) ∷ [])) (sym added.2) are,
    )
