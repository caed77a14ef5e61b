use Rattle.std.proofs.Common.{ℕ, ap, subst, ◌∙◌}
use Rattle.std.proofs.lemmas.Result.{on_ok_weaker}
use Rattle.std.specs.Prelude.{OnOk}
use Rattle.sng_standing.specs.Found.{best_of}
use Rattle.sng_standing.specs.Greatest.{joined, greatest_at}
use Rattle.sng_standing.specs.Holders.{AreHolders}
use Rattle.sng_standing.proofs.Listed.{are_holders}
use Rattle.sng_standing.proofs.standing.Standing.holders.Goals as goal

pub returns : goal.returns
returns c =
    let root = c.self.inside.root in
    let name = c.args.name.now in
    let list = c.holders_of.new.list.items in
    let each = λ (n : ℕ). ap (λ found. best_of found n) c.as_slice.ensures.value ∙ c.in_ok-find.ensures n
    ∙ ap (λ found. joined (best_of found n) (greatest_at root n c.text.result.now))
    c.new-found.ensures.items
    ∙ ap (greatest_at root n) c.text.ensures.value in
    subst (λ tree. OnOk c.holders_of.result (AreHolders tree name list)) c.self.view_is
    (on_ok_weaker c.holders_of.result
    (λ are. are_holders root name c.as_slice.result.now list are each
    c.self.invariant c.text.ensures.name) c.holders_of.ensures)
