use Rattle.std.proofs.Common.{ℕ, ap, sym, ◌∙◌}
use Rattle.std.proofs.lemmas.Result.{on_ok_weaker}
use Rattle.std.specs.BTreeMap.{get}
use Rattle.std.specs.Ordering.{nat_cmp}
use Rattle.sng_standing.specs.Found.{best_of}
use Rattle.sng_standing.proofs.Joins.{joined-none}
use Rattle.sng_standing.proofs.Listed.{are_listed}
use Rattle.sng_standing.proofs.found.holders_of.Goals as goal

pub returns-in-Some : goal.returns-in-Some
returns-in-Some c =
    let found = c.args.found.now in
    let one = c.in-Some.one.now in
    let each = λ (n : ℕ). sym (joined-none (get nat_cmp one n))
    ∙ ap (λ found. best_of found n) (sym c.in-Some.ensures) in
    on_ok_weaker c.put_list.result
    (λ is. are_listed found one c.put_list.new.list.items is c.put_list.ensures.ordered each)
    c.put_list.ensures.list

pub returns-in_ok-together-in-None : goal.returns-in_ok-together-in-None
returns-in_ok-together-in-None c =
    let found = c.args.found.now in
    on_ok_weaker c.put_list-in-None.result
    (λ is. are_listed found c.in_ok-together-in-None.field-0 c.put_list-in-None.new.list.items is
    c.put_list-in-None.ensures.ordered c.in_ok-together-in-None.ensures) c.put_list-in-None.ensures.list
