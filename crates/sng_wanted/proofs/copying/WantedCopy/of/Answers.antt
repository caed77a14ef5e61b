use Rattle.std.proofs.Common.{◌++◌, sym, ap, ◌∙◌}
use Rattle.std.proofs.lemmas.List.{append-nil}
use Rattle.sng_wanted.specs.Shown.{shown}
use Rattle.sng_wanted.proofs.ShownLemmas.{copied_more}
use Rattle.sng_wanted.proofs.copying.WantedCopy.of.Goals as goal

pub loop-filter-init : goal.loop-filter-init
loop-filter-init c = record {
  can_next = tt;
  is_finite = tt;
  copied = rw c.in_ok-entries.ensures.items
      (ap shown (c.into_iter-filter-iterator.ensures.into_iter_gives ∙ c.iter-filter-items.ensures.rest));
}

pub loop-filter-preserved : goal.loop-filter-preserved
loop-filter-preserved c =
    let step = c.in-Some.ensures.steps in
    record {
      can_next = tt;
      is_finite = tt;
      copied = rw c.in_ok-copy_standing.ensures
          (copied_more (shown c.args.filters.now.entries) c.loop-filter.entries.items c.in-Some.filter.now
          c.in-Some.want.now c.next.new.self (rw step at c.loop-filter.invariant.copied));
    }

pub returns : goal.returns
returns c =
    let none = c.in-None.ensures.steps.0 in
    sym (append-nil c.loop-filter.entries.items)
    ∙ ap (λ l. c.loop-filter.entries.items ++ shown l) (sym none) ∙ c.loop-filter.invariant.copied
