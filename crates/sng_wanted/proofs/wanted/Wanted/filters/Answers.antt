use Rattle.std.proofs.Common.{◌++◌, map, sym, ap, ◌∙◌}
use Rattle.std.proofs.lemmas.List.{append-nil}
use Rattle.sng_history.specs.Links.{Wanted}
use Rattle.sng_wanted.proofs.ShownLemmas.{texts_shown, texts_more}
use Rattle.sng_wanted.proofs.wanted.Wanted.filters.Goals as goal

pub loop-filter-init : goal.loop-filter-init
loop-filter-init c = record {
  can_next = tt;
  is_finite = tt;
  copied = rw (c.in_ok-filters.ensures.items, ← c.self.view_is)
      (ap texts_shown (c.into_iter-filter-iterator.ensures.into_iter_gives
      ∙ c.iter-filter-items.ensures.rest));
}

pub loop-filter-preserved : goal.loop-filter-preserved
loop-filter-preserved c =
    let step = c.in-Some.ensures.steps in
    record {
      can_next = tt;
      is_finite = tt;
      copied = rw c.in_ok-copy_standing.ensures
          (texts_more (map (λ (w : Wanted). w.filter) c.args.self.now.wanted) c.loop-filter.filters.items
          c.in-Some.filter.now c.in-Some.want.now c.next.new.self
          (rw step at c.loop-filter.invariant.copied));
    }

pub returns : goal.returns
returns c =
    let none = c.in-None.ensures.steps.0 in
    sym (append-nil c.loop-filter.filters.items)
    ∙ ap (λ l. c.loop-filter.filters.items ++ texts_shown l) (sym none) ∙ c.loop-filter.invariant.copied
