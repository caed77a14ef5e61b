use Rattle.std.proofs.Common.{◌≡◌, ◌++◌, map}
use Rattle.std.specs.Vec.Iter.{into_iter_items}
use Rattle.sng_crew.proofs.starting.start_all.Given as goal

abbrev pub invariant-loop-post : goal.invariant-loop-post
invariant-loop-post g l = record {
  can : (goal.iterator-loop-post g).can_next l.post-iterator;
  finite : (goal.iterator-loop-post g).is_finite l.post-iterator;
  sources : map (λ h. h.promise.source.value) l.handles.items
      ++ map (λ p. p.source) (into_iter_items l.post-iterator) ≡ map (λ p. p.source) l.fn.posts.items;
  shares : map (λ h. h.promise.share.value) l.handles.items ++ map (λ p. p.share)
      (into_iter_items l.post-iterator) ≡ map (λ p. p.share) l.fn.posts.items;
  filings : map (λ h. h.promise.filing.value) l.handles.items ++ map (λ p. p.filing)
      (into_iter_items l.post-iterator) ≡ map (λ p. p.filing) l.fn.posts.items;
  stops : map (λ h. h.promise.may_stop) l.handles.items ++ map (λ p. l.may_stop)
      (into_iter_items l.post-iterator) ≡ map (λ p. l.may_stop) l.fn.posts.items;
}
