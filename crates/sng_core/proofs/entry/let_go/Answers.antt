use Rattle.std.proofs.Common.{ap, sym, ◌∙◌}
use Rattle.sng_core.specs.Connecting.{let_go_one}
use Rattle.sng_core.proofs.ReleasingLink.{let_go_more, one-place, rest-places}
use Rattle.sng_core.proofs.entry.let_go.Goals as goal

pub let_go_one-requires : goal.let_go_one-requires
let_go_one-requires c = one-place _ _ _ c.before.before.before.before.loop-filter.link c.in-Some.ensures.steps.0 c.loop-filter.invariant.room

pub loop-filter-preserved : goal.loop-filter-preserved
loop-filter-preserved c = record {
  link =
      c.let_go_one.ensures.link
      ∙ (ap (λ link. let_go_one c.args.limits link c.in-Some.filter) c.loop-filter.invariant.link
      ∙ sym (let_go_more c.args.limits c.args.link.now.link c.loop-filter.yielded c.in-Some.filter));
  room =
      c.let_go_one.ensures.room _
      (rest-places _ _ _ c.before.before.before.before.before.loop-filter.link c.in-Some.ensures.steps.0 c.loop-filter.invariant.room);
}
