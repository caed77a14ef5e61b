-- The clients at these places are all for whom the filter stands.
use Rattle.std.proofs.Common.{◌++◌, ◌∙◌, ap, sym, subst}
use Rattle.sng_core.proofs.RefusedPlaces.{notes_at, AreWithin, notes-all, all-within}
use Rattle.sng_core.proofs.packets.ends.Goals as goal

pub loop-place-init : goal.loop-place-init
loop-place-init c = record {
  within = subst (AreWithin c.args.sessions.now) (sym c.requires)
      (all-within c.args.filter.now c.args.sessions.now);
  notes = ap (λ outs. outs ++ notes_at c.args.filter.now c.args.sessions.now c.args.places.now)
      c.new-outs.ensures
      ∙ (ap (notes_at c.args.filter.now c.args.sessions.now) c.requires
      ∙ notes-all c.args.filter.now c.args.sessions.now);
}
