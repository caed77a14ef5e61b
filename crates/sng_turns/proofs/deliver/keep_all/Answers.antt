-- One more is kept.
use Rattle.std.proofs.Common.{ap, sym, ◌∙◌}
use Rattle.sng_sessions.specs.Handed.{delivered}
use Rattle.sng_sessions.specs.Moving.{moved_at}
use Rattle.sng_turns.proofs.DeliverLemmas.{keep-more}
use Rattle.sng_turns.proofs.deliver.keep_all.Goals as goal

pub loop-one-preserved : goal.loop-one-preserved
loop-one-preserved c =
    let k = c.in-Some.one in
    c.deliver.ensures
    ∙ (ap (moved_at k.place (delivered c.args.clock k.message k.opens)) c.loop-one.invariant
    ∙ sym (keep-more c.args.clock c.loop-one.yielded k c.args.sessions.now))
