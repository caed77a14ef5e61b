use Rattle.std.proofs.Common.{◌≡◌, true, sym, ◌∙◌, arith}
use Rattle.sng_frames.specs.Parts.{topic_fits}
use Rattle.sng_frames.proofs.Spelling.{some-spelled}
use Rattle.sng_frames.proofs.Topics.{TopicFits-fits}
use Rattle.sng_frames.proofs.wire.encode.encode.Goals as goal

pub returns-in_err-write-clause-malformed : goal.returns-in_err-write-clause-malformed
returns-in_err-write-clause-malformed c =
    let fits : topic_fits c.args.frame.now ≡ true = sym c.topic_fits.ensures ∙ c.if-not-topic_fits.false in
    let failed = c.from_residual.ensures in (
      λ is. absurd (grind (arith, is, failed)),
      λ lacks. absurd
          (some-spelled c.args.frame.now c.write.ensures.in_range
          (TopicFits-fits c.args.frame.now fits) lacks),
    )

pub returns-clause-malformed : goal.returns-clause-malformed
returns-clause-malformed c =
    let fits : topic_fits c.args.frame.now ≡ true = sym c.topic_fits.ensures ∙ c.if-not-topic_fits.false in (
      λ is. absurd (let other = is in cc),
      λ lacks. absurd
          (some-spelled c.args.frame.now c.write.ensures.in_range
          (TopicFits-fits c.args.frame.now fits) lacks),
    )
