-- What is left of the array is zeros.
use Rattle.std.proofs.Common.{arith}
use Rattle.sng_text.specs.declared.kept.TheConstants.{MOST_SHORT}
use Rattle.sng_text.proofs.FrontLemmas.{zeros_behind}
use Rattle.sng_text.proofs.kept.short.Goals as goal

pub invariant_of-result : goal.invariant_of-result
invariant_of-result c =
    (omega arith, λ k l. rw c.copy_from_slice.ensures.after (zeros_behind c.args.text.now MOST_SHORT k l))
