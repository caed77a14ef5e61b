use Rattle.std.proofs.Common.{arith, ◌≡◌, ◌≤◌, ◌-◌, length, refl}
use Rattle.std.proofs.lemmas.Grind.{common_steps}
use Rattle.sng_config.specs.Places.{place_at}
use Rattle.sng_config.proofs.RefusalLemmas.{placed}
use Rattle.sng_config.proofs.reading.fault_at.Goals as goal

pub returns-in-Memory : goal.returns-in-Memory
returns-in-Memory c = rw c.in-Memory.is refl

pub returns-in-At : goal.returns-in-At
returns-in-At c =
    let text = c.args.text.now in
    let start = c.args.start.now in
    let left = c.in-At.left in
    let kept = c.min-left.result in
    let is : c.of.result ≡ place_at text (length text - kept) = rw c.as_bytes.ensures.value at c.of.ensures in
    let less : kept ≤ length start = grind (arith, common_steps) in
    let same : left ≡ length start → kept ≡ length start = λ e. grind (arith, common_steps) in
    rw c.in-At.is (
      c.of.result,
      refl,
      λ here. placed c.in-At.cause text start left kept c.of.result c.requires
          less same is here,
    )
