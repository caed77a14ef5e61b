use Rattle.std.proofs.Common.{◌≡◌, ◌==◌, count_by, take}
use Rattle.sng_cover.proofs.shape.slash_count.Given as goal

abbrev pub invariant-loop-byte : goal.invariant-loop-byte
invariant-loop-byte l = l.count ≡ count_by (λ b. b == 47) (take l.byte-index l.text)
