use Rattle.std.proofs.Common.{◌≡◌, drop, length}
use Rattle.std.specs.Str.{bytes_eq}
use Rattle.sng_cover.specs.Candidates.{run}
use Rattle.sng_cover.proofs.runs.is_run.Given as goal

abbrev pub invariant-loop-byte : goal.invariant-loop-byte
invariant-loop-byte l =
    bytes_eq (run (length (drop l.byte-index l.level))) (drop l.byte-index l.level)
    ≡ bytes_eq (run (length l.level)) l.level
