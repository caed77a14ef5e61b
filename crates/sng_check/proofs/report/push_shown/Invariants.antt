use Rattle.std.proofs.Common.{◌≡◌, ◌++◌, drop}
use Rattle.sng_check.specs.Reports.{shown}
use Rattle.sng_check.proofs.report.push_shown.Given as goal

abbrev pub invariant-loop-byte : goal.invariant-loop-byte
invariant-loop-byte l = l.text.items ++ shown (drop l.byte-index l.line) ≡ l.fn.text.items ++ shown l.line
