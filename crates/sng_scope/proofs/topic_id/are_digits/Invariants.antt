use Rattle.std.proofs.Common.{◌≡◌, drop}
use Rattle.sng_scope.specs.Numerals.{are_digits}
use Rattle.sng_scope.proofs.topic_id.are_digits.Given as goal

abbrev pub invariant-loop-byte : goal.invariant-loop-byte
invariant-loop-byte l = are_digits (drop l.byte-index l.text) ≡ are_digits l.text
