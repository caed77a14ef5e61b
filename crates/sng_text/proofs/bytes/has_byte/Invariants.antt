use Rattle.std.proofs.Common.{◌≡◌, drop}
use Rattle.sng_text.specs.Texts.{has_byte}
use Rattle.sng_text.proofs.bytes.has_byte.Given as goal

abbrev pub invariant-loop-b : goal.invariant-loop-b
invariant-loop-b l = has_byte l.byte (drop l.b-index l.text) ≡ has_byte l.byte l.text
