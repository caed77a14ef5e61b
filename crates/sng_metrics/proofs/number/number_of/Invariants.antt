use Rattle.std.proofs.Common.{◌≡◌, ◌<◌, ◌^◌, drop}
use Rattle.sng_metrics.specs.Numbers.{digits_onto}
use Rattle.sng_metrics.proofs.number.number_of.Given as goal

abbrev pub invariant-loop-digit : goal.invariant-loop-digit
invariant-loop-digit l = record {
  fits : l.number < 2 ^ 64;
  read : digits_onto l.number (drop l.digit-index l.digits) ≡ digits_onto 0 l.digits;
}
