use Rattle.std.proofs.Common.{◌≤◌, vec_len}
use Rattle.std.specs.Io.KnownBytes.{Consumes}
use Rattle.sng_script.specs.declared.limits.TheConstants.{MAX_LINE}
use Rattle.sng_script.specs.Input.{IsWithinLine}
use Rattle.sng_script.proofs.input.read_to_end_of_line.Given as goal

abbrev pub invariant-loop : goal.invariant-loop
invariant-loop g l = record {
  fits : vec_len l.text ≤ MAX_LINE;
  within : IsWithinLine l.text.items;
  taken : Consumes (g.R.Read.remaining l.fn.reader) (g.R.Read.remaining l.reader) l.text.items;
}
