-- By which numbers the verbosities are kept.
use Rattle.std.specs.Prelude.{ℕ, ◌==◌, if◌then◌else◌}
use Rattle.sng_operator.specs.declared.verbosity.Verbosity.{Verbosity}
use Rattle.sng_operator.specs.declared.verbosity.Verbosity.TheVariants.{Off, Denials, On}

abbrev pub number_of : Verbosity → ℕ
number_of Off = 0
number_of Denials = 1
number_of On = 2

-- that with this number; of any other number all rows are printed
abbrev pub verbosity_of : ℕ → Verbosity
verbosity_of number = if number == 0 then Off else (if number == 1 then Denials else On)
