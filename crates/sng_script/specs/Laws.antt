-- Laws of the lines of a script.
use Rattle.std.specs.Prelude.{◌≡◌, ℕ, ◌<◌, ◌^◌, Some}
use Rattle.std.specs.Fmt.{decimal}
use Rattle.sng_script.specs.Lines.{number_of, port_of}

-- each port is read from its decimal digits
abbrev pub PortsAreDecimal : Type 0
PortsAreDecimal = (port : ℕ) → port < 2 ^ 16 → port_of (decimal port) ≡ Some port

-- and each number of 64 bits
abbrev pub NumbersAreDecimal : Type 0
NumbersAreDecimal = (number : ℕ) → number < 2 ^ 64 → number_of (decimal number) ≡ Some number
