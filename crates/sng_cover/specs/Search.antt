-- The least number that passes a test.
use Rattle.std.specs.Prelude.{ℕ, zero, suc, Bool, if◌then◌else◌, Some, None}
use Rattle.std.specs.declared.option.Option.{Option}

-- the first that passes of so many numbers, from the given one on
abbrev pub least : (ℕ → Bool) → ℕ → ℕ → Option ℕ
least passes zero number = None
least passes (suc more) number = if passes number then Some number else least passes more (suc number)
