-- What an iterator over levels has left to give.
use Rattle.std.specs.Prelude.{ℕ, List}
use Rattle.sng_text.specs.Levels.{levels_left}
use Rattle.sng_text.specs.declared.levels.Levels.{Levels}

abbrev pub levels_of_rest : Levels → List (List ℕ)
levels_of_rest s = levels_left s.text
