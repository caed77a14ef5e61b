-- Which numbers are marked.
use Rattle.std.specs.Prelude.{ℕ, Bool, false, get_or}
use Rattle.sng_cover.specs.declared.marks.Marks.{Marks}

abbrev pub is_marked : Marks → ℕ → Bool
is_marked marks number = get_or marks.marks number false
