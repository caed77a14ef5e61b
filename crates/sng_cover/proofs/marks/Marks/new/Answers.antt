use Rattle.std.proofs.Common.{◌+◌, ◌≡◌, ℕ, zero, suc, false, get_or, replicate, refl}
use Rattle.sng_text.specs.declared.limits.TheConstants.{MAX_FILTER}
use Rattle.sng_cover.proofs.marks.Marks.new.Goals as goal

none_marked : (count number : ℕ) → get_or (replicate count false) number false ≡ false
none_marked zero number = refl
none_marked (suc count) zero = refl
none_marked (suc count) (suc number) = none_marked count number

pub returns : goal.returns
returns c = none_marked (MAX_FILTER + 3)
