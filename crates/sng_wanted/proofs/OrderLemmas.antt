-- The example of the order.
use Rattle.std.proofs.Common.{◌≡◌, true, refl}
use Rattle.std.specs.Str.{bytes_eq}
use Rattle.std.proofs.lemmas.Slice.Eq.{bytes_eq-Decides}
use Rattle.sng_wanted.specs.Laws.{FirstStandingDecides}

pub first_standing : FirstStandingDecides
first_standing f g differs turned =
    let same : bytes_eq f f ≡ true = (bytes_eq-Decides f f).1 refl in
    (simp (same, differs, turned) refl, simp (same, differs, turned) refl)
