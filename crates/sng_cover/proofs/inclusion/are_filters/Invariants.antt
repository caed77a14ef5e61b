use Rattle.std.proofs.Common.{◌≡◌, true, All, take}
use Rattle.sng_text.specs.Texts.{is_filter}
use Rattle.sng_cover.proofs.inclusion.are_filters.Given as goal

abbrev pub invariant-loop-filter : goal.invariant-loop-filter
invariant-loop-filter l = All (λ filter. is_filter filter ≡ true) (take l.filter-index l.filters)
