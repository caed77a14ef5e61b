use Rattle.std.proofs.Common.{◌≡◌, [], length, refl, arith}
use Rattle.sng_wanted.proofs.OwedLemmas.{none_owed_first}
use Rattle.sng_wanted.proofs.PlaceLemmas.{indexed_none}
use Rattle.sng_wanted.proofs.wanted.Wanted.new.Goals as goal

pub invariant_of-result : goal.invariant_of-result
invariant_of-result c =
    let whole : length c.in_ok-vec.field-0.items ≡ 65536 = omega (arith, c.in_ok-vec.ensures.len) in
    let none : c.new.result.entries ≡ [] = c.new.ensures.empty in (
      indexed_none c.new.result.entries c.in_ok-vec.field-0.items none whole,
      rw none refl,
      rw none refl,
      omega arith,
      none_owed_first c.new.result.entries,
      omega arith,
      omega arith,
      c.new-2.ensures.empty,
      omega arith,
    )
