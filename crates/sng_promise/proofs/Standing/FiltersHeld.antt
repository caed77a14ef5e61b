-- The scopes of a policy hold topic filters.
use Rattle.std.proofs.Common.{ℕ, Bool, true, false, List, [], ◌∷◌}
use Rattle.std.specs.Prelude.{cond, not, Option, Some}
use Rattle.std.specs.Option.{option_map}
use Rattle.std.specs.Ordering.{nat_cmp}
use Rattle.std.specs.Cmp.Lexicographic.{slice_cmp}
use Rattle.std.specs.BTreeMap.{is_at}
use Rattle.sng_grants.specs.Sources.{grant_of, scope_of, is_reached, left_at}
use Rattle.sng_grants.specs.declared.grant.Grant.{Grant}
use Rattle.sng_grants.specs.declared.scope.Pair.{Pair}
use Rattle.sng_policy.specs.Laws.{HasFilters}

-- each of these scopes does
abbrev pub AllHave : List (List ℕ × Grant) → Type 0
AllHave [] = Unit {0}
AllHave (one ∷ listed) = HasFilters (Some one.1.scope) × AllHave listed

abbrev scope_in : Option Grant → Option (List Pair)
scope_in grant = option_map (λ g. g.scope) grant

found_by : (grant : Grant) (later : Option Grant) (b : Bool) → HasFilters (Some grant.scope)
    → HasFilters (scope_in later)
    → HasFilters (scope_in (cond b (Some grant) later))
found_by grant later true here rest = here
found_by grant later false here rest = rest

-- so the one that a look-up finds does
pub found_has : (listed : List (List ℕ × Grant)) (id : List ℕ) → AllHave listed
    → HasFilters (scope_of listed id)
found_has [] id all = tt
found_has (one ∷ listed) id all =
    found_by one.1 (grant_of listed id) (is_at (slice_cmp nat_cmp id) one.0) all.0 (found_has listed id all.1)

-- and so do those of them that have not ended
kept_have : (entry : List ℕ × Grant) (rest : List (List ℕ × Grant)) (b : Bool)
    → HasFilters (Some entry.1.scope) → AllHave rest → AllHave (cond b (entry ∷ rest) rest)
kept_have entry rest true here all = (here, all)
kept_have entry rest false here all = all

pub all_left : (clock : ℕ) (listed : List (List ℕ × Grant)) → AllHave listed
    → AllHave (left_at clock listed)
all_left clock [] all = tt
all_left clock (one ∷ listed) all =
    kept_have one (left_at clock listed) (not (is_reached clock one.1.until)) all.0
    (all_left clock listed all.1)
