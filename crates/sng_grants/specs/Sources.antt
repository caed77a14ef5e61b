-- The grants of clients and of sources, each under its key, in the order of the keys: client ids, and IPv4
-- addresses of four numbers. A grant is a scope with the clock at which it ends, where it ends (RFC 9200, 5.8:
-- the end of a token).
use Rattle.std.specs.Prelude.{ℕ, Bool, false, not, nat_le, List, [], ◌∷◌, if◌then◌else◌, Some, None}
use Rattle.std.specs.Prelude.{option_map}
use Rattle.std.specs.List.{filter}
use Rattle.std.specs.declared.option.Option.{Option}
use Rattle.std.specs.Ordering.{nat_cmp}
use Rattle.std.specs.Cmp.Lexicographic.{slice_cmp}
use Rattle.std.specs.BTreeMap.{is_at, insert_entry}
use Rattle.std.specs.Map.{lookup}
use Rattle.sng_grants.specs.declared.scope.Pair.{Pair}
use Rattle.sng_grants.specs.declared.grant.Grant.{Grant}

-- a scope that never ends
abbrev pub endless : List Pair → Grant
endless pairs = record { scope = pairs; until = None }

-- the grant that a client or a source is listed with
abbrev pub grant_of : List (List ℕ × Grant) → List ℕ → Option Grant
grant_of listed key = lookup (is_at (slice_cmp nat_cmp key)) listed

-- the scope that a client or a source is listed with
abbrev pub scope_of : List (List ℕ × Grant) → List ℕ → Option (List Pair)
scope_of listed key = option_map (λ grant. grant.scope) (grant_of listed key)

-- the list with this client or source in it, in its place
abbrev pub with_grant : List (List ℕ × Grant) → List ℕ → Grant → List (List ℕ × Grant)
with_grant listed key grant = insert_entry (slice_cmp nat_cmp) listed key grant

-- the clock has reached the end
abbrev pub is_reached : ℕ → Option ℕ → Bool
is_reached clock None = false
is_reached clock (Some end) = nat_le end clock

-- what is left of the grants at a clock: those that have not ended
abbrev pub left_at : {K : Type 0} → ℕ → List (K × Grant) → List (K × Grant)
left_at clock listed = filter (λ entry. not (is_reached clock entry.1.until)) listed

-- the scope of a grant at a clock, unless it has ended
abbrev pub scope_left : ℕ → Grant → Option (List Pair)
scope_left clock grant = if is_reached clock grant.until then None else Some grant.scope

-- the sooner of two ends, where there are any
abbrev pub sooner : Option ℕ → Option ℕ → Option ℕ
sooner None other = other
sooner (Some end) None = Some end
sooner (Some end) (Some other) = if nat_le end other then Some end else Some other

-- the first end of the grants
abbrev pub first_end : {K : Type 0} → List (K × Grant) → Option ℕ
first_end [] = None
first_end (entry ∷ entries) = sooner entry.1.until (first_end entries)
