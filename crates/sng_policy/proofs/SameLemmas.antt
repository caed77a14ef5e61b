-- Scopes that are the same are equal.
use Rattle.std.proofs.Common.{◌≡◌, ℕ, Bool, ◌&&◌, List, Some, None, refl, ap, ap₂}
use Rattle.std.proofs.lemmas.Bool.{and_parts, and_from}
use Rattle.std.proofs.lemmas.Slice.Eq.{bytes_eq-Decides, slice_eq-Decides}
use Rattle.std.specs.Bool.{beq, Decides}
use Rattle.std.specs.Cmp.{booleans_Decides, unsigned_Decides}
use Rattle.std.specs.Cmp.Lexicographic.{pointwise}
use Rattle.std.specs.Str.{bytes_eq}
use Rattle.std.specs.declared.option.Option.{Option}
use Rattle.sng_grants.specs.Sources.{grant_of}
use Rattle.sng_grants.specs.declared.policy.Policy.{Policy}
use Rattle.sng_grants.specs.declared.grant.Grant.{Grant}
use Rattle.sng_grants.specs.declared.scope.Pair.{Pair}
use Rattle.sng_policy.specs.Grants.{same_pair, same_end, same_grant, same_grants, same_scope}

abbrev both : Bool → Bool → Bool × Bool
both publishes subscribes = (publishes, subscribes)

-- a pair has its filter and its permissions, and nothing else
abbrev made : List ℕ → Bool × Bool → Pair
made filter permissions = record { filter = filter; publishes = permissions.0; subscribes = permissions.1 }

same_pair-Decides : (pair other : Pair) → Decides (same_pair pair other) (pair ≡ other)
same_pair-Decides pair other = (
  λ is.
      let filter =
      and_parts (bytes_eq pair.filter other.filter)
      (beq pair.publishes other.publishes && beq pair.subscribes other.subscribes) is in
      let permissions =
      and_parts (beq pair.publishes other.publishes) (beq pair.subscribes other.subscribes) filter.1 in
      let filters : pair.filter ≡ other.filter = (bytes_eq-Decides pair.filter other.filter).0 filter.0 in
      let publishes : pair.publishes ≡ other.publishes =
      (booleans_Decides pair.publishes other.publishes).0 permissions.0 in
      let subscribes : pair.subscribes ≡ other.subscribes =
      (booleans_Decides pair.subscribes other.subscribes).0 permissions.1 in
      ap₂ made filters (ap₂ both publishes subscribes),
  λ is.
      and_from _ _ ((bytes_eq-Decides pair.filter other.filter).1 (ap (λ (p : Pair). p.filter) is))
      (and_from _ _ ((booleans_Decides pair.publishes other.publishes).1 (ap (λ (p : Pair). p.publishes) is))
      ((booleans_Decides pair.subscribes other.subscribes).1 (ap (λ (p : Pair). p.subscribes) is))),
)

same_end-Decides : (end other : Option ℕ) → Decides (same_end end other) (end ≡ other)
same_end-Decides None None = (λ is. refl, λ is. refl)
same_end-Decides None (Some other) = (λ is. absurd (cc), λ is. absurd (cc))
same_end-Decides (Some end) None = (λ is. absurd (cc), λ is. absurd (cc))
same_end-Decides (Some end) (Some other) = (
  λ is. ap Some ((unsigned_Decides end other).0 is),
  λ is. let equal : end ≡ other = cc in (unsigned_Decides end other).1 equal,
)

-- a grant has its scope and its end, and nothing else
abbrev grant_made : List Pair → Option ℕ → Grant
grant_made scope until = record { scope = scope; until = until }

same_grant-Decides : (grant other : Grant) → Decides (same_grant grant other) (grant ≡ other)
same_grant-Decides grant other = (
  λ is.
      let parts =
      and_parts (pointwise same_pair grant.scope other.scope) (same_end grant.until other.until) is in
      let scopes : grant.scope ≡ other.scope =
      (slice_eq-Decides same_pair-Decides grant.scope other.scope
      (pointwise same_pair grant.scope other.scope) refl).0 parts.0 in
      let ends : grant.until ≡ other.until = (same_end-Decides grant.until other.until).0 parts.1 in
      ap₂ grant_made scopes ends,
  λ is.
      and_from _ _ ((slice_eq-Decides same_pair-Decides grant.scope other.scope
      (pointwise same_pair grant.scope other.scope) refl).1 (ap (λ (g : Grant). g.scope) is))
      ((same_end-Decides grant.until other.until).1 (ap (λ (g : Grant). g.until) is)),
)

same_grants-Decides : (grant other : Option Grant) → Decides (same_grants grant other) (grant ≡ other)
same_grants-Decides None None = (λ is. refl, λ is. refl)
same_grants-Decides None (Some other) = (λ is. absurd (cc), λ is. absurd (cc))
same_grants-Decides (Some grant) None = (λ is. absurd (cc), λ is. absurd (cc))
same_grants-Decides (Some grant) (Some other) = (
  λ is. ap Some ((same_grant-Decides grant other).0 is),
  λ is. let equal : grant ≡ other = cc in (same_grant-Decides grant other).1 equal,
)

pub same_scope-Decides : (before after : Policy) (client : List ℕ)
    → Decides (same_scope before after client)
    (grant_of before.clients client ≡ grant_of after.clients client)
same_scope-Decides before after client =
    same_grants-Decides (grant_of before.clients client) (grant_of after.clients client)
