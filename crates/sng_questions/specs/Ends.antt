-- How many scopes of a policy end.
use Rattle.std.specs.Prelude.{ℕ, suc, ◌+◌, List, [], ◌∷◌, if◌then◌else◌, is_some}
use Rattle.sng_grants.specs.declared.grant.Grant.{Grant}
use Rattle.sng_grants.specs.declared.policy.Policy.{Policy}

abbrev pub ends_in : {K : Type 0} → List (K × Grant) → ℕ
ends_in [] = 0
ends_in (entry ∷ entries) = if is_some entry.1.until then suc (ends_in entries) else ends_in entries

abbrev pub ending_scopes : Policy → ℕ
ending_scopes policy = ends_in policy.clients + ends_in policy.sources
