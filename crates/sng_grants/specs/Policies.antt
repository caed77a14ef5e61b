-- A policy as a value.
use Rattle.std.specs.Prelude.{ℕ, ◌≤◌, List, [], length}
use Rattle.sng_grants.specs.Limits.{Limits, default_limits}
use Rattle.sng_grants.specs.declared.grant.Grant.{Grant}

-- the grants of clients and of sources, the predefined topics, and the limits
pub record Policy : Type 0 where
  pub clients : List (List ℕ × Grant)
  pub sources : List (List ℕ × Grant)
  pub topics : List (ℕ × List ℕ)
  pub limits : Limits

-- no more of each is listed than the policy's own limits allow
pub record ListsWithin (policy : Policy) : Type 0 where
  pub clients : length policy.clients ≤ policy.limits.clients
  pub sources : length policy.sources ≤ policy.limits.sources
  pub topics : length policy.topics ≤ policy.limits.topics

-- nothing is listed, and no limit is set
abbrev pub no_policy : Policy
no_policy = record { clients = []; sources = []; topics = []; limits = default_limits }
