-- The limits of a policy in JSON: an object of whole numbers, each within its range.
use Rattle.std.specs.Prelude.{ℕ, Bool, true, ◌&&◌, ◌||◌, nat_le, List, if◌then◌else◌, Option, Some, None}
use Rattle.std.specs.Prelude.{option_and_then, ok_or, Result, Ok, Err, codes}
use Rattle.std.specs.Str.{bytes_eq}
use Rattle.serde_json.specs.Data.{Data, Members, no_members, member}
use Rattle.serde_json.specs.Find.{get, as_number, as_object, as_u64}
use Rattle.sng_grants.specs.Limits.{Limits, default_limits}
use Rattle.sng_grants.specs.declared.limits.TheConstants.{MAX_POLICY_CLIENTS, MAX_SOURCES, MAX_TOPICS}
use Rattle.sng_grants.specs.declared.limits.TheConstants.{MAX_WAITING, MAX_FLIGHT, DEFAULT_CLIENTS}
use Rattle.sng_grants.specs.declared.limits.TheConstants.{DEFAULT_SOURCES, DEFAULT_TOPICS, DEFAULT_WAITING}
use Rattle.sng_grants.specs.declared.limits.TheConstants.{DEFAULT_FLIGHT}
use Rattle.sng_scope.specs.Steps.{◌>>=◌}
use Rattle.sng_scope.specs.declared.fault.PolicyFault.{PolicyFault}
use Rattle.sng_scope.specs.declared.fault.PolicyFault.TheVariants.{Shape}

-- the name of a member that the object may have
abbrev pub is_limit : List ℕ → Bool
is_limit name =
    bytes_eq name (codes "clients") || bytes_eq name (codes "in_flight") || bytes_eq name (codes "sources")
    || bytes_eq name (codes "topics") || bytes_eq name (codes "waiting")

abbrev pub are_limits : Members → Bool
are_limits no_members = true
are_limits (member name d ms) = is_limit name && are_limits ms

-- a number from the least to the most
abbrev pub ranged : ℕ → ℕ → ℕ → Result ℕ PolicyFault
ranged least most n = if nat_le least n && nat_le n most then Ok n else Err Shape

-- a whole number in its range; what is absent is what it is where no limit is set
abbrev pub limit_of : ℕ → ℕ → ℕ → Option Data → Result ℕ PolicyFault
limit_of default least most None = Ok default
limit_of default least most (Some d) =
    ok_or (option_and_then as_u64 (as_number d)) Shape >>= ranged least most

-- the members in the byte order of their names
abbrev pub limits_of_object : Data → Result Limits PolicyFault
limits_of_object d = do
  clients ← limit_of DEFAULT_CLIENTS 1 MAX_POLICY_CLIENTS (get (codes "clients") d)
  in_flight ← limit_of DEFAULT_FLIGHT DEFAULT_FLIGHT MAX_FLIGHT (get (codes "in_flight") d)
  sources ← limit_of DEFAULT_SOURCES 0 MAX_SOURCES (get (codes "sources") d)
  topics ← limit_of DEFAULT_TOPICS 0 MAX_TOPICS (get (codes "topics") d)
  waiting ← limit_of DEFAULT_WAITING DEFAULT_WAITING MAX_WAITING (get (codes "waiting") d)
  Ok (record { clients = clients; sources = sources; topics = topics; waiting = waiting; in_flight = in_flight })

abbrev pub limits_by_members : Option Members → Data → Result Limits PolicyFault
limits_by_members None d = Err Shape
limits_by_members (Some ms) d = if are_limits ms then limits_of_object d else Err Shape

-- such an object; none sets no limit
abbrev pub limits_of : Option Data → Result Limits PolicyFault
limits_of None = Ok default_limits
limits_of (Some d) = limits_by_members (as_object d) d
