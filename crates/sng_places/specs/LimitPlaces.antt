-- The place of the first fault of a policy's limits: what is tested, in the order in which it is tested.
use Rattle.std.specs.Prelude.{ℕ, Bool, false, ◌&&◌, nat_le, List, if◌then◌else◌, Option, Some, None, option_map}
use Rattle.std.specs.Prelude.{option_and_then, unwrap_or, ok_or, Result, Ok, Err, codes}
use Rattle.serde_json.specs.Data.{Data, Members, no_members, member}
use Rattle.serde_json.specs.Find.{get, as_number, as_object, as_u64}
use Rattle.sng_grants.specs.Limits.{Limits, default_limits}
use Rattle.sng_grants.specs.declared.limits.TheConstants.{MAX_POLICY_CLIENTS, MAX_SOURCES, MAX_TOPICS}
use Rattle.sng_grants.specs.declared.limits.TheConstants.{MAX_WAITING, MAX_FLIGHT, DEFAULT_WAITING}
use Rattle.sng_grants.specs.declared.limits.TheConstants.{DEFAULT_FLIGHT}
use Rattle.sng_scope.specs.PolicyLimits.{is_limit, limits_of}
use Rattle.sng_scope.specs.Steps.{◌>>=◌}
use Rattle.sng_scope.specs.declared.fault.PolicyFault.{PolicyFault}
use Rattle.sng_places.specs.declared.location.LimitName.{LimitName}
use Rattle.sng_places.specs.declared.location.LimitName.TheVariants as limit
use Rattle.sng_places.specs.declared.location.Location.{Location}
use Rattle.sng_places.specs.declared.location.Location.TheVariants as places
use Rattle.sng_places.specs.declared.flaw.Flaw.{Flaw}
use Rattle.sng_places.specs.declared.flaw.Flaw.TheVariants as flaws
use Rattle.sng_places.specs.declared.stop.Stop.{Stop}
use Rattle.sng_places.specs.declared.stop.Stop.TheVariants.{At}

-- the fault at this place
abbrev pub limits_stop : Location → Flaw → Stop
limits_stop place flaw = At (record { place = place; flaw = flaw })

-- ---- each limit: its name, the least and the most that it may be

abbrev pub limit_text : LimitName → List ℕ
limit_text limit.Clients = codes "clients"
limit_text limit.InFlight = codes "in_flight"
limit_text limit.Sources = codes "sources"
limit_text limit.Topics = codes "topics"
limit_text limit.Waiting = codes "waiting"

abbrev pub least_of : LimitName → ℕ
least_of limit.Clients = 1
least_of limit.InFlight = DEFAULT_FLIGHT
least_of limit.Sources = 0
least_of limit.Topics = 0
least_of limit.Waiting = DEFAULT_WAITING

abbrev pub most_of : LimitName → ℕ
most_of limit.Clients = MAX_POLICY_CLIENTS
most_of limit.InFlight = MAX_FLIGHT
most_of limit.Sources = MAX_SOURCES
most_of limit.Topics = MAX_TOPICS
most_of limit.Waiting = MAX_WAITING

-- ---- the checks

-- a whole number from the least to the most
abbrev pub is_in_range : ℕ → ℕ → Data → Bool
is_in_range least most d =
    unwrap_or (option_map (λ n. nat_le least n && nat_le n most) (option_and_then as_u64 (as_number d))) false

abbrev pub limit_check : LimitName → Option Data → Result Unit Stop
limit_check name None = Ok tt
limit_check name (Some d) =
    if is_in_range (least_of name) (most_of name) d then Ok tt
    else Err (limits_stop (places.Limit name) (flaws.NotLimit (least_of name) (most_of name)))

-- the first member that is no limit
abbrev pub other_limit : Members → Option (List ℕ)
other_limit no_members = None
other_limit (member name d ms) = if is_limit name then other_limit ms else Some name

abbrev pub no_other : Option (List ℕ) → Result Unit Stop
no_other None = Ok tt
no_other (Some name) = Err (limits_stop (places.LimitMember name) flaws.UnknownMember)

-- the names of the members, and then the numbers in the byte order of theirs
abbrev pub limit_members_check : Data → Members → Result Unit Stop
limit_members_check d ms = do
  known ← no_other (other_limit ms)
  clients ← limit_check limit.Clients (get (codes "clients") d)
  in_flight ← limit_check limit.InFlight (get (codes "in_flight") d)
  sources ← limit_check limit.Sources (get (codes "sources") d)
  topics ← limit_check limit.Topics (get (codes "topics") d)
  limit_check limit.Waiting (get (codes "waiting") d)

abbrev pub limits_check : Option Data → Result Unit Stop
limits_check None = Ok tt
limits_check (Some d) =
    ok_or (as_object d) (limits_stop places.Limits flaws.NotObject) >>= (λ ms. limit_members_check d ms)

-- ---- what they are

abbrev pub limits_or : Result Limits PolicyFault → Limits
limits_or (Ok limits) = limits
limits_or (Err fault) = default_limits

-- the limits of a policy; where they have a fault it does not matter which
abbrev pub limits_in : Data → Limits
limits_in d = limits_or (limits_of (get (codes "limits") d))
