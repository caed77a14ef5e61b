-- The limits that a policy sets: within what they may be, and those of a policy that sets none.
use Rattle.std.specs.Prelude.{ℕ, ◌≤◌, ◌==◌, ◌&&◌, Bool, min}
use Rattle.sng_grants.specs.declared.limits.TheConstants.{MAX_POLICY_CLIENTS, MAX_SOURCES, MAX_TOPICS}
use Rattle.sng_grants.specs.declared.limits.TheConstants.{MAX_WAITING, MAX_FLIGHT, DEFAULT_CLIENTS}
use Rattle.sng_grants.specs.declared.limits.TheConstants.{DEFAULT_SOURCES, DEFAULT_TOPICS, DEFAULT_WAITING}
use Rattle.sng_grants.specs.declared.limits.TheConstants.{DEFAULT_FLIGHT}

-- how many clients, sources and predefined topics a policy lists, how many clients are ever accepted, how many
-- items wait for the broker, and how many publishes of QoS 1 wait or are in flight
pub record Limits : Type 0 where
  pub clients : ℕ
  pub sources : ℕ
  pub topics : ℕ
  pub waiting : ℕ
  pub in_flight : ℕ

-- those of a policy that sets none
abbrev pub default_limits : Limits
default_limits = record {
  clients = DEFAULT_CLIENTS;
  sources = DEFAULT_SOURCES;
  topics = DEFAULT_TOPICS;
  waiting = DEFAULT_WAITING;
  in_flight = DEFAULT_FLIGHT;
}

abbrev pub are_default : Limits → Bool
are_default limits =
    (limits.clients == DEFAULT_CLIENTS) && (limits.sources == DEFAULT_SOURCES)
    && (limits.topics == DEFAULT_TOPICS) && (limits.waiting == DEFAULT_WAITING)
    && (limits.in_flight == DEFAULT_FLIGHT)

-- how many publishes at QoS 1 may wait or be in flight: as packet ids have 16 bits, no more than a policy text may
-- say, whatever the limits are
abbrev pub flight_limit : Limits → ℕ
flight_limit limits = min limits.in_flight MAX_FLIGHT

-- from the least to the most
abbrev pub IsBetween : ℕ → ℕ → ℕ → Type 0
IsBetween least most n = (least ≤ n) × (n ≤ most)

-- a policy may set them so
pub record AreLimits (limits : Limits) : Type 0 where
  pub clients : IsBetween 1 MAX_POLICY_CLIENTS limits.clients
  pub sources : IsBetween 0 MAX_SOURCES limits.sources
  pub topics : IsBetween 0 MAX_TOPICS limits.topics
  pub waiting : IsBetween DEFAULT_WAITING MAX_WAITING limits.waiting
  pub in_flight : IsBetween DEFAULT_FLIGHT MAX_FLIGHT limits.in_flight
