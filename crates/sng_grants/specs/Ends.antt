-- A policy and its clock: what is in force of it, and when the next of it ends.
use Rattle.std.specs.Prelude.{ℕ}
use Rattle.std.specs.declared.option.Option.{Option}
use Rattle.sng_grants.specs.Sources.{left_at, sooner, first_end}
use Rattle.sng_grants.specs.Policies.{Policy}

-- what is in force of a policy at a clock: all but the grants that have ended
abbrev pub in_force : ℕ → Policy → Policy
in_force clock policy = record {
  clients = left_at clock policy.clients;
  sources = left_at clock policy.sources;
  topics = policy.topics;
  limits = policy.limits;
}

-- the first end of a policy's grants
abbrev pub next_end : Policy → Option ℕ
next_end policy = sooner (first_end policy.clients) (first_end policy.sources)
