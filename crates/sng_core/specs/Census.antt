-- What is counted of a state: its clients one by one, and the lists beside them.
use Rattle.std.specs.Prelude.{ℕ, ◌+◌, ◌-◌, ◌^◌, min, List, [], ◌∷◌, length}
use Rattle.sng_states.specs.declared.state.ClientState.{ClientState}
use Rattle.sng_states.specs.declared.state.ClientState.TheVariants.{Dialogue, Active, Asleep, Awake}
use Rattle.sng_states.specs.declared.state.ClientState.TheVariants.{Disconnected, Lost}
use Rattle.sng_history.specs.Clients.{Client}
use Rattle.sng_history.specs.State.{State}
use Rattle.sng_core.specs.declared.census.ClientCounts.{ClientCounts}
use Rattle.sng_core.specs.declared.census.Census.{Census}

abbrev pub nobody : ClientCounts
nobody = record {
  active = 0;
  asleep = 0;
  awake = 0;
  in_dialogue = 0;
  disconnected = 0;
  lost = 0;
  filters = 0;
  messages = 0;
}

-- so many more; a count has 64 bits, and stays at its greatest number
abbrev pub more : ℕ → ℕ → ℕ
more count n = min (count + n) (2 ^ 64 - 1)

-- one more in this state
abbrev pub with_phase : ClientState → ClientCounts → ClientCounts
with_phase Active c = record c { active = more c.active 1 }
with_phase Asleep c = record c { asleep = more c.asleep 1 }
with_phase Awake c = record c { awake = more c.awake 1 }
with_phase Dialogue c = record c { in_dialogue = more c.in_dialogue 1 }
with_phase Disconnected c = record c { disconnected = more c.disconnected 1 }
with_phase Lost c = record c { lost = more c.lost 1 }

-- one more in this state, with so many filters and messages
abbrev pub counted_as : ClientState → ℕ → ℕ → ClientCounts → ClientCounts
counted_as phase filters messages c =
    with_phase phase (record c { filters = more c.filters filters; messages = more c.messages messages })

abbrev pub counted : ClientCounts → Client → ClientCounts
counted c x = counted_as x.phase (length x.filters) (length x.buffer.waiting) c

-- one client after the other
abbrev pub counted_from : ClientCounts → List Client → ClientCounts
counted_from c [] = c
counted_from c (x ∷ xs) = counted_from (counted c x) xs

abbrev pub counts_of : List Client → ClientCounts
counts_of xs = counted_from nobody xs

abbrev pub census_of : State → Census
census_of s = record {
  clients = counts_of s.clients;
  is_up = s.up;
  items = length s.link.waiting;
  in_flight = length s.link.in_flight;
  policy = record {
    clients = length s.policy.clients;
    sources = length s.policy.sources;
    topics = length s.policy.topics;
  };
}
