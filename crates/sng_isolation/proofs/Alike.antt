-- The relation of two states that a client cannot tell apart: they agree in all that is kept of it, in what the
-- policy says to it, in the clock and the connection, and in its publishes that wait for the broker. Nothing
-- is said of other clients but where they are, nor of the place of the client among them, what is in flight,
-- packet ids, wanted filters or pings.
use Rattle.std.specs.Prelude.{ℕ, ◌≡◌, Bool, true, false, List}
use Rattle.std.specs.List.{filter}
use Rattle.std.specs.Str.{bytes_eq}
use Rattle.sng_outbox.specs.declared.item.Item.{Item}
use Rattle.sng_outbox.specs.declared.item.Item.TheVariants as item
use Rattle.sng_outbox.specs.declared.origin.Origin.{Origin}
use Rattle.sng_outbox.specs.declared.origin.Origin.TheVariants as origin
use Rattle.sng_grants.specs.declared.policy.Policy.{Policy}
use Rattle.sng_book.specs.declared.address.Address.{Address}
use Rattle.sng_book.specs.Traces.{is_own, trace_of}
use Rattle.sng_history.specs.Causes.{Cause, ByReplace, ByConnect, ByMessage, BySource, ByBroken, ByPacket, ByUp}
use Rattle.sng_history.specs.Causes.{ByDown, ByTake, ByTick}
use Rattle.sng_history.specs.Clients.{Client}
use Rattle.sng_history.specs.State.{State}
use Rattle.sng_history.specs.Steps.{outs_by, next_by}
use Rattle.sng_history.specs.Good.{Each, Good}
use Rattle.sng_isolation.specs.Own.{names}
use Rattle.sng_isolation.specs.View.{part_of}
use Rattle.sng_isolation.specs.Room.{HasRoom}
use Rattle.sng_isolation.specs.Isolation.{kept_of, IsHarmless}
use Rattle.sng_isolation.proofs.Silent.{Silent}
use Rattle.sng_isolation.proofs.ForeignStep.{CameFrom}

-- ---- the relation

-- the client asked for it
abbrev pub is_by : List ℕ → Origin → Bool
is_by id (origin.Client client) = bytes_eq id client
is_by id (origin.Source source) = false

-- a publish of the client
abbrev pub is_mine : List ℕ → Item → Bool
is_mine id (item.Publish p) = is_by id p.origin
is_mine id (item.Subscribe filter) = false
is_mine id (item.Unsubscribe filter) = false
is_mine id (item.Acknowledge packet_id) = false
is_mine id item.Ping = false

-- of what waits its own publishes, in order
abbrev pub mine : List ℕ → List Item → List Item
mine id items = filter (is_mine id) items

pub record Alike (id : List ℕ) (s t : State) : Type 0 where
  pub kept : kept_of id s.clients ≡ kept_of id t.clients
  pub policy : part_of id s.policy ≡ part_of id t.policy
  pub clock : s.clock ≡ t.clock
  pub up : s.up ≡ t.up
  pub waits : mine id s.link.waiting ≡ mine id t.link.waiting

-- what holds of each of the two: the last CONNECT of another client came from none of the client's addresses,
-- and its own from one of them
abbrev pub IsPlaced : List ℕ → List Address → Client → Type 0
IsPlaced id own x = is_own own x.address ≡ bytes_eq id x.id

pub record Sound (id : List ℕ) (own : List Address) (s : State) : Type 0 where
  pub good : Good s
  pub placed : Each (IsPlaced id own) s.clients

-- ---- the three lemmas

-- a datagram came from one of the client's addresses, and no other client connects by it; any other cause is
-- of both views, but a policy, and refuses nothing
abbrev pub IsShown : List ℕ → List Address → Cause → Type 0
IsShown id own (ByConnect from connect) =
    (is_own own from ≡ true) × (bytes_eq connect.client_id id ≡ true)
IsShown id own (ByMessage from request) = is_own own from ≡ true
IsShown id own (BySource from p) = is_own own from ≡ true
IsShown id own (ByBroken from rule) = is_own own from ≡ true
IsShown id own (ByPacket p) = IsHarmless id own (ByPacket p)
IsShown id own ByUp = Unit {0}
IsShown id own ByDown = Unit {0}
IsShown id own ByTake = Unit {0}
IsShown id own (ByReplace policy) = ⊥
IsShown id own (ByTick clock) = Unit {0}

-- both steps let out the same for the client, and lead to states that it cannot tell apart
pub record GoesOn (id : List ℕ) (own : List Address) (s t : State) (c d : Cause) : Type 0 where
  pub traces : trace_of id own (outs_by s c) ≡ trace_of id own (outs_by t d)
  pub alike : Alike id (next_by s c) (next_by t d)

abbrev pub CommonEvent : Type 0
CommonEvent =
    (id : List ℕ) (own : List Address) (s t : State) (c : Cause) → Sound id own s → Sound id own t
    → Alike id s t → IsShown id own c → HasRoom id (outs_by s c) → HasRoom id (outs_by t c)
    → GoesOn id own s t c c

abbrev pub CommonPolicy : Type 0
CommonPolicy =
    (id : List ℕ) (own : List Address) (s t : State) (p q : Policy) → Sound id own s → Sound id own t
    → Alike id s t → part_of id p ≡ part_of id q
    → GoesOn id own s t (ByReplace p) (ByReplace q)

-- one step lets out nothing for the client, and leads to a state that it cannot tell from the one before
pub record Unnoticed (id : List ℕ) (own : List Address) (s : State) (c : Cause) : Type 0 where
  pub silent : Silent id own (outs_by s c)
  pub alike : Alike id s (next_by s c)

abbrev pub HiddenEvent : Type 0
HiddenEvent =
    (id : List ℕ) (own : List Address) (s : State) (from : Address) (c : Cause) → Sound id own s
    → CameFrom from c → is_own own from ≡ false → names id c ≡ false → Unnoticed id own s c

-- and so does the end of the scopes of others
abbrev pub HiddenPolicy : Type 0
HiddenPolicy =
    (id : List ℕ) (own : List Address) (s : State) (p : Policy) → Sound id own s
    → part_of id p ≡ part_of id s.policy → Unnoticed id own s (ByReplace p)
