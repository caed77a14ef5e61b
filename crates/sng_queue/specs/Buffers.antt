-- The buffer of one client: a list of messages and at most one exchange.
use Rattle.std.specs.Prelude.{ℕ, List, [], ◌∷◌, drop, slice_get, Some, None, if◌then◌else◌}
use Rattle.std.specs.declared.option.Option.{Option}
use Rattle.sng_queue.specs.declared.kind.TopicIdKind.{TopicIdKind}
use Rattle.sng_queue.specs.declared.exchange.Exchange.{Exchange}
use Rattle.sng_queue.specs.declared.exchange.Exchange.TheVariants.{Announcing, Acknowledging}
use Rattle.sng_queue.specs.Exchanges.{first_sending, awaits_ack}
use Rattle.sng_queue.specs.Messages.{Message}

-- the messages that wait, the oldest first, and the exchange that is open
pub record Buffer : Type 0 where
  pub waiting : List Message
  pub exchange : Option Exchange

abbrev pub nothing : Buffer
nothing = record { waiting = []; exchange = None }

-- the message that is settled next: the front, unless another one waits for its PUBACK
abbrev pub settled : Buffer → Option Message
settled b = if awaits_ack b.exchange then None else slice_get b.waiting 0

-- and what is left then: the exchange by which the front was announced ends with it
abbrev pub settle : Buffer → Buffer
settle b = if awaits_ack b.exchange then b else record { waiting = drop 1 b.waiting; exchange = None }

-- a topic id is announced for the front, where there is one and no exchange is open
abbrev pub announce_by : Option Exchange → List Message → Exchange → Buffer
announce_by None (front ∷ rest) exchange = record { waiting = front ∷ rest; exchange = Some exchange }
announce_by None [] exchange = nothing
announce_by (Some open_one) waiting exchange = record { waiting = waiting; exchange = Some open_one }

abbrev pub announce : Buffer → ℕ → ℕ → ℕ → Buffer
announce b topic_id msg_id clock =
    announce_by b.exchange b.waiting (Announcing (first_sending topic_id msg_id clock))

-- the front leaves and waits for its PUBACK, where there is one and no exchange is open
abbrev pub await_ack_by : Option Exchange → List Message → (Message → Exchange) → Buffer
await_ack_by None (front ∷ rest) exchange_of = record { waiting = rest; exchange = Some (exchange_of front) }
await_ack_by None [] exchange_of = nothing
await_ack_by (Some open_one) waiting exchange_of = record { waiting = waiting; exchange = Some open_one }

abbrev pub await_ack : Buffer → TopicIdKind → ℕ → ℕ → ℕ → Buffer
await_ack b kind topic_id msg_id clock =
    await_ack_by b.exchange b.waiting (Acknowledging (first_sending topic_id msg_id clock) kind)
