-- What was sent to a client and waits for its answer.
use Rattle.std.specs.Prelude.{ℕ, ◌+◌, ◌<◌, ◌≤◌, Bool, true, false, List, length, Some, None}
use Rattle.std.specs.declared.option.Option.{Option}
use Rattle.sng_queue.specs.declared.limits.TheConstants.{MAX_TRIES}
use Rattle.sng_queue.specs.declared.exchange.Exchange.{Exchange}
use Rattle.sng_queue.specs.declared.exchange.Exchange.TheVariants.{Announcing, Acknowledging}
use Rattle.sng_queue.specs.declared.exchange.Sending.{Sending}
use Rattle.sng_queue.specs.Messages.{Message}

-- the frame of an exchange
abbrev pub sending_of : Exchange → Sending
sending_of (Announcing sending) = sending
sending_of (Acknowledging sending kind message) = sending

-- a frame that is sent for the first time
abbrev pub first_sending : ℕ → ℕ → ℕ → Sending
first_sending topic_id msg_id clock = record { topic_id = topic_id; msg_id = msg_id; sent = clock; tries = 0 }

-- the same frame, sent once more
abbrev pub repeated : ℕ → Sending → Sending
repeated clock sending = record sending { sent = clock; tries = sending.tries + 1 }

-- the same exchange, its frame sent once more
abbrev pub sent_again : ℕ → Exchange → Exchange
sent_again clock (Announcing sending) = Announcing (repeated clock sending)
sent_again clock (Acknowledging sending kind message) = Acknowledging (repeated clock sending) kind message

-- a message that left the front waits for its PUBACK
abbrev pub awaits_ack : Option Exchange → Bool
awaits_ack None = false
awaits_ack (Some (Announcing sending)) = false
awaits_ack (Some (Acknowledging sending kind message)) = true

-- an open exchange was sent again `MAX_TRIES` times at the most, and what is announced is for a front
abbrev pub IsExchangeOn : List Message → Option Exchange → Type 0
IsExchangeOn waiting None = Unit {0}
IsExchangeOn waiting (Some (Announcing sending)) = (sending.tries ≤ MAX_TRIES) × (0 < length waiting)
IsExchangeOn waiting (Some (Acknowledging sending kind message)) = sending.tries ≤ MAX_TRIES

-- the open exchange, sent once more
abbrev pub repeat : Option Exchange → ℕ → Option Exchange
repeat None clock = None
repeat (Some exchange) clock = Some (sent_again clock exchange)

-- an open exchange was sent again fewer than `MAX_TRIES` times
abbrev pub MayRepeat : Option Exchange → Type 0
MayRepeat None = Unit {0}
MayRepeat (Some exchange) = (sending_of exchange).tries < MAX_TRIES
