-- No call puts a message before an older one, and none but a settlement or an end takes one away.
use Rattle.std.specs.Prelude.{ℕ, ◌≡◌, List, [], ◌∷◌, ◌++◌, Some, None}
use Rattle.std.specs.Option.{option_to_list}
use Rattle.std.specs.declared.option.Option.{Option}
use Rattle.sng_queue.specs.declared.kind.TopicIdKind.{TopicIdKind}
use Rattle.sng_queue.specs.declared.exchange.Exchange.{Exchange}
use Rattle.sng_queue.specs.declared.exchange.Exchange.TheVariants.{Announcing, Acknowledging}
use Rattle.sng_queue.specs.Messages.{Message}
use Rattle.sng_queue.specs.Exchanges.{repeat}
use Rattle.sng_queue.specs.Buffers.{Buffer, settled, settle, announce, await_ack}

-- the message that left the front and waits for its PUBACK
abbrev pub awaiting_ack : Option Exchange → List Message
awaiting_ack None = []
awaiting_ack (Some (Announcing sending)) = []
awaiting_ack (Some (Acknowledging sending kind message)) = message ∷ []

-- all messages, the oldest first
abbrev pub messages : Buffer → List Message
messages b = awaiting_ack b.exchange ++ b.waiting

-- to settle takes the front alone; to announce, to hand over and to send again take none
abbrev pub MessagesStayInOrder : Type 0
MessagesStayInOrder = (b : Buffer)
    → (option_to_list (settled b) ++ (settle b).waiting ≡ b.waiting)
    × ((topic_id msg_id clock : ℕ) → messages (announce b topic_id msg_id clock) ≡ messages b)
    × ((kind : TopicIdKind) (topic_id msg_id clock : ℕ)
    → messages (await_ack b kind topic_id msg_id clock) ≡ messages b)
    × ((clock : ℕ) → messages (record b { exchange = repeat b.exchange clock }) ≡ messages b)
