-- What each call leaves of the messages, by what is open and what waits.
use Rattle.std.proofs.Common.{◌≡◌, ℕ, Bool, true, false, List, [], ◌∷◌, ◌++◌, Some, None, drop, slice_get}
use Rattle.std.proofs.Common.{if◌then◌else◌, refl}
use Rattle.std.specs.Option.{option_to_list}
use Rattle.std.specs.declared.option.Option.{Option}
use Rattle.sng_queue.specs.declared.exchange.Exchange.{Exchange}
use Rattle.sng_queue.specs.declared.exchange.Exchange.TheVariants.{Announcing, Acknowledging}
use Rattle.sng_queue.specs.Messages.{Message}
use Rattle.sng_queue.specs.Exchanges.{repeat, awaits_ack}
use Rattle.sng_queue.specs.Buffers.{Buffer, announce_by, await_ack_by}
use Rattle.sng_queue.specs.Laws.{awaiting_ack, messages, MessagesStayInOrder}

front_and_rest : (waiting : List Message) → option_to_list (slice_get waiting 0) ++ drop 1 waiting ≡ waiting
front_and_rest [] = refl
front_and_rest (front ∷ rest) = refl

-- what is settled and what is left, where a message waits for its PUBACK and where none does
settled_by : (b : Buffer) (acknowledging : Bool)
    → let left : Buffer =
    if acknowledging then b else record { waiting = drop 1 b.waiting; exchange = None } in
    option_to_list (if acknowledging then None else slice_get b.waiting 0) ++ left.waiting ≡ b.waiting
settled_by b true = refl
settled_by b false = front_and_rest b.waiting

announced : (open_one : Option Exchange) (waiting : List Message) (exchange : Exchange)
    → awaiting_ack (Some exchange) ≡ []
    → messages (announce_by open_one waiting exchange) ≡ awaiting_ack open_one ++ waiting
announced None [] exchange none = refl
announced None (front ∷ rest) exchange none = rw none refl
announced (Some open_one) waiting exchange none = refl

handed_over : (open_one : Option Exchange) (waiting : List Message) (exchange_of : Message → Exchange)
    → ((front : Message) → awaiting_ack (Some (exchange_of front)) ≡ front ∷ [])
    → messages (await_ack_by open_one waiting exchange_of) ≡ awaiting_ack open_one ++ waiting
handed_over None [] exchange_of carries = refl
handed_over None (front ∷ rest) exchange_of carries = rw (carries front) refl
handed_over (Some open_one) waiting exchange_of carries = refl

repeated : (open_one : Option Exchange) (clock : ℕ)
    → awaiting_ack (repeat open_one clock) ≡ awaiting_ack open_one
repeated None clock = refl
repeated (Some (Announcing sending)) clock = refl
repeated (Some (Acknowledging sending kind message)) clock = refl

pub in_order : MessagesStayInOrder
in_order b = (
  settled_by b (awaits_ack b.exchange),
  λ topic_id msg_id clock. announced b.exchange b.waiting _ refl,
  λ kind topic_id msg_id clock. handed_over b.exchange b.waiting _ (λ front. refl),
  λ clock. rw (repeated b.exchange clock) refl,
)
