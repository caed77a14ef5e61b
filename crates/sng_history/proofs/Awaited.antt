-- What is open with a client is an announcement or a message, and not both.
use Rattle.std.proofs.Common.{◌≡◌, true, false, [], refl}
use Rattle.std.specs.Prelude.{Option, Some, None}
use Rattle.sng_frames.specs.declared.messages.acks.TopicAck.{TopicAck}
use Rattle.sng_queue.specs.declared.exchange.Exchange.{Exchange}
use Rattle.sng_queue.specs.declared.exchange.Exchange.TheVariants.{Announcing, Acknowledging}
use Rattle.sng_queue.specs.Exchanges.{awaits_ack}
use Rattle.sng_history.specs.Handing.{answers_announcement}

-- one that refuses the id settles the front
pub awaits_none : (e : Option Exchange) (r : TopicAck) → answers_announcement e r ≡ true
    → awaits_ack e ≡ false
awaits_none None r turn = refl
awaits_none (Some (Announcing sent)) r turn = refl
awaits_none (Some (Acknowledging sent kind m)) r turn = absurd cc
