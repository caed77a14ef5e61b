-- A message for one client.
use Rattle.std.specs.Prelude.{ℕ, Bool, false, ◌&&◌, nat_le, List, [], ◌∷◌, length}
use Rattle.sng_text.specs.declared.qos.Qos.{Qos}
use Rattle.sng_text.specs.declared.qos.Qos.TheVariants.{AtMostOnce}
use Rattle.sng_queue.specs.declared.limits.TheConstants.{MAX_WAITING_NAME, MAX_WAITING_PAYLOAD}

pub record Message : Type 0 where
  pub name : List ℕ
  pub payload : List ℕ
  pub qos : Qos
  pub retain : Bool

-- what a message says, whoever it is for
pub record Content : Type 0 where
  pub name : List ℕ
  pub payload : List ℕ
  pub retain : Bool

abbrev pub content : List ℕ → List ℕ → Bool → Content
content name payload retain = record { name = name; payload = payload; retain = retain }

abbrev pub message : List ℕ → List ℕ → Qos → Bool → Message
message name payload qos retain = record { name = name; payload = payload; qos = qos; retain = retain }

-- the message with this content, at this QoS
abbrev pub message_of : Content → Qos → Message
message_of c qos = message c.name c.payload qos c.retain

-- of a list of one message that one
abbrev pub only : List Message → Message
only [] = message [] [] AtMostOnce false
only (m ∷ messages) = m

-- a PUBLISH with the payload is no longer than a datagram, and neither is a REGISTER with the name
abbrev pub is_sendable : List ℕ → List ℕ → Bool
is_sendable name payload =
    nat_le (length name) MAX_WAITING_NAME && nat_le (length payload) MAX_WAITING_PAYLOAD
