-- What a broker keeps: its connections, the filters that stand for each, and the retained messages.
use Rattle.std.specs.Prelude.{ℕ, ◌+◌, ◌==◌, ◌≤◌, Bool, true, false, ◌&&◌, not, nat_lt, List, [], ◌∷◌, ◌++◌}
use Rattle.std.specs.Prelude.{length, filter, count_by, if◌then◌else◌}
use Rattle.std.specs.List.{list_any}
use Rattle.std.specs.Str.{bytes_eq}
use Rattle.sng_text.specs.Matching.{matches}
use Rattle.sng_text.specs.declared.qos.Qos.{Qos}
use Rattle.sng_text.specs.declared.qos.Qos.TheVariants.{AtMostOnce, AtLeastOnce}
use Rattle.sng_broker.specs.declared.parts.Message.{Message}
use Rattle.sng_broker.specs.declared.parts.Peer.{Peer}
use Rattle.sng_broker.specs.declared.parts.Subscription.{Subscription}

pub record Broker : Type 0 where
  pub peers : List Peer
  pub standing : List Subscription
  pub kept : List Message

-- the connection is this one
abbrev pub is_peer : ℕ → Peer → Bool
is_peer conn peer = peer.conn == conn

-- the connection was accepted, and is not forgotten
abbrev pub is_open : List Peer → ℕ → Bool
is_open peers conn = list_any (is_peer conn) peers

-- no connection is there twice
abbrev pub EachOnce : List Peer → Type 0
EachOnce peers = (conn : ℕ) → count_by (is_peer conn) peers ≤ 1

-- packet identifiers count from 1 to 65,535, and then anew (MQTT 3.1.1, 2.3.1)
abbrev pub next_id : ℕ → ℕ
next_id last = if nat_lt last 65535 then last + 1 else 1

-- the connection is to use this packet identifier as its last one
abbrev pub identified : ℕ → ℕ → Peer → Peer
identified conn last peer = if is_peer conn peer then record peer { last_id = last } else peer

abbrev pub is_at_least_once : Qos → Bool
is_at_least_once AtMostOnce = false
is_at_least_once AtLeastOnce = true

-- the filter stands for this connection and matches the name
abbrev pub fits : ℕ → List ℕ → Subscription → Bool
fits conn name s = (s.conn == conn) && matches s.filter name

-- the same, and it was granted QoS 1
abbrev pub fits_surely : ℕ → List ℕ → Subscription → Bool
fits_surely conn name s = is_at_least_once s.qos && fits conn name s

-- the filter stands for this connection
abbrev pub is_held : ℕ → Subscription → Bool
is_held conn s = s.conn == conn

-- it is this filter of this connection
abbrev pub is_same : ℕ → List ℕ → Subscription → Bool
is_same conn text s = (s.conn == conn) && bytes_eq s.filter text

-- the filter stands for its connection at its QoS alone (3.8.4)
abbrev pub let_stand : List Subscription → Subscription → List Subscription
let_stand standing s = filter (λ other. not (is_same s.conn s.filter other)) standing ++ s ∷ []

-- the filter stands for the connection no more
abbrev pub ended : ℕ → List Subscription → List ℕ → List Subscription
ended conn standing text = filter (λ s. not (is_same conn text s)) standing

-- the connection is gone, with all that stood for it
abbrev pub forgotten : Broker → ℕ → Broker
forgotten b conn = record b {
  peers = filter (λ peer. not (is_peer conn peer)) b.peers;
  standing = filter (λ s. not (is_held conn s)) b.standing;
}

-- the message in place of what was retained under its name; an empty one retains nothing (3.3.1.3)
abbrev pub retained : List Message → Message → List Message
retained kept m =
    let others = filter (λ k. not (bytes_eq k.name m.name)) kept in
    if length m.payload == 0 then others else others ++ m ∷ []
