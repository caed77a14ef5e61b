-- What leaves for the broker: a list of items that wait, and a list of publishes in flight.
use Rattle.std.specs.Prelude.{ℕ, ◌+◌, Bool, true, false, ◌==◌, ◌&&◌, not, nat_lt, nat_le, List, [], ◌∷◌}
use Rattle.std.specs.Prelude.{length, filter, count_by, if◌then◌else◌}
use Rattle.std.specs.List.{list_any}
use Rattle.sng_text.specs.declared.qos.Qos.{Qos}
use Rattle.sng_text.specs.declared.qos.Qos.TheVariants.{AtMostOnce, AtLeastOnce}
use Rattle.sng_outbox.specs.declared.item.Item.{Item}
use Rattle.sng_outbox.specs.declared.item.Item.TheVariants.{Publish, Subscribe, Unsubscribe, Acknowledge}
use Rattle.sng_outbox.specs.declared.item.Item.TheVariants.{Ping}
use Rattle.sng_outbox.specs.declared.in_flight.InFlight.{InFlight}

-- the items that wait, the oldest first, and the publishes in flight, in the order of their sending
pub record Sending : Type 0 where
  pub waiting : List Item
  pub in_flight : List InFlight

-- the same with the room that there is: how many items may wait, and how many publishes of QoS 1 may wait or be
-- in flight, without more memory
pub record SendingRoom : Type 0 where
  pub sending : Sending
  pub places : ℕ
  pub flights : ℕ

abbrev pub nothing : Sending
nothing = record { waiting = []; in_flight = [] }

abbrev pub is_publish : Item → Bool
is_publish (Publish publication) = true
is_publish (Subscribe text) = false
is_publish (Unsubscribe text) = false
is_publish (Acknowledge packet_id) = false
is_publish Ping = false

-- QoS 1
abbrev pub is_at_least_once : Qos → Bool
is_at_least_once AtMostOnce = false
is_at_least_once AtLeastOnce = true

-- a publish of QoS 1
abbrev pub asks_for_ack : Item → Bool
asks_for_ack (Publish publication) = is_at_least_once publication.qos
asks_for_ack (Subscribe text) = false
asks_for_ack (Unsubscribe text) = false
asks_for_ack (Acknowledge packet_id) = false
asks_for_ack Ping = false

-- the publishes alone, in order
abbrev pub publishes : List Item → List Item
publishes waiting = filter is_publish waiting

-- the publishes of QoS 1 that wait or are in flight
abbrev pub load : Sending → ℕ
load s = count_by asks_for_ack s.waiting + length s.in_flight

-- the item may be added without more memory: there is a place for it, and one in flight for a publish of QoS 1
abbrev pub has_room : SendingRoom → Item → Bool
has_room s item = not (asks_for_ack item && nat_le s.flights (load s.sending)) && nat_lt (length s.sending.waiting) s.places

-- it was sent with this packet id
abbrev pub has_id : ℕ → InFlight → Bool
has_id packet_id sent = sent.packet_id == packet_id

-- a publish is in flight with this packet id
abbrev pub is_in_flight : List InFlight → ℕ → Bool
is_in_flight in_flight packet_id = list_any (has_id packet_id) in_flight

-- all but the first with this packet id
abbrev pub without_first : List InFlight → ℕ → List InFlight
without_first [] packet_id = []
without_first (sent ∷ in_flight) packet_id =
    if has_id packet_id sent then in_flight else sent ∷ without_first in_flight packet_id
