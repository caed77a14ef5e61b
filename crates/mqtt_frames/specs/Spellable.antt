-- Which packets have a spelling (MQTT 3.1.1, 1.5.3, 2.3.1, 3.8.3, 3.9.3 and 3.10.3).
use Rattle.std.specs.Prelude.{ℕ, ◌^◌, ◌==◌, nat_lt, Bool, true, not, ◌&&◌, List, [], ◌∷◌, length, Some, None}
use Rattle.std.specs.declared.option.Option.{Option}
use Rattle.mqtt_frames.specs.declared.packet.Request.{Request}
use Rattle.mqtt_frames.specs.declared.packet.Packet.{Packet}
use Rattle.mqtt_frames.specs.declared.packet.Packet.TheVariants as variants

-- the length of a text is a number of two bytes
abbrev pub is_text : List ℕ → Bool
is_text text = nat_lt (length text) (2 ^ 16)

-- a packet identifier is not 0
abbrev pub is_id : ℕ → Bool
is_id id = not (id == 0)

abbrev pub is_optional_id : Option ℕ → Bool
is_optional_id None = true
is_optional_id (Some id) = is_id id

abbrev pub are_requests : List Request → Bool
are_requests [] = true
are_requests (r ∷ requests) = is_text r.filter && are_requests requests

abbrev pub are_filters : List (List ℕ) → Bool
are_filters [] = true
are_filters (filter ∷ filters) = is_text filter && are_filters filters

abbrev pub has_spelling : Packet → Bool
has_spelling (variants.Connect c) = is_text c.client_id
has_spelling (variants.Publish p) = is_optional_id p.packet_id && is_text p.name
has_spelling (variants.PublishAck id) = is_id id
has_spelling (variants.Subscribe s) =
    is_id s.packet_id && not (length s.requests == 0) && are_requests s.requests
has_spelling (variants.SubscribeAck a) = is_id a.packet_id && not (length a.codes == 0)
has_spelling (variants.Unsubscribe u) =
    is_id u.packet_id && not (length u.filters == 0) && are_filters u.filters
has_spelling (variants.UnsubscribeAck id) = is_id id
has_spelling _ = true
