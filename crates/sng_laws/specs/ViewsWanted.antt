-- What the rows show of the subscriptions at the broker: what is said to it of the filters that stand for
-- anybody, and what it keeps.
use Rattle.std.specs.Prelude.{ℕ, ◌==◌, Bool, true, false, ◌&&◌, ◌||◌, not, List, [], ◌∷◌, ◌++◌, map, filter}
use Rattle.std.specs.Prelude.{if◌then◌else◌, Option, Some, None}
use Rattle.std.specs.List.{list_any, find}
use Rattle.std.specs.Option.{option_map}
use Rattle.std.specs.Str.{bytes_eq}
use Rattle.mqtt_frames.specs.Fronts.{decode}
use Rattle.mqtt_frames.specs.declared.packet.Request.{Request}
use Rattle.mqtt_frames.specs.declared.packet.SubscribeCode.{SubscribeCode}
use Rattle.mqtt_frames.specs.declared.packet.SubscribeCode.TheVariants as code
use Rattle.mqtt_frames.specs.declared.packet.Packet.{Packet}
use Rattle.mqtt_frames.specs.declared.packet.Packet.TheVariants as packet
use Rattle.mqtt_frames.specs.declared.wire.decode.Front.{Front}
use Rattle.mqtt_frames.specs.declared.wire.decode.Front.TheVariants as front
use Rattle.sng_outbox.specs.declared.item.Item.{Item}
use Rattle.sng_outbox.specs.declared.item.Item.TheVariants as item
use Rattle.sng_book.specs.declared.event.Event.{Event}
use Rattle.sng_book.specs.declared.event.Event.TheVariants.{Broker, Up, Down, Take}
use Rattle.sng_book.specs.declared.out.Out.{Out}
use Rattle.sng_book.specs.declared.row.Row.{Row}
use Rattle.sng_history.specs.Links.{Wanted}
use Rattle.sng_laws.specs.Views.{is_up, wires_in}
use Rattle.sng_laws.specs.ViewsMessages.{message_at, subscribe_in}
use Rattle.sng_laws.specs.ViewsStanding.{held_in, begun, is_for, joining}
use Rattle.sng_laws.specs.ViewsLink.{subscribe_waits, waiting}

-- ---- what is said to the broker

-- what a packet says of a filter: a SUBSCRIBE by it, with its packet id, or an UNSUBSCRIBE
pub data Word : Type 0 where
  Begins : List ℕ → ℕ → Word
  Ends : List ℕ → Word

abbrev pub begins_all : ℕ → List Request → List Word
begins_all packet_id [] = []
begins_all packet_id (r ∷ requests) = Begins r.filter packet_id ∷ begins_all packet_id requests

abbrev pub ends_all : List (List ℕ) → List Word
ends_all [] = []
ends_all (text ∷ texts) = Ends text ∷ ends_all texts

abbrev pub words_in : Packet → List Word
words_in (packet.Subscribe sent) = begins_all sent.packet_id sent.requests
words_in (packet.Unsubscribe sent) = ends_all sent.filters
words_in other = []

abbrev pub words_read : Front → List Word
words_read (front.Whole sent size) = words_in sent
words_read front.Waiting = []
words_read (front.Faulty fault) = []

abbrev pub words_of : List (List ℕ) → List Word
words_of [] = []
words_of (sent ∷ packets) = words_read (decode sent) ++ words_of packets

-- those of all packets that a row sends to the broker, in order
abbrev pub words_sent : List Out → List Word
words_sent outs = words_of (wires_in outs)

-- the last SUBSCRIBE of a filter is open, and none is owed
abbrev pub with_open : List Wanted → List ℕ → ℕ → List Wanted
with_open wanted text packet_id =
    map (λ w. if is_for text w then record w { open_id = Some packet_id; owed = false } else w) wanted

-- a SUBSCRIBE of the filter is owed
abbrev pub with_debt : List Wanted → List ℕ → List Wanted
with_debt wanted text = map (λ w. if is_for text w then record w { owed = true } else w) wanted

abbrev pub with_words : List Wanted → List Word → List Wanted
with_words wanted [] = wanted
with_words wanted (Begins text packet_id ∷ words) = with_words (with_open wanted text packet_id) words
with_words wanted (Ends text ∷ words) = with_words wanted words

abbrev pub is_its : ℕ → Option ℕ → Bool
is_its packet_id None = false
is_its packet_id (Some used) = used == packet_id

-- its open SUBSCRIBE has this packet id
abbrev pub is_answered : ℕ → Wanted → Bool
is_answered packet_id w = is_its packet_id w.open_id

-- the SUBSCRIBE with this packet id is open no more
abbrev pub without_open : ℕ → List Wanted → List Wanted
without_open packet_id wanted =
    map (λ w. if is_answered packet_id w then record w { open_id = None } else w) wanted

abbrev pub with_answer : Packet → List Wanted → List Wanted
with_answer (packet.SubscribeAck answer) wanted = without_open answer.packet_id wanted
with_answer other wanted = wanted

-- a SUBACK answers the SUBSCRIBE with its packet id
abbrev pub answered_by : Event → List Wanted → List Wanted
answered_by (Broker sent) wanted = with_answer sent wanted
answered_by other wanted = wanted

-- a SUBSCRIBE of the filter has to leave: at a take while up where one waits, and as a connection begins
abbrev pub has_to_leave : Event → List Row → List ℕ → Bool
has_to_leave Take earlier text = is_up earlier && subscribe_waits (waiting earlier) text
has_to_leave Up earlier text = true
has_to_leave other earlier text = false

-- it is owed, until it leaves
abbrev pub with_owed : Event → List Row → List Wanted → List Wanted
with_owed e earlier wanted =
    map (λ (w : Wanted). record w { owed = w.owed || has_to_leave e earlier w.filter }) wanted

-- of those that stood for somebody before, those that still do, and behind them what begins to stand
abbrev pub wanted_then : List Row → List (List ℕ) → List Wanted → List Wanted
wanted_then h texts before = joining (filter (λ w. held_in h w.filter) before) texts

-- the filters that stand for anybody, in the order in which each stood first without a break, and of each the
-- packet id of its last SUBSCRIBE to the broker since then, unless a SUBACK with that packet id came since; and
-- whether a SUBSCRIBE is owed, which had to leave since then and did not
abbrev pub wanted : List Row → List Wanted
wanted [] = []
wanted (row ∷ earlier) =
    wanted_then (row ∷ earlier) (begun (subscribe_in (message_at row.event)) row.outs)
    (answered_by row.event (with_words (with_owed row.event earlier (wanted earlier)) (words_sent row.outs)))

-- a SUBSCRIBE of the filter is owed
abbrev pub is_owed : List Row → List ℕ → Bool
is_owed h text = list_any (λ w. is_for text w && w.owed) (wanted h)

-- the filters of which one is, in the order in which each stood first
abbrev pub owed_filters : List Row → List (List ℕ)
owed_filters h = map (λ w. w.filter) (filter (λ w. w.owed) (wanted h))

-- what leaves at a take while up: first a SUBSCRIBE of each of those, and then what waits
abbrev pub outgoing : List Row → List Item
outgoing h = map item.Subscribe (owed_filters h) ++ waiting h

-- ---- what the broker keeps

-- of the filter the SUBSCRIBE with this packet id is open
abbrev pub filter_with : ℕ → List Wanted → Option (List ℕ)
filter_with packet_id wanted = option_map (λ w. w.filter) (find (is_answered packet_id) wanted)

abbrev pub is_same : List ℕ → Option (List ℕ) → Bool
is_same text None = false
is_same text (Some filter) = bytes_eq text filter

-- the first code of a SUBACK refuses (MQTT 3.1.1, 3.9.3)
abbrev pub is_refusal : List SubscribeCode → Bool
is_refusal [] = false
is_refusal (code.Refused ∷ codes) = true
is_refusal (code.Granted qos ∷ codes) = false

-- the packet refuses the subscription by the filter
abbrev pub refuses : Packet → List Wanted → List ℕ → Bool
refuses (packet.SubscribeAck answer) wanted text =
    is_refusal answer.codes && is_same text (filter_with answer.packet_id wanted)
refuses other wanted text = false

-- a connection begins with no subscription, and so it ends; the broker ends those that it refuses
abbrev pub kept_upstream : Event → List Wanted → List ℕ → Bool → Bool
kept_upstream Up wanted text before = false
kept_upstream Down wanted text before = false
kept_upstream (Broker sent) wanted text before = not (refuses sent wanted text) && before
kept_upstream other wanted text before = before

abbrev pub said_upstream : List Word → List ℕ → Bool → Bool
said_upstream [] text before = before
said_upstream (Begins filter packet_id ∷ words) text before =
    said_upstream words text (bytes_eq text filter || before)
said_upstream (Ends filter ∷ words) text before =
    said_upstream words text (not (bytes_eq text filter) && before)

-- the last word on the filter to the broker, since the connection began, is a SUBSCRIBE, and it was not
-- refused since
abbrev pub is_upstream : List Row → List ℕ → Bool
is_upstream [] text = false
is_upstream (row ∷ earlier) text =
    said_upstream (words_sent row.outs) text
    (kept_upstream row.event (wanted earlier) text (is_upstream earlier text))
