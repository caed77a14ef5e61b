-- What a packet of the broker brings, and how it moves the link (MQTT 3.1.1, 3.3, 3.4, 3.9 and 4.3.2).
use Rattle.std.specs.Prelude.{ℕ, nat_lt, Bool, List, [], ◌∷◌, ◌++◌, length, if◌then◌else◌, Option, Some, None}
use Rattle.std.specs.List.{find}
use Rattle.std.specs.Option.{option_map}
use Rattle.sng_text.specs.Texts.{is_name}
use Rattle.mqtt_frames.specs.declared.packet.Publish.{Publish}
use Rattle.mqtt_frames.specs.declared.packet.SubscribeCode.{SubscribeCode}
use Rattle.mqtt_frames.specs.declared.packet.SubscribeCode.TheVariants as code
use Rattle.mqtt_frames.specs.declared.packet.Packet.{Packet}
use Rattle.mqtt_frames.specs.declared.packet.Packet.TheVariants as packet
use Rattle.sng_outbox.specs.Sending.{without_first}
use Rattle.sng_grants.specs.Limits.{Limits}
use Rattle.sng_outbox.specs.declared.item.Item.{Item}
use Rattle.sng_outbox.specs.declared.item.Item.TheVariants as item
use Rattle.sng_book.specs.declared.decision.Decision.TheVariants as note
use Rattle.sng_book.specs.declared.decision.Who.TheVariants as who
use Rattle.sng_book.specs.declared.outcome.Denial.TheVariants.{Form}
use Rattle.sng_book.specs.declared.outcome.FormDenial.TheVariants.{NotSupported, BadName}
use Rattle.sng_book.specs.declared.outcome.Outcome.TheVariants.{Denied}
use Rattle.sng_book.specs.declared.out.Out.{Out}
use Rattle.sng_book.specs.declared.out.Out.TheVariants.{Note}
use Rattle.sng_history.specs.Links.{Link, Wanted, is_open, closed}

pub data Answer : Type 0 where
  -- a message
  Delivers : Publish → Answer
  -- the end of the publish in flight with this packet id
  Acknowledges : ℕ → Answer
  -- the answer to the SUBSCRIBE with this packet id: the broker keeps its subscription, or refuses it
  Grants : ℕ → Answer
  Refuses : ℕ → Answer
  -- what nothing waits for
  Confirms : Answer
  -- a packet that a server does not send, or that is not taken
  Strange : Answer

-- the broker refuses a subscription by the first code of its SUBACK (MQTT 3.1.1, 3.9.3)
abbrev pub subscribe_answer : ℕ → List SubscribeCode → Answer
subscribe_answer packet_id [] = Grants packet_id
subscribe_answer packet_id (code.Refused ∷ codes) = Refuses packet_id
subscribe_answer packet_id (code.Granted qos ∷ codes) = Grants packet_id

abbrev pub answer_of : Packet → Answer
answer_of (packet.Publish p) = Delivers p
answer_of (packet.PublishAck packet_id) = Acknowledges packet_id
answer_of (packet.SubscribeAck answer) = subscribe_answer answer.packet_id answer.codes
answer_of (packet.UnsubscribeAck packet_id) = Confirms
answer_of packet.PingResponse = Confirms
answer_of (packet.Connect connect) = Strange
answer_of (packet.ConnectAck answer) = Strange
answer_of (packet.Subscribe request) = Strange
answer_of (packet.Unsubscribe request) = Strange
answer_of packet.PingRequest = Strange
answer_of packet.Disconnect = Strange

-- the packet id of a message that is to be acknowledged: at QoS 1, while there is a connection
abbrev pub owed : Bool → Publish → Option ℕ
owed up p = if up then p.packet_id else None

-- one more item may wait
abbrev pub has_place : Limits → Link → Bool
has_place limits link = nat_lt (length link.waiting) limits.waiting

-- the acknowledgement waits where there is place, and else it is dropped and noted
abbrev pub acknowledgement : Bool → Option ℕ → List Item
acknowledgement place None = []
acknowledgement place (Some packet_id) = if place then item.Acknowledge packet_id ∷ [] else []

abbrev pub dropped : Bool → Option ℕ → List Out
dropped place None = []
dropped place (Some packet_id) = if place then [] else Note note.Outbox ∷ []

abbrev pub acknowledgements : Limits → Bool → Link → Answer → List Item
acknowledgements limits up link (Delivers p) = acknowledgement (has_place limits link) (owed up p)
acknowledgements limits up link (Acknowledges packet_id) = []
acknowledgements limits up link (Grants packet_id) = []
acknowledgements limits up link (Refuses packet_id) = []
acknowledgements limits up link Confirms = []
acknowledgements limits up link Strange = []

-- a PUBACK ends the publish in flight with its packet id, and after a SUBACK no SUBSCRIBE is open with its
-- own
abbrev pub answered : Link → Answer → Link
answered link (Acknowledges packet_id) = record link { in_flight = without_first link.in_flight packet_id }
answered link (Grants packet_id) = record link { wanted = closed link.wanted packet_id }
answered link (Refuses packet_id) = record link { wanted = closed link.wanted packet_id }
answered link (Delivers p) = link
answered link Confirms = link
answered link Strange = link

-- a message under a text that is not a topic name is noted
abbrev pub misnamed : List ℕ → List Out
misnamed name = if is_name name then [] else Note (note.Frame who.Broker (Denied (Form BadName))) ∷ []

-- the filter whose open SUBSCRIBE has this packet id
abbrev pub filter_open : List Wanted → ℕ → Option (List ℕ)
filter_open wanted packet_id = option_map (λ w. w.filter) (find (is_open packet_id) wanted)

-- the filter whose subscription the broker refuses
abbrev pub refused_filter : Link → Answer → Option (List ℕ)
refused_filter link (Refuses packet_id) = filter_open link.wanted packet_id
refused_filter link (Grants packet_id) = None
refused_filter link (Delivers p) = None
refused_filter link (Acknowledges packet_id) = None
refused_filter link Confirms = None
refused_filter link Strange = None

-- what a packet lets out beside the notes of clients, and behind them
abbrev pub answer_outs : Limits → Bool → Link → Answer → List Out
answer_outs limits up link (Delivers p) = misnamed p.name ++ dropped (has_place limits link) (owed up p)
answer_outs limits up link (Acknowledges packet_id) = []
answer_outs limits up link (Grants packet_id) = []
answer_outs limits up link (Refuses packet_id) = []
answer_outs limits up link Confirms = []
answer_outs limits up link Strange = Note (note.Frame who.Broker (Denied (Form NotSupported))) ∷ []
