-- Worked rows of wills, of the clock and of lost clients: histories that are lawful, and rows that are not.
use Rattle.std.specs.Prelude.{ℕ, List, [], ◌∷◌, Some}
use Rattle.sng_book.specs.declared.decision.Decision.TheVariants.{Left, Lost, Will}
use Rattle.sng_book.specs.declared.decision.Who.TheVariants as who
use Rattle.sng_book.specs.declared.outcome.Denial.TheVariants.{Grant}
use Rattle.sng_book.specs.declared.outcome.GrantDenial.TheVariants.{MissingPub}
use Rattle.sng_book.specs.declared.outcome.Outcome.{Outcome}
use Rattle.sng_book.specs.declared.outcome.Outcome.TheVariants.{Allowed, Denied}
use Rattle.sng_book.specs.declared.event.Event.TheVariants.{Datagram, Up, Take, Replace, Tick}
use Rattle.sng_book.specs.declared.out.Out.{Out}
use Rattle.sng_book.specs.declared.out.Out.TheVariants.{Send, Wire, Note}
use Rattle.sng_book.specs.declared.row.Row.{Row}
use Rattle.sng_history.specs.State.{State, opening, state_of}
use Rattle.sng_promise.specs.Examples.{row}
use Rattle.sng_promise.specs.ExamplesClients.{one_listed, home, s1, t1, t2, lets_in, welcome, refusal}
use Rattle.sng_promise.specs.ExamplesClients.{disconnect, bye}
use Rattle.sng_promise.specs.ExamplesClients.{forward_t1, packet_t1}

-- CONNECT with Will and CleanSession and a Duration of 60 s
abbrev pub connect_will : List ℕ
connect_will = 0x08 ∷ 0x04 ∷ 0x0c ∷ 0x01 ∷ 0x00 ∷ 0x3c ∷ 0x73 ∷ 0x31 ∷ []

-- WILLTOPIC of `t/1` at QoS 2 and of `t/2` at QoS 0; WILLMSG with the message `31`
abbrev pub topic_t1 : List ℕ
topic_t1 = 0x06 ∷ 0x07 ∷ 0x40 ∷ 0x74 ∷ 0x2f ∷ 0x31 ∷ []

abbrev pub topic_t2 : List ℕ
topic_t2 = 0x06 ∷ 0x07 ∷ 0x00 ∷ 0x74 ∷ 0x2f ∷ 0x32 ∷ []

abbrev pub message_31 : List ℕ
message_31 = 0x03 ∷ 0x09 ∷ 0x31 ∷ []

-- WILLTOPICREQ and WILLMSGREQ
abbrev pub asks_topic : Out
asks_topic = Send home (0x02 ∷ 0x06 ∷ [])

abbrev pub asks_message : Out
asks_message = Send home (0x02 ∷ 0x08 ∷ [])

abbrev pub states : List ℕ → Outcome → Out
states name outcome = Note (Will (who.Client s1) (Some name) outcome)

-- the MQTT PINGREQ
abbrev pub ping_broker : Out
ping_broker = Wire (0xc0 ∷ 0x00 ∷ [])

-- the MQTT PUBLISH of `t/1` at QoS 2 with the payload `31` and the packet id 1
abbrev pub packet_twice : Out
packet_twice = Wire (0x34 ∷ 0x08 ∷ 0x00 ∷ 0x03 ∷ 0x74 ∷ 0x2f ∷ 0x31 ∷ 0x00 ∷ 0x01 ∷ 0x31 ∷ [])

-- `s1` connects with a will, and is asked for its topic
abbrev pub will_asked : List Row
will_asked =
    row (Datagram home connect_will) (lets_in s1 ∷ asks_topic ∷ []) ∷ row Up [] ∷ row (Replace one_listed) []
    ∷ []

-- a topic that is not granted ends the dialogue, and the client leaves
abbrev pub will_refused : List Row
will_refused =
    row (Datagram home topic_t2) (states t2 (Denied (Grant (MissingPub t2))) ∷ refusal home
    ∷ Note (Left s1) ∷ [])
    ∷ will_asked

-- one that is granted lets the message be asked for, and with that the client is let in
abbrev pub topic_stated : List Row
topic_stated = row (Datagram home topic_t1) (states t1 Allowed ∷ asks_message ∷ []) ∷ will_asked

abbrev pub will_stated : List Row
will_stated = row (Datagram home message_31) (states t1 Allowed ∷ welcome home ∷ []) ∷ topic_stated

-- the clock moves: a PINGREQ is due to the broker after half a minute
abbrev pub minute_half : List Row
minute_half = row Take (ping_broker ∷ []) ∷ row (Tick 30000) [] ∷ will_stated

-- one and a half of its Duration after it was heard last, the client is lost
abbrev pub lost_s1 : List Row
lost_s1 = row (Tick 90000) (Note (Lost s1) ∷ []) ∷ minute_half

-- and its will leaves, at QoS 1, before the next PINGREQ
abbrev pub will_published : List Row
will_published = row Take (forward_t1 Allowed ∷ packet_t1 1 ∷ ping_broker ∷ []) ∷ lost_s1

-- a client that takes its leave is not lost, and its will is not published
abbrev pub left_s1 : List Row
left_s1 = row (Datagram home disconnect) (Note (Left s1) ∷ bye home ∷ []) ∷ minute_half

abbrev pub will_unpublished : List Row
will_unpublished = row Take (ping_broker ∷ []) ∷ row (Tick 90000) [] ∷ left_s1

-- the state in which the topic is awaited; in which the client is silent; and in which it is lost
abbrev pub awaits_topic : State
awaits_topic = state_of opening will_asked

abbrev pub is_silent : State
is_silent = state_of opening minute_half

abbrev pub is_lost : State
is_lost = state_of opening lost_s1
