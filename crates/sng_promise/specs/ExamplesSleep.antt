-- Worked rows of clients that sleep, and of what is sent again: histories that are lawful, and rows that are
-- not.
use Rattle.std.specs.Prelude.{ℕ, false, List, [], ◌∷◌, Some}
use Rattle.mqtt_frames.specs.declared.packet.Packet.{Packet}
use Rattle.mqtt_frames.specs.declared.packet.Packet.TheVariants as packet
use Rattle.sng_book.specs.declared.decision.Decision.TheVariants.{Lost, Retry}
use Rattle.sng_book.specs.declared.outcome.Outcome.{Outcome}
use Rattle.sng_book.specs.declared.outcome.Outcome.TheVariants.{Allowed}
use Rattle.sng_book.specs.declared.event.Event.TheVariants.{Datagram, Broker, Tick}
use Rattle.sng_book.specs.declared.out.Out.{Out}
use Rattle.sng_book.specs.declared.out.Out.TheVariants.{Send, Note}
use Rattle.sng_book.specs.declared.row.Row.{Row}
use Rattle.sng_history.specs.State.{State, opening, state_of}
use Rattle.sng_promise.specs.Examples.{row}
use Rattle.sng_promise.specs.ExamplesClients.{home, s1, ab, ping_s1, pong, bye, stands_ab, stands_under_a}
use Rattle.sng_promise.specs.ExamplesClients.{message_ab, announces_ab, announcement_ab, accept_ab, hands_ab}
use Rattle.sng_promise.specs.ExamplesClients.{handed_ab}

-- ---- a client sleeps, wakes, and sleeps again

-- DISCONNECT with a Duration of 60 s
abbrev pub sleeps_s1 : List ℕ
sleeps_s1 = 0x04 ∷ 0x18 ∷ 0x00 ∷ 0x3c ∷ []

-- while it sleeps two messages come for it, and wait
abbrev pub asleep_s1 : List Row
asleep_s1 = row (Datagram home sleeps_s1) (bye home ∷ []) ∷ stands_under_a

abbrev pub buffered_ab : List Row
buffered_ab = row (Broker message_ab) [] ∷ row (Broker message_ab) [] ∷ asleep_s1

-- its PINGREQ wakes it: the id of their name is announced,
abbrev pub woken_s1 : List Row
woken_s1 = row (Datagram home ping_s1) (announces_ab ∷ announcement_ab ∷ []) ∷ buffered_ab

-- and once it accepts that both are handed over, and PINGRESP says that nothing is left
abbrev pub drained_s1 : List Row
drained_s1 =
    row (Datagram home accept_ab)
    (hands_ab Allowed ∷ handed_ab ∷ hands_ab Allowed ∷ handed_ab ∷ pong home ∷ []) ∷ woken_s1

-- it sleeps again: the next message waits
abbrev pub sleeps_again : List Row
sleeps_again = row (Broker message_ab) [] ∷ drained_s1

-- the states in which the client sleeps, in which two messages wait for it then, and in which it is awake
abbrev pub is_asleep : State
is_asleep = state_of opening asleep_s1

abbrev pub is_buffered : State
is_buffered = state_of opening buffered_ab

abbrev pub is_woken : State
is_woken = state_of opening woken_s1

-- ---- a message at QoS 1 is sent again

-- the broker's PUBLISH of `a/b` at QoS 1 with the payload `31` and the packet id 5
abbrev pub message_one : Packet
message_one =
    packet.Publish (record {
      name = ab;
      payload = 0x31 ∷ [];
      packet_id = Some 5;
      retain = false;
      dup = false;
    })

-- PUBLISH at QoS 1 under the id 1 with the MsgId 1; the same with DUP; and the PUBACK of it
abbrev pub handed_one : Out
handed_one = Send home (0x08 ∷ 0x0c ∷ 0x20 ∷ 0x00 ∷ 0x01 ∷ 0x00 ∷ 0x01 ∷ 0x31 ∷ [])

abbrev pub handed_again : Out
handed_again = Send home (0x08 ∷ 0x0c ∷ 0xa0 ∷ 0x00 ∷ 0x01 ∷ 0x00 ∷ 0x01 ∷ 0x31 ∷ [])

abbrev pub acknowledges_one : List ℕ
acknowledges_one = 0x07 ∷ 0x0d ∷ 0x00 ∷ 0x01 ∷ 0x00 ∷ 0x01 ∷ 0x00 ∷ []

abbrev pub retries_ab : Outcome → Out
retries_ab outcome = Note (Retry s1 ab outcome)

-- it is handed over, and not answered in ten seconds: so it is sent again
abbrev pub open_one : List Row
open_one = row (Broker message_one) (hands_ab Allowed ∷ handed_one ∷ []) ∷ stands_ab

abbrev pub again_one : List Row
again_one = row (Tick 10000) (retries_ab Allowed ∷ handed_again ∷ []) ∷ row (Tick 9999) [] ∷ open_one

-- until a PUBACK answers it
abbrev pub answered_one : List Row
answered_one = row (Tick 20000) [] ∷ row (Datagram home acknowledges_one) [] ∷ again_one

-- after three tries without an answer the client is lost
abbrev pub tried_out : List Row
tried_out =
    row (Tick 30000) (retries_ab Allowed ∷ handed_again ∷ [])
    ∷ row (Tick 20000) (retries_ab Allowed ∷ handed_again ∷ []) ∷ again_one

abbrev pub given_up : List Row
given_up = row (Tick 40000) (Note (Lost s1) ∷ []) ∷ tried_out

-- the state in which it was sent again three times
abbrev pub is_tried_out : State
is_tried_out = state_of opening tried_out
