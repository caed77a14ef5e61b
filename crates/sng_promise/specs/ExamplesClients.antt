-- Worked rows of clients: histories that are lawful, and rows that are not.
use Rattle.std.specs.Prelude.{ℕ, true, false, codes, List, [], ◌∷◌, Some, None}
use Rattle.sng_grants.specs.Sources.{endless}
use Rattle.sng_grants.specs.Policies.{no_policy}
use Rattle.sng_grants.specs.declared.policy.Policy.{Policy}
use Rattle.mqtt_frames.specs.declared.packet.Packet.{Packet}
use Rattle.mqtt_frames.specs.declared.packet.Packet.TheVariants.{PublishAck}
use Rattle.mqtt_frames.specs.declared.packet.Packet.TheVariants as packet
use Rattle.sng_book.specs.declared.address.Address.{Address}
use Rattle.sng_book.specs.declared.decision.Decision.TheVariants.{Connect, Left, Frame, Register, Publish}
use Rattle.sng_book.specs.declared.decision.Decision.TheVariants.{Subscribe, Announce, Hand, Forward, Again}
use Rattle.sng_book.specs.declared.decision.Decision.TheVariants.{End}
use Rattle.sng_book.specs.declared.decision.Who.TheVariants as who
use Rattle.sng_book.specs.declared.outcome.Denial.TheVariants.{Form, Grant}
use Rattle.sng_book.specs.declared.outcome.FormDenial.TheVariants.{NoSession, UnknownId}
use Rattle.sng_book.specs.declared.outcome.GrantDenial.TheVariants.{NoScope, MissingPub, MissingSub}
use Rattle.sng_book.specs.declared.outcome.GrantDenial.TheVariants.{Uncovered}
use Rattle.sng_book.specs.declared.outcome.IdKind.TheVariants.{Normal}
use Rattle.sng_book.specs.declared.outcome.Outcome.{Outcome}
use Rattle.sng_book.specs.declared.outcome.Outcome.TheVariants.{Allowed, Denied}
use Rattle.sng_book.specs.declared.event.Event.TheVariants.{Datagram, Broker, Up, Down, Take, Replace}
use Rattle.sng_book.specs.declared.out.Out.{Out}
use Rattle.sng_book.specs.declared.out.Out.TheVariants.{Send, Wire, Note}
use Rattle.sng_book.specs.declared.row.Row.{Row}
use Rattle.sng_history.specs.State.{State, opening, state_of}
pub use Rattle.sng_history.specs.Samples.{s1, s2, home, away, connect_s1, connect_s2}
use Rattle.sng_promise.specs.Examples.{row}

-- `s1` alone has a scope, and both have an empty one
abbrev pub one_listed : Policy
one_listed = record no_policy {
  clients = (
    s1,
    endless
        (record {
          filter = codes "t/1";
          publishes = true;
          subscribes = false;
        } ∷ record { filter = codes "a/#"; publishes = false; subscribes = true } ∷ []),
  ) ∷ [];
}

abbrev pub both_listed : Policy
both_listed = record no_policy { clients = (s1, endless []) ∷ (s2, endless []) ∷ [] }

-- PINGREQ that names a client, and one that names none; DISCONNECT
abbrev pub ping_s1 : List ℕ
ping_s1 = 0x04 ∷ 0x16 ∷ 0x73 ∷ 0x31 ∷ []

abbrev pub ping_s2 : List ℕ
ping_s2 = 0x04 ∷ 0x16 ∷ 0x73 ∷ 0x32 ∷ []

abbrev pub ping : List ℕ
ping = 0x02 ∷ 0x16 ∷ []

abbrev pub disconnect : List ℕ
disconnect = 0x02 ∷ 0x18 ∷ []

-- CONNACK of an accepted CONNECT, and of one that is not supported; PINGRESP; DISCONNECT
abbrev pub welcome : Address → Out
welcome to = Send to (0x03 ∷ 0x05 ∷ 0x00 ∷ [])

abbrev pub refusal : Address → Out
refusal to = Send to (0x03 ∷ 0x05 ∷ 0x03 ∷ [])

abbrev pub pong : Address → Out
pong to = Send to (0x02 ∷ 0x17 ∷ [])

abbrev pub bye : Address → Out
bye to = Send to (0x02 ∷ 0x18 ∷ [])

abbrev pub lets_in : List ℕ → Out
lets_in id = Note (Connect id Allowed)

-- `s1` is let in at home
abbrev pub s1_home : Policy → List Row
s1_home policy =
    row (Datagram home connect_s1) (lets_in s1 ∷ welcome home ∷ []) ∷ row Up [] ∷ row (Replace policy) [] ∷ []

-- a client that is not listed is refused
abbrev pub not_listed : List Row
not_listed =
    row (Datagram away connect_s2) (Note (Connect s2 (Denied (Grant (NoScope s2)))) ∷ refusal away ∷ [])
    ∷ s1_home one_listed

-- a client comes from another address: it is dismissed where it was, and there is no session there any more
abbrev pub moves : List Row
moves =
    row (Datagram home ping_s1) (Note (Frame (who.Address home) (Denied (Form NoSession))) ∷ bye home ∷ [])
    ∷ row (Datagram away connect_s1) (lets_in s1 ∷ bye home ∷ welcome away ∷ []) ∷ s1_home one_listed

-- a client comes to the address of another one, which leaves
abbrev pub takes_over : List Row
takes_over =
    row (Datagram away connect_s1) (lets_in s1 ∷ bye home ∷ Note (Left s2) ∷ welcome away ∷ [])
    ∷ row (Datagram away connect_s2) (lets_in s2 ∷ welcome away ∷ []) ∷ s1_home both_listed

-- a client leaves
abbrev pub goes : List Row
goes = row (Datagram home disconnect) (Note (Left s1) ∷ bye home ∷ []) ∷ s1_home one_listed

-- a PINGREQ that names another client has no session, and one that names none is answered
abbrev pub pings : List Row
pings =
    row (Datagram home ping) (pong home ∷ [])
    ∷ row (Datagram home ping_s2) (Note (Frame (who.Client s1) (Denied (Form NoSession))) ∷ bye home ∷ [])
    ∷ s1_home one_listed

-- the state in which `s1` is at home
abbrev pub at_home : State
at_home = state_of opening (s1_home both_listed)

-- ---- what a client asks for

abbrev pub t1 : List ℕ
t1 = codes "t/1"

abbrev pub t2 : List ℕ
t2 = codes "t/2"

-- REGISTER of `t/1` with the MsgId 1, and of `t/2` with the MsgId 2
abbrev pub register_t1 : List ℕ
register_t1 = 0x09 ∷ 0x0a ∷ 0x00 ∷ 0x00 ∷ 0x00 ∷ 0x01 ∷ 0x74 ∷ 0x2f ∷ 0x31 ∷ []

abbrev pub register_t2 : List ℕ
register_t2 = 0x09 ∷ 0x0a ∷ 0x00 ∷ 0x00 ∷ 0x00 ∷ 0x02 ∷ 0x74 ∷ 0x2f ∷ 0x32 ∷ []

-- REGACK: `t/1` has the id 1; and a code with no id
abbrev pub registered_t1 : Out
registered_t1 = Send home (0x07 ∷ 0x0b ∷ 0x00 ∷ 0x01 ∷ 0x00 ∷ 0x01 ∷ 0x00 ∷ [])

abbrev pub unregistered_t2 : Out
unregistered_t2 = Send home (0x07 ∷ 0x0b ∷ 0x00 ∷ 0x00 ∷ 0x00 ∷ 0x02 ∷ 0x03 ∷ [])

-- PUBLISH at QoS 1 under the id 1 with the payload `31` and the MsgId 5, and PUBACK that accepts it, and that
-- refuses it
abbrev pub publish_t1 : List ℕ
publish_t1 = 0x08 ∷ 0x0c ∷ 0x20 ∷ 0x00 ∷ 0x01 ∷ 0x00 ∷ 0x05 ∷ 0x31 ∷ []

abbrev pub accepted_t1 : Out
accepted_t1 = Send home (0x07 ∷ 0x0d ∷ 0x00 ∷ 0x01 ∷ 0x00 ∷ 0x05 ∷ 0x00 ∷ [])

abbrev pub refused_t1 : Out
refused_t1 = Send home (0x07 ∷ 0x0d ∷ 0x00 ∷ 0x01 ∷ 0x00 ∷ 0x05 ∷ 0x03 ∷ [])

-- PUBLISH at QoS 0 under the id 9, which was not told, and its PUBACK
abbrev pub publish_9 : List ℕ
publish_9 = 0x08 ∷ 0x0c ∷ 0x00 ∷ 0x00 ∷ 0x09 ∷ 0x00 ∷ 0x00 ∷ 0x31 ∷ []

abbrev pub refused_9 : Out
refused_9 = Send home (0x07 ∷ 0x0d ∷ 0x00 ∷ 0x09 ∷ 0x00 ∷ 0x00 ∷ 0x02 ∷ [])

abbrev pub registers : List ℕ → Outcome → Out
registers name outcome = Note (Register (who.Client s1) (Some name) outcome)

abbrev pub asks_t1 : Outcome → Out
asks_t1 outcome = Note (Publish (who.Client s1) (Some t1) outcome)

abbrev pub forward_t1 : Outcome → Out
forward_t1 outcome = Note (Forward (who.Client s1) t1 outcome)

abbrev pub again_t1 : Outcome → Out
again_t1 outcome = Note (Again (who.Client s1) t1 outcome)

-- the MQTT PUBLISH of `t/1` at QoS 1 with the payload `31` and this packet id
abbrev pub packet_t1 : ℕ → Out
packet_t1 id = Wire (0x32 ∷ 0x08 ∷ 0x00 ∷ 0x03 ∷ 0x74 ∷ 0x2f ∷ 0x31 ∷ 0x00 ∷ id ∷ 0x31 ∷ [])

-- `s1` is told the id 1 of `t/1`
abbrev pub told_t1 : List Row
told_t1 = row (Datagram home register_t1) (registers t1 Allowed ∷ registered_t1 ∷ []) ∷ s1_home one_listed

-- a name that is not granted gets no id, and an id that was not told has no name
abbrev pub untold : List Row
untold =
    row (Datagram home publish_9)
    (Note (Publish (who.Client s1) None (Denied (Form (UnknownId Normal 9)))) ∷ refused_9 ∷ [])
    ∷ row (Datagram home register_t2) (registers t2 (Denied (Grant (MissingPub t2))) ∷ unregistered_t2
    ∷ []) ∷ told_t1

-- it publishes, and the publish leaves and is in flight
abbrev pub asked_t1 : List Row
asked_t1 = row (Datagram home publish_t1) (asks_t1 Allowed ∷ accepted_t1 ∷ []) ∷ told_t1

abbrev pub flies_t1 : List Row
flies_t1 = row Take (forward_t1 Allowed ∷ packet_t1 1 ∷ []) ∷ asked_t1

-- over a new connection it is sent again, until the broker acknowledges it
abbrev pub acknowledged_t1 : List Row
acknowledged_t1 =
    row Up [] ∷ row (Broker (PublishAck 1)) [] ∷ row Up (again_t1 Allowed ∷ packet_t1 1 ∷ []) ∷ row Down []
    ∷ flies_t1

-- the state in which `s1` knows the id 1; in which one publish is in flight and another one waits; and in
-- which one is in flight, and nothing is granted any more
abbrev pub knows_t1 : State
knows_t1 = state_of opening told_t1

abbrev pub flies_and_waits : State
flies_and_waits =
    state_of opening (row (Datagram home publish_t1) (asks_t1 Allowed ∷ accepted_t1 ∷ []) ∷ flies_t1)

abbrev pub flies_ungranted : State
flies_ungranted = state_of opening (row (Replace both_listed) [] ∷ flies_t1)

-- ---- a subscription

abbrev pub ab : List ℕ
ab = codes "a/b"

-- SUBSCRIBE by `a/b` at QoS 1 with the MsgId 7, and SUBACK: QoS 1, the id 1
abbrev pub subscribe_ab : List ℕ
subscribe_ab = 0x08 ∷ 0x12 ∷ 0x20 ∷ 0x00 ∷ 0x07 ∷ 0x61 ∷ 0x2f ∷ 0x62 ∷ []

abbrev pub subscribed_ab : Out
subscribed_ab = Send home (0x08 ∷ 0x13 ∷ 0x20 ∷ 0x00 ∷ 0x01 ∷ 0x00 ∷ 0x07 ∷ 0x00 ∷ [])

abbrev pub subscribes_ab : Outcome → Out
subscribes_ab outcome = Note (Subscribe (who.Client s1) (Some ab) outcome)

-- `s1` subscribes, by a filter that its scope covers
abbrev pub stands_ab : List Row
stands_ab = row (Datagram home subscribe_ab) (subscribes_ab Allowed ∷ subscribed_ab ∷ []) ∷ s1_home one_listed

-- the end of it under a policy that grants nothing: `a/b` itself shows the gap
abbrev pub ends_ab : Out
ends_ab = Note (End s1 ab (Denied (Grant (Uncovered ab ab))))

-- a replacement ends it
abbrev pub ended_ab : List Row
ended_ab = row (Replace both_listed) (ends_ab ∷ []) ∷ stands_ab

-- the state in which the filter stands
abbrev pub holds_ab : State
holds_ab = state_of opening stands_ab

-- ---- messages of the broker

-- the filter `a/#`
abbrev pub under_a : List ℕ
under_a = codes "a/#"

-- SUBSCRIBE by `a/#` at QoS 1 with the MsgId 8, and SUBACK: QoS 1, no id
abbrev pub subscribe_under_a : List ℕ
subscribe_under_a = 0x08 ∷ 0x12 ∷ 0x20 ∷ 0x00 ∷ 0x08 ∷ 0x61 ∷ 0x2f ∷ 0x23 ∷ []

abbrev pub subscribed_under_a : Out
subscribed_under_a = Send home (0x08 ∷ 0x13 ∷ 0x20 ∷ 0x00 ∷ 0x00 ∷ 0x00 ∷ 0x08 ∷ 0x00 ∷ [])

abbrev pub subscribes_under_a : Outcome → Out
subscribes_under_a outcome = Note (Subscribe (who.Client s1) (Some under_a) outcome)

-- the broker's PUBLISH of `a/b` at QoS 0 with the payload `31`
abbrev pub message_ab : Packet
message_ab =
    packet.Publish (record { name = ab; payload = 0x31 ∷ []; packet_id = None; retain = false; dup = false })

-- REGISTER that announces the id 1 of `a/b` with the MsgId 1, and the REGACK that accepts it
abbrev pub announces_ab : Out
announces_ab = Note (Announce s1 ab)

abbrev pub announcement_ab : Out
announcement_ab = Send home (0x09 ∷ 0x0a ∷ 0x00 ∷ 0x01 ∷ 0x00 ∷ 0x01 ∷ 0x61 ∷ 0x2f ∷ 0x62 ∷ [])

abbrev pub accept_ab : List ℕ
accept_ab = 0x07 ∷ 0x0b ∷ 0x00 ∷ 0x01 ∷ 0x00 ∷ 0x01 ∷ 0x00 ∷ []

-- it is handed over: PUBLISH at QoS 0 under the id 1
abbrev pub hands_ab : Outcome → Out
hands_ab outcome = Note (Hand s1 ab outcome)

abbrev pub handed_ab : Out
handed_ab = Send home (0x08 ∷ 0x0c ∷ 0x00 ∷ 0x00 ∷ 0x01 ∷ 0x00 ∷ 0x00 ∷ 0x31 ∷ [])

-- `s1` subscribes by `a/#`, which tells no id
abbrev pub stands_under_a : List Row
stands_under_a =
    row (Datagram home subscribe_under_a) (subscribes_under_a Allowed ∷ subscribed_under_a ∷ [])
    ∷ s1_home one_listed

-- a message under a name that it does not know is announced,
abbrev pub announced_ab : List Row
announced_ab = row (Broker message_ab) (announces_ab ∷ announcement_ab ∷ []) ∷ stands_under_a

-- and handed over once the client accepts the id
abbrev pub handed_over_ab : List Row
handed_over_ab = row (Datagram home accept_ab) (hands_ab Allowed ∷ handed_ab ∷ []) ∷ announced_ab

-- a replacement that grants nothing comes before the REGACK: the filter ends, and the message is denied as
-- its turn comes
abbrev pub ends_under_a : Out
ends_under_a = Note (End s1 under_a (Denied (Grant (Uncovered under_a (codes "a")))))

abbrev pub ungranted_ab : List Row
ungranted_ab = row (Replace both_listed) (ends_under_a ∷ []) ∷ announced_ab

abbrev pub denied_ab : List Row
denied_ab = row (Datagram home accept_ab) (hands_ab (Denied (Grant (MissingSub ab))) ∷ []) ∷ ungranted_ab

-- two filters match the name, which SUBACK told; the message is handed over once
abbrev pub stands_twice : List Row
stands_twice =
    row (Datagram home subscribe_under_a) (subscribes_under_a Allowed ∷ subscribed_under_a ∷ []) ∷ stands_ab

abbrev pub once_ab : List Row
once_ab = row (Broker message_ab) (hands_ab Allowed ∷ handed_ab ∷ []) ∷ stands_twice

-- the state in which an id is announced and nothing is granted any more, and the one in which both filters
-- stand
abbrev pub announced_ungranted : State
announced_ungranted = state_of opening ungranted_ab

abbrev pub holds_both : State
holds_both = state_of opening stands_twice
