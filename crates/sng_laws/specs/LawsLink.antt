-- What leaves for the broker in a lawful history, in the views' words.
use Rattle.std.specs.Prelude.{ℕ, ◌≡◌, Bool, true, false, List, [], ◌∷◌, ◌++◌, map, MatchBool}
use Rattle.std.specs.Prelude.{Option, Some, is_some}
use Rattle.sng_grants.specs.declared.policy.Policy.{Policy}
use Rattle.mqtt_frames.specs.Packets.{written}
use Rattle.mqtt_frames.specs.declared.packet.Packet.TheVariants as packet
use Rattle.sng_outbox.specs.Sending.{is_at_least_once}
use Rattle.sng_outbox.specs.declared.item.Publication.{Publication}
use Rattle.sng_book.specs.Denials.{is_allowed}
use Rattle.sng_book.specs.Whom.{who_of}
use Rattle.sng_book.specs.declared.decision.Decision.{Decision}
use Rattle.sng_book.specs.declared.decision.Decision.TheVariants as note
use Rattle.sng_book.specs.declared.decision.Who.{Who}
use Rattle.sng_book.specs.declared.event.Event.{Event}
use Rattle.sng_book.specs.declared.event.Event.TheVariants.{Up, Down, Take}
use Rattle.sng_book.specs.declared.out.Out.{Out}
use Rattle.sng_book.specs.declared.out.Out.TheVariants.{Send, Wire, Note}
use Rattle.sng_book.specs.declared.row.Row.{Row}
use Rattle.sng_laws.specs.Views.{last_policy}
use Rattle.sng_laws.specs.ViewsLink.{Departure, publications, asked, waiting, left, lets_out, departures}
use Rattle.sng_laws.specs.ViewsLink.{wires_in, sends_in}
use Rattle.sng_laws.specs.LawsRules.{judged, publish_rules}

-- ---- in order

abbrev pub about_asked : Publication → Who × List ℕ
about_asked p = (who_of p.origin, p.name)

abbrev pub about_left : Departure → Who × List ℕ
about_left d = (d.whom, d.name)

-- the publishes that left are a beginning of those that were asked for, in order, and those that wait are the
-- rest
abbrev pub LeavesInOrder : List Row → Type 0
LeavesInOrder h =
    map about_asked (asked h) ≡ map about_left (left h) ++ map about_asked (publications (waiting h))

-- ---- judged, and with its own bytes

-- the packet is the MQTT PUBLISH of the publish (MQTT 3.1.1, 3.3): its own name, payload and Retain, without
-- DUP, and a packet id just at QoS 1
pub record Carries (p : Publication) (sent : Option (List ℕ)) : Type 0 where
  pub packet_id : Option ℕ
  pub own : sent ≡ Some (written
      (packet.Publish (record {
        dup = false;
        retain = p.retain;
        packet_id = packet_id;
        name = p.name;
        payload = p.payload;
      })))
  pub numbered : is_some packet_id ≡ is_at_least_once p.qos

-- the publish leaves so under the policy: it is judged for its own origin and name, and where that allows it,
-- its own packet follows
pub record Departs (policy : Policy) (p : Publication) (d : Departure) : Type 0 where
  pub whom : d.whom ≡ who_of p.origin
  pub name : d.name ≡ p.name
  pub judgement : d.outcome ≡ judged (publish_rules policy p.origin p.name)
  pub packet : is_allowed d.outcome ≡ true → Carries p d.packet

-- one for each, in order
abbrev pub AllDepart : Policy → List Publication → List Departure → Type 0
AllDepart policy [] [] = Unit {0}
AllDepart policy (p ∷ ps) (d ∷ ds) = Departs policy p d × AllDepart policy ps ds
AllDepart policy [] (d ∷ ds) = ⊥
AllDepart policy (p ∷ ps) [] = ⊥

-- a take while up lets out each publish that waits, under the policy in force at that row; at no other row a
-- `forward` is noted
abbrev pub EachDeparts : List Row → Type 0
EachDeparts [] = Unit {0}
EachDeparts (row ∷ earlier) =
    EachDeparts earlier
    × MatchBool (lets_out row.event earlier)
    (AllDepart (last_policy earlier) (publications (waiting earlier)) (departures row.outs))
    (departures row.outs ≡ [])

-- ---- nothing else

-- packets go to the broker at a take while up, and as a connection begins
abbrev pub may_send : Event → List Row → Bool
may_send Up earlier = true
may_send Take earlier = lets_out Take earlier
may_send other earlier = false

abbrev pub EachTimely : List Row → Type 0
EachTimely [] = Unit {0}
EachTimely (row ∷ earlier) =
    EachTimely earlier × (may_send row.event earlier ≡ false → wires_in row.outs ≡ [])

-- the event is of the connection to the broker alone
abbrev pub is_upstream : Event → Bool
is_upstream Up = true
is_upstream Down = true
is_upstream Take = true
is_upstream other = false

-- with such an event nothing is sent to a client
abbrev pub EachUpstream : List Row → Type 0
EachUpstream [] = Unit {0}
EachUpstream (row ∷ earlier) = EachUpstream earlier × (is_upstream row.event ≡ true → sends_in row.outs ≡ [])

-- the note is of a publish that leaves, or is sent again
abbrev pub is_exit : Decision → Bool
is_exit (note.Forward who name outcome) = true
is_exit (note.Again who name outcome) = true
is_exit other = false

-- there are only such notes, and packets to the broker
abbrev pub OnlyExits : List Out → Type 0
OnlyExits [] = Unit {0}
OnlyExits (Note said ∷ outs) = (is_exit said ≡ true) × OnlyExits outs
OnlyExits (Wire sent ∷ outs) = OnlyExits outs
OnlyExits (Send to datagram ∷ outs) = ⊥
