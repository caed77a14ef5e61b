-- Worked rows of devices without a session: histories that are lawful, and rows that are not.
use Rattle.std.specs.Prelude.{ℕ, true, false, codes, List, [], ◌∷◌, Some, None}
use Rattle.sng_grants.specs.Sources.{endless}
use Rattle.sng_grants.specs.Policies.{no_policy}
use Rattle.sng_grants.specs.declared.policy.Policy.{Policy}
use Rattle.sng_book.specs.declared.address.Address.{Address}
use Rattle.sng_book.specs.declared.decision.Decision.TheVariants.{Publish, Forward, Frame}
use Rattle.sng_book.specs.declared.decision.Who.TheVariants as who
use Rattle.sng_book.specs.declared.outcome.Denial.TheVariants.{Form, Grant, Room}
use Rattle.sng_book.specs.declared.outcome.FormDenial.TheVariants.{Malformed, NoSession}
use Rattle.sng_book.specs.declared.outcome.GrantDenial.TheVariants.{UnknownSource}
use Rattle.sng_book.specs.declared.outcome.RoomDenial.TheVariants.{UpstreamDown}
use Rattle.sng_book.specs.declared.outcome.Outcome.{Outcome}
use Rattle.sng_book.specs.declared.outcome.Outcome.TheVariants.{Allowed, Denied}
use Rattle.sng_book.specs.declared.event.Event.{Event}
use Rattle.sng_book.specs.declared.event.Event.TheVariants.{Datagram, Up, Down, Take, Replace}
use Rattle.sng_book.specs.declared.out.Out.{Out}
use Rattle.sng_book.specs.declared.out.Out.TheVariants.{Send, Wire, Note}
use Rattle.sng_book.specs.declared.row.Row.{Row}
use Rattle.sng_history.specs.State.{State, opening, state_of}

-- the source 10.0.0.7, and another one
abbrev pub source : List ℕ
source = 10 ∷ 0 ∷ 0 ∷ 7 ∷ []

abbrev pub stranger : List ℕ
stranger = 10 ∷ 0 ∷ 0 ∷ 8 ∷ []

abbrev pub at : List ℕ → Address
at ip = record { ip = ip; port = 4000 }

-- the source may publish under `ab`
abbrev pub grants_ab : Policy
grants_ab =
    record no_policy {
      sources = (
        source,
        endless (record { filter = codes "ab"; publishes = true; subscribes = false } ∷ []),
      ) ∷ [];
    }

-- nothing is granted
abbrev pub grants_nothing : Policy
grants_nothing = no_policy

-- a PUBLISH at QoS -1 under the short name `ab` with the payload `21`, with a Length of one octet and of
-- three
abbrev pub publish_ab : List ℕ
publish_ab = 0x09 ∷ 0x0c ∷ 0x62 ∷ 0x61 ∷ 0x62 ∷ 0x00 ∷ 0x00 ∷ 0x32 ∷ 0x31 ∷ []

abbrev pub publish_ab_long : List ℕ
publish_ab_long = 0x01 ∷ 0x00 ∷ 0x0b ∷ 0x0c ∷ 0x62 ∷ 0x61 ∷ 0x62 ∷ 0x00 ∷ 0x00 ∷ 0x32 ∷ 0x31 ∷ []

-- the same at QoS 0
abbrev pub publish_ab_session : List ℕ
publish_ab_session = 0x09 ∷ 0x0c ∷ 0x02 ∷ 0x61 ∷ 0x62 ∷ 0x00 ∷ 0x00 ∷ 0x32 ∷ 0x31 ∷ []

abbrev pub row : Event → List Out → Row
row event outs = record { by = 0; event = event; outs = outs }

abbrev pub asked_ab : List ℕ → Outcome → Out
asked_ab ip outcome = Note (Publish (who.Source ip) (Some (codes "ab")) outcome)

abbrev pub forward_ab : Outcome → Out
forward_ab outcome = Note (Forward (who.Source source) (codes "ab") outcome)

-- the MQTT PUBLISH of `ab` with the payload `21`
abbrev pub packet_ab : Out
packet_ab = Wire (0x30 ∷ 0x06 ∷ 0x00 ∷ 0x02 ∷ 0x61 ∷ 0x62 ∷ 0x32 ∷ 0x31 ∷ [])

-- policy, up, datagram, take
abbrev pub before_take : List ℕ → List Row
before_take datagram =
    row (Datagram (at source) datagram) (asked_ab source Allowed ∷ []) ∷ row Up []
    ∷ row (Replace grants_ab) [] ∷ []

abbrev pub stored_run : List ℕ → List Row
stored_run datagram = row Take (forward_ab Allowed ∷ packet_ab ∷ []) ∷ before_take datagram

-- a source that the policy does not list
abbrev pub unknown_source : List Row
unknown_source =
    row Take [] ∷ row (Datagram (at stranger) publish_ab)
    (Note (Publish (who.Source stranger) None (Denied (Grant UnknownSource))) ∷ []) ∷ row Up []
    ∷ row (Replace grants_ab) [] ∷ []

-- the broker's connection is down
abbrev pub without_up : List Row
without_up =
    row Take [] ∷ row (Datagram (at source) publish_ab) (asked_ab source (Denied (Room UpstreamDown)) ∷ [])
    ∷ row (Replace grants_ab) [] ∷ []

-- a publish of a session from an address that has none is answered by DISCONNECT, and what is not a frame by
-- nothing
abbrev pub strangers : List Row
strangers =
    row (Datagram (at stranger) (0x03 ∷ 0x18 ∷ []))
    (Note (Frame (who.Address (at stranger)) (Denied (Form Malformed))) ∷ [])
    ∷ row (Datagram (at stranger) publish_ab_session)
    (Note (Publish (who.Address (at stranger)) None (Denied (Form NoSession)))
    ∷ Send (at stranger) (0x02 ∷ 0x18 ∷ []) ∷ []) ∷ []

-- the grant is replaced while the publish waits: it is denied as it leaves
abbrev pub replaced_while_waiting : List Row
replaced_while_waiting =
    row Take (forward_ab (Denied (Grant UnknownSource)) ∷ []) ∷ row (Replace grants_nothing) []
    ∷ before_take publish_ab

-- the state in which the publish waits, with the grant in force, with it replaced, and with the connection
-- down
abbrev pub waits : State
waits = state_of opening (before_take publish_ab)

abbrev pub waits_replaced : State
waits_replaced = state_of opening (row (Replace grants_nothing) [] ∷ before_take publish_ab)

abbrev pub waits_down : State
waits_down = record waits { up = false }

-- the publish stays while the connection is down, and leaves over the next one
abbrev pub kept_while_down : List Row
kept_while_down =
    row Take (forward_ab Allowed ∷ packet_ab ∷ []) ∷ row Up [] ∷ row Take [] ∷ row Down []
    ∷ before_take publish_ab
