-- All that goes out to the broker at a take, and as a connection begins, in the views' words (MQTT 3.1.1,
-- 2.3.1, 3.3, 3.4, 3.8, 3.10, 3.12 and 4.4).
use Rattle.std.specs.Prelude.{ℕ, Bool, false, List, [], ◌∷◌, ◌++◌, map, filter, if◌then◌else◌, Option, Some}
use Rattle.std.specs.Prelude.{None}
use Rattle.std.specs.List.{flat_map}
use Rattle.sng_grants.specs.declared.policy.Policy.{Policy}
use Rattle.mqtt_frames.specs.Packets.{written}
use Rattle.mqtt_frames.specs.declared.packet.Packet.TheVariants as packet
use Rattle.sng_outbox.specs.Sending.{is_at_least_once}
use Rattle.sng_outbox.specs.declared.in_flight.InFlight.{InFlight}
use Rattle.sng_outbox.specs.declared.item.Item.{Item}
use Rattle.sng_outbox.specs.declared.item.Item.TheVariants as item
use Rattle.sng_outbox.specs.declared.item.Publication.{Publication}
use Rattle.sng_book.specs.Denials.{is_allowed}
use Rattle.sng_book.specs.Whom.{who_of}
use Rattle.sng_book.specs.declared.decision.Decision.TheVariants as note
use Rattle.sng_book.specs.declared.outcome.Outcome.{Outcome}
use Rattle.sng_book.specs.declared.outcome.Outcome.TheVariants.{Allowed, Denied}
use Rattle.sng_book.specs.declared.out.Out.{Out}
use Rattle.sng_book.specs.declared.out.Out.TheVariants.{Wire, Note}
use Rattle.sng_book.specs.declared.row.Row.{Row}
use Rattle.sng_laws.specs.Views.{last_policy, is_up}
use Rattle.sng_laws.specs.ViewsFlight.{in_flight}
use Rattle.sng_laws.specs.ViewsStanding.{held_in}
use Rattle.sng_laws.specs.ViewsWanted.{outgoing, wanted}
use Rattle.sng_laws.specs.LawsRules.{judged, publish_rules}
use Rattle.sng_laws.specs.LawsFlight.{Given, given_at, next_given, given_publishes, given_subscribe}
use Rattle.sng_laws.specs.LawsFlight.{given_unsubscribe, unsubscribe_with, subscribe_by, subscribes_with}

-- the packet of a publish: its own name, payload and Retain, without DUP, under this packet id
abbrev pub publish_with : Option ℕ → Publication → List ℕ
publish_with packet_id p =
    written (packet.Publish (record {
      dup = false;
      retain = p.retain;
      packet_id = packet_id;
      name = p.name;
      payload = p.payload;
    }))

-- how the policy judges the publish, for its own origin and name
abbrev pub publish_judged : Policy → Publication → Outcome
publish_judged policy p = judged (publish_rules policy p.origin p.name)

-- ---- at a take while up

-- at QoS 1 a publish that leaves has the next packet id, and at QoS 0 none
abbrev pub id_leaving : Given → Publication → Option ℕ
id_leaving given p = if is_at_least_once p.qos then Some (next_given given) else None

-- it is noted with its outcome, and where that allows it, its packet follows
abbrev pub leaving_outs : Given → Publication → Outcome → List Out
leaving_outs given p Allowed =
    Note (note.Forward (who_of p.origin) p.name Allowed) ∷ Wire (publish_with (id_leaving given p) p) ∷ []
leaving_outs given p (Denied rule) = Note (note.Forward (who_of p.origin) p.name (Denied rule)) ∷ []

-- one that is denied takes no packet id
abbrev pub given_leaving : Given → Publication → Outcome → Given
given_leaving given p Allowed =
    if is_at_least_once p.qos then given_publishes given (next_given given ∷ []) else given
given_leaving given p (Denied rule) = given

-- what each item lets out, in order, where the policy judges and these filters stand for somebody: a publish
-- its note with its packet, an acknowledgement PUBACK, and a PINGREQ itself; a SUBSCRIBE goes out where its
-- filter stands and it may be open, and an UNSUBSCRIBE where its filter does not stand
abbrev pub taken_outs : Policy → (List ℕ → Bool) → Given → List Item → List Out
taken_outs policy held given [] = []
taken_outs policy held given (item.Publish p ∷ items) =
    leaving_outs given p (publish_judged policy p)
    ++ taken_outs policy held (given_leaving given p (publish_judged policy p)) items
taken_outs policy held given (item.Subscribe text ∷ items) =
    if held text
    then map (λ octets. Wire octets) (subscribe_by given text)
    ++ taken_outs policy held (given_subscribe given text) items
    else taken_outs policy held given items
taken_outs policy held given (item.Unsubscribe text ∷ items) =
    if held text
    then taken_outs policy held given items
    else Wire (unsubscribe_with (next_given given) text)
    ∷ taken_outs policy held (given_unsubscribe given) items
taken_outs policy held given (item.Acknowledge packet_id ∷ items) =
    Wire (written (packet.PublishAck packet_id)) ∷ taken_outs policy held given items
taken_outs policy held given (item.Ping ∷ items) =
    Wire (written packet.PingRequest) ∷ taken_outs policy held given items

-- all that a take lets out, while down nothing
abbrev pub take_answer : List Row → List Out
take_answer h =
    if is_up h then taken_outs (last_policy h) (held_in h) (given_at (in_flight h) h) (outgoing h) else []

-- ---- as a connection begins

-- a publish in flight is noted with how the policy judges it now; where that allows it, it is sent as a new
-- one, under the packet id that it has
abbrev pub again_outs : InFlight → Outcome → List Out
again_outs sent Allowed =
    Note (note.Again (who_of sent.publication.origin) sent.publication.name Allowed)
    ∷ Wire (publish_with (Some sent.packet_id) sent.publication) ∷ []
again_outs sent (Denied rule) =
    Note (note.Again (who_of sent.publication.origin) sent.publication.name (Denied rule)) ∷ []

-- of those in flight the ones that the policy still allows
abbrev pub still_allowed : Policy → List InFlight → List InFlight
still_allowed policy flights = filter (λ sent. is_allowed (publish_judged policy sent.publication)) flights

-- all that an Up lets out: each publish in flight, in the order of their sending, and behind them a SUBSCRIBE
-- for each filter that stands for anybody, in the order in which each stood first
abbrev pub up_answer : List Row → List Out
up_answer h =
    let policy = last_policy h in
    flat_map (λ sent. again_outs sent (publish_judged policy sent.publication)) (in_flight h)
    ++ map (λ octets. Wire octets)
    (subscribes_with (given_at (still_allowed policy (in_flight h)) h) (map (λ w. w.filter) (wanted h)))
