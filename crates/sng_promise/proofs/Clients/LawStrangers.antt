-- A client that was never accepted has no state, and nothing waits for it.
use Rattle.std.proofs.Common.{◌≡◌, ℕ, Bool, true, false, List, [], ◌∷◌, ◌++◌, refl, ap, sym, ◌∙◌, subst}
use Rattle.std.proofs.Common.{if◌then◌else◌, Ok, Err}
use Rattle.std.specs.Prelude.{◌&&◌, ◌||◌, not, Option, Some, None}
use Rattle.std.specs.Option.{option_to_list}
use Rattle.std.specs.Str.{bytes_eq}
use Rattle.std.specs.declared.result.Result.{Result}
use Rattle.std.proofs.lemmas.List.{append-nil}
use Rattle.sng_grants.specs.declared.policy.Policy.{Policy}
use Rattle.mqtt_frames.specs.declared.packet.Publish as mqtt
use Rattle.sng_text.specs.Texts.{is_name}
use Rattle.sng_queue.specs.Messages.{Message, message}
use Rattle.sng_outbox.specs.declared.in_flight.InFlight.{InFlight}
use Rattle.sng_outbox.specs.declared.item.Item.{Item}
use Rattle.sng_outbox.specs.declared.item.Item.TheVariants as item
use Rattle.sng_outbox.specs.declared.item.Publication.{Publication}
use Rattle.sng_frames.specs.Reading.{frame_of}
use Rattle.sng_frames.specs.declared.fault.FrameFault.{FrameFault}
use Rattle.sng_frames.specs.declared.messages.connect.Connect.{Connect}
use Rattle.sng_frames.specs.declared.messages.publish.Publish.{Publish}
use Rattle.sng_frames.specs.declared.qos.FrameQos.{FrameQos}
use Rattle.sng_frames.specs.declared.qos.FrameQos.TheVariants as qos
use Rattle.sng_frames.specs.declared.frame.SnFrame.{SnFrame}
use Rattle.sng_frames.specs.declared.frame.SnFrame.TheVariants as frame
use Rattle.sng_book.specs.declared.address.Address.{Address}
use Rattle.sng_book.specs.declared.decision.Decision.TheVariants as note
use Rattle.sng_book.specs.declared.outcome.Outcome.{Outcome}
use Rattle.sng_book.specs.declared.outcome.Outcome.TheVariants.{Allowed, Denied}
use Rattle.sng_book.specs.declared.event.Event.{Event}
use Rattle.sng_book.specs.declared.event.Event.TheVariants.{Datagram, Broker, Up, Down, Take, Replace, Tick}
use Rattle.sng_book.specs.declared.out.Out.{Out}
use Rattle.sng_book.specs.declared.out.Out.TheVariants.{Send, Wire, Note}
use Rattle.sng_book.specs.declared.row.Row.{Row}
use Rattle.sng_history.specs.Causes.{ToPing, ToLeave, ToRegister, ToPublish, ToSubscribe, ToUnsubscribe}
use Rattle.sng_history.specs.Causes.{ToConfirm, ToAcknowledge, Untaken}
use Rattle.sng_history.specs.Causes.{datagram_cause, publish_cause, rule_of, ToState, StatesTopic}
use Rattle.sng_history.specs.Causes.{StatesMessage, UpdatesTopic}
use Rattle.sng_history.specs.Causes.{UpdatesMessage, ByTick, ToSleep}
use Rattle.sng_history.specs.Causes.{ByConnect, ByPacket, ByUp, ByReplace}
use Rattle.sng_history.specs.Causes.{ToPublishOnce, ToRelease}
use Rattle.sng_history.specs.Clients.{Client}
use Rattle.sng_history.specs.State.{State, later}
use Rattle.sng_history.specs.Verdicts.{exit, entry}
use Rattle.sng_history.specs.Whole.{drops, client_rows}
use Rattle.sng_history.specs.Lawful.{exits_for}
use Rattle.sng_history.specs.Steps.{notes_for, outs_by, outs_of}
use Rattle.sng_laws.specs.ViewsClients.{phase_of, is_admitted, is_among, accepted_by, accepted_in}
use Rattle.sng_laws.specs.ViewsClients.{is_awaiting}
use Rattle.sng_history.specs.Links.{Link, packet_id_by, exited, resumed, filters_wanted, subscribe_left}
use Rattle.sng_history.specs.Links.{unsubscribe_left}
use Rattle.sng_history.specs.Links.{outgoing}
use Rattle.sng_history.specs.Exits.{exits_of, forwarded, subscribe_leaves, unsubscribe_leaves, subscribing}
use Rattle.sng_history.specs.Exits.{leaving, agains_of, sent_again}
use Rattle.sng_history.specs.Exits.{resending}
use Rattle.sng_history.specs.Packets.{Answer, Delivers, Acknowledges, Grants, Refuses, Confirms, Strange}
use Rattle.sng_history.specs.Packets.{answer_of, has_place, owed}
use Rattle.sng_history.specs.Packets.{misnamed, dropped, answer_outs}
use Rattle.sng_laws.specs.ViewsMessages.{Connects, message_in}
use Rattle.sng_laws.specs.ViewsStanding.{standing_of}
use Rattle.sng_laws.specs.ViewsHanding.{is_matched, qos_due, meant_in}
use Rattle.sng_history.proofs.Own.{same_self, same_means}
use Rattle.sng_promise.proofs.Link.LawLink.{Wires, subscribe_wires, unsubscribe_wires, subscribing_wires}
use Rattle.sng_promise.proofs.Clients.SeenNotes.{admitted_notes}
use Rattle.sng_history.specs.Ticking.{is_ping_due, with_wills, ping_dropped}
use Rattle.sng_history.specs.Losing.{tick_notes}
use Rattle.sng_history.proofs.Statements.{every_tick}
use Rattle.sng_promise.proofs.Clients.LawAdmits.{admitted_append, Modest, modest_notes}
use Rattle.sng_promise.proofs.Clients.LawAdmits.{modest_messages}
use Rattle.sng_promise.proofs.Clients.LawAdmits.{admitted_rows}
use Rattle.sng_promise.proofs.Clients.LawAdmits.{admitted_message, admitted_broken, ends_note, packet_note}
use Rattle.sng_promise.proofs.Clients.LawAdmits.{admitted_source}
use Rattle.sng_promise.proofs.Clients.LawStrangersConnects.{entry_admits}
use Rattle.sng_history.proofs.Booleans.{or_neither}

-- ---- no row accepts a client that it does not count

publish_admits : (s : State) (from : Address) (p : Publish) (q : FrameQos) (id : List ℕ)
    → is_admitted id (outs_by s (publish_cause from p q)) ≡ false
publish_admits s from p qos.WithoutSession id = admitted_source s from p id
publish_admits s from p qos.AtMostOnce id = admitted_message s from (ToPublish p) id
publish_admits s from p qos.AtLeastOnce id = admitted_message s from (ToPublish p) id
publish_admits s from p qos.ExactlyOnce id = admitted_message s from (ToPublishOnce p) id

disconnect_admits : (s : State) (from : Address) (duration : Option ℕ) (id : List ℕ)
    → is_admitted id (outs_by s (datagram_cause from (Ok (frame.Disconnect duration)))) ≡ false
disconnect_admits s from None id = admitted_message s from ToLeave id
disconnect_admits s from (Some duration) id = admitted_message s from (ToSleep duration) id

own_admits : (id : List ℕ) (a known : Bool) → known ≡ false
    → is_among id (if a && not known then id ∷ [] else []) ≡ false → a ≡ false
own_admits id true known unknown none =
    absurd
    (let e : (bytes_eq id id || false) ≡ false = rw unknown at none in
    let f : (true || false) ≡ false = rw (same_self id) at e in cc)
own_admits id false known unknown none = refl

connect_admits : (s : State) (from : Address) (connect : Connect) (ids : List (List ℕ)) (id : List ℕ)
    (own : Bool)
    → bytes_eq id connect.client_id ≡ own → is_among id ids ≡ false
    → is_among id (accepted_by ids (Some (Connects connect)) (outs_by s (ByConnect from connect))) ≡ false
    → is_admitted id (outs_by s (ByConnect from connect)) ≡ false
connect_admits s from connect ids id true is unknown none =
    let outs = outs_by s (ByConnect from connect) in
    let same : connect.client_id ≡ id = sym (same_means id connect.client_id is) in
    own_admits id (is_admitted id outs) (is_among id ids) unknown
    (subst (λ i. is_among id (if is_admitted i outs && not (is_among i ids) then i ∷ [] else []) ≡ false) same
    none)
connect_admits s from connect ids id false is unknown none =
    entry_admits s from connect id (entry s connect) is

datagram_admits : (s : State) (from : Address) (read : Result SnFrame FrameFault) (ids : List (List ℕ))
    (id : List ℕ)
    → is_among id ids ≡ false
    → is_among id (accepted_by ids (message_in read) (outs_by s (datagram_cause from read))) ≡ false
    → is_admitted id (outs_by s (datagram_cause from read)) ≡ false
datagram_admits s from (Ok (frame.Connect connect)) ids id unknown none =
    connect_admits s from connect ids id (bytes_eq id connect.client_id) refl unknown none
datagram_admits s from (Ok (frame.Publish p)) ids id unknown none = publish_admits s from p p.flags.qos id
datagram_admits s from (Ok (frame.Register r)) ids id unknown none = admitted_message s from (ToRegister r) id
datagram_admits s from (Ok (frame.Subscribe r)) ids id unknown none =
    admitted_message s from (ToSubscribe r) id
datagram_admits s from (Ok (frame.Unsubscribe r)) ids id unknown none =
    admitted_message s from (ToUnsubscribe r) id
datagram_admits s from (Ok (frame.PingRequest client)) ids id unknown none =
    admitted_message s from (ToPing client) id
datagram_admits s from (Ok (frame.RegisterAck r)) ids id unknown none =
    admitted_message s from (ToConfirm r) id
datagram_admits s from (Ok (frame.PublishAck r)) ids id unknown none =
    admitted_message s from (ToAcknowledge r) id
datagram_admits s from (Ok (frame.PublishRelease n)) ids id unknown none =
    admitted_message s from (ToRelease n) id
datagram_admits s from (Ok (frame.Disconnect duration)) ids id unknown none =
    disconnect_admits s from duration id
datagram_admits s from (Ok (frame.WillTopic topic)) ids id unknown none =
    admitted_message s from (ToState (StatesTopic topic)) id
datagram_admits s from (Ok (frame.WillMessage message)) ids id unknown none =
    admitted_message s from (ToState (StatesMessage message)) id
datagram_admits s from (Ok (frame.WillTopicUpdate topic)) ids id unknown none =
    admitted_message s from (ToState (UpdatesTopic topic)) id
datagram_admits s from (Ok (frame.WillMessageUpdate message)) ids id unknown none =
    admitted_message s from (ToState (UpdatesMessage message)) id
datagram_admits s from (Ok message) ids id unknown none = admitted_message s from (Untaken message) id
datagram_admits s from (Err broke) ids id unknown none = admitted_broken s from (rule_of broke) id

forwarded_admits : (id : List ℕ) (p : Publication) (packet_id : Option ℕ) (o : Outcome) (outs : List Out)
    → is_admitted id outs ≡ false
    → is_admitted id (forwarded p packet_id o ++ outs) ≡ false
forwarded_admits id p packet_id Allowed outs rest = rest
forwarded_admits id p packet_id (Denied rule) outs rest = rest

wires_admit : (id : List ℕ) (xs ys : List Out) → Wires xs → is_admitted id (xs ++ ys) ≡ is_admitted id ys
wires_admit id [] ys are = refl
wires_admit id (Wire sent ∷ xs) ys are = wires_admit id xs ys are.1
wires_admit id (Send to datagram ∷ xs) ys are = absurd are
wires_admit id (Note said ∷ xs) ys are = absurd are

leaving_admits : (id : List ℕ) (policy : Policy) (link : Link) (items : List Item)
    → is_admitted id (leaving link items (exits_of policy items)) ≡ false
leaving_admits id policy link [] = refl
leaving_admits id policy link (item.Publish p ∷ items) =
    let o = exit policy p.origin p.name in
    forwarded_admits id p (packet_id_by link p.qos) o
    (leaving (exited link p o) items (exits_of policy items))
    (leaving_admits id policy (exited link p o) items)
leaving_admits id policy link (item.Subscribe text ∷ items) =
    let next = subscribe_left link text in
    wires_admit id (subscribe_leaves link text) (leaving next items (exits_of policy items))
    (subscribe_wires link text)
    ∙ leaving_admits id policy next items
leaving_admits id policy link (item.Unsubscribe text ∷ items) =
    let next = unsubscribe_left link text in
    wires_admit id (unsubscribe_leaves link text) (leaving next items (exits_of policy items))
    (unsubscribe_wires link text)
    ∙ leaving_admits id policy next items
leaving_admits id policy link (item.Acknowledge packet_id ∷ items) = leaving_admits id policy link items
leaving_admits id policy link (item.Ping ∷ items) = leaving_admits id policy link items

take_admits : (s : State) (id : List ℕ) (b : Bool) → s.up ≡ b → is_admitted id (outs_of s Take) ≡ false
take_admits s id true is = rw is (leaving_admits id s.policy s.link (outgoing s.link))
take_admits s id false is = rw is refl

wires_alone : (id : List ℕ) (xs : List Out) → Wires xs → is_admitted id xs ≡ false
wires_alone id xs are = ap (is_admitted id) (sym (append-nil xs)) ∙ wires_admit id xs [] are

again_admits : (id : List ℕ) (sent : InFlight) (o : Outcome) (outs : List Out) → is_admitted id outs ≡ false
    → is_admitted id (sent_again sent o ++ outs) ≡ false
again_admits id sent Allowed outs rest = rest
again_admits id sent (Denied rule) outs rest = rest

resending_admits : (id : List ℕ) (policy : Policy) (flights : List InFlight)
    → is_admitted id (resending flights (agains_of policy flights)) ≡ false
resending_admits id policy [] = refl
resending_admits id policy (sent ∷ flights) =
    again_admits id sent (exit policy sent.publication.origin sent.publication.name)
    (resending flights (agains_of policy flights))
    (resending_admits id policy flights)

misnamed_admits : (id name : List ℕ) (outs : List Out) (b : Bool) → is_name name ≡ b
    → is_admitted id outs ≡ false
    → is_admitted id (misnamed name ++ outs) ≡ false
misnamed_admits id name outs true is rest = rw is rest
misnamed_admits id name outs false is rest = rw is rest

dropped_admits : (id : List ℕ) (place : Bool) (owes : Option ℕ) → is_admitted id (dropped place owes) ≡ false
dropped_admits id place None = refl
dropped_admits id true (Some packet_id) = refl
dropped_admits id false (Some packet_id) = refl

packet_admits : (s : State) (id : List ℕ) (brought : Answer)
    → is_admitted id (answer_outs s.policy.limits s.up s.link brought) ≡ false
packet_admits s id (Delivers p) =
    misnamed_admits id p.name (dropped (has_place s.policy.limits s.link) (owed s.up p)) (is_name p.name) refl
    (dropped_admits id (has_place s.policy.limits s.link) (owed s.up p))
packet_admits s id (Acknowledges packet_id) = refl
packet_admits s id (Grants packet_id) = refl
packet_admits s id (Refuses packet_id) = refl
packet_admits s id Confirms = refl
packet_admits s id Strange = refl

-- clients are lost
pub tick_note : (s : State) (clock : ℕ) (x : Client) (id : List ℕ)
    → admitted_notes id (tick_notes s.policy s.link clock s.clients x) ≡ false
tick_note s clock x id = modest_notes id (tick_notes s.policy s.link clock s.clients x)
    (every_tick (Modest id) s.policy s.link clock s.clients x
    (record { loses = refl; drops = λ name rule. refl; messages = modest_messages id x.id })
    (λ name o. refl))

dropped_ping : (id : List ℕ) (due place : Bool)
    → is_admitted id (let outs : List Out = if due then (if place then [] else Note note.Outbox ∷ [])
    else [] in outs) ≡ false
dropped_ping id true true = refl
dropped_ping id true false = refl
dropped_ping id false place = refl

pub row_admits : (s : State) (e : Event) (ids : List (List ℕ)) (id : List ℕ) → is_among id ids ≡ false
    → is_among id (accepted_in ids e (outs_of s e)) ≡ false → is_admitted id (outs_of s e) ≡ false
row_admits s (Datagram from datagram) ids id unknown none =
    datagram_admits s from (frame_of datagram) ids id unknown none
row_admits s (Broker packet) ids id unknown none =
    let c = ByPacket packet in
    admitted_append id (client_rows s c [] (notes_for s c))
    (answer_outs s.policy.limits s.up s.link (answer_of packet))
    (admitted_rows s c [] id (λ x. packet_note s packet x id)) (packet_admits s id (answer_of packet))
row_admits s Up ids id unknown none =
    let anew = subscribing (resumed s.link s.clock (exits_for s ByUp)) (filters_wanted s.link) in
    admitted_append id (resending s.link.in_flight (exits_for s ByUp)) anew
    (resending_admits id s.policy s.link.in_flight)
    (wires_alone id anew (subscribing_wires (resumed s.link s.clock (exits_for s ByUp))
    (filters_wanted s.link)))
row_admits s Down ids id unknown none = refl
row_admits s Take ids id unknown none = take_admits s id s.up refl
row_admits s (Replace policy) ids id unknown none =
    let c = ByReplace policy in
    admitted_rows s c (drops s c (notes_for s c)) id (λ x. ends_note policy id x.id x.filters)
row_admits s (Tick clock) ids id unknown none =
    let c = ByTick clock in
    let now = later s.clock clock in
    let link = with_wills s.policy.limits s.link now s.clients in
    admitted_append id (client_rows s c [] (notes_for s c)) (ping_dropped s.policy.limits s.up link now)
    (admitted_rows s c [] id (λ x. tick_note s now x id))
    (dropped_ping id (is_ping_due s.up link now) (has_place s.policy.limits link))

-- ---- all rows

pub among_parts : (id : List ℕ) (xs ys : List (List ℕ)) → is_among id (xs ++ ys) ≡ false
    → (is_among id xs ≡ false) × (is_among id ys ≡ false)
among_parts id [] ys none = (refl, none)
among_parts id (x ∷ xs) ys none =
    let both = or_neither (bytes_eq id x) (is_among id (xs ++ ys)) none in
    let rest = among_parts id xs ys both.1 in
    (rw both.0 rest.0, rest.1)

-- ---- nothing is due to it

away_means : (id : List ℕ) (p : mqtt.Publish) (h : List Row) (b : Bool) → phase_of id h ≡ None
    → (let o : Option Message = if b && (is_awaiting (phase_of id h) && is_matched (standing_of id h) p.name)
    then Some
    (message p.name p.payload (qos_due (standing_of id h) p.packet_id p.name) p.retain) else None in o) ≡ None
away_means id p h true away = rw away refl
away_means id p h false away = refl

pub none_meant : (id : List ℕ) (brought : Option mqtt.Publish) (h : List Row) → phase_of id h ≡ None
    → meant_in id brought h ≡ []
none_meant id None h away = refl
none_meant id (Some p) h away = ap option_to_list (away_means id p h (is_name p.name) away)

pub no_more : (b : Bool) (due more : List Message) → due ≡ [] → more ≡ []
    → due ++ (if b then [] else more) ≡ []
no_more true due more none same = rw none refl
no_more false due more none same = rw (none, same) refl
