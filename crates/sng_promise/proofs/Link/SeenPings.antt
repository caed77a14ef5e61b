-- The PINGREQ that waits after a tick, and when the connection was kept alive last, are what the rows show.
use Rattle.std.proofs.Common.{◌≡◌, ℕ, Bool, true, false, List, [], ◌∷◌, ◌++◌, map, refl, ap, sym, ◌∙◌}
use Rattle.std.proofs.Common.{if◌then◌else◌, Ok, Err}
use Rattle.std.specs.Prelude.{◌&&◌, not, Option, Some, None}
use Rattle.std.specs.List.{flat_map}
use Rattle.std.specs.declared.result.Result.{Result}
use Rattle.std.proofs.lemmas.List.{append_assoc, append-nil}
use Rattle.mqtt_frames.specs.declared.packet.Packet.{Packet}
use Rattle.mqtt_frames.specs.declared.packet.Packet.TheVariants as packet
use Rattle.mqtt_frames.specs.declared.packet.SubscribeCode.{SubscribeCode}
use Rattle.mqtt_frames.specs.declared.packet.SubscribeCode.TheVariants as code
use Rattle.sng_frames.specs.Reading.{frame_of}
use Rattle.sng_frames.specs.declared.fault.FrameFault.{FrameFault}
use Rattle.sng_frames.specs.declared.messages.publish.Publish.{Publish}
use Rattle.sng_frames.specs.declared.qos.FrameQos.{FrameQos}
use Rattle.sng_frames.specs.declared.qos.FrameQos.TheVariants as qos
use Rattle.sng_frames.specs.declared.frame.SnFrame.{SnFrame}
use Rattle.sng_frames.specs.declared.frame.SnFrame.TheVariants as frame
use Rattle.sng_outbox.specs.declared.item.Item.{Item}
use Rattle.sng_outbox.specs.declared.item.Item.TheVariants as item
use Rattle.sng_outbox.specs.declared.item.Publication.{Publication}
use Rattle.sng_text.specs.declared.qos.Qos.{Qos}
use Rattle.sng_text.specs.declared.qos.Qos.TheVariants.{AtMostOnce, AtLeastOnce}
use Rattle.sng_book.specs.declared.address.Address.{Address}
use Rattle.sng_book.specs.declared.decision.Decision.TheVariants as note
use Rattle.sng_book.specs.declared.outcome.Outcome.{Outcome}
use Rattle.sng_book.specs.declared.outcome.Outcome.TheVariants.{Allowed, Denied}
use Rattle.sng_book.specs.declared.event.Event.{Event}
use Rattle.sng_book.specs.declared.event.Event.TheVariants.{Datagram, Broker, Up, Down, Take, Replace, Tick}
use Rattle.sng_book.specs.declared.out.Out.{Out}
use Rattle.sng_book.specs.declared.out.Out.TheVariants.{Note}
use Rattle.sng_book.specs.declared.row.Row.{Row}
use Rattle.sng_history.specs.Causes.{cause_of, datagram_cause, publish_cause, disconnect_cause, ByTick}
use Rattle.sng_history.specs.Clients.{Client, notes_by}
use Rattle.sng_history.specs.Good.{Each, Distinct}
use Rattle.sng_history.specs.Lawful.{exits_for, fixed_for}
use Rattle.sng_history.specs.Links.{Link, wants, sent_by, exited, subscribe_sent, subscribes_sent}
use Rattle.sng_history.specs.Links.{subscribe_left, unsubscribe_left}
use Rattle.sng_history.specs.Links.{unsubscribe_sent, resumed, filters_wanted, link_after}
use Rattle.sng_history.specs.Links.{may_open, next_packet_id, opened, owing, outgoing}
use Rattle.sng_history.specs.Packets.{has_place, answer_of, subscribe_answer, answered}
use Rattle.sng_history.specs.State.{State, later, link_moved}
use Rattle.sng_history.specs.Steps.{outs_of}
use Rattle.sng_history.specs.Ticking.{with_item, testaments, with_wills, ping_dropped}
use Rattle.sng_history.specs.Ticking as ticking
use Rattle.sng_laws.specs.Views.{clock_at, is_up}
use Rattle.sng_laws.specs.ViewsLink.{is_outbox_noted, testaments_in, asks_ping, pings_with, pinged_after}
use Rattle.sng_laws.specs.ViewsLink as views
use Rattle.sng_history.proofs.Statements.{every_tick}
use Rattle.sng_promise.proofs.Link.SeenOwed.{Unnoted, messages_unnoted, part_unnoted, again_unnoted}
use Rattle.sng_promise.proofs.Link.SeenPlaced.{laid, all_wait, all_alongside}
use Rattle.sng_promise.proofs.Link.SeenTicks.{Said, tick_part, tick_around}
use Rattle.sng_promise.proofs.Link.SeenTicks.{tick_laid}
use Rattle.sng_history.proofs.WaitingItems.{waiting_next}

-- ---- a datagram leaves the link

publish_still : (s : State) (from : Address) (p : Publish) (q : FrameQos) (outcomes : List Outcome)
    → link_moved s (publish_cause from p q) outcomes ≡ s.link
publish_still s from p qos.WithoutSession outcomes = refl
publish_still s from p qos.AtMostOnce outcomes = refl
publish_still s from p qos.AtLeastOnce outcomes = refl
publish_still s from p qos.ExactlyOnce outcomes = refl

disconnect_still : (s : State) (from : Address) (duration : Option ℕ) (outcomes : List Outcome)
    → link_moved s (disconnect_cause from duration) outcomes ≡ s.link
disconnect_still s from None outcomes = refl
disconnect_still s from (Some duration) outcomes = refl

pub datagram_unmoved : (s : State) (from : Address) (read : Result SnFrame FrameFault)
    (outcomes : List Outcome)
    → link_moved s (datagram_cause from read) outcomes ≡ s.link
datagram_unmoved s from (Ok (frame.Publish p)) outcomes = publish_still s from p p.flags.qos outcomes
datagram_unmoved s from (Ok (frame.Disconnect duration)) outcomes = disconnect_still s from duration outcomes
datagram_unmoved s from (Ok message) outcomes = refl
datagram_unmoved s from (Err broke) outcomes = refl

-- ---- what the notes of a tick say of a place in the outbox

rows_unnoted : (s : State) (clock : ℕ) (xs : List Client) (outs : List Out)
    → is_outbox_noted (flat_map (tick_part s clock) xs ++ outs) ≡ is_outbox_noted outs
rows_unnoted s clock [] outs = refl
rows_unnoted s clock (x ∷ xs) outs =
    let a = tick_around s clock in
    let every = every_tick (Unnoted a) s.policy s.link (later s.clock clock) s.clients x (record {
      loses = record { itself = refl; behind = λ y rest. refl };
      drops = λ name rule. record { itself = refl; behind = λ y rest. refl };
      messages = messages_unnoted a x.id;
    }) (again_unnoted a x.id) in
    ap is_outbox_noted (append_assoc (tick_part s clock x) (flat_map (tick_part s clock) xs) outs)
    ∙ (part_unnoted a x (notes_by a (fixed_for s (ByTick clock) x) x) (fixed_for s (ByTick clock) x)
    (flat_map (tick_part s clock) xs ++ outs) every
    ∙ rows_unnoted s clock xs outs)

abbrev dropped_if : Bool → Bool → List Out
dropped_if due place = if due then (if place then [] else Note note.Outbox ∷ []) else []

asks_if : (due place : Bool) → (due && not (is_outbox_noted (dropped_if due place))) ≡ (due && place)
asks_if true true = refl
asks_if true false = refl
asks_if false place = refl

none_asked : (h : List Row) (all : List Out) (due place : Bool)
    → testaments_in h all (dropped_if due place) ≡ []
none_asked h all true true = refl
none_asked h all true false = refl
none_asked h all false place = refl

-- ---- what a tick asks for

-- what the rows show of the connection is what is kept of it
pub record Connected (h : List Row) (s : State) : Type 0 where
  pub up : s.up ≡ is_up h
  pub clock : s.clock ≡ clock_at h
  pub pinged : s.link.pinged ≡ views.pinged h

-- the link once the wills wait, and whether a PINGREQ is due then, and finds a place
abbrev after_wills : State → ℕ → Link
after_wills s clock = with_wills s.policy.limits s.link (later s.clock clock) s.clients

abbrev is_due : State → ℕ → Bool
is_due s clock = ticking.is_ping_due s.up (after_wills s clock) (later s.clock clock)

due_same : (h : List Row) (s : State) (clock : ℕ) → Connected h s
    → views.is_ping_due (Tick clock) h (views.pinged h) ≡ is_due s clock
due_same h s clock is =
    rw (
      sym is.up,
      sym is.clock,
      sym is.pinged,
      (all_alongside s.policy.limits s.link (testaments (later s.clock clock) s.clients)).pinged,
    ) refl

asks_same : (h : List Row) (s : State) (clock : ℕ) → Connected h s
    → asks_ping (Tick clock) h (views.pinged h) (outs_of s (Tick clock))
    ≡ (is_due s clock && has_place s.policy.limits (after_wills s clock))
asks_same h s clock is =
    let dropped = ping_dropped s.policy.limits s.up (after_wills s clock) (later s.clock clock) in
    ap (λ due. due && not (is_outbox_noted (outs_of s (Tick clock)))) (due_same h s clock is)
    ∙ (ap (λ noted. is_due s clock && not noted) (rows_unnoted s clock s.clients dropped)
    ∙ asks_if (is_due s clock) (has_place s.policy.limits (after_wills s clock)))

pinged_waits : (link : Link) (clock : ℕ) (b : Bool)
    → (let after : Link = if b then record (with_item link item.Ping) { pinged = clock } else link in
    after).waiting
    ≡ link.waiting ++ (if b then item.Ping ∷ [] else [])
pinged_waits link clock true = refl
pinged_waits link clock false = sym (append-nil link.waiting)

-- what waits after a tick
pub tick_waits : (h : List Row) (s : State) (clock : ℕ) → Connected h s → Distinct s.clients
    → Each (Said s clock h (outs_of s (Tick clock))) s.clients
    → let outs = outs_of s (Tick clock) in
    waiting_next s (ByTick clock)
    ≡ s.link.waiting ++ (map item.Publish (testaments_in h outs outs) ++ pings_with (Tick clock) h outs)
tick_waits h s clock is apart said =
    let outs = outs_of s (Tick clock) in
    let now = later s.clock clock in
    let link = after_wills s clock in
    let wills = laid s.policy.limits s.link (testaments now s.clients) in
    let asked = is_due s clock && has_place s.policy.limits link in
    let pings = if asked then item.Ping ∷ [] else [] in
    let noted : testaments_in h outs outs ≡ wills =
    tick_laid s clock h outs (ping_dropped s.policy.limits s.up link now) apart said
    ∙ (ap (λ more. wills ++ more) (none_asked h outs (is_due s clock) (has_place s.policy.limits link))
    ∙ append-nil wills) in
    pinged_waits link now asked
    ∙ (ap (λ items. items ++ pings) (all_wait s.policy.limits s.link (testaments now s.clients))
    ∙ (append_assoc s.link.waiting (map item.Publish wills) pings
    ∙ (ap (λ ps. s.link.waiting ++ (map item.Publish ps ++ pings)) (sym noted)
    ∙ ap (λ b. s.link.waiting ++ (map item.Publish (testaments_in h outs outs)
    ++ (if b then item.Ping ∷ [] else [])))
    (sym (asks_same h s clock is)))))

-- ---- when the connection was kept alive last

answered_pinged : (link : Link) (sent : Packet) → (answered link (answer_of sent)).pinged ≡ link.pinged
answered_pinged link (packet.SubscribeAck answer) = by_codes answer.codes
  where
    by_codes : (codes : List SubscribeCode)
        → (answered link (subscribe_answer answer.packet_id codes)).pinged ≡ link.pinged
    by_codes [] = refl
    by_codes (code.Refused ∷ codes) = refl
    by_codes (code.Granted q ∷ codes) = refl
answered_pinged link (packet.Publish p) = refl
answered_pinged link (packet.PublishAck packet_id) = refl
answered_pinged link (packet.Connect connect) = refl
answered_pinged link (packet.ConnectAck answer) = refl
answered_pinged link (packet.Subscribe request) = refl
answered_pinged link (packet.Unsubscribe request) = refl
answered_pinged link (packet.UnsubscribeAck packet_id) = refl
answered_pinged link packet.PingRequest = refl
answered_pinged link packet.PingResponse = refl
answered_pinged link packet.Disconnect = refl

sent_pinged : (link : Link) (p : Publication) (q : Qos) → (sent_by link p q).pinged ≡ link.pinged
sent_pinged link p AtMostOnce = refl
sent_pinged link p AtLeastOnce = refl

exited_pinged : (link : Link) (p : Publication) (o : Outcome) → (exited link p o).pinged ≡ link.pinged
exited_pinged link p Allowed = sent_pinged link p p.qos
exited_pinged link p (Denied rule) = refl

either_pinged : (b : Bool) (one two link : Link) → one.pinged ≡ link.pinged → two.pinged ≡ link.pinged
    → (let after : Link = if b then one else two in after).pinged ≡ link.pinged
either_pinged true one two link is are = is
either_pinged false one two link is are = are

sent_alike : (link : Link) (text : List ℕ) → (subscribe_sent link text).pinged ≡ link.pinged
sent_alike link text =
    either_pinged (may_open link.wanted text)
    (record link { last = next_packet_id link; wanted = opened link.wanted text (next_packet_id link) })
    (record link { wanted = owing link.wanted text }) link refl refl

left_pinged : (link : Link) (items : List Item) (outcomes : List Outcome)
    → (link_after link items outcomes).pinged ≡ link.pinged
left_pinged link [] outcomes = refl
left_pinged link (item.Publish p ∷ items) [] = refl
left_pinged link (item.Publish p ∷ items) (o ∷ outcomes) =
    left_pinged (exited link p o) items outcomes ∙ exited_pinged link p o
left_pinged link (item.Subscribe text ∷ items) outcomes =
    left_pinged (subscribe_left link text) items outcomes
    ∙ either_pinged (wants link.wanted text) (subscribe_sent link text) link link (sent_alike link text) refl
left_pinged link (item.Unsubscribe text ∷ items) outcomes =
    left_pinged (unsubscribe_left link text) items outcomes
    ∙ either_pinged (wants link.wanted text) link (unsubscribe_sent link) link refl refl
left_pinged link (item.Acknowledge packet_id ∷ items) outcomes = left_pinged link items outcomes
left_pinged link (item.Ping ∷ items) outcomes = left_pinged link items outcomes

anew_pinged : (link : Link) (texts : List (List ℕ)) → (subscribes_sent link texts).pinged ≡ link.pinged
anew_pinged link [] = refl
anew_pinged link (text ∷ texts) = anew_pinged (subscribe_sent link text) texts ∙ sent_alike link text

-- a tick lets wills and a PINGREQ wait, and moves nothing else but that
pub record Along (link after : Link) : Type 0 where
  pub in_flight : after.in_flight ≡ link.in_flight
  pub last : after.last ≡ link.last
  pub wanted : after.wanted ≡ link.wanted

along_if : (link : Link) (clock : ℕ) (b : Bool)
    → Along link (if b then record (with_item link item.Ping) { pinged = clock } else link)
along_if link clock true = record { in_flight = refl; last = refl; wanted = refl }
along_if link clock false = record { in_flight = refl; last = refl; wanted = refl }

pub ticked_along : (s : State) (clock : ℕ) → Along s.link (link_moved s (ByTick clock) [])
ticked_along s clock =
    let link = after_wills s clock in
    let one = all_alongside s.policy.limits s.link (testaments (later s.clock clock) s.clients) in
    let two = along_if link (later s.clock clock) (is_due s clock && has_place s.policy.limits link) in
    record {
      in_flight = two.in_flight ∙ one.in_flight;
      last = two.last ∙ one.last;
      wanted = two.wanted ∙ one.wanted;
    }

ticked_if : (link : Link) (clock : ℕ) (b : Bool)
    → (let after : Link = if b then record (with_item link item.Ping) { pinged = clock } else link in
    after).pinged
    ≡ (if b then clock else link.pinged)
ticked_if link clock true = refl
ticked_if link clock false = refl

pub pinged_row : (h : List Row) (s : State) (e : Event) → Connected h s
    → (link_moved s (cause_of e) (exits_for s (cause_of e))).pinged
    ≡ pinged_after e h (outs_of s e) (views.pinged h)
pinged_row h s (Datagram from datagram) is =
    ap (λ link. link.pinged) (datagram_unmoved s from (frame_of datagram)
    (exits_for s (datagram_cause from (frame_of datagram))))
    ∙ is.pinged
pinged_row h s (Broker sent) is = answered_pinged s.link sent ∙ is.pinged
pinged_row h s Up is =
    anew_pinged (resumed s.link s.clock (exits_for s (cause_of Up))) (filters_wanted s.link) ∙ is.clock
pinged_row h s Down is = is.pinged
pinged_row h s Take is =
    either_pinged s.up (link_after s.link (outgoing s.link) (exits_for s (cause_of Take))) s.link s.link
    (left_pinged s.link (outgoing s.link) (exits_for s (cause_of Take))) refl
    ∙ is.pinged
pinged_row h s (Replace policy) is = is.pinged
pinged_row h s (Tick clock) is =
    let now = later s.clock clock in
    let link = after_wills s clock in
    ticked_if link now (is_due s clock && has_place s.policy.limits link)
    ∙ (ap (λ b. if b then now else link.pinged) (sym (asks_same h s clock is))
    ∙ rw ((all_alongside s.policy.limits s.link (testaments now s.clients)).pinged, is.pinged, is.clock) refl)
