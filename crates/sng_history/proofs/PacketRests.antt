-- After a packet of the broker a client has nothing left that could be handed over.
use Rattle.std.proofs.Common.{◌≡◌, ℕ, Bool, true, false, List, [], ◌∷◌, ◌++◌, refl, ap, sym, ◌∙◌, subst}
use Rattle.std.specs.Prelude.{if◌then◌else◌, ◌&&◌, nat_le, length, Option, Some, None}
use Rattle.sng_grants.specs.declared.policy.Policy.{Policy}
use Rattle.mqtt_frames.specs.declared.packet.Publish.{Publish}
use Rattle.sng_fan.specs.declared.held.Held.{Held}
use Rattle.sng_states.specs.declared.state.ClientState.{ClientState}
use Rattle.sng_states.specs.declared.state.ClientState.TheVariants.{Dialogue, Active, Asleep, Awake}
use Rattle.sng_states.specs.declared.state.ClientState.TheVariants.{Disconnected, Lost}
use Rattle.sng_states.specs.States.{has_session, takes_messages, is_due_messages}
use Rattle.sng_text.specs.Texts.{is_name}
use Rattle.sng_fan.specs.Greatest.{greatest_qos}
use Rattle.sng_queue.specs.declared.limits.TheConstants.{MAX_QUEUED}
use Rattle.sng_queue.specs.Messages.{Message, is_sendable}
use Rattle.sng_queue.specs.Buffers.{Buffer}
use Rattle.sng_book.specs.declared.decision.Decision.TheVariants as note
use Rattle.sng_book.specs.declared.outcome.Denial.TheVariants.{Room, Peer}
use Rattle.sng_book.specs.declared.outcome.RoomDenial.TheVariants.{Full, TooLong}
use Rattle.sng_book.specs.declared.outcome.PeerDenial.TheVariants.{BrokerRefused}
use Rattle.sng_book.specs.declared.outcome.Place.TheVariants as place
use Rattle.sng_book.specs.declared.outcome.Outcome.{Outcome}
use Rattle.sng_book.specs.declared.outcome.Outcome.TheVariants.{Allowed, Denied}
use Rattle.sng_history.specs.Packets.{Answer, Delivers, Acknowledges, Grants, Refuses, Confirms, Strange}
use Rattle.sng_history.specs.Arriving.{granted_at, arrival, joins_by, joins, turned_away_by, turned_away}
use Rattle.sng_history.specs.Clients.{Around, Client}
use Rattle.sng_history.specs.Clients.{message_due, without}
use Rattle.sng_history.specs.Clients.{notes_by}
use Rattle.sng_history.specs.Standing.{holds}
use Rattle.sng_history.specs.Outgoing.{handed_over, delivered_notes}
use Rattle.sng_history.specs.Lawful.{refused_end}
use Rattle.sng_history.specs.Entering.{served}
use Rattle.sng_history.proofs.Statements.{notes_both}
use Rattle.sng_history.proofs.Served.{Quiet, Rested, rest_served}
use Rattle.sng_history.proofs.MessageRests.{rest_without}

undue : (phase : ClientState) → has_session phase ≡ false → is_due_messages phase ≡ false
undue Disconnected is = refl
undue Lost is = refl
undue Active is = absurd cc
undue Awake is = absurd cc
undue Asleep is = absurd cc
undue Dialogue is = absurd cc

takes_none : (phase : ClientState) → has_session phase ≡ false → takes_messages phase ≡ false
takes_none Disconnected is = refl
takes_none Lost is = refl
takes_none Active is = absurd cc
takes_none Awake is = absurd cc
takes_none Asleep is = absurd cc
takes_none Dialogue is = absurd cc

-- nothing is due to a client without a session
pub none_due : (answer : Answer) (x : Client) → has_session x.phase ≡ false → message_due answer x ≡ None
none_due (Delivers p) x is =
    ap (λ b. if is_name p.name && b then granted_at p (greatest_qos x.filters p.name) else None)
    (undue x.phase is) ∙ none_if (is_name p.name) p x
  where
    none_if : (b : Bool) (p : Publish) (x : Client)
        → (if b && false then granted_at p (greatest_qos x.filters p.name) else None) ≡ None
    none_if true p x = refl
    none_if false p x = refl
none_due (Acknowledges packet_id) x is = refl
none_due (Grants packet_id) x is = refl
none_due (Refuses packet_id) x is = refl
none_due Confirms x is = refl
none_due Strange x is = refl

not_free : (policy : Policy) (x : Client) → has_session x.phase ≡ false → handed_over policy x ≡ []
not_free policy x is = let off : takes_messages x.phase ≡ false = takes_none x.phase is in rw off refl

-- what is turned away moves nothing
arrival_stays : (a : Around) (client name : List ℕ) (sendable full : Bool) (x : Client)
    → notes_by a (turned_away_by client name
    (if sendable then (if full then Denied (Room (Full place.Queue)) else Allowed)
    else Denied (Room TooLong))) x ≡ x
arrival_stays a client name true true x = refl
arrival_stays a client name true false x = refl
arrival_stays a client name false full x = refl

pub turned_stays : (a : Around) (client : List ℕ) (due : Option Message) (b : Buffer) (x : Client)
    → notes_by a (turned_away client due b) x ≡ x
turned_stays a client None b x = refl
turned_stays a client (Some m) b x =
    arrival_stays a client m.name (is_sendable m.name m.payload) (nat_le MAX_QUEUED (length b.waiting)) x

-- and what joins opens nothing
pub joins_open : (due : Option Message) (b : Buffer) → (joins due b).exchange ≡ b.exchange
joins_open None b = refl
joins_open (Some m) b = by_outcome (arrival b m)
  where
    by_outcome : (o : Outcome) → (joins_by o m b).exchange ≡ b.exchange
    by_outcome Allowed = refl
    by_outcome (Denied rule) = refl

-- a message that is due joins what waits, whatever stands for the client then
rest_due : (a : Around) (x : Client) (due : Option Message) (held : List Held) (here : Bool)
    → has_session x.phase ≡ here
    → (has_session x.phase ≡ false → due ≡ None) → Rested x
    → Rested (notes_by a (delivered_notes a.policy due x)
    (record x { buffer = joins due x.buffer; filters = held }))
rest_due a x due held true is none rest =
    let y : Client = record x { buffer = joins due x.buffer; filters = held } in
    let over = handed_over a.policy y in
    let same : notes_by a (delivered_notes a.policy due x) y ≡ served a y =
    notes_both a (turned_away x.id due x.buffer) over y
    ∙ ap (notes_by a over) (turned_stays a x.id due x.buffer y) in
    let quiet : Quiet y =
    ap (λ e. if takes_messages x.phase then None else e) (joins_open due x.buffer) ∙ rest.quiet in
    subst Rested (sym same) (rest_served a y (record { here = is; quiet = quiet; dialogue = rest.dialogue }))
rest_due a x due held false is none rest =
    subst (λ d. Rested (notes_by a (delivered_notes a.policy d x)
    (record x { buffer = joins d x.buffer; filters = held }))) (sym (none is))
    (subst (λ notes. Rested (notes_by a notes (record x { filters = held }))) (sym (not_free a.policy x is))
    (rest_without x held rest))

rest_refusal : (a : Around) (x : Client) (due : Option Message) (filter : List ℕ) (holds : Bool)
    → (has_session x.phase ≡ false → due ≡ None) → Rested x
    → Rested (notes_by a ((if holds then note.End x.id filter (Denied (Peer BrokerRefused)) ∷ [] else [])
    ++ delivered_notes a.policy due x)
    (record x { buffer = joins due x.buffer }))
rest_refusal a x due filter true none rest =
    rest_due a x due (without filter x).filters (has_session x.phase) refl none rest
rest_refusal a x due filter false none rest = rest_due a x due x.filters (has_session x.phase) refl none rest

pub rest_packet : (a : Around) (x : Client) (due : Option Message) (filter : Option (List ℕ))
    → (has_session x.phase ≡ false → due ≡ None) → Rested x
    → Rested (notes_by a (refused_end x filter ++ delivered_notes a.policy due x)
    (record x { buffer = joins due x.buffer }))
rest_packet a x due None none rest = rest_due a x due x.filters (has_session x.phase) refl none rest
rest_packet a x due (Some filter) none rest = rest_refusal a x due filter (holds filter x) none rest
