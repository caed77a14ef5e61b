-- What a message of the broker lets out for one client, and what is kept for it.
use Rattle.std.proofs.Common.{◌≡◌, ℕ, Bool, true, false, List, [], ◌∷◌, ◌++◌, length, refl, ap, sym}
use Rattle.std.proofs.Common.{◌∙◌, subst}
use Rattle.std.specs.Prelude.{if◌then◌else◌, ◌&&◌, nat_le, Option, Some, None}
use Rattle.std.specs.Option.{option_map}
use Rattle.std.proofs.lemmas.List.{append-nil}
use Rattle.sng_text.specs.Texts.{is_name}
use Rattle.sng_text.specs.declared.qos.Qos.{Qos}
use Rattle.sng_grants.specs.declared.policy.Policy.{Policy}
use Rattle.sng_states.specs.States.{is_due_messages}
use Rattle.sng_fan.specs.Greatest.{greatest_qos}
use Rattle.sng_queue.specs.Messages.{Message, is_sendable}
use Rattle.sng_queue.specs.declared.limits.TheConstants.{MAX_QUEUED}
use Rattle.mqtt_frames.specs.declared.packet.Publish.{Publish}
use Rattle.sng_book.specs.declared.decision.Decision.TheVariants as note
use Rattle.sng_book.specs.declared.outcome.Place.TheVariants as place
use Rattle.sng_book.specs.declared.outcome.Denial.TheVariants.{Room}
use Rattle.sng_book.specs.declared.outcome.RoomDenial.TheVariants.{Full, TooLong}
use Rattle.sng_book.specs.declared.outcome.Outcome.{Outcome}
use Rattle.sng_book.specs.declared.outcome.Outcome.TheVariants.{Allowed, Denied}
use Rattle.sng_book.specs.declared.out.Out.{Out}
use Rattle.sng_book.specs.declared.out.Out.TheVariants.{Note}
use Rattle.sng_history.specs.Arriving.{lesser, granted_at, due_to, joins, joins_by}
use Rattle.sng_history.specs.Arriving.{turned_away_by}
use Rattle.sng_history.specs.Clients.{Around, Client, notes_by}
use Rattle.sng_history.specs.Outgoing.{turns, is_free, handed_over, delivered_notes}
use Rattle.sng_history.specs.Whole.{spell}
use Rattle.sng_history.specs.Good.{AtRest}
use Rattle.sng_sessions.specs.Handed.{handed_by, delivered}
use Rattle.sng_sessions.specs.declared.handing.Opens.{Opens}
use Rattle.sng_sessions.specs.declared.handing.Opens.TheVariants.{Nothing, Announcing, Awaiting}
use Rattle.sng_turns.specs.declared.deliver.Incoming.{Incoming}
use Rattle.sng_turns.specs.declared.deliver.Kept.{Kept}
use Rattle.sng_turns.specs.HandingOver.{message_outs, message_opens, is_open, hand_outs, hand_plan}
use Rattle.sng_turns.specs.Delivering.{incoming, due_at, message_at, kept_opened, due_outs, due_kept}
use Rattle.sng_core.proofs.HandingPlans.{waits}
use Rattle.sng_core.proofs.HandingRows.{free_closed, free_row, free_moves}

-- the client once the message came out so
abbrev joined_by : Outcome → Message → Client → Client
joined_by o m x = record x { buffer = joins_by o m x.buffer }

abbrev pub joined : Option Message → Client → Client
joined due x = record x { buffer = joins due x.buffer }

-- what is kept for one client joins what waits for it
abbrev pub kept_by : ℕ → List Kept → Client → Client
kept_by clock [] x = x
kept_by clock (k ∷ kept) x = kept_by clock kept (delivered clock k.message k.opens x)

-- ---- to whom the message is due

due_if : (policy : Policy) (p : Publish) (granted : Option Qos) (due : Bool)
    → (let i = incoming policy p in
    option_map (message_at i) (if due then option_map (lesser i.qos) granted else None))
    ≡ (if due then granted_at p granted else None)
due_if policy p granted false = refl
due_if policy p None true = refl
due_if policy p (Some qos) true = refl

pub due_same : (policy : Policy) (p : Publish) (x : Client) → is_name p.name ≡ true
    → (let i = incoming policy p in option_map (message_at i) (due_at i x)) ≡ due_to p x.phase x.filters
due_same policy p x is =
    due_if policy p (greatest_qos x.filters p.name) (is_due_messages x.phase)
    ∙ sym (ap (λ named. if named && is_due_messages x.phase then granted_at p (greatest_qos x.filters p.name)
    else None) is)

-- under a text that is no topic name it is due to nobody
pub due_none : (p : Publish) (x : Client) → is_name p.name ≡ false → due_to p x.phase x.filters ≡ None
due_none p x is =
    ap (λ named. if named && is_due_messages x.phase then granted_at p (greatest_qos x.filters p.name)
    else None) is

-- ---- nothing waits for a client that is free

empty_by : (waiting : List Message) (free : Bool) → (if free then waiting else []) ≡ [] → free ≡ true
    → waiting ≡ []
empty_by waiting true none is = none
empty_by waiting false none is = absurd cc

pub nothing_waits : (x : Client) → AtRest x → is_free x ≡ true → x.buffer.waiting ≡ []
nothing_waits x rest is = empty_by x.buffer.waiting (is_free x) rest.handed is

none_by : (policy : Policy) (x : Client) (free : Bool) → (if free then x.buffer.waiting else []) ≡ []
    → (if free then turns policy x.id x.ids x.buffer.waiting else []) ≡ []
none_by policy x true none = ap (turns policy x.id x.ids) none
none_by policy x false none = refl

pub none_handed : (policy : Policy) (x : Client) → AtRest x → handed_over policy x ≡ []
none_handed policy x rest = none_by policy x (is_free x) rest.handed

-- ---- what is let out for a client

lone_by : (policy : Policy) (x : Client) (m : Message) (ends : Bool)
    → message_outs policy x.id x.address x.ids 0 x.number m ++ (if ends then [] else [])
    ≡ message_outs policy x.id x.address x.ids 0 x.number m
lone_by policy x m true = append-nil (message_outs policy x.id x.address x.ids 0 x.number m)
lone_by policy x m false = append-nil (message_outs policy x.id x.address x.ids 0 x.number m)

abbrev outs_for : Policy → Message → Client → Bool → Bool → Bool → List Out
outs_for policy m x sendable full free =
    if sendable
    then (if full
    then Note (note.Hand x.id m.name (Denied (Room (Full place.Queue)))) ∷ []
    else (if free then message_outs policy x.id x.address x.ids 0 x.number m else []))
    else Note (note.Hand x.id m.name (Denied (Room TooLong))) ∷ []

abbrev pub outcome_for : Bool → Bool → Outcome
outcome_for sendable full =
    if sendable then (if full then Denied (Room (Full place.Queue)) else Allowed) else Denied (Room TooLong)

abbrev spelled_by : Around → Message → Client → Outcome → List Out
spelled_by a m x o =
    spell a [] (joined_by o m x) (turned_away_by x.id m.name o ++ handed_over a.policy (joined_by o m x))

arrives_outs : (a : Around) (m : Message) (x : Client) (sendable full free : Bool) → is_free x ≡ free
    → AtRest x
    → outs_for a.policy m x sendable full free ≡ spelled_by a m x (outcome_for sendable full)
arrives_outs a m x false full free is rest =
    sym (ap (λ notes. Note (note.Hand x.id m.name (Denied (Room TooLong))) ∷ spell a [] x notes)
    (none_handed a.policy x rest))
arrives_outs a m x true true free is rest =
    sym (ap (λ notes. Note (note.Hand x.id m.name (Denied (Room (Full place.Queue)))) ∷ spell a [] x notes)
    (none_handed a.policy x rest))
arrives_outs a m x true false true is rest =
    sym (lone_by a.policy x m (is_open (message_opens a.policy x.id x.ids 0 m)))
    ∙ (ap (λ waiting. hand_outs a.policy x.id x.address x.ids 0 x.number (waiting ++ m ∷ []))
    (sym (nothing_waits x rest is))
    ∙ free_row a [] (joined_by Allowed m x) is)
arrives_outs a m x true false false is rest =
    let y = joined_by Allowed m x in
    sym (ap (λ free. spell a [] y (if free then turns a.policy x.id x.ids y.buffer.waiting else [])) is)

pub due_spelled : (a : Around) (i : Incoming) (x : Client) (due : Option Qos) → AtRest x
    → (let o = option_map (message_at i) due in
    due_outs a.policy i x due ≡ spell a [] (joined o x) (delivered_notes a.policy o x))
due_spelled a i x None rest = sym (ap (spell a [] x) (none_handed a.policy x rest))
due_spelled a i x (Some qos) rest =
    let m = message_at i qos in
    arrives_outs a m x (is_sendable m.name m.payload) (nat_le MAX_QUEUED (length x.buffer.waiting))
    (is_free x) refl rest

-- ---- what is kept for it

-- the one message that waits for a client takes its turn
lone_kept : (clock at : ℕ) (m : Message) (x : Client) (o : Opens)
    → kept_by clock (kept_opened at m o) (waits x [])
    ≡ handed_by clock (if is_open o then record { settled = 0; opens = o }
    else record { settled = 1; opens = Nothing }) (waits x (m ∷ []))
lone_kept clock at m x Nothing = refl
lone_kept clock at m x (Announcing name) = refl
lone_kept clock at m x (Awaiting kind id) = refl

abbrev Turned : ℕ → ℕ → Policy → Message → Client → Type 0
Turned clock at policy m x =
    kept_by clock (kept_opened at m (message_opens policy x.id x.ids 0 m)) x
    ≡ handed_by clock (hand_plan policy x.id x.ids 0 0 (x.buffer.waiting ++ m ∷ [])) (joined_by Allowed m x)

empty_self : (x : Client) → AtRest x → is_free x ≡ true → waits x [] ≡ x
empty_self x rest is =
    ap (λ waiting. waits x waiting) (sym (nothing_waits x rest is))
    ∙ ap (λ o. let y : Client = record x { buffer = record { waiting = x.buffer.waiting; exchange = o } } in
    y) (sym (free_closed x is))

turn_kept : (clock at : ℕ) (policy : Policy) (m : Message) (x : Client) → AtRest x → is_free x ≡ true
    → Turned clock at policy m x
turn_kept clock at policy m x rest is =
    subst (Turned clock at policy m) (empty_self x rest is)
    (lone_kept clock at m x (message_opens policy x.id x.ids 0 m))

abbrev kept_for : Policy → ℕ → Message → Client → Bool → Bool → Bool → List Kept
kept_for policy at m x sendable full free =
    if sendable
    then (if full
    then []
    else (if free then kept_opened at m (message_opens policy x.id x.ids 0 m)
    else record { place = at; message = m; opens = Nothing } ∷ []))
    else []

abbrev noted_by : Around → Message → Client → Outcome → Client
noted_by a m x o =
    notes_by a (turned_away_by x.id m.name o ++ handed_over a.policy (joined_by o m x)) (joined_by o m x)

arrives_kept : (a : Around) (at : ℕ) (m : Message) (x : Client) (sendable full free : Bool)
    → nat_le MAX_QUEUED (length x.buffer.waiting) ≡ full → is_free x ≡ free → AtRest x
    → kept_by a.clock (kept_for a.policy at m x sendable full free) x
    ≡ noted_by a m x (outcome_for sendable full)
arrives_kept a at m x false full free fits is rest =
    sym (ap (λ notes. notes_by a notes x) (none_handed a.policy x rest))
arrives_kept a at m x true true free fits is rest =
    sym (ap (λ notes. notes_by a notes x) (none_handed a.policy x rest))
arrives_kept a at m x true false true fits is rest =
    turn_kept a.clock at a.policy m x rest is ∙ free_moves a (joined_by Allowed m x) is
arrives_kept a at m x true false false fits is rest =
    let y = joined_by Allowed m x in
    ap (λ full. let z : Client = record x { buffer = if full then x.buffer else y.buffer } in z) fits
    ∙ sym (ap (λ free. notes_by a (if free then turns a.policy x.id x.ids y.buffer.waiting else []) y) is)

pub due_moved : (a : Around) (at : ℕ) (i : Incoming) (x : Client) (due : Option Qos) → AtRest x
    → (let o = option_map (message_at i) due in
    kept_by a.clock (due_kept a.policy at i x due) x
    ≡ notes_by a (delivered_notes a.policy o x) (joined o x))
due_moved a at i x None rest = sym (ap (λ notes. notes_by a notes x) (none_handed a.policy x rest))
due_moved a at i x (Some qos) rest =
    let m = message_at i qos in
    arrives_kept a at m x (is_sendable m.name m.payload) (nat_le MAX_QUEUED (length x.buffer.waiting))
    (is_free x) refl refl rest
