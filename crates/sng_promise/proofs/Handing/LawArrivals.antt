-- A message of the broker comes to each client that it concerns: it is refused at once, or handed over at
-- once, or waits.
use Rattle.std.proofs.Common.{◌≡◌, ℕ, ◌≤◌, Bool, true, false, List, [], ◌∷◌, ◌++◌, length, refl, ap, sym}
use Rattle.std.proofs.Common.{◌∙◌, if◌then◌else◌, arith}
use Rattle.std.specs.Prelude.{◌&&◌, not, nat_lt, nat_le, is_none, slice_get, Option, Some, None}
use Rattle.std.proofs.lemmas.Bool.Decides.{nat_tests}
use Rattle.sng_grants.specs.declared.policy.Policy.{Policy}
use Rattle.mqtt_frames.specs.declared.packet.Publish.{Publish}
use Rattle.mqtt_frames.specs.declared.packet.Packet.TheVariants as packet
use Rattle.sng_states.specs.States.{takes_messages, is_awake}
use Rattle.sng_states.specs.declared.state.ClientState.{ClientState}
use Rattle.sng_states.specs.declared.state.ClientState.TheVariants.{Dialogue, Active, Asleep, Awake}
use Rattle.sng_states.specs.declared.state.ClientState.TheVariants.{Disconnected, Lost}
use Rattle.sng_queue.specs.declared.exchange.Exchange.{Exchange}
use Rattle.sng_queue.specs.Messages.{Message}
use Rattle.sng_queue.specs.Buffers.{Buffer}
use Rattle.sng_queue.specs.declared.limits.TheConstants.{MAX_QUEUED, MAX_WAITING_NAME, MAX_WAITING_PAYLOAD}
use Rattle.sng_book.specs.declared.decision.Decision.{Decision}
use Rattle.sng_book.specs.declared.decision.Decision.TheVariants as note
use Rattle.sng_book.specs.declared.outcome.Place.TheVariants as place
use Rattle.sng_book.specs.declared.outcome.Denial.TheVariants.{Room}
use Rattle.sng_book.specs.declared.outcome.RoomDenial.TheVariants.{Full, TooLong}
use Rattle.sng_book.specs.declared.outcome.Outcome.{Outcome}
use Rattle.sng_book.specs.declared.outcome.Outcome.TheVariants.{Allowed, Denied}
use Rattle.sng_book.specs.declared.out.Out.{Out}
use Rattle.sng_book.specs.declared.out.Out.TheVariants.{Note}
use Rattle.sng_book.specs.declared.row.Row.{Row}
use Rattle.sng_history.specs.Causes.{Cause, ByPacket}
use Rattle.sng_history.specs.Arriving.{due_to, arrival, joins_by, joins, turned_away_by}
use Rattle.sng_history.specs.Clients.{Client, notes_by, is_drained}
use Rattle.sng_history.specs.State.{State, around}
use Rattle.sng_history.specs.Outgoing.{turns, is_free, handed_over, delivered_notes}
use Rattle.sng_history.specs.Whole.{spell, part, drained_outs}
use Rattle.sng_history.specs.Lawful.{fixed_for}
use Rattle.sng_history.specs.Good.{AtRest}
use Rattle.sng_laws.specs.ViewsClients.{address_of, names_told}
use Rattle.sng_laws.specs.ViewsHanding.{is_taking, meant_for, Opening, Announced, HandedOver, is_idle}
use Rattle.sng_laws.specs.ViewsHanding.{progress_of, names_known, number_of}
use Rattle.sng_laws.specs.LawsState.{exchange_shown, ClientShown}
use Rattle.sng_laws.specs.ViewsSendings.{Last, last_of}
use Rattle.sng_laws.specs.LawsHanding.{mailing, handed_out, is_too_long, is_ready, arrival_answer}
use Rattle.sng_laws.specs.LawsHanding.{arrivals}
use Rattle.sng_promise.proofs.Handing.Takes.{taking_same}
use Rattle.sng_promise.proofs.Handing.SeenGrants.{due_meant}
use Rattle.sng_promise.proofs.Clients.SeenOrder.{StateShown}
use Rattle.sng_history.proofs.Hands.{Calm, every_turn, messages_calm, notes_calm}
use Rattle.sng_history.proofs.PacketRests.{turned_stays}
use Rattle.sng_promise.proofs.Handing.LawTurnFrames.{last_within}
use Rattle.sng_promise.proofs.Handing.LawTurns.{handed_shown}
use Rattle.sng_promise.proofs.Clients.LawHere.{settled}
use Rattle.sng_history.proofs.Turns.{none_right}

-- ---- which message is due

due_shown : (h : List Row) (x : Client) (p : Publish) → ClientShown h x
    → due_to p x.phase x.filters ≡ meant_for x.id p h
due_shown h x p shown = sym (due_meant h x p shown.phase shown.filters)

-- ---- a client at rest

-- what is kept of a client that is at rest leaves nothing
rest_by : (policy : Policy) (x : Client) (free : Bool) → (if free then x.buffer.waiting else []) ≡ []
    → (let notes : List Decision = if free then turns policy x.id x.ids x.buffer.waiting else [] in notes)
    ≡ []
rest_by policy x true none = ap (turns policy x.id x.ids) none
rest_by policy x false none = refl

pub none_leaves : (policy : Policy) (x : Client) → AtRest x → handed_over policy x ≡ []
none_leaves policy x rest = rest_by policy x (is_free x) rest.handed

-- a client is free where the rows show that nothing is open with it
pub idle_same : (o : Option Opening) (told : List (List ℕ)) (number : ℕ) (last : Last)
    → is_none (exchange_shown o told number last) ≡ is_idle o
idle_same None told number last = refl
idle_same (Some (Announced name)) told number last = refl
idle_same (Some (HandedOver m)) told number last = refl

pub free_shown : (h : List Row) (x : Client) → ClientShown h x → is_free x ≡ is_ready h x.id
free_shown h x shown =
    let o = (progress_of x.id h).unanswered in
    ap (λ e. takes_messages x.phase && is_none e) shown.exchange
    ∙ (ap (λ b. takes_messages x.phase && b)
    (idle_same o (names_told x.id h) (number_of x.id h) (last_of x.id h))
    ∙ (ap (λ b. b && is_idle o) (sym (taking_same x.phase))
    ∙ ap (λ phase. is_taking phase && is_idle o) (sym shown.phase)))

-- an awake client that is at rest has something open, so it is not free
unready_by : (phase : ClientState) (e : Option Exchange) (waiting : List Message)
    → (takes_messages phase && is_none e) ≡ true
    → waiting ≡ []
    → (is_awake phase && (is_none (slice_get waiting 0) && is_none e)) ≡ false → is_awake phase ≡ false
unready_by Awake None [] free none busy = absurd (let b = busy in cc)
unready_by Awake None (m ∷ more) free none busy = absurd (let n = none in cc)
unready_by Awake (Some one) waiting free none busy = absurd (let f = free in cc)
unready_by Active e waiting free none busy = refl
unready_by Asleep e waiting free none busy = refl
unready_by Dialogue e waiting free none busy = refl
unready_by Disconnected e waiting free none busy = refl
unready_by Lost e waiting free none busy = refl

unready : (x : Client) → AtRest x → is_free x ≡ true → is_awake x.phase ≡ false
unready x rest is =
    unready_by x.phase x.buffer.exchange x.buffer.waiting is
    (ap (λ b. if b then x.buffer.waiting else []) (sym is) ∙ rest.handed) rest.busy

-- so it does not fall asleep as a message comes
held_open : (phase : ClientState) (e : Option Exchange) (none : Bool)
    → (takes_messages phase && is_none e) ≡ false
    → (is_awake phase && (none && is_none e)) ≡ false
held_open Awake e true is = is
held_open Awake e false is = refl
held_open Active e none is = refl
held_open Asleep e none is = refl
held_open Dialogue e none is = refl
held_open Disconnected e none is = refl
held_open Lost e none is = refl

undrained_by : (x z : Client) → z.phase ≡ x.phase → is_awake x.phase ≡ false → is_drained z ≡ false
undrained_by x z same off =
    ap (λ b. b && (is_none (slice_get z.buffer.waiting 0) && is_none z.buffer.exchange))
    (ap is_awake same ∙ off)

-- ---- what becomes of a message that is due

full_by : (n m : ℕ) → nat_le m n ≡ not (nat_lt n m)
full_by n m = grind (arith, nat_tests)

arrival_if : (sendable room : Bool)
    → (if sendable then (if not room then Denied (Room (Full place.Queue)) else Allowed)
    else Denied (Room TooLong))
    ≡ (if not sendable then Denied (Room TooLong)
    else (if not room then Denied (Room (Full place.Queue)) else Allowed))
arrival_if true room = refl
arrival_if false room = refl

arrival_same : (b : Buffer) (m : Message)
    → arrival b m
    ≡ (if is_too_long m then Denied (Room TooLong)
    else (if not (nat_lt (length b.waiting) MAX_QUEUED) then Denied (Room (Full place.Queue)) else Allowed))
arrival_same b m =
    rw (full_by (length b.waiting) MAX_QUEUED)
    (arrival_if (nat_le (length m.name) MAX_WAITING_NAME && nat_le (length m.payload) MAX_WAITING_PAYLOAD)
    (nat_lt (length b.waiting) MAX_QUEUED))

-- the client once the message came
abbrev came : Outcome → Message → Client → Client
came o m x = record x { buffer = joins_by o m x.buffer }

-- what the rows let out then
abbrev answer_as : List Row → Client → Message → Outcome → List Out
answer_as h x m (Denied rule) = Note (note.Hand x.id m.name (Denied rule)) ∷ []
answer_as h x m Allowed = if is_ready h x.id then handed_out (mailing h x.id x.address) (m ∷ []) else []

-- the one that leaves at once
sole : (h : List Row) (s : State) (c : Cause) (x : Client) (m : Message) → (around s c).policy ≡ s.policy
    → StateShown h s → ClientShown h x
    → x.buffer.exchange ≡ None → x.buffer.waiting ≡ []
    → spell (around s c) [] (came Allowed m x)
    (turns (around s c).policy x.id x.ids (x.buffer.waiting ++ m ∷ []))
    ≡ handed_out (mailing h x.id x.address) (m ∷ [])
sole h s c x m same state shown none empty =
    let within : x.number ≤ 65535 = (rw shown.number (last_within (progress_of x.id h).numbered)) in
    handed_shown (around s c) [] (came Allowed m x) (names_told x.id h)
    (names_known x.id h) shown.ids none within
    ∙ (rw (empty, shown.number, same, state.policy) refl)

-- what the client is let out, and PINGRESP behind it where it falls asleep
abbrev all_out : State → Publish → List Decision → Client → List Out
all_out s p notes y =
    let a = around s (ByPacket (packet.Publish p)) in
    spell a [] y notes ++ drained_outs (notes_by a notes y)

joined_by : (h : List Row) (s : State) (p : Publish) (x : Client) (m : Message) (free : Bool)
    → is_free x ≡ free → StateShown h s
    → ClientShown h x → AtRest x
    → all_out s p (if free then turns s.policy x.id x.ids (x.buffer.waiting ++ m ∷ []) else [])
    (came Allowed m x)
    ≡ (if free then handed_out (mailing h x.id x.address) (m ∷ []) else [])
joined_by h s p x m true is state shown rest =
    let a = around s (ByPacket (packet.Publish p)) in
    let y = came Allowed m x in
    let notes = turns s.policy x.id x.ids (x.buffer.waiting ++ m ∷ []) in
    let steady =
    notes_calm a notes y (every_turn (Calm a) s.policy x.id x.ids (x.buffer.waiting ++ m ∷ [])
    (messages_calm a x.id)) in
    let empty : x.buffer.waiting ≡ [] = ap (λ b. if b then x.buffer.waiting else []) (sym is) ∙ rest.handed in
    settled (spell a [] y notes) (notes_by a notes y)
    (undrained_by x (notes_by a notes y) steady.phase (unready x rest is))
    ∙ sole h s (ByPacket (packet.Publish p)) x m refl state shown
    (none_right (takes_messages x.phase) x.buffer.exchange is) empty
joined_by h s p x m false is state shown rest =
    settled [] (came Allowed m x)
    (held_open x.phase x.buffer.exchange (is_none (slice_get (x.buffer.waiting ++ m ∷ []) 0)) is)

came_as : (h : List Row) (s : State) (p : Publish) (x : Client) (m : Message) (o : Outcome) → StateShown h s
    → ClientShown h x → AtRest x
    → notes_by (around s (ByPacket (packet.Publish p))) (turned_away_by x.id m.name o) x ≡ x
    → all_out s p (turned_away_by x.id m.name o ++ handed_over s.policy (came o m x)) (came o m x)
    ≡ answer_as h x m o
came_as h s p x m (Denied rule) state shown rest stays =
    ap (λ notes. all_out s p (note.Hand x.id m.name (Denied rule) ∷ notes) x) (none_leaves s.policy x rest)
    ∙ (ap (λ z. Note (note.Hand x.id m.name (Denied rule)) ∷ drained_outs z) stays
    ∙ settled (Note (note.Hand x.id m.name (Denied rule)) ∷ []) x rest.busy)
came_as h s p x m Allowed state shown rest stays =
    joined_by h s p x m (is_free x) refl state shown rest
    ∙ ap (λ b. if b then handed_out (mailing h x.id x.address) (m ∷ []) else []) (free_shown h x shown)

answer_if : (h : List Row) (x : Client) (m : Message) (long room : Bool)
    → answer_as h x m (if long then Denied (Room TooLong)
    else (if not room then Denied (Room (Full place.Queue)) else Allowed))
    ≡ (if long
    then Note (note.Hand x.id m.name (Denied (Room TooLong))) ∷ []
    else (if not room
    then Note (note.Hand x.id m.name (Denied (Room (Full place.Queue)))) ∷ []
    else (if is_ready h x.id then handed_out (mailing h x.id x.address) (m ∷ []) else [])))
answer_if h x m true room = refl
answer_if h x m false true = refl
answer_if h x m false false = refl

answer_same : (h : List Row) (x : Client) (m : Message) → ClientShown h x
    → answer_as h x m (arrival x.buffer m) ≡ arrival_answer h x.id x.address m
answer_same h x m shown =
    ap (answer_as h x m) (arrival_same x.buffer m)
    ∙ (answer_if h x m (is_too_long m) (nat_lt (length x.buffer.waiting) MAX_QUEUED)
    ∙ (rw shown.waiting refl))

due_came : (h : List Row) (s : State) (p : Publish) (x : Client) (due : Option Message) → StateShown h s
    → ClientShown h x → AtRest x
    → all_out s p (delivered_notes s.policy due x)
    (let y : Client = record x { buffer = joins due x.buffer } in y)
    ≡ arrivals h x.id (Some x.address) due
due_came h s p x None state shown rest =
    ap (λ notes. all_out s p notes x) (none_leaves s.policy x rest) ∙ settled [] x rest.busy
due_came h s p x (Some m) state shown rest =
    came_as h s p x m (arrival x.buffer m) state shown rest
    (turned_stays (around s (ByPacket (packet.Publish p))) x.id (Some m) x.buffer x)
    ∙ answer_same h x m shown

-- what a message of the broker lets out for a client
pub arrived : (h : List Row) (s : State) (p : Publish) (x : Client) → StateShown h s → ClientShown h x
    → AtRest x
    → let c = ByPacket (packet.Publish p) in part (around s c) [] (fixed_for s c x) x
    ≡ arrivals h x.id (address_of x.id h) (meant_for x.id p h)
arrived h s p x state shown rest =
    due_came h s p x (due_to p x.phase x.filters) state shown rest
    ∙ (ap (arrivals h x.id (Some x.address)) (due_shown h x p shown)
    ∙ ap (λ place. arrivals h x.id place (meant_for x.id p h)) (sym shown.address))
