-- What answers a DISCONNECT, and a datagram that is no message, of who is at the address.
use Rattle.std.proofs.Common.{◌≡◌, ℕ, Bool, true, false, List, [], ◌∷◌, ◌++◌, map, refl, ap, sym, ◌∙◌}
use Rattle.std.proofs.Common.{if◌then◌else◌}
use Rattle.std.specs.Prelude.{Some}
use Rattle.std.proofs.lemmas.List.{append-nil}
use Rattle.sng_states.specs.States.{is_due_messages}
use Rattle.sng_states.specs.declared.state.ClientState.{ClientState}
use Rattle.sng_states.specs.declared.state.ClientState.TheVariants.{Dialogue, Active, Asleep, Awake}
use Rattle.sng_states.specs.declared.state.ClientState.TheVariants.{Disconnected, Lost}
use Rattle.sng_queue.specs.Messages.{Message}
use Rattle.sng_queue.specs.Buffers.{settle}
use Rattle.sng_book.specs.declared.address.Address.{Address}
use Rattle.sng_book.specs.declared.decision.Decision.{Decision}
use Rattle.sng_book.specs.declared.decision.Decision.TheVariants as note
use Rattle.sng_book.specs.declared.decision.Who.TheVariants as who
use Rattle.sng_book.specs.declared.outcome.Denial.{Denial}
use Rattle.sng_book.specs.declared.outcome.Denial.TheVariants.{Peer}
use Rattle.sng_book.specs.declared.outcome.PeerDenial.TheVariants.{Gone}
use Rattle.sng_book.specs.declared.outcome.Outcome.TheVariants.{Denied}
use Rattle.sng_book.specs.declared.out.Out.{Out}
use Rattle.sng_book.specs.declared.out.Out.TheVariants.{Note}
use Rattle.sng_book.specs.declared.row.Row.{Row}
use Rattle.sng_history.specs.Causes.{ByMessage, ToLeave, ToSleep, ByBroken}
use Rattle.sng_history.specs.Clients.{Around, Client, is_here, gone, asleep, notes_by}
use Rattle.sng_history.specs.Clients.{is_drained}
use Rattle.sng_history.specs.State.{State}
use Rattle.sng_history.specs.Standing.{Release}
use Rattle.sng_history.specs.Whole.{spell, stranger_to, drops, frame_row, drained_outs}
use Rattle.sng_history.specs.Outgoing as outgoing
use Rattle.sng_history.specs.Outgoing.{all_gone}
use Rattle.sng_history.specs.Steps.{notes_for}
use Rattle.sng_laws.specs.ViewsClients.{is_awaiting, those_at}
use Rattle.sng_laws.specs.LawsState.{ClientShown}
use Rattle.sng_laws.specs.LawsHanding.{out_of_turn}
use Rattle.sng_laws.specs.LawsAnswers.{answer_to, bye, no_session}
use Rattle.sng_laws.specs.LawsAnswers.{sleep_answer, leave_answer}
use Rattle.sng_history.proofs.Places.{here_is}
use Rattle.sng_promise.proofs.Clients.SeenClients.{heard_if}
use Rattle.sng_history.proofs.Hands.{gone_stays}
use Rattle.sng_promise.proofs.Clients.SeenState.{Stands}
use Rattle.sng_promise.proofs.Clients.LawHere.{row_answer, each_part, settled}
use Rattle.sng_promise.proofs.Answers.LawUnsupported.{by_cause}
use Rattle.sng_promise.proofs.Answers.LawPings.{in_state}

-- ---- DISCONNECT with Duration

sleep_by : (h : List Row) (s : State) (from : Address) (duration : ℕ) (dropped : List Release) (x : Client)
    (phase : ClientState)
    → is_drained (in_state x phase) ≡ false
    → let a = by_cause s (ByMessage from (ToSleep duration)) in
    let y : Client = in_state x phase in
    let z : Client =
    if is_due_messages phase then asleep duration (heard_if true s.clock y)
    else heard_if true s.clock y in
    let notes = if is_due_messages phase then [] else outgoing.out_of_turn x.id in
    (if is_due_messages phase then bye x.address ∷ [] else [])
    ++ (spell a dropped z notes ++ drained_outs (notes_by a notes z))
    ≡ (if is_awaiting (Some phase) then bye x.address ∷ [] else out_of_turn x.id)
sleep_by h s from duration dropped x Active busy = refl
sleep_by h s from duration dropped x Asleep busy = refl
sleep_by h s from duration dropped x Awake busy = refl
sleep_by h s from duration dropped x Dialogue busy = refl
sleep_by h s from duration dropped x Disconnected busy = refl
sleep_by h s from duration dropped x Lost busy = refl

sleep_part : (h : List Row) (s : State) (from : Address) (duration : ℕ) (dropped : List Release) (x : Client)
    (b : Bool)
    → ClientShown h x → is_drained x ≡ false → (b ≡ true → x.address ≡ from)
    → let a = by_cause s (ByMessage from (ToSleep duration)) in
    let y : Client =
    if b then (if is_due_messages x.phase then asleep duration (heard_if true s.clock x)
    else heard_if true s.clock x) else x in
    let notes = if b then (if is_due_messages x.phase then [] else outgoing.out_of_turn x.id) else [] in
    (if b then (if is_due_messages x.phase then bye x.address ∷ [] else []) else []) ++
    (spell a dropped y notes ++ drained_outs (notes_by a notes y))
    ≡ (if b then sleep_answer h from x.id else [])
sleep_part h s from duration dropped x true shown busy at =
    sleep_by h s from duration dropped x x.phase busy
    ∙ (ap (λ phase. let outs : List Out = if is_awaiting phase then bye x.address ∷ []
    else out_of_turn x.id in outs) (sym shown.phase)
    ∙ ap (λ to. sleep_answer h to x.id) (at refl))
sleep_part h s from duration dropped x false shown busy at = settled [] x busy

pub sleep_row : (h : List Row) (s : State) (from : Address) (duration : ℕ) → Stands h s
    → let c = ByMessage from (ToSleep duration) in
    frame_row s c (stranger_to from (ToSleep duration)) (notes_for s c)
    ≡ answer_to (no_session from) (sleep_answer h from)
    (those_at from h)
sleep_row h s from duration st =
    let c = ByMessage from (ToSleep duration) in
    row_answer h s from c (stranger_to from (ToSleep duration)) (sleep_answer h from) st.shown (λ x. refl)
    (each_part h s from c (sleep_answer h from) st
    (λ x is rest. sleep_part h s from duration (drops s c (notes_for s c)) x (is_here x from) is rest.busy
    (here_is x from)))

-- ---- DISCONNECT without Duration, and what is no message

-- what waits for a client is gone
pub gone_spelled : (a : Around) (dropped : List Release) (id : List ℕ) (waiting : List Message) (x : Client)
    → spell a dropped x (all_gone id waiting)
    ≡ map (λ m. Note (note.Hand id m.name (Denied (Peer Gone)))) waiting
gone_spelled a dropped id [] x = refl
gone_spelled a dropped id (m ∷ more) x =
    ap (λ outs. Note (note.Hand id m.name (Denied (Peer Gone))) ∷ outs)
    (gone_spelled a dropped id more (record x { buffer = settle x.buffer }))

leave_part : (h : List Row) (s : State) (from : Address) (dropped : List Release) (x : Client) (b : Bool)
    → ClientShown h x
    → is_drained x ≡ false → (b ≡ true → x.address ≡ from)
    → let a = by_cause s (ByMessage from ToLeave) in
    let notes = if b then note.Left x.id ∷ all_gone x.id x.buffer.waiting else [] in
    (if b then [] else []) ++ (spell a dropped (heard_if b s.clock x) notes
    ++ drained_outs (notes_by a notes (heard_if b s.clock x)))
    ≡ (if b then leave_answer h from x.id else [])
leave_part h s from dropped x true shown busy at =
    let a = by_cause s (ByMessage from ToLeave) in
    let y = heard_if true s.clock x in
    let notes = note.Left x.id ∷ all_gone x.id x.buffer.waiting in
    ap (λ z. spell a dropped y notes ++ drained_outs z) (gone_stays a x.id x.buffer.waiting (gone y) refl)
    ∙ (append-nil (spell a dropped y notes)
    ∙ (ap (λ outs. Note (note.Left x.id) ∷ bye x.address ∷ outs)
    (gone_spelled a dropped x.id x.buffer.waiting (gone y))
    ∙ (ap (λ waiting. Note (note.Left x.id) ∷ bye x.address
    ∷ map (λ m. Note (note.Hand x.id m.name (Denied (Peer Gone)))) waiting) shown.waiting
    ∙ ap (λ to. leave_answer h to x.id) (at refl))))
leave_part h s from dropped x false shown busy at = settled [] x busy

pub leave_row : (h : List Row) (s : State) (from : Address) → Stands h s
    → let c = ByMessage from ToLeave in
    frame_row s c (stranger_to from ToLeave) (notes_for s c)
    ≡ answer_to (no_session from) (leave_answer h from) (those_at from h)
leave_row h s from st =
    let c = ByMessage from ToLeave in
    row_answer h s from c (stranger_to from ToLeave) (leave_answer h from) st.shown (λ x. refl)
    (each_part h s from c (leave_answer h from) st
    (λ x is rest. leave_part h s from (drops s c (notes_for s c)) x (is_here x from) is rest.busy
    (here_is x from)))

abbrev broken_note : Denial → List ℕ → List Out
broken_note rule id = Note (note.Frame (who.Client id) (Denied rule)) ∷ []

broken_part : (s : State) (from : Address) (rule : Denial) (dropped : List Release) (x : Client) (b : Bool)
    → is_drained x ≡ false
    → let a = by_cause s (ByBroken from rule) in
    let notes : List Decision = if b then note.Frame (who.Client x.id) (Denied rule) ∷ [] else [] in
    spell a dropped x notes ++ drained_outs (notes_by a notes x) ≡ (if b then broken_note rule x.id else [])
broken_part s from rule dropped x true busy = settled (broken_note rule x.id) x busy
broken_part s from rule dropped x false busy = settled [] x busy

pub broken_row : (h : List Row) (s : State) (from : Address) (rule : Denial) → Stands h s
    → let c = ByBroken from rule in
    frame_row s c (Note (note.Frame (who.Address from) (Denied rule)) ∷ []) (notes_for s c)
    ≡ answer_to (Note (note.Frame (who.Address from) (Denied rule)) ∷ [])
    (λ id. Note (note.Frame (who.Client id) (Denied rule)) ∷ [])
    (those_at from h)
broken_row h s from rule st =
    let c = ByBroken from rule in
    row_answer h s from c (Note (note.Frame (who.Address from) (Denied rule)) ∷ [])
    (broken_note rule) st.shown (λ x. refl)
    (each_part h s from c (broken_note rule) st
    (λ x is rest. broken_part s from rule (drops s c (notes_for s c)) x (is_here x from) rest.busy))
