-- An awake client is told by PINGRESP that nothing is left for it, exactly where that is so; and with one
-- that stays awake something is open.
use Rattle.std.proofs.Common.{◌≡◌, ℕ, Bool, true, false, List, [], ◌∷◌, ◌++◌, map, refl, ap, sym, ◌∙◌, subst}
use Rattle.std.proofs.Common.{if◌then◌else◌}
use Rattle.std.specs.Prelude.{◌&&◌, is_none, slice_get, Option, Some, None}
use Rattle.std.specs.Str.{bytes_eq}
use Rattle.sng_states.specs.declared.state.ClientState.{ClientState}
use Rattle.sng_states.specs.declared.state.ClientState.TheVariants.{Dialogue, Active, Asleep, Awake}
use Rattle.sng_states.specs.declared.state.ClientState.TheVariants.{Disconnected, Lost}
use Rattle.sng_states.specs.States as states
use Rattle.sng_states.specs.States.{takes_messages}
use Rattle.sng_queue.specs.Messages.{Message}
use Rattle.sng_queue.specs.Buffers.{Buffer}
use Rattle.sng_queue.specs.declared.exchange.Exchange.{Exchange}
use Rattle.sng_frames.specs.declared.messages.connect.Connect.{Connect}
use Rattle.sng_book.specs.Denials.{is_allowed}
use Rattle.sng_book.specs.declared.decision.Decision.{Decision}
use Rattle.sng_book.specs.declared.decision.Decision.TheVariants as note
use Rattle.sng_book.specs.declared.out.Out.{Out}
use Rattle.sng_book.specs.declared.out.Out.TheVariants.{Send, Wire, Note}
use Rattle.sng_book.specs.declared.row.Row.{Row}
use Rattle.sng_history.specs.Causes.{cause_of}
use Rattle.sng_history.specs.Clients.{Client, is_drained, drained}
use Rattle.sng_history.specs.Notes.{notes_of}
use Rattle.sng_history.specs.State.{State, opening, around, state_of}
use Rattle.sng_history.specs.Lawful.{Lawful, fixed_for}
use Rattle.sng_history.specs.Steps.{newcomers_for, outs_by, client_next, clients_next}
use Rattle.sng_history.specs.Good.{Each, AtRest}
use Rattle.sng_laws.specs.ViewsMessages.{Message as Spoken, message_at, connect_in, statement_in}
use Rattle.sng_laws.specs.ViewsClients.{phase_of, address_of, phase_entered, left_from, lost_from}
use Rattle.sng_laws.specs.ViewsClients.{ends_dialogue, phase_by, phase_after, phase_spoken, own_message}
use Rattle.sng_laws.specs.ViewsClients.{is_ponged, is_among, accepted, names_told, speaks_of}
use Rattle.sng_laws.specs.ViewsHanding.{waits_for, number_of, progress_of}
use Rattle.sng_laws.specs.ViewsSendings.{last_of}
use Rattle.sng_laws.specs.LawsState.{exchange_shown, ClientShown}
use Rattle.sng_laws.specs.LawsHanding.{is_awake}
use Rattle.sng_laws.specs.LawsSleep.{phase_noted, is_none_left, is_served, PongedExactly, AwakeIsBusy}
use Rattle.sng_history.proofs.Own.{each_with}
use Rattle.sng_history.proofs.Kept.{client_id}
use Rattle.sng_history.proofs.Keeping.{each_left, exact_by, next_same}
use Rattle.sng_history.proofs.Says.{says}
use Rattle.sng_promise.proofs.Clients.SeenClients.{moved_to}
use Rattle.sng_promise.proofs.Sleepers.SeenSleepers.{Told}
use Rattle.sng_promise.proofs.Sleepers.SeenPongs.{row_told}
use Rattle.sng_promise.proofs.Clients.SeenRows.{noted_row}
use Rattle.sng_promise.proofs.Clients.SeenStrangers.{none_own}
use Rattle.sng_promise.proofs.Clients.SeenState.{stands}
use Rattle.sng_promise.proofs.Handing.LawSettled.{of_accepted}
use Rattle.sng_promise.proofs.Handing.LawArrivals.{idle_same}

-- ---- nothing is left, as it is kept and as it is shown

none_left : (waiting : List Message) → is_none (slice_get waiting 0) ≡ is_none_left waiting
none_left [] = refl
none_left (m ∷ more) = refl

-- nothing waits, and nothing is open
abbrev is_emptied : Buffer → Bool
is_emptied b = is_none (slice_get b.waiting 0) && is_none b.exchange

emptied_shown : (h : List Row) (x : Client) → ClientShown h x → is_emptied x.buffer ≡ is_served x.id h
emptied_shown h x shown =
    let o = (progress_of x.id h).unanswered in
    ap (λ waiting. is_none (slice_get waiting 0) && is_none x.buffer.exchange) shown.waiting
    ∙ (ap (λ e. is_none (slice_get (waits_for x.id h) 0) && is_none e) shown.exchange
    ∙ (ap (λ b. b && is_none (exchange_shown o (names_told x.id h) (number_of x.id h) (last_of x.id h)))
    (none_left (waits_for x.id h))
    ∙ ap (λ b. is_none_left (waits_for x.id h) && b)
    (idle_same o (names_told x.id h) (number_of x.id h) (last_of x.id h))))

drained_buffer : (x : Client) → (drained x).buffer ≡ x.buffer
drained_buffer x = by_drained (is_drained x)
  where
    by_drained : (b : Bool) → (let y : Client = if b then record x { phase = Asleep } else x in y).buffer
        ≡ x.buffer
    by_drained true = refl
    by_drained false = refl

awake_means : (phase : ClientState) → is_awake (Some phase) ≡ true → phase ≡ Awake
awake_means Awake is = refl
awake_means Active is = absurd (let e = is in cc)
awake_means Asleep is = absurd (let e = is in cc)
awake_means Dialogue is = absurd (let e = is in cc)
awake_means Disconnected is = absurd (let e = is in cc)
awake_means Lost is = absurd (let e = is in cc)

-- ---- a client that was accepted before

-- what the law says of the row
abbrev RowPonged : Row → List Row → List ℕ → Type 0
RowPonged row h id =
    is_awake (phase_noted id row h) ≡ true → is_ponged (address_of id h) row.outs ≡ is_served id (row ∷ h)

known_ponged : (row : Row) (h : List Row) (s : State) (x : Client) → ClientShown h x
    → notes_of x.id row.outs ≡ fixed_for s (cause_of row.event) x
    → phase_noted x.id row h ≡ Some (moved_to s (cause_of row.event) x).phase
    → Told s (cause_of row.event) row.outs x → ClientShown (row ∷ h) (client_next s (cause_of row.event) x)
    → RowPonged row h x.id
known_ponged row h s x shown own noted told after awake =
    let c = cause_of row.event in
    let z = moved_to s c x in
    let y = client_next s c x in
    let wakes : z.phase ≡ Awake = awake_means z.phase (ap is_awake (sym noted) ∙ awake) in
    ap (λ place. is_ponged place row.outs) shown.address
    ∙ (told wakes
    ∙ (ap (λ phase. states.is_awake phase && is_emptied z.buffer) wakes
    ∙ (ap is_emptied (sym (drained_buffer z))
    ∙ (emptied_shown (row ∷ h) y after
    ∙ ap (λ id. is_served id (row ∷ h)) (client_id (around s c) (fixed_for s c x) x)))))

-- ---- one that was not: no note of it says that it is awake

entered_still : (connect : Option Connect) → is_awake (Some (phase_entered connect)) ≡ false
entered_still None = refl
entered_still (Some connect) = by_will connect.flags.will
  where
    by_will : (b : Bool) → is_awake (Some (if b then Dialogue else Active)) ≡ false
    by_will true = refl
    by_will false = refl

left_still : (before : Option ClientState) → is_awake (left_from before) ≡ false
left_still None = refl
left_still (Some phase) = refl

lost_still : (before : Option ClientState) → is_awake (lost_from before) ≡ false
lost_still None = refl
lost_still (Some phase) = refl

either_still : (b : Bool) (after before : Option ClientState) → is_awake after ≡ false
    → is_awake before ≡ false
    → is_awake (let p : Option ClientState = if b then after else before in p) ≡ false
either_still true after before one two = one
either_still false after before one two = two

note_still : (m : Option Spoken) (id : List ℕ) (said : Decision) (before : Option ClientState)
    → is_awake before ≡ false
    → is_awake (phase_by m id said before) ≡ false
note_still m id (note.Connect client o) before is =
    either_still (bytes_eq id client && is_allowed o) (Some (phase_entered (connect_in m))) before
    (entered_still (connect_in m)) is
note_still m id (note.Will whom name o) before is =
    either_still (speaks_of id whom && (is_allowed o && ends_dialogue (statement_in m)))
    (Some Active) before refl is
note_still m id (note.Left client) before is =
    either_still (bytes_eq id client) (left_from before) before (left_still before) is
note_still m id (note.Lost client) before is =
    either_still (bytes_eq id client) (lost_from before) before (lost_still before) is
note_still m id (note.Register whom name o) before is = is
note_still m id (note.Publish whom name o) before is = is
note_still m id (note.Subscribe whom filter o) before is = is
note_still m id (note.Unsubscribe whom filter o) before is = is
note_still m id (note.Announce client name) before is = is
note_still m id (note.Hand client name o) before is = is
note_still m id (note.Retry client name o) before is = is
note_still m id (note.Forward whom name o) before is = is
note_still m id (note.Again whom name o) before is = is
note_still m id (note.End client filter o) before is = is
note_still m id note.Outbox before is = is
note_still m id (note.Frame whom o) before is = is

outs_still : (m : Option Spoken) (id : List ℕ) (outs : List Out) (before : Option ClientState)
    → is_awake before ≡ false
    → is_awake (phase_after m id outs before) ≡ false
outs_still m id [] before is = is
outs_still m id (Note said ∷ outs) before is =
    outs_still m id outs (phase_by m id said before) (note_still m id said before is)
outs_still m id (Send to datagram ∷ outs) before is = outs_still m id outs before is
outs_still m id (Wire packet ∷ outs) before is = outs_still m id outs before is

unknown_still : (row : Row) (h : List Row) (id : List ℕ) → phase_of id h ≡ None
    → is_awake (phase_noted id row h) ≡ false
unknown_still row h id none =
    let m = message_at row.event in
    ap (λ p. is_awake (phase_after m id row.outs
    (phase_spoken id (own_message p (address_of id h) row.event) p))) none
    ∙ (ap (λ own. is_awake (phase_after m id row.outs (phase_spoken id own None)))
    (none_own (address_of id h) row.event)
    ∙ outs_still m id row.outs None refl)

unknown_ponged : (row : Row) (h : List Row) (id : List ℕ) → phase_of id h ≡ None → RowPonged row h id
unknown_ponged row h id none awake =
    absurd (let e : true ≡ false = sym awake ∙ unknown_still row h id none in cc)

-- ---- the law

each_before : (P : Client → Type 0) (f : Client → Client) (xs : List Client) → Each P (map f xs)
    → Each (λ x. P (f x)) xs
each_before P f [] each = tt
each_before P f (x ∷ xs) each = (each.0, each_before P f xs each.1)

-- what holds of those that were accepted before
row_ponged : (h : List Row) (row : Row) → Lawful opening (row ∷ h)
    → Each (λ x. RowPonged row h x.id) (state_of opening h).clients
row_ponged h row l =
    let s = state_of opening h in
    let c = cause_of row.event in
    let st = stands h l.0 in
    let rows = row ∷ h in
    let exact = exact_by s c row.outs l.1 in
    let Own : Client → Type 0 = λ x. notes_of x.id row.outs ≡ fixed_for s c x in
    let After : Client → Type 0 = λ x. ClientShown rows (client_next s c x) in
    let own : Each Own s.clients =
    subst (λ outs. Each (λ x. notes_of x.id outs ≡ fixed_for s c x) s.clients) (sym exact)
    (each_left (λ x. notes_of x.id (outs_by s c) ≡ fixed_for s c x) s.clients (newcomers_for s c)
    (says s c st.good.apart).own) in
    let told : Each (Told s c row.outs) s.clients =
    subst (λ outs. Each (Told s c outs) s.clients) (sym exact) (row_told s c st.good) in
    let next : (state_of opening rows).clients ≡ clients_next s c =
    ap (λ outs. (state_of opening (record { by = row.by; event = row.event; outs = outs } ∷ h)).clients) exact
    ∙ ap (λ t. t.clients) (next_same s c st.good) in
    let after : Each After s.clients =
    each_left After s.clients (newcomers_for s c)
    (each_before (ClientShown rows) (client_next s c) (s.clients ++ newcomers_for s c)
    (subst (Each (ClientShown rows)) next (stands rows l).shown.clients)) in
    let Both : Client → Type 0 = λ x. Own x × Told s c row.outs x in
    let All : Client → Type 0 = λ x. Both x × After x in
    each_with (ClientShown h) All (λ x. RowPonged row h x.id) s.clients
    (λ x shown all.
    known_ponged row h s x shown all.0.0
    (noted_row h s row.event row.outs x st.shown.clock shown all.0.0) all.0.1 all.1)
    st.shown.clients
    (each_with Both After All s.clients (λ x one two. (one, two))
    (each_with Own (Told s c row.outs) Both s.clients (λ x one two. (one, two)) own told) after)

-- what holds of those that were accepted, and of the others, holds of all
by_accepted : (P : List ℕ → Type 0) (h : List Row) (id : List ℕ) → Lawful opening h
    → Each (λ x. P x.id) (state_of opening h).clients
    → (phase_of id h ≡ None → P id) → P id
by_accepted P h id l each none = known (is_among id (accepted h)) refl
  where
    known : (b : Bool) → is_among id (accepted h) ≡ b → P id
    known true is =
        of_accepted P (state_of opening h).clients id each (ap (is_among id) (stands h l).shown.order ∙ is)
    known false is = none ((stands h l).shown.unheard id is).phase

pub ponged_law : (h : List Row) → Lawful opening h → (id : List ℕ) → PongedExactly id h
ponged_law [] l id = tt
ponged_law (row ∷ h) l id = (
  ponged_law h l.0 id,
  by_accepted (RowPonged row h) h id l.0 (row_ponged h row l) (λ none. unknown_ponged row h id none),
)

-- ---- one that stays awake

busy_by : (phase : ClientState) (e : Option Exchange) (waiting : List Message)
    → (if takes_messages phase && is_none e then waiting else []) ≡ []
    → (states.is_awake phase && (is_none (slice_get waiting 0) && is_none e)) ≡ false
    → is_awake (Some phase) ≡ true → is_none e ≡ false
busy_by Awake None [] handed busy awake = absurd (let b = busy in cc)
busy_by Awake None (m ∷ more) handed busy awake = absurd (let n = handed in cc)
busy_by Awake (Some one) waiting handed busy awake = refl
busy_by Active e waiting handed busy awake = absurd (let b = awake in cc)
busy_by Asleep e waiting handed busy awake = absurd (let b = awake in cc)
busy_by Dialogue e waiting handed busy awake = absurd (let b = awake in cc)
busy_by Disconnected e waiting handed busy awake = absurd (let b = awake in cc)
busy_by Lost e waiting handed busy awake = absurd (let b = awake in cc)

busy_shown : (h : List Row) (x : Client) → ClientShown h x → AtRest x → AwakeIsBusy x.id h
busy_shown h x shown rest awake =
    let o = (progress_of x.id h).unanswered in
    sym (idle_same o (names_told x.id h) (number_of x.id h) (last_of x.id h))
    ∙ (ap is_none (sym shown.exchange)
    ∙ busy_by x.phase x.buffer.exchange x.buffer.waiting rest.handed rest.busy
    (ap is_awake (sym shown.phase) ∙ awake))

pub busy_law : (h : List Row) → Lawful opening h → (id : List ℕ) → AwakeIsBusy id h
busy_law h l id =
    let st = stands h l in
    by_accepted (λ one. AwakeIsBusy one h) h id l
    (each_with (ClientShown h) AtRest (λ x. AwakeIsBusy x.id h) (state_of opening h).clients
    (λ x shown rest. busy_shown h x shown rest)
    st.shown.clients st.good.rest)
    (λ none awake. absurd (let e : false ≡ true = ap is_awake (sym none) ∙ awake in cc))
