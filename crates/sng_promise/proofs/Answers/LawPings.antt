-- What answers a PINGREQ, of who is at the address.
use Rattle.std.proofs.Common.{◌≡◌, ℕ, ◌≤◌, Bool, true, false, List, [], ◌∷◌, ◌++◌, refl, ap, sym, ◌∙◌}
use Rattle.std.proofs.Common.{if◌then◌else◌}
use Rattle.std.specs.Prelude.{is_some, is_none, Option, Some, None}
use Rattle.std.specs.Str.{bytes_eq}
use Rattle.sng_states.specs.States.{takes_messages}
use Rattle.sng_states.specs.declared.state.ClientState.{ClientState}
use Rattle.sng_states.specs.declared.state.ClientState.TheVariants.{Dialogue, Active, Asleep, Awake}
use Rattle.sng_states.specs.declared.state.ClientState.TheVariants.{Disconnected, Lost}
use Rattle.sng_queue.specs.declared.exchange.Exchange.{Exchange}
use Rattle.sng_frames.specs.Writing.{written}
use Rattle.sng_frames.specs.declared.frame.SnFrame.TheVariants as frame
use Rattle.sng_book.specs.declared.address.Address.{Address}
use Rattle.sng_book.specs.declared.decision.Decision.{Decision}
use Rattle.sng_book.specs.declared.decision.Decision.TheVariants as note
use Rattle.sng_book.specs.declared.decision.Who.TheVariants as who
use Rattle.sng_book.specs.declared.outcome.Denial.TheVariants.{Form}
use Rattle.sng_book.specs.declared.outcome.FormDenial.TheVariants.{NoSession, OutOfTurn}
use Rattle.sng_book.specs.declared.outcome.Outcome.TheVariants.{Denied}
use Rattle.sng_book.specs.declared.out.Out.{Out}
use Rattle.sng_book.specs.declared.out.Out.TheVariants.{Send, Note}
use Rattle.sng_book.specs.declared.row.Row.{Row}
use Rattle.sng_history.specs.Causes.{ByMessage, ToPing}
use Rattle.sng_history.specs.Clients.{Client, is_here, is_waking, awake, notes_by}
use Rattle.sng_history.specs.Clients.{is_drained}
use Rattle.sng_history.specs.State.{State}
use Rattle.sng_history.specs.Standing.{Release}
use Rattle.sng_history.specs.Verdicts.{is_active, ping_verdict}
use Rattle.sng_history.specs.Whole.{spell, pong_by, stranger_to, drops, frame_row, drained_outs}
use Rattle.sng_history.specs.Outgoing.{turns, handed_over}
use Rattle.sng_history.specs.Lawful.{denial_of, woken_notes}
use Rattle.sng_history.specs.Steps.{notes_for}
use Rattle.sng_history.specs.Good.{AtRest}
use Rattle.sng_laws.specs.Views.{last_policy}
use Rattle.sng_laws.specs.ViewsClients.{is_asleep, names_told, those_at}
use Rattle.sng_laws.specs.ViewsHanding.{waits_for, progress_of, names_known}
use Rattle.sng_laws.specs.LawsState.{ClientShown}
use Rattle.sng_laws.specs.LawsHanding.{mailing, handed_awake, is_awake, out_of_turn}
use Rattle.sng_laws.specs.LawsAnswers as laws
use Rattle.sng_laws.specs.LawsAnswers.{answer_to, bye, no_session, names_another, ping_answer}
use Rattle.sng_history.proofs.Places.{here_is}
use Rattle.sng_promise.proofs.Clients.SeenClients.{heard_if}
use Rattle.sng_promise.proofs.Clients.SeenState.{Stands}
use Rattle.sng_promise.proofs.Handing.LawTurnFrames.{last_within}
use Rattle.sng_promise.proofs.Handing.LawAwake.{awake_shown}
use Rattle.sng_promise.proofs.Clients.LawHere.{row_answer, each_part, settled}
use Rattle.sng_promise.proofs.Answers.LawUnsupported.{by_cause}

pub active_same : (phase : ClientState) → is_active phase ≡ laws.is_active (Some phase)
active_same Active = refl
active_same Dialogue = refl
active_same Asleep = refl
active_same Awake = refl
active_same Disconnected = refl
active_same Lost = refl

-- the law's answer, given the state of the client
abbrev ping_by : List Row → Address → Option (List ℕ) → List ℕ → Option ClientState → List Out
ping_by h from named id phase =
    if names_another named id
    then Note (note.Frame (who.Client id) (Denied (Form NoSession))) ∷ bye from ∷ []
    else (if laws.is_active phase then Send from (written frame.PingResponse) ∷ []
    else (if is_some named
    then (if is_asleep phase then handed_awake true (mailing h id from) (waits_for id h) else
    (if is_awake phase then [] else out_of_turn id))
    else out_of_turn id))

-- what is let out for the client
abbrev PingBy : List Row → State → Address → Option (List ℕ) → List Release → Client → Type 0
PingBy h s from client dropped x =
    let a = by_cause s (ByMessage from (ToPing client)) in
    let y : Client =
    if is_waking client x then awake (heard_if true s.clock x) else heard_if true s.clock x in
    let notes = denial_of x.id (ping_verdict client x) ++ woken_notes s.policy client x in
    (if is_active x.phase then pong_by (ping_verdict client x) x.address else []) ++
    (spell a dropped y notes ++ drained_outs (notes_by a notes y))
    ≡ ping_by h x.address client x.id (Some x.phase)

-- the client in this state
abbrev pub in_state : Client → ClientState → Client
in_state x phase = record x { phase = phase }

-- it names none
bare_ping : (h : List Row) (s : State) (from : Address) (dropped : List Release) (x : Client)
    (phase : ClientState)
    → is_drained (in_state x phase) ≡ false → PingBy h s from None dropped (in_state x phase)
bare_ping h s from dropped x Active busy = refl
bare_ping h s from dropped x Asleep busy = refl
bare_ping h s from dropped x Awake busy =
    settled (Note (note.Frame (who.Client x.id) (Denied (Form OutOfTurn))) ∷ []) (in_state x Awake) busy
bare_ping h s from dropped x Dialogue busy = refl
bare_ping h s from dropped x Disconnected busy = refl
bare_ping h s from dropped x Lost busy = refl

-- it names another client
other_ping : (h : List Row) (s : State) (from : Address) (named : List ℕ) (dropped : List Release)
    (x : Client) (phase : ClientState)
    → bytes_eq named x.id ≡ false → is_drained (in_state x phase) ≡ false
    → PingBy h s from (Some named) dropped (in_state x phase)
other_ping h s from named dropped x Active other busy = rw other refl
other_ping h s from named dropped x Asleep other busy = rw other refl
other_ping h s from named dropped x Awake other busy =
    rw other (settled (Note (note.Frame (who.Client x.id) (Denied (Form NoSession))) ∷ bye x.address ∷ [])
    (in_state x Awake) busy)
other_ping h s from named dropped x Dialogue other busy = rw other refl
other_ping h s from named dropped x Disconnected other busy = rw other refl
other_ping h s from named dropped x Lost other busy = rw other refl

-- it wakes its client, for whom nothing is open then
woken_ping : (h : List Row) (s : State) (from : Address) (named : List ℕ) (dropped : List Release)
    (x : Client)
    → x.buffer.exchange ≡ None → s.policy ≡ last_policy h → ClientShown h x
    → let a = by_cause s (ByMessage from (ToPing (Some named))) in
    let y = awake (heard_if true s.clock x) in
    let notes = handed_over s.policy (awake x) in
    spell a dropped y notes ++ drained_outs (notes_by a notes y)
    ≡ handed_awake true (mailing h x.id x.address) (waits_for x.id h)
woken_ping h s from named dropped x none policy shown =
    let a = by_cause s (ByMessage from (ToPing (Some named))) in
    let y = awake (heard_if true s.clock x) in
    let within : x.number ≤ 65535 = (rw shown.number (last_within (progress_of x.id h).numbered)) in
    ap
    (λ e. let notes : List Decision = if is_none e then turns s.policy x.id x.ids x.buffer.waiting else [] in
    spell a dropped y notes ++ drained_outs (notes_by a notes y))
    none
    ∙ (awake_shown a dropped y (names_told x.id h) (names_known x.id h) shown.ids none within
    ∙ (rw (shown.number, shown.waiting, policy) refl))

own_ping : (h : List Row) (s : State) (from : Address) (named : List ℕ) (dropped : List Release) (x : Client)
    (phase : ClientState)
    → bytes_eq named x.id ≡ true → is_drained (in_state x phase) ≡ false
    → (let e : Option Exchange = if takes_messages phase then None else x.buffer.exchange in e) ≡ None
    → s.policy ≡ last_policy h → ClientShown h x → PingBy h s from (Some named) dropped (in_state x phase)
own_ping h s from named dropped x Active own busy quiet policy shown = rw own refl
own_ping h s from named dropped x Asleep own busy quiet policy shown =
    rw own (woken_ping h s from named dropped x quiet policy shown)
own_ping h s from named dropped x Awake own busy quiet policy shown =
    rw own (settled [] (in_state x Awake) busy)
own_ping h s from named dropped x Dialogue own busy quiet policy shown = rw own refl
own_ping h s from named dropped x Disconnected own busy quiet policy shown = rw own refl
own_ping h s from named dropped x Lost own busy quiet policy shown = rw own refl

named_ping : (h : List Row) (s : State) (from : Address) (named : List ℕ) (dropped : List Release)
    (x : Client) (b : Bool)
    → bytes_eq named x.id ≡ b → s.policy ≡ last_policy h → ClientShown h x → AtRest x
    → PingBy h s from (Some named) dropped x
named_ping h s from named dropped x true is policy shown rest =
    own_ping h s from named dropped x x.phase is rest.busy rest.quiet policy shown
named_ping h s from named dropped x false is policy shown rest =
    other_ping h s from named dropped x x.phase is rest.busy

ping_there : (h : List Row) (s : State) (from : Address) (client : Option (List ℕ)) (dropped : List Release)
    (x : Client)
    → s.policy ≡ last_policy h → ClientShown h x → AtRest x → PingBy h s from client dropped x
ping_there h s from None dropped x policy shown rest = bare_ping h s from dropped x x.phase rest.busy
ping_there h s from (Some named) dropped x policy shown rest =
    named_ping h s from named dropped x (bytes_eq named x.id) refl policy shown rest

ping_part : (h : List Row) (s : State) (from : Address) (client : Option (List ℕ)) (dropped : List Release)
    (x : Client) (b : Bool)
    → s.policy ≡ last_policy h → ClientShown h x → AtRest x → (b ≡ true → x.address ≡ from)
    → let a = by_cause s (ByMessage from (ToPing client)) in
    let y : Client =
    if b then (if is_waking client x then awake (heard_if true s.clock x) else heard_if true s.clock x)
    else x in
    let notes = if b then denial_of x.id (ping_verdict client x) ++ woken_notes s.policy client x else [] in
    (if b then (if is_active x.phase then pong_by (ping_verdict client x) x.address else []) else [])
    ++ (spell a dropped y notes ++ drained_outs (notes_by a notes y))
    ≡ (if b then ping_answer h from client x.id else [])
ping_part h s from client dropped x true policy shown rest at =
    ping_there h s from client dropped x policy shown rest
    ∙ (ap (ping_by h x.address client x.id) (sym shown.phase)
    ∙ ap (λ to. ping_answer h to client x.id) (at refl))
ping_part h s from client dropped x false policy shown rest at = settled [] x rest.busy

pub ping_row : (h : List Row) (s : State) (from : Address) (client : Option (List ℕ)) → Stands h s
    → let c = ByMessage from (ToPing client) in
    frame_row s c (stranger_to from (ToPing client)) (notes_for s c)
    ≡ answer_to (no_session from) (ping_answer h from client)
    (those_at from h)
ping_row h s from client st =
    let c = ByMessage from (ToPing client) in
    row_answer h s from c (stranger_to from (ToPing client)) (ping_answer h from client) st.shown (λ x. refl)
    (each_part h s from c (ping_answer h from client) st
    (λ x is rest. ping_part h s from client (drops s c (notes_for s c)) x
    (is_here x from) st.shown.policy is rest (here_is x from)))
