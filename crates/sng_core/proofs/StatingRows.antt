-- The row and the next state of a statement of a will, as code makes them.
use Rattle.std.proofs.Common.{◌≡◌, ℕ, Bool, true, false, List, ◌∷◌, refl, ap, sym, ◌∙◌}
use Rattle.std.specs.Prelude.{if◌then◌else◌, is_none, Option, Some, None}
use Rattle.sng_states.specs.States.{has_session, takes_messages, is_awake}
use Rattle.sng_states.specs.declared.state.ClientState.{ClientState}
use Rattle.sng_states.specs.declared.state.ClientState.TheVariants.{Dialogue, Active, Asleep, Awake}
use Rattle.sng_states.specs.declared.state.ClientState.TheVariants.{Disconnected, Lost}
use Rattle.sng_book.specs.declared.address.Address.{Address}
use Rattle.sng_book.specs.declared.decision.Decision.TheVariants as note
use Rattle.sng_book.specs.declared.decision.Who.TheVariants as who
use Rattle.sng_book.specs.declared.outcome.Denial.{Denial}
use Rattle.sng_book.specs.declared.outcome.Outcome.{Outcome}
use Rattle.sng_book.specs.declared.outcome.Outcome.TheVariants.{Allowed, Denied}
use Rattle.sng_history.specs.Causes.{Cause, ToState, ByMessage}
use Rattle.sng_history.specs.Causes.{Statement, StatesTopic, StatesMessage, UpdatesTopic, UpdatesMessage}
use Rattle.sng_history.specs.Clients.{Around, Client, is_here, same_address, stated, notes_by}
use Rattle.sng_history.specs.Entering.{heard_at, left_at}
use Rattle.sng_history.specs.Outgoing.{handed_over, all_gone}
use Rattle.sng_history.specs.State.{State, around}
use Rattle.sng_history.specs.Whole.{stranger_to}
use Rattle.sng_history.specs.WillAsks.{statement_notes}
use Rattle.sng_history.specs.Good.{AtRest, Good}
use Rattle.sng_history.proofs.Hands.{gone_stays}
use Rattle.sng_history.proofs.Booleans.{left_holds}
use Rattle.sng_sessions.specs.Handed.{handed_by}
use Rattle.sng_sessions.specs.Willing.{phase_over, stating_at}
use Rattle.sng_turns.specs.Serving.{over_plan}
use Rattle.sng_core.specs.Connecting.{nothing_handed}
use Rattle.sng_core.specs.Forms.{place_at, client_at, at_place, moved_if, found_outs}
use Rattle.sng_core.specs.Stating.{stating_of, has_turn, statement_judged, kept_plan, kept_next}
use Rattle.sng_core.specs.Stating.{refused_next, following_next}
use Rattle.sng_core.specs.Stating.{statement_outs, statement_next}
use Rattle.sng_sessions.proofs.HandedLemmas.{handed-keeps}
use Rattle.sng_core.proofs.Plain.{Busy, plain_next, sleepless}
use Rattle.sng_core.proofs.HandingRows.{free_moves}
use Rattle.sng_core.proofs.DeliveringClient.{none_handed}
use Rattle.sng_core.proofs.Found.{each_at, read_at, within}
use Rattle.sng_core.proofs.Rows.{Makes, busy_row, stranger_row, still_message}
use Rattle.sng_core.proofs.StatingAsks.{in_turn_notes, ask_in_turn, ask_untimely, follows_in_turn}
use Rattle.sng_core.proofs.StatingAsks.{follows_untimely}
use Rattle.sng_core.proofs.StatingParts.{state_part}

-- ---- what it leads to

over_by : (phase : ClientState) → has_session phase ≡ true → phase_over phase ≡ Active
over_by phase is = ap (λ b. if b then Active else phase) is

stating_is : (clock : ℕ) (statement : Statement) (x : Client) → has_session x.phase ≡ true
    → stating_at clock (stating_of statement) x ≡ stated statement (heard_at clock x)
stating_is clock (StatesTopic None) x is =
    λ i. record (stated (StatesTopic None) (heard_at clock x)) { phase = over_by x.phase is i }
stating_is clock (StatesTopic (Some w)) x is = refl
stating_is clock (StatesMessage message) x is =
    λ i. record (stated (StatesMessage message) (heard_at clock x)) { phase = over_by x.phase is i }
stating_is clock (UpdatesTopic None) x is = refl
stating_is clock (UpdatesTopic (Some w)) x is = refl
stating_is clock (UpdatesMessage message) x is = refl

free_moved : (a : Around) (z : Client) (none : Bool) → is_none z.buffer.exchange ≡ none
    → takes_messages z.phase ≡ true
    → handed_by a.clock (if none then over_plan a.policy 0 0 z else nothing_handed) z
    ≡ notes_by a (handed_over a.policy z) z
free_moved a z true is takes = free_moves a z (rw (takes, is) refl)
free_moved a z false is takes = rw (takes, is) refl

kept_moved : (a : Around) (statement : Statement) (x : Client) → AtRest x
    → (let z = stated statement (heard_at a.clock x) in
    handed_by a.clock (kept_plan a.policy statement x) z
    ≡ notes_by a (in_turn_notes a.policy statement x Allowed) z)
kept_moved a (StatesTopic None) x rest =
    free_moved a (stated (StatesTopic None) (heard_at a.clock x)) (is_none x.buffer.exchange) refl refl
kept_moved a (StatesTopic (Some w)) x rest =
    let z = stated (StatesTopic (Some w)) (heard_at a.clock x) in
    sym (ap (λ notes. notes_by a notes z) (none_handed a.policy x rest))
kept_moved a (StatesMessage message) x rest =
    free_moved a (stated (StatesMessage message) (heard_at a.clock x)) (is_none x.buffer.exchange) refl refl
kept_moved a (UpdatesTopic topic) x rest = refl
kept_moved a (UpdatesMessage message) x rest = refl

left_moved : (a : Around) (x : Client)
    → left_at a.clock x ≡ notes_by a (note.Left x.id ∷ all_gone x.id x.buffer.waiting) (heard_at a.clock x)
left_moved a x = sym (gone_stays a x.id x.buffer.waiting (left_at a.clock x) refl)

refused_moved : (a : Around) (statement : Statement) (x : Client) (rule : Denial)
    → refused_next a.clock statement x
    ≡ notes_by a (in_turn_notes a.policy statement x (Denied rule)) (heard_at a.clock x)
refused_moved a (StatesTopic topic) x rule = left_moved a x
refused_moved a (StatesMessage message) x rule = left_moved a x
refused_moved a (UpdatesTopic topic) x rule = refl
refused_moved a (UpdatesMessage message) x rule = refl

following_moved : (s : State) (from : Address) (statement : Statement) (x : Client) (name : Option (List ℕ))
    (o : Outcome) → AtRest x
    → has_session x.phase ≡ true
    → (let a = around s (ByMessage from (ToState statement)) in
    following_next s.policy s.clock statement o x
    ≡ notes_by a (note.Will (who.Client x.id) name o ∷ in_turn_notes s.policy statement x o)
    (heard_at s.clock x))
following_moved s from statement x name Allowed rest there =
    ap (handed_by s.clock (kept_plan s.policy statement x)) (stating_is s.clock statement x there)
    ∙ kept_moved (around s (ByMessage from (ToState statement))) statement x rest
following_moved s from statement x name (Denied rule) rest there =
    refused_moved (around s (ByMessage from (ToState statement))) statement x rule

state_moved_by : (s : State) (from : Address) (statement : Statement) (x : Client) (has : Bool)
    → has_turn statement x ≡ has → AtRest x
    → has_session x.phase ≡ true
    → (if has then following_next s.policy s.clock statement (statement_judged s.policy statement x).outcome x
    else heard_at s.clock x)
    ≡ notes_by (around s (ByMessage from (ToState statement))) (statement_notes s.policy statement x)
    (heard_at s.clock x)
state_moved_by s from statement x true has rest there =
    let a = around s (ByMessage from (ToState statement)) in
    let j = statement_judged s.policy statement x in
    following_moved s from statement x j.name j.outcome rest there
    ∙ (λ i. notes_by a (sym (ask_in_turn s.policy statement x has) i
    ∷ sym (follows_in_turn s.policy statement x has) i)
    (heard_at s.clock x))
state_moved_by s from statement x false has rest there =
    let a = around s (ByMessage from (ToState statement)) in
    λ i. notes_by a (sym (ask_untimely s.policy statement x has) i
    ∷ sym (follows_untimely s.policy statement x has) i)
    (heard_at s.clock x)

state_moves : (s : State) (from : Address) (statement : Statement) (x : Client) → AtRest x
    → is_here x from ≡ true
    → statement_next s.policy s.clock statement x ≡ plain_next s (ByMessage from (ToState statement)) x
state_moves s from statement x rest here =
    let there = left_holds (has_session x.phase) (same_address x.address from) here in
    rw here (state_moved_by s from statement x (has_turn statement x) refl rest there)

-- ---- nobody falls asleep by it

over_up : (phase : ClientState) → is_awake (phase_over phase) ≡ false
over_up Dialogue = refl
over_up Active = refl
over_up Asleep = refl
over_up Awake = refl
over_up Disconnected = refl
over_up Lost = refl

-- whose dialogue is over is not awake; and any other stands as before, with what waits and is open
kept_busy : (s : State) (statement : Statement) (x : Client) → AtRest x
    → Busy (kept_next s.policy s.clock statement x)
kept_busy s (StatesTopic None) x rest =
    let plan = kept_plan s.policy (StatesTopic None) x in
    let y = stating_at s.clock (stating_of (StatesTopic None)) x in
    sleepless (handed_by s.clock plan y) (ap is_awake ((handed-keeps s.clock plan).phase y) ∙ over_up x.phase)
kept_busy s (StatesTopic (Some w)) x rest = rest.busy
kept_busy s (StatesMessage message) x rest =
    let plan = kept_plan s.policy (StatesMessage message) x in
    let y = stating_at s.clock (stating_of (StatesMessage message)) x in
    sleepless (handed_by s.clock plan y) (ap is_awake ((handed-keeps s.clock plan).phase y) ∙ over_up x.phase)
kept_busy s (UpdatesTopic None) x rest = rest.busy
kept_busy s (UpdatesTopic (Some w)) x rest = rest.busy
kept_busy s (UpdatesMessage message) x rest = rest.busy

refused_busy : (clock : ℕ) (statement : Statement) (x : Client) → AtRest x
    → Busy (refused_next clock statement x)
refused_busy clock (StatesTopic topic) x rest = refl
refused_busy clock (StatesMessage message) x rest = refl
refused_busy clock (UpdatesTopic topic) x rest = rest.busy
refused_busy clock (UpdatesMessage message) x rest = rest.busy

following_busy : (s : State) (statement : Statement) (o : Outcome) (x : Client) → AtRest x
    → Busy (following_next s.policy s.clock statement o x)
following_busy s statement Allowed x rest = kept_busy s statement x rest
following_busy s statement (Denied rule) x rest = refused_busy s.clock statement x rest

busy_if : (b : Bool) (x y : Client) → Busy x → Busy y → Busy (if b then x else y)
busy_if true x y one two = one
busy_if false x y one two = two

state_busy : (s : State) (statement : Statement) (x : Client) → AtRest x
    → Busy (statement_next s.policy s.clock statement x)
state_busy s statement x rest =
    let o = (statement_judged s.policy statement x).outcome in
    busy_if (has_turn statement x) (following_next s.policy s.clock statement o x) (heard_at s.clock x)
    (following_busy s statement o x rest) rest.busy

-- ---- the row

abbrev pub by_statement : Address → Statement → Cause
by_statement from statement = ByMessage from (ToState statement)

-- what it lets out and leads to, from whomever it comes
abbrev pub Stated : State → Address → Statement → Option ℕ → Type 0
Stated s from statement place =
    Makes s (by_statement from statement)
    (found_outs (stranger_to from (ToState statement)) (statement_outs s.policy statement)
    (at_place s.clients place))
    (record s { clients = moved_if place (statement_next s.policy s.clock statement) s.clients })

state_found : (s : State) (from : Address) (statement : Statement) (place : Option ℕ) → Good s
    → place_at from s.clients ≡ place
    → Stated s from statement place
state_found s from statement None good at =
    let still = still_message s from (ToState statement) good refl refl in
    stranger_row s (by_statement from statement) from (stranger_to from (ToState statement)) s good still at
state_found s from statement (Some i) good at =
    let x = client_at s.clients i in
    let read = read_at s.clients i (within from s.clients i at) in
    let rest = each_at AtRest s.clients i x good.rest read in
    let still = still_message s from (ToState statement) good refl refl in
    busy_row s (by_statement from statement) from (stranger_to from (ToState statement)) s i x
    (statement_outs s.policy statement x)
    (statement_next s.policy s.clock statement) good still at read
    (state_part s from statement x rest) (state_moves s from statement x rest)
    (λ there at. state_busy s statement x at)

pub state_row : (s : State) (from : Address) (statement : Statement) → Good s
    → Stated s from statement (place_at from s.clients)
state_row s from statement good = state_found s from statement (place_at from s.clients) good refl
