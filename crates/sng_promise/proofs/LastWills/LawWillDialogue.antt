-- What follows a statement of a will in the dialogue about it.
use Rattle.std.proofs.Common.{◌≡◌, ℕ, ◌≤◌, Bool, true, false, List, [], ◌∷◌, ◌++◌, map, refl, ap, sym, ◌∙◌}
use Rattle.std.proofs.Common.{if◌then◌else◌}
use Rattle.std.specs.Prelude.{◌&&◌, not, is_none, Option, Some, None, slice_get}
use Rattle.sng_text.specs.Texts.{is_name}
use Rattle.sng_grants.specs.Sources.{scope_of}
use Rattle.sng_grants.specs.declared.policy.Policy.{Policy}
use Rattle.sng_policy.specs.Grants.{lists}
use Rattle.sng_states.specs.States.{takes_messages, is_awake}
use Rattle.sng_states.specs.declared.state.ClientState.{ClientState}
use Rattle.sng_states.specs.declared.state.ClientState.TheVariants.{Dialogue, Active, Asleep, Awake}
use Rattle.sng_states.specs.declared.state.ClientState.TheVariants.{Disconnected, Lost}
use Rattle.sng_queue.specs.Messages.{Message}
use Rattle.std.proofs.lemmas.List.{append-nil}
use Rattle.sng_frames.specs.declared.messages.will.WillTopic.{WillTopic}
use Rattle.sng_book.specs.Denials.{is_allowed}
use Rattle.sng_book.specs.declared.address.Address.{Address}
use Rattle.sng_book.specs.declared.decision.Decision.{Decision}
use Rattle.sng_book.specs.declared.decision.Decision.TheVariants as note
use Rattle.sng_book.specs.declared.outcome.Denial.{Denial}
use Rattle.sng_book.specs.declared.outcome.Denial.TheVariants.{Form, Grant, Peer}
use Rattle.sng_book.specs.declared.outcome.FormDenial.TheVariants.{BadName, OutOfTurn}
use Rattle.sng_book.specs.declared.outcome.GrantDenial.TheVariants.{NoScope, MissingPub}
use Rattle.sng_book.specs.declared.outcome.PeerDenial.TheVariants.{Gone}
use Rattle.sng_book.specs.declared.outcome.Outcome.{Outcome}
use Rattle.sng_book.specs.declared.outcome.Outcome.TheVariants.{Allowed, Denied}
use Rattle.sng_book.specs.declared.out.Out.{Out}
use Rattle.sng_book.specs.declared.out.Out.TheVariants.{Note}
use Rattle.sng_book.specs.declared.row.Row.{Row}
use Rattle.sng_history.specs.Causes.{Statement, StatesTopic, StatesMessage}
use Rattle.sng_history.specs.Causes.{ByMessage, ToState}
use Rattle.sng_history.specs.Clients.{Around, Client, gone, stated, stated_by, notes_by, is_drained}
use Rattle.sng_history.specs.State.{State}
use Rattle.sng_history.specs.Standing.{Release}
use Rattle.sng_history.specs.WillAsks.{turn}
use Rattle.sng_history.specs.WillAsks.{statement_verdict, dialogue_goes_on, in_dialogue_notes}
use Rattle.sng_history.specs.Outgoing.{turns, all_gone}
use Rattle.sng_history.specs.Whole.{spell, drained_outs}
use Rattle.sng_laws.specs.ViewsClients.{phase_of, names_told}
use Rattle.sng_laws.specs.ViewsHanding.{waits_for, progress_of, names_known}
use Rattle.sng_laws.specs.LawsState.{ClientShown}
use Rattle.sng_laws.specs.LawsRules.{judged, may_publish}
use Rattle.sng_laws.specs.LawsHanding.{mailing, handed_out, handed_awake}
use Rattle.sng_laws.specs.LawsWills.{is_in_dialogue, has_turn, topic_rules, will_rules}
use Rattle.sng_laws.specs.LawsWills.{is_out_of_turn, broken_off}
use Rattle.sng_promise.proofs.Clients.SeenClients.{heard_if}
use Rattle.sng_promise.proofs.Clients.SeenOrder.{StateShown}
use Rattle.sng_promise.proofs.Handing.LawTurnFrames.{last_within}
use Rattle.sng_promise.proofs.Handing.LawTurns.{mail}
use Rattle.sng_promise.proofs.Handing.LawAwake.{awake_shown}
use Rattle.sng_history.proofs.Hands.{gone_stays}
use Rattle.sng_promise.proofs.Clients.LawHere.{settled}
use Rattle.sng_promise.proofs.Answers.LawUnsupported.{by_cause}
use Rattle.sng_promise.proofs.Answers.LawDisconnects.{gone_spelled}
use Rattle.sng_promise.proofs.LastWills.LawWillAsks.{turn_shown, verdict_shown}
use Rattle.sng_history.proofs.Booleans.{left_holds}

-- a client that has a session in the dialogue alone takes no messages
pub untaking : (phase : ClientState) → is_in_dialogue (Some phase) ≡ true → takes_messages phase ≡ false
untaking Dialogue is = refl
untaking Active is = absurd cc
untaking Asleep is = absurd cc
untaking Awake is = absurd cc
untaking Disconnected is = absurd cc
untaking Lost is = absurd cc

sleepless : (phase : ClientState) → is_in_dialogue (Some phase) ≡ true → is_awake phase ≡ false
sleepless Dialogue is = refl
sleepless Active is = absurd cc
sleepless Asleep is = absurd cc
sleepless Awake is = absurd cc
sleepless Disconnected is = absurd cc
sleepless Lost is = absurd cc

pub in_dialogue_turn : (h : List Row) (x : Client) (b : Bool) → ClientShown h x
    → (is_in_dialogue (phase_of x.id h) && b) ≡ true
    → is_in_dialogue (Some x.phase) ≡ true
in_dialogue_turn h x b shown is =
    ap is_in_dialogue (sym shown.phase) ∙ left_holds (is_in_dialogue (phase_of x.id h)) b is

abbrev gone_notes : List ℕ → List Message → List Out
gone_notes id waiting = map (λ m. Note (note.Hand id m.name (Denied (Peer Gone)))) waiting

-- no rule about the topic is one of turn
rule_by : (l n g : Bool) (id text : List ℕ) (rule : Denial)
    → judged ((not l, Grant (NoScope id)) ∷ (not n, Form BadName) ∷ (not g, Grant (MissingPub text)) ∷ [])
    ≡ Denied rule
    → is_out_of_turn rule ≡ false
rule_by false n g id text rule is = (let e : Grant (NoScope id) ≡ rule = cc in ap is_out_of_turn (sym e))
rule_by true false g id text rule is = (let e : Form BadName ≡ rule = cc in ap is_out_of_turn (sym e))
rule_by true true false id text rule is =
    (let e : Grant (MissingPub text) ≡ rule = cc in ap is_out_of_turn (sym e))
rule_by true true true id text rule is = absurd cc

rule_in_turn : (policy : Policy) (id : List ℕ) (topic : Option (List ℕ)) (rule : Denial)
    → judged (topic_rules policy id topic) ≡ Denied rule → is_out_of_turn rule ≡ false
rule_in_turn policy id None rule is = absurd cc
rule_in_turn policy id (Some text) rule is =
    rule_by (lists policy id) (is_name text) (may_publish (scope_of policy.clients id) text) id text rule is

-- what is let out for a client with these notes
abbrev pub let_out : Around → List Release → Client → List Decision → List Out
let_out a dropped y notes = spell a dropped y notes ++ drained_outs (notes_by a notes y)

unawake : (outs : List Out) (y : Client) → is_awake y.phase ≡ false → outs ++ drained_outs y ≡ outs
unawake outs y is =
    settled outs y (ap (λ b. b && (is_none (slice_get y.buffer.waiting 0) && is_none y.buffer.exchange)) is)

broken_let_out : (h : List Row) (s : State) (from : Address) (statement : Statement) (dropped : List Release)
    (x y : Client) (rule : Denial)
    → y.id ≡ x.id → is_out_of_turn rule ≡ false → ClientShown h x
    → let_out (by_cause s (ByMessage from (ToState statement))) dropped y
    (note.Left x.id ∷ all_gone x.id x.buffer.waiting)
    ≡ broken_off h x.id rule
broken_let_out h s from statement dropped x y rule same turn shown =
    let a = by_cause s (ByMessage from (ToState statement)) in
    let outs = spell a dropped y (note.Left x.id ∷ all_gone x.id x.buffer.waiting) in
    ap (λ z. outs ++ drained_outs z) (gone_stays a x.id x.buffer.waiting (gone y) refl)
    ∙ (append-nil outs
    ∙ (ap (λ more. Note (note.Left x.id) ∷ more)
    (gone_spelled a dropped x.id x.buffer.waiting (gone y)
    ∙ ap (λ waiting. gone_notes x.id waiting) shown.waiting)
    ∙ ap (λ b. let more : List Out = if b then []
    else Note (note.Left x.id) ∷ gone_notes x.id (waits_for x.id h) in more) (sym turn)))

-- all that waited meanwhile is handed over, once the client is active
handed_by : (h : List Row) (s : State) (from : Address) (statement : Statement) (dropped : List Release)
    (x y : Client)
    → y.id ≡ x.id → y.address ≡ x.address → y.ids ≡ x.ids → y.number ≡ x.number → y.buffer ≡ x.buffer
    → is_awake y.phase ≡ false
    → x.buffer.exchange ≡ None → StateShown h s → ClientShown h x
    → let_out (by_cause s (ByMessage from (ToState statement))) dropped y
    (turns s.policy x.id x.ids x.buffer.waiting)
    ≡ handed_out (mailing h x.id x.address) (waits_for x.id h)
handed_by h s from statement dropped x y id place ids number buffer up none state shown =
    let a = by_cause s (ByMessage from (ToState statement)) in
    let told = names_told x.id h in
    let known = names_known x.id h in
    let within : y.number ≤ 65535 = (rw (number, shown.number) (last_within (progress_of x.id h).numbered)) in
    let own : let_out a dropped y (turns a.policy y.id y.ids y.buffer.waiting)
    ≡ handed_awake (is_awake y.phase) (mail a y told known) y.buffer.waiting =
    awake_shown a dropped y told known (ids ∙ shown.ids) (ap (λ b. b.exchange) buffer ∙ none) within in
    ap (λ i. let_out a dropped y (turns s.policy i x.ids x.buffer.waiting)) (sym id)
    ∙ (ap (λ marks. let_out a dropped y (turns s.policy y.id marks x.buffer.waiting)) (sym ids)
    ∙ (ap (λ b. let_out a dropped y (turns s.policy y.id y.ids b.waiting)) (sym buffer)
    ∙ (own
    ∙ (ap (λ awake. handed_awake awake (mail a y told known) y.buffer.waiting) up
    ∙ (append-nil (handed_out (mail a y told known) y.buffer.waiting)
    ∙ (rw (id, place, number, buffer, shown.number, shown.waiting, state.policy) refl))))))

-- the notes that follow, given that the statement has its turn, and its verdict
abbrev pub goes_on : Policy → Statement → Client → Bool → Outcome → List Decision
goes_on policy statement x has o = if is_allowed (turn has) then dialogue_goes_on policy statement x o else []

pub end_follows : (h : List Row) (s : State) (from : Address) (message : List ℕ) (dropped : List Release)
    (x : Client)
    → x.buffer.exchange ≡ None → StateShown h s → ClientShown h x
    → let statement = StatesMessage message in
    let_out (by_cause s (ByMessage from (ToState statement))) dropped
    (stated_by (Some statement) Allowed (heard_if true s.clock x))
    (dialogue_goes_on s.policy statement x Allowed)
    ≡ handed_out (mailing h x.id x.address) (waits_for x.id h)
end_follows h s from message dropped x none state shown =
    let statement = StatesMessage message in
    let y : Client = stated statement (heard_if true s.clock x) in
    let waiting = turns s.policy x.id x.ids x.buffer.waiting in
    ap (λ e. let_out (by_cause s (ByMessage from (ToState statement))) dropped y
    (if is_none e then waiting else [])) none
    ∙ handed_by h s from statement dropped x y refl refl refl refl refl refl none state shown

pub delete_follows : (h : List Row) (s : State) (from : Address) (dropped : List Release) (x : Client)
    → x.buffer.exchange ≡ None → StateShown h s → ClientShown h x
    → let statement = StatesTopic None in
    let_out (by_cause s (ByMessage from (ToState statement))) dropped
    (stated_by (Some statement) Allowed (heard_if true s.clock x))
    (dialogue_goes_on s.policy statement x Allowed)
    ≡ handed_out (mailing h x.id x.address) (waits_for x.id h)
delete_follows h s from dropped x none state shown =
    let statement = StatesTopic None in
    let y : Client = stated statement (heard_if true s.clock x) in
    let waiting = turns s.policy x.id x.ids x.buffer.waiting in
    ap (λ e. let_out (by_cause s (ByMessage from (ToState statement))) dropped y
    (if is_none e then waiting else [])) none
    ∙ handed_by h s from statement dropped x y refl refl refl refl refl refl none state shown

pub topic_follows : (h : List Row) (s : State) (from : Address) (w : WillTopic) (dropped : List Release)
    (x y : Client)
    → is_in_dialogue (Some x.phase) ≡ true → y.phase ≡ x.phase
    → let_out (by_cause s (ByMessage from (ToState (StatesTopic (Some w))))) dropped y
    (dialogue_goes_on s.policy (StatesTopic (Some w)) x Allowed)
    ≡ []
topic_follows h s from w dropped x y here same =
    let a = by_cause s (ByMessage from (ToState (StatesTopic (Some w)))) in
    let waiting = turns s.policy x.id x.ids x.buffer.waiting in
    ap (λ b. let_out a dropped y (if b && is_none x.buffer.exchange then waiting else []))
    (untaking x.phase here)
    ∙ unawake [] y (ap is_awake same ∙ sleepless x.phase here)

-- a denial by its turn ends nothing, and any other ends the dialogue
pub denied_follows : (h : List Row) (s : State) (from : Address) (statement : Statement)
    (dropped : List Release)
    (x : Client) (has : Bool)
    (policy : Policy) (topic : Option (List ℕ)) (rule : Denial)
    → judged ((not has, Form OutOfTurn) ∷ topic_rules policy x.id topic) ≡ Denied rule → ClientShown h x
    → is_drained x ≡ false
    → let_out (by_cause s (ByMessage from (ToState statement))) dropped (heard_if true s.clock x)
    (goes_on s.policy statement x has (Denied rule))
    ≡ broken_off h x.id rule
denied_follows h s from statement dropped x false policy topic rule is shown busy =
    let same : Form OutOfTurn ≡ rule = cc in
    settled [] (heard_if true s.clock x) busy ∙ ap (broken_off h x.id) same
denied_follows h s from statement dropped x true policy topic rule is shown busy =
    broken_let_out h s from statement dropped x (heard_if true s.clock x) rule refl
    (rule_in_turn policy x.id topic rule is) shown

-- the notes that follow are those of the turn and the verdict that are shown
pub goes_on_shown : (h : List Row) (s : State) (x : Client) (statement : Statement) → StateShown h s
    → ClientShown h x
    → in_dialogue_notes s.policy statement x
    ≡ goes_on s.policy statement x (has_turn h x.id statement) (judged (will_rules h x.id statement))
goes_on_shown h s x statement state shown =
    let o = statement_verdict s.policy statement x in
    ap (λ t. let notes : List Decision = if is_allowed t then dialogue_goes_on s.policy statement x o
    else [] in notes) (turn_shown h x statement shown)
    ∙ ap (goes_on s.policy statement x (has_turn h x.id statement))
    (verdict_shown h s x statement state shown)
