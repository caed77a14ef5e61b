-- How a statement of a will is judged and answered, by the law's tables.
use Rattle.std.proofs.Common.{◌≡◌, ℕ, Bool, true, false, List, [], ◌∷◌, refl, ap, sym, ◌∙◌, if◌then◌else◌}
use Rattle.std.specs.Prelude.{◌&&◌, not, is_some, Option, Some, None}
use Rattle.std.specs.Option.{option_map}
use Rattle.sng_text.specs.Texts.{is_name}
use Rattle.sng_grants.specs.Sources.{scope_of}
use Rattle.sng_grants.specs.declared.policy.Policy.{Policy}
use Rattle.sng_policy.specs.Grants.{lists}
use Rattle.sng_states.specs.declared.state.ClientState.{ClientState}
use Rattle.sng_states.specs.declared.state.ClientState.TheVariants.{Dialogue, Active, Asleep, Awake}
use Rattle.sng_states.specs.declared.state.ClientState.TheVariants.{Disconnected, Lost}
use Rattle.sng_wills.specs.Stated.{awaited_topic}
use Rattle.sng_wills.specs.declared.will.StatedTopic.{StatedTopic}
use Rattle.sng_book.specs.Denials.{is_allowed}
use Rattle.sng_book.specs.declared.address.Address.{Address}
use Rattle.sng_book.specs.declared.decision.Decision.TheVariants as note
use Rattle.sng_book.specs.declared.decision.Who.TheVariants as who
use Rattle.sng_book.specs.declared.outcome.Denial.{Denial}
use Rattle.sng_book.specs.declared.outcome.Denial.TheVariants.{Form, Grant}
use Rattle.sng_book.specs.declared.outcome.FormDenial.TheVariants.{BadName, OutOfTurn}
use Rattle.sng_book.specs.declared.outcome.GrantDenial.TheVariants.{NoScope}
use Rattle.sng_book.specs.declared.outcome.Outcome.{Outcome}
use Rattle.sng_book.specs.declared.outcome.Outcome.TheVariants.{Allowed, Denied}
use Rattle.sng_book.specs.declared.row.Row.{Row}
use Rattle.sng_history.specs.Causes.{Statement, StatesTopic, StatesMessage, UpdatesTopic, UpdatesMessage}
use Rattle.sng_history.specs.Causes.{ByMessage, ToState}
use Rattle.sng_history.specs.Clients.{Client}
use Rattle.sng_history.specs.State.{State}
use Rattle.sng_history.specs.Verdicts.{and_then, is_active}
use Rattle.sng_history.specs.WillAsks.{awaits_topic, turn, statement_turn, topic_at, topic_read}
use Rattle.sng_history.specs.WillAsks.{topic_granted}
use Rattle.sng_history.specs.WillAsks.{statement_read, statement_verdict, statement_ask}
use Rattle.sng_history.specs.Answers.{dialogue_ended}
use Rattle.sng_history.specs.Whole.{replied}
use Rattle.sng_laws.specs.ViewsClients.{phase_of}
use Rattle.sng_laws.specs.ViewsWills.{stating_of, will_of, stage_shown}
use Rattle.sng_laws.specs.LawsState.{ClientShown}
use Rattle.sng_laws.specs.LawsRules.{judged, may_publish}
use Rattle.sng_laws.specs.LawsAnswers as laws
use Rattle.sng_laws.specs.LawsAnswers.{connack_to, code_for}
use Rattle.sng_laws.specs.LawsWills.{is_in_dialogue, has_turn, topic_of, topic_rules, will_rules, is_read}
use Rattle.sng_laws.specs.LawsWills.{topic_noted}
use Rattle.sng_laws.specs.LawsWills.{is_out_of_turn, reply}
use Rattle.sng_promise.proofs.Clients.SeenOrder.{StateShown}
use Rattle.sng_promise.proofs.Answers.LawRules.{listed_exit}
use Rattle.sng_promise.proofs.Answers.LawUnsupported.{code_same}
use Rattle.sng_promise.proofs.Answers.LawPings.{active_same}

-- ---- its turn

topic_turn : (phase : Option ClientState) (awaited : Option StatedTopic)
    → awaits_topic (stage_shown phase awaited) ≡ (is_in_dialogue phase && not (is_some awaited))
topic_turn None awaited = refl
topic_turn (Some Dialogue) None = refl
topic_turn (Some Dialogue) (Some topic) = refl
topic_turn (Some Active) awaited = refl
topic_turn (Some Asleep) awaited = refl
topic_turn (Some Awake) awaited = refl
topic_turn (Some Disconnected) awaited = refl
topic_turn (Some Lost) awaited = refl

message_turn : (phase : Option ClientState) (awaited : Option StatedTopic)
    → is_some (awaited_topic (stage_shown phase awaited)) ≡ (is_in_dialogue phase && is_some awaited)
message_turn None awaited = refl
message_turn (Some Dialogue) None = refl
message_turn (Some Dialogue) (Some topic) = refl
message_turn (Some Active) awaited = refl
message_turn (Some Asleep) awaited = refl
message_turn (Some Awake) awaited = refl
message_turn (Some Disconnected) awaited = refl
message_turn (Some Lost) awaited = refl

turn_both : (a b : Bool) → and_then (turn a) (turn b) ≡ turn (a && b)
turn_both true b = refl
turn_both false b = refl

active_shown : (h : List Row) (x : Client) → ClientShown h x
    → is_active x.phase ≡ laws.is_active (phase_of x.id h)
active_shown h x shown = active_same x.phase ∙ ap laws.is_active (sym shown.phase)

pub turn_shown : (h : List Row) (x : Client) (statement : Statement) → ClientShown h x
    → statement_turn statement x ≡ turn (has_turn h x.id statement)
turn_shown h x (StatesTopic topic) shown =
    ap (λ stage. turn (awaits_topic stage)) shown.stage
    ∙ ap turn (topic_turn (phase_of x.id h) (stating_of x.id h).awaited)
turn_shown h x (StatesMessage message) shown =
    ap (λ stage. turn (is_some (awaited_topic stage))) shown.stage
    ∙ ap turn (message_turn (phase_of x.id h) (stating_of x.id h).awaited)
turn_shown h x (UpdatesTopic topic) shown = ap turn (active_shown h x shown)
turn_shown h x (UpdatesMessage message) shown =
    turn_both (is_active x.phase) (is_some x.wills.will)
    ∙ (ap (λ will. turn (is_active x.phase && is_some will)) shown.will
    ∙ ap (λ active. turn (active && is_some (will_of x.id h))) (active_shown h x shown))

-- ---- its topic

message_topic : (phase : Option ClientState) (awaited : Option StatedTopic)
    → (is_in_dialogue phase && is_some awaited) ≡ true
    → option_map (λ w. w.topic) (awaited_topic (stage_shown phase awaited))
    ≡ option_map (λ w. w.topic) awaited
message_topic (Some Dialogue) (Some topic) is = refl
message_topic (Some Dialogue) None is = absurd cc
message_topic (Some Active) awaited is = absurd cc
message_topic (Some Asleep) awaited is = absurd cc
message_topic (Some Awake) awaited is = absurd cc
message_topic (Some Disconnected) awaited is = absurd cc
message_topic (Some Lost) awaited is = absurd cc
message_topic None awaited is = absurd cc

topic_shown : (h : List Row) (x : Client) (statement : Statement) → ClientShown h x
    → has_turn h x.id statement ≡ true
    → topic_at statement x ≡ topic_of h x.id statement
topic_shown h x (StatesTopic topic) shown has = refl
topic_shown h x (StatesMessage message) shown has =
    ap (λ stage. option_map (λ w. w.topic) (awaited_topic stage)) shown.stage
    ∙ message_topic (phase_of x.id h) (stating_of x.id h).awaited has
topic_shown h x (UpdatesTopic topic) shown has = refl
topic_shown h x (UpdatesMessage message) shown has = ap (option_map (λ w. w.topic)) shown.will

text_judged : (policy : Policy) (id text : List ℕ) (l n g : Bool) → lists policy id ≡ l → is_name text ≡ n
    → may_publish (scope_of policy.clients id) text ≡ g
    → and_then (topic_read policy id (Some text)) (topic_granted policy id (Some text))
    ≡ judged (topic_rules policy id (Some text))
text_judged policy id text false n g listed named granted = rw listed refl
text_judged policy id text true false g listed named granted = rw (listed, named) refl
text_judged policy id text true true true listed named granted =
    rw (listed, named, listed_exit policy id text listed, granted) refl
text_judged policy id text true true false listed named granted =
    rw (listed, named, listed_exit policy id text listed, granted) refl

topic_judged : (policy : Policy) (id : List ℕ) (topic : Option (List ℕ))
    → and_then (topic_read policy id topic) (topic_granted policy id topic)
    ≡ judged (topic_rules policy id topic)
topic_judged policy id None = refl
topic_judged policy id (Some text) =
    text_judged policy id text (lists policy id) (is_name text)
    (may_publish (scope_of policy.clients id) text) refl refl refl

both_read : (id : List ℕ) (l n : Bool)
    → is_allowed (and_then (if l then Allowed else Denied (Grant (NoScope id)))
    (if n then Allowed else Denied (Form BadName))) ≡ (l && n)
both_read id true true = refl
both_read id true false = refl
both_read id false n = refl

read_shown : (policy : Policy) (id : List ℕ) (topic : Option (List ℕ))
    → is_allowed (topic_read policy id topic) ≡ is_read policy id topic
read_shown policy id None = refl
read_shown policy id (Some text) = both_read id (lists policy id) (is_name text)

-- ---- the verdict and the note

verdict_by : (policy : Policy) (x : Client) (statement : Statement) (has : Bool) (topic : Option (List ℕ))
    → statement_turn statement x ≡ turn has → (has ≡ true → topic_at statement x ≡ topic)
    → statement_verdict policy statement x
    ≡ judged ((not has, Form OutOfTurn) ∷ topic_rules policy x.id topic)
verdict_by policy x statement false topic is same = rw is refl
verdict_by policy x statement true topic is same = rw (is, same refl) (topic_judged policy x.id topic)

pub verdict_shown : (h : List Row) (s : State) (x : Client) (statement : Statement) → StateShown h s
    → ClientShown h x
    → statement_verdict s.policy statement x ≡ judged (will_rules h x.id statement)
verdict_shown h s x statement state shown =
    verdict_by s.policy x statement (has_turn h x.id statement) (topic_of h x.id statement)
    (turn_shown h x statement shown)
    (topic_shown h x statement shown)
    ∙ ap (λ policy. judged
    ((not (has_turn h x.id statement), Form OutOfTurn) ∷ topic_rules policy x.id (topic_of h x.id statement)))
    state.policy

object_by : (policy : Policy) (x : Client) (statement : Statement) (has : Bool) (topic : Option (List ℕ))
    → statement_turn statement x ≡ turn has → (has ≡ true → topic_at statement x ≡ topic)
    → (if is_allowed (statement_read policy statement x) then topic_at statement x else None)
    ≡ (if has && is_read policy x.id topic then topic else None)
object_by policy x statement false topic is same = rw is refl
object_by policy x statement true topic is same =
    rw (is, same refl) (ap (λ b. let o : Option (List ℕ) = if b then topic else None in o)
    (read_shown policy x.id topic))

object_shown : (h : List Row) (s : State) (x : Client) (statement : Statement) → StateShown h s
    → ClientShown h x
    → (if is_allowed (statement_read s.policy statement x) then topic_at statement x else None)
    ≡ topic_noted h x.id statement
object_shown h s x statement state shown =
    let topic = topic_of h x.id statement in
    object_by s.policy x statement (has_turn h x.id statement) topic (turn_shown h x statement shown)
    (topic_shown h x statement shown)
    ∙ ap (λ policy. let o : Option
    (List ℕ) =
    if has_turn h x.id statement && is_read policy x.id topic then topic else None in o) state.policy

pub ask_shown : (h : List Row) (s : State) (x : Client) (statement : Statement) → StateShown h s
    → ClientShown h x
    → statement_ask s.policy statement x
    ≡ note.Will (who.Client x.id) (topic_noted h x.id statement) (judged (will_rules h x.id statement))
ask_shown h s x statement state shown =
    ap (λ o. note.Will (who.Client x.id) o (statement_verdict s.policy statement x))
    (object_shown h s x statement state shown)
    ∙ ap (note.Will (who.Client x.id) (topic_noted h x.id statement))
    (verdict_shown h s x statement state shown)

-- ---- its answer

ended_same : (to : Address) (rule : Denial)
    → dialogue_ended to rule ≡ (if is_out_of_turn rule then [] else connack_to to (code_for rule) ∷ [])
ended_same to (Form OutOfTurn) = refl
ended_same to rule = ap (λ code. connack_to to code ∷ []) (code_same rule)

pub replied_same : (from : Address) (statement : Statement) (y : Client) (name : Option (List ℕ))
    (o : Outcome)
    → replied (ByMessage from (ToState statement)) y name o ≡ reply y.address statement o
replied_same from (StatesTopic None) y name Allowed = refl
replied_same from (StatesTopic (Some w)) y name Allowed = refl
replied_same from (StatesTopic None) y name (Denied rule) = ended_same y.address rule
replied_same from (StatesTopic (Some w)) y name (Denied rule) = ended_same y.address rule
replied_same from (StatesMessage message) y name Allowed = refl
replied_same from (StatesMessage message) y name (Denied rule) = ended_same y.address rule
replied_same from (UpdatesTopic topic) y name Allowed = refl
replied_same from (UpdatesTopic topic) y name (Denied rule) = rw (code_same rule) refl
replied_same from (UpdatesMessage message) y name Allowed = refl
replied_same from (UpdatesMessage message) y name (Denied rule) = rw (code_same rule) refl
