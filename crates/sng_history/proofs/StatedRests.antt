-- After a statement of its will a client has nothing left that could be handed over.
use Rattle.std.proofs.Common.{◌≡◌, ℕ, Bool, true, false, List, [], refl, ap, sym, ◌∙◌, subst}
use Rattle.std.specs.Prelude.{if◌then◌else◌, not, is_some, unwrap_or, Option, Some, None}
use Rattle.std.specs.Option.{option_map}
use Rattle.sng_grants.specs.declared.policy.Policy.{Policy}
use Rattle.sng_states.specs.declared.state.ClientState.{ClientState}
use Rattle.sng_states.specs.declared.state.ClientState.TheVariants.{Dialogue, Active, Asleep, Awake}
use Rattle.sng_states.specs.declared.state.ClientState.TheVariants.{Disconnected, Lost}
use Rattle.sng_states.specs.States.{has_session, in_dialogue}
use Rattle.sng_wills.specs.declared.will.Stage.{Stage}
use Rattle.sng_wills.specs.declared.will.Stage.TheVariants.{Closed, TopicAwaited, MessageAwaited}
use Rattle.sng_wills.specs.declared.will.StatedTopic.{StatedTopic}
use Rattle.sng_wills.specs.declared.will.Will.{Will}
use Rattle.sng_wills.specs.Stated.{awaited_topic}
use Rattle.sng_wills.specs.Wills.{Wills, will_of, message_of, is_closed, after_topic_update}
use Rattle.sng_wills.specs.Wills.{after_message_update}
use Rattle.sng_frames.specs.declared.messages.will.WillTopic.{WillTopic}
use Rattle.sng_book.specs.Denials.{is_allowed}
use Rattle.sng_book.specs.declared.address.Address.{Address}
use Rattle.sng_book.specs.declared.outcome.Denial.{Denial}
use Rattle.sng_book.specs.declared.outcome.Outcome.{Outcome}
use Rattle.sng_book.specs.declared.outcome.Outcome.TheVariants.{Allowed, Denied}
use Rattle.sng_history.specs.Causes.{Statement, StatesTopic, StatesMessage, UpdatesTopic, UpdatesMessage}
use Rattle.sng_history.specs.Causes.{ToState, ByMessage}
use Rattle.sng_history.specs.Clients.{Around, Client, stated, stated_by, notes_by}
use Rattle.sng_history.specs.State.{State, around}
use Rattle.sng_history.specs.Verdicts.{is_active, in_turn, and_then}
use Rattle.sng_history.specs.WillAsks.{awaits_topic, turn, statement_turn, topic_at, topic_read}
use Rattle.sng_history.specs.WillAsks.{topic_granted, statement_read}
use Rattle.sng_history.specs.WillAsks.{statement_verdict, dialogue_goes_on, in_dialogue_notes}
use Rattle.sng_history.specs.WillAsks.{statement_notes}
use Rattle.sng_history.specs.Entering.{heard_at}
use Rattle.sng_history.proofs.FiltersKept.{allowed_first}
use Rattle.sng_history.proofs.Served.{Rested, InSession, rest_served, rest_heard, rest_gone}

-- ---- its turn

turn_means : (has : Bool) → turn has ≡ Allowed → has ≡ true
turn_means true is = refl
turn_means false is = absurd cc

open_here : (phase : ClientState) → in_dialogue phase ≡ true → has_session phase ≡ true
open_here Dialogue is = refl
open_here Active is = absurd cc
open_here Asleep is = absurd cc
open_here Awake is = absurd cc
open_here Disconnected is = absurd cc
open_here Lost is = absurd cc

active_plain : (phase : ClientState) → is_active phase ≡ true → in_dialogue phase ≡ false
active_plain Active is = refl
active_plain Dialogue is = absurd cc
active_plain Asleep is = absurd cc
active_plain Awake is = absurd cc
active_plain Disconnected is = absurd cc
active_plain Lost is = absurd cc

active_turn : (active : Bool) (rule : Denial) → (if active then Allowed else Denied rule) ≡ Allowed
    → active ≡ true
active_turn true rule is = refl
active_turn false rule is = absurd cc

-- ---- in the dialogue

topic_by : (topic : WillTopic) (x : Client) (stage : Stage) → x.wills.stage ≡ stage
    → awaits_topic stage ≡ true → Rested x
    → InSession (stated (StatesTopic (Some topic)) x)
topic_by topic x TopicAwaited at is rest =
    let still : in_dialogue x.phase ≡ true = rest.dialogue ∙ ap (λ stage. not (is_closed stage)) at in
    record { here = open_here x.phase still; quiet = rest.quiet; dialogue = rw at still }
topic_by topic x Closed at is rest = absurd cc
topic_by topic x (MessageAwaited stated) at is rest = absurd cc

topic_in : (topic : Option WillTopic) (x : Client) → Rested x → statement_turn (StatesTopic topic) x ≡ Allowed
    → InSession (stated (StatesTopic topic) x)
topic_in None x rest is = record { here = refl; quiet = refl; dialogue = refl }
topic_in (Some topic) x rest is =
    topic_by topic x x.wills.stage refl (turn_means (awaits_topic x.wills.stage) is) rest

message_by : (message : List ℕ) (x : Client) (stage : Stage) → x.wills.stage ≡ stage
    → is_some (awaited_topic stage) ≡ true
    → InSession (stated (StatesMessage message) x)
message_by message x (MessageAwaited topic) at is =
    record { here = refl; quiet = refl; dialogue = rw at refl }
message_by message x Closed at is = absurd cc
message_by message x TopicAwaited at is = absurd cc

message_in : (message : List ℕ) (x : Client) → statement_turn (StatesMessage message) x ≡ Allowed
    → InSession (stated (StatesMessage message) x)
message_in message x is =
    message_by message x x.wills.stage refl (turn_means (is_some (awaited_topic x.wills.stage)) is)

-- one that has its turn ends the dialogue or goes on with it
rest_on : (a : Around) (statement : Statement) (x : Client) (o : Outcome) → InSession (stated statement x)
    → Rested (notes_by a (dialogue_goes_on a.policy statement x o)
    (stated_by (Some statement) o (heard_at a.clock x)))
rest_on a statement x Allowed in_session =
    rest_served a (stated statement (heard_at a.clock x))
    (record { here = in_session.here; quiet = in_session.quiet; dialogue = in_session.dialogue })
rest_on a statement x (Denied rule) in_session = rest_gone a x.id x.buffer.waiting (heard_at a.clock x)

-- what is denied by its turn is denied
turn_denies : (policy : Policy) (statement : Statement) (x : Client) (rule : Denial)
    → statement_turn statement x ≡ Denied rule
    → statement_verdict policy statement x ≡ Denied rule
turn_denies policy statement x rule is =
    ap (λ o. and_then (and_then o (topic_read policy x.id (topic_at statement x)))
    (topic_granted policy x.id (topic_at statement x))) is

rest_turn : (a : Around) (statement : Statement) (x : Client) (turned : Outcome)
    → statement_turn statement x ≡ turned
    → (statement_turn statement x ≡ Allowed → InSession (stated statement x)) → Rested x
    → (let o = statement_verdict a.policy statement x in
    let notes = if is_allowed turned then dialogue_goes_on a.policy statement x o else [] in
    Rested (notes_by a notes (stated_by (Some statement) o (heard_at a.clock x))))
rest_turn a statement x Allowed is in_session rest =
    rest_on a statement x (statement_verdict a.policy statement x) (in_session is)
rest_turn a statement x (Denied rule) is in_session rest =
    subst (λ o. Rested (stated_by (Some statement) o (heard_at a.clock x)))
    (sym (turn_denies a.policy statement x rule is))
    (rest_heard a.clock x rest)

rest_dialogue : (a : Around) (statement : Statement) (x : Client)
    → (statement_turn statement x ≡ Allowed → InSession (stated statement x))
    → Rested x
    → (let o = statement_verdict a.policy statement x in
    Rested (notes_by a (in_dialogue_notes a.policy statement x)
    (stated_by (Some statement) o (heard_at a.clock x))))
rest_dialogue a statement x in_session rest =
    rest_turn a statement x (statement_turn statement x) refl in_session rest

-- ---- an update, which opens and closes none

-- what is allowed had its turn
turn_allowed : (policy : Policy) (statement : Statement) (x : Client)
    → statement_verdict policy statement x ≡ Allowed
    → statement_turn statement x ≡ Allowed
turn_allowed policy statement x is =
    allowed_first (statement_turn statement x) (topic_read policy x.id (topic_at statement x))
    (allowed_first (statement_read policy statement x) (topic_granted policy x.id (topic_at statement x)) is)

topic_stage : (t : StatedTopic) (wills : Wills)
    → (unwrap_or (after_topic_update t wills) wills).stage ≡ wills.stage
topic_stage t wills = by_closed (is_closed wills.stage) (Some (will_of t (message_of wills.will))) wills
  where
    by_closed : (b : Bool) (will : Option Will) (wills : Wills)
        → (unwrap_or (if b then Some (record wills { will = will }) else None) wills).stage ≡ wills.stage
    by_closed true will wills = refl
    by_closed false will wills = refl

message_stage : (message : List ℕ) (wills : Wills)
    → (unwrap_or (after_message_update message wills) wills).stage ≡ wills.stage
message_stage message wills = by_closed (is_closed wills.stage) wills.will message wills
  where
    by_closed : (b : Bool) (will : Option Will) (message : List ℕ) (wills : Wills)
        → (let with : Will → Wills = λ w. record wills { will = Some (record w { payload = message }) } in
        (unwrap_or (if b then option_map with will else None) wills).stage ≡ wills.stage)
    by_closed true (Some w) message wills = refl
    by_closed true None message wills = refl
    by_closed false will message wills = refl

rest_wills : (x : Client) (wills : Wills) → wills.stage ≡ x.wills.stage → Rested x
    → Rested (record x { wills = wills })
rest_wills x wills same rest =
    let dialogue = rest.dialogue ∙ ap (λ stage. not (is_closed stage)) (sym same) in
    record { handed = rest.handed; quiet = rest.quiet; away = rest.away; dialogue = dialogue }

rest_topic : (clock : ℕ) (topic : Option WillTopic) (x : Client) → in_turn x ≡ Allowed → Rested x
    → Rested (stated (UpdatesTopic topic) (heard_at clock x))
rest_topic clock None x is rest =
    let plain = active_plain x.phase (active_turn (is_active x.phase) _ is) in
    record { handed = rest.handed; quiet = rest.quiet; away = rest.away; dialogue = plain }
rest_topic clock (Some topic) x is rest =
    rest_wills (heard_at clock x) _ (topic_stage _ x.wills) (rest_heard clock x rest)

rest_update_topic : (a : Around) (topic : Option WillTopic) (x : Client) (o : Outcome)
    → statement_verdict a.policy (UpdatesTopic topic) x ≡ o → Rested x
    → Rested (stated_by (Some (UpdatesTopic topic)) o (heard_at a.clock x))
rest_update_topic a topic x Allowed is rest =
    rest_topic a.clock topic x (turn_allowed a.policy (UpdatesTopic topic) x is) rest
rest_update_topic a topic x (Denied rule) is rest = rest_heard a.clock x rest

rest_update_message : (a : Around) (message : List ℕ) (x : Client) (o : Outcome) → Rested x
    → Rested (stated_by (Some (UpdatesMessage message)) o (heard_at a.clock x))
rest_update_message a message x Allowed rest =
    rest_wills (heard_at a.clock x) _ (message_stage message x.wills) (rest_heard a.clock x rest)
rest_update_message a message x (Denied rule) rest = rest_heard a.clock x rest

-- ---- each statement

pub rest_statement : (s : State) (from : Address) (statement : Statement) (x : Client) → Rested x
    → Rested (notes_by (around s (ByMessage from (ToState statement))) (statement_notes s.policy statement x)
    (heard_at s.clock x))
rest_statement s from (StatesTopic topic) x rest =
    rest_dialogue (around s (ByMessage from (ToState (StatesTopic topic)))) (StatesTopic topic) x
    (topic_in topic x rest) rest
rest_statement s from (StatesMessage message) x rest =
    rest_dialogue (around s (ByMessage from (ToState (StatesMessage message)))) (StatesMessage message) x
    (message_in message x) rest
rest_statement s from (UpdatesTopic topic) x rest =
    let a = around s (ByMessage from (ToState (UpdatesTopic topic))) in
    rest_update_topic a topic x (statement_verdict s.policy (UpdatesTopic topic) x) refl rest
rest_statement s from (UpdatesMessage message) x rest =
    let a = around s (ByMessage from (ToState (UpdatesMessage message))) in
    rest_update_message a message x (statement_verdict s.policy (UpdatesMessage message) x) rest
