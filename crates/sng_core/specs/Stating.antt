-- What a statement of a will lets out and leads to, with no notes and no search (MQTT-SN 1.2, 6.3 and 6.4).
use Rattle.std.specs.Prelude.{ℕ, ◌≡◌, ◌&&◌, Bool, true, false, List, [], ◌∷◌, is_some, is_none, if◌then◌else◌}
use Rattle.std.specs.Prelude.{Option, Some, None}
use Rattle.sng_text.specs.Texts.{is_name}
use Rattle.sng_grants.specs.declared.policy.Policy.{Policy}
use Rattle.sng_policy.specs.Grants.{lists}
use Rattle.sng_wills.specs.Stated.{awaited_topic}
use Rattle.sng_frames.specs.Writing.{written}
use Rattle.sng_frames.specs.declared.messages.will.WillTopic.{WillTopic}
use Rattle.sng_frames.specs.declared.frame.SnFrame.TheVariants as frame
use Rattle.sng_outbox.specs.declared.origin.Origin.TheVariants as origin
use Rattle.sng_book.specs.declared.address.Address.{Address}
use Rattle.sng_book.specs.declared.decision.Decision.TheVariants as note
use Rattle.sng_book.specs.declared.decision.Who.TheVariants as who
use Rattle.sng_book.specs.declared.outcome.Denial.TheVariants.{Form, Grant}
use Rattle.sng_book.specs.declared.outcome.FormDenial.TheVariants.{BadName, OutOfTurn}
use Rattle.sng_book.specs.declared.outcome.GrantDenial.TheVariants.{NoScope}
use Rattle.sng_book.specs.declared.outcome.Outcome.{Outcome}
use Rattle.sng_book.specs.declared.outcome.Outcome.TheVariants.{Allowed, Denied}
use Rattle.sng_book.specs.declared.out.Out.{Out}
use Rattle.sng_book.specs.declared.out.Out.TheVariants.{Note, Send}
use Rattle.sng_history.specs.Answers.{code_of, connack, statement_answer}
use Rattle.sng_history.specs.Causes.{Statement, StatesTopic, StatesMessage, UpdatesTopic, UpdatesMessage}
use Rattle.sng_history.specs.Clients.{Client, topic_stated}
use Rattle.sng_history.specs.Entering.{heard_at, left_at}
use Rattle.sng_history.specs.Verdicts.{exit, is_active}
use Rattle.sng_history.specs.WillAsks.{awaits_topic, topic_at}
use Rattle.sng_sessions.specs.Handed.{handed_by}
use Rattle.sng_sessions.specs.Willing.{stating_at}
use Rattle.sng_sessions.specs.declared.handing.Handed.{Handed}
use Rattle.sng_sessions.specs.declared.wills.Stating.{Stating}
use Rattle.sng_sessions.specs.declared.wills.Stating.TheVariants.{NoWill, Topic, Message, Deletion, NewTopic}
use Rattle.sng_sessions.specs.declared.wills.Stating.TheVariants.{NewMessage}
use Rattle.sng_turns.specs.HandingOver.{gone_outs}
use Rattle.sng_turns.specs.Serving.{over_outs, over_plan}
use Rattle.sng_core.specs.Connecting.{nothing_handed}
use Rattle.sng_core.specs.Forms.{unread}
use Rattle.sng_core.specs.declared.stating.Statement.{Statement as Given}
use Rattle.sng_core.specs.declared.stating.Statement.TheVariants as given
use Rattle.sng_core.specs.declared.verdict.Judged.{Judged}

-- what a client states
abbrev pub said : Given → Statement
said (given.Topic topic) = StatesTopic topic
said (given.Message message) = StatesMessage message
said (given.TopicUpdate topic) = UpdatesTopic topic
said (given.MessageUpdate message) = UpdatesMessage message

-- what it does to its client, once it is allowed
abbrev pub stating_of : Statement → Stating
stating_of (StatesTopic None) = NoWill
stating_of (StatesTopic (Some w)) = Topic (topic_stated w)
stating_of (StatesMessage message) = Message message
stating_of (UpdatesTopic None) = Deletion
stating_of (UpdatesTopic (Some w)) = NewTopic (topic_stated w)
stating_of (UpdatesMessage message) = NewMessage message

-- the topic, where it states one, is a topic name
abbrev pub IsNamed : Option WillTopic → Type 0
IsNamed None = Unit {0}
IsNamed (Some w) = is_name w.topic ≡ true

abbrev pub IsRead : Statement → Type 0
IsRead (StatesTopic topic) = IsNamed topic
IsRead (StatesMessage message) = Unit {0}
IsRead (UpdatesTopic topic) = IsNamed topic
IsRead (UpdatesMessage message) = Unit {0}

-- ---- how it is judged

abbrev pub has_turn : Statement → Client → Bool
has_turn (StatesTopic topic) x = awaits_topic x.wills.stage
has_turn (StatesMessage message) x = is_some (awaited_topic x.wills.stage)
has_turn (UpdatesTopic topic) x = is_active x.phase
has_turn (UpdatesMessage message) x = is_active x.phase && is_some x.wills.will

-- to delete a will needs no grant
abbrev pub granted_nothing : Judged
granted_nothing = record { name = None; outcome = Allowed }

abbrev pub text_judged : Policy → List ℕ → List ℕ → Judged
text_judged policy id text =
    if lists policy id
    then (if is_name text then record { name = Some text; outcome = exit policy (origin.Client id) text }
    else unread (Form BadName))
    else unread (Grant (NoScope id))

abbrev pub topic_judged : Policy → List ℕ → Option (List ℕ) → Judged
topic_judged policy id None = granted_nothing
topic_judged policy id (Some text) = text_judged policy id text

-- how one comes out that has its turn
abbrev pub statement_judged : Policy → Statement → Client → Judged
statement_judged policy statement x = topic_judged policy x.id (topic_at statement x)

-- ---- what it lets out

-- it is of the dialogue behind a CONNECT
abbrev pub is_of_dialogue : Statement → Bool
is_of_dialogue (StatesTopic topic) = true
is_of_dialogue (StatesMessage message) = true
is_of_dialogue (UpdatesTopic topic) = false
is_of_dialogue (UpdatesMessage message) = false

-- the dialogue is over once it is allowed
abbrev pub is_last : Statement → Bool
is_last (StatesTopic None) = true
is_last (StatesTopic (Some w)) = false
is_last (StatesMessage message) = true
is_last (UpdatesTopic topic) = false
is_last (UpdatesMessage message) = false

abbrev pub answer_of : Statement → Address → Outcome → Out
answer_of statement to Allowed = statement_answer statement to
answer_of (StatesTopic topic) to (Denied rule) = connack to (code_of rule)
answer_of (StatesMessage message) to (Denied rule) = connack to (code_of rule)
answer_of (UpdatesTopic topic) to (Denied rule) = Send to (written (frame.WillTopicResponse (code_of rule)))
answer_of (UpdatesMessage message) to (Denied rule) =
    Send to (written (frame.WillMessageResponse (code_of rule)))

-- what waits is handed over then
abbrev pub serves : Statement → Client → Bool
serves statement x = is_last statement && is_none x.buffer.exchange

abbrev pub kept_outs : Policy → Statement → Client → List Out
kept_outs policy statement x = if serves statement x then over_outs policy 0 0 x else []

abbrev pub kept_plan : Policy → Statement → Client → Handed
kept_plan policy statement x = if serves statement x then over_plan policy 0 0 x else nothing_handed

-- one that is denied ends the dialogue, and the client leaves
abbrev pub refused_outs : Statement → Client → List Out
refused_outs statement x =
    if is_of_dialogue statement then Note (note.Left x.id) ∷ gone_outs x.id x.buffer.waiting else []

abbrev pub following_outs : Policy → Statement → Client → Outcome → List Out
following_outs policy statement x Allowed = kept_outs policy statement x
following_outs policy statement x (Denied rule) = refused_outs statement x

abbrev pub noted_outs : Policy → Statement → Client → Judged → List Out
noted_outs policy statement x j =
    Note (note.Will (who.Client x.id) j.name j.outcome)
    ∷ answer_of statement x.address j.outcome
    ∷ following_outs policy statement x j.outcome

-- out of turn an update alone is answered
abbrev pub untimely_outs : Statement → Client → List Out
untimely_outs statement x =
    Note (note.Will (who.Client x.id) None (Denied (Form OutOfTurn)))
    ∷ (if is_of_dialogue statement then [] else answer_of statement x.address (Denied (Form OutOfTurn)) ∷ [])

abbrev pub statement_outs : Policy → Statement → Client → List Out
statement_outs policy statement x =
    if has_turn statement x then noted_outs policy statement x (statement_judged policy statement x)
    else untimely_outs statement x

-- ---- what it leads to

abbrev pub kept_next : Policy → ℕ → Statement → Client → Client
kept_next policy clock statement x =
    handed_by clock (kept_plan policy statement x) (stating_at clock (stating_of statement) x)

abbrev pub refused_next : ℕ → Statement → Client → Client
refused_next clock statement x = if is_of_dialogue statement then left_at clock x else heard_at clock x

abbrev pub following_next : Policy → ℕ → Statement → Outcome → Client → Client
following_next policy clock statement Allowed x = kept_next policy clock statement x
following_next policy clock statement (Denied rule) x = refused_next clock statement x

abbrev pub statement_next : Policy → ℕ → Statement → Client → Client
statement_next policy clock statement x =
    if has_turn statement x
    then following_next policy clock statement (statement_judged policy statement x).outcome x
    else heard_at clock x
