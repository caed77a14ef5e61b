-- How what a client states of its will is judged (MQTT-SN 1.2, 5.4.7, 5.4.9, 5.4.22, 5.4.23, 6.3 and 6.4):
-- its turn, then its scope, its topic, and the grant of that topic. To delete a will needs no grant.
use Rattle.std.specs.Prelude.{ℕ, Bool, true, false, List, [], ◌∷◌, is_some, if◌then◌else◌, Option, Some, None}
use Rattle.std.specs.Option.{option_map}
use Rattle.sng_text.specs.Texts.{is_name}
use Rattle.sng_grants.specs.declared.policy.Policy.{Policy}
use Rattle.sng_wills.specs.Stated.{awaited_topic}
use Rattle.sng_wills.specs.declared.will.Stage.{Stage}
use Rattle.sng_wills.specs.declared.will.Stage.TheVariants.{Closed, TopicAwaited, MessageAwaited}
use Rattle.sng_outbox.specs.declared.origin.Origin.TheVariants as origin
use Rattle.sng_book.specs.Denials.{is_allowed}
use Rattle.sng_book.specs.declared.decision.Decision.{Decision}
use Rattle.sng_book.specs.declared.decision.Decision.TheVariants as note
use Rattle.sng_book.specs.declared.decision.Who.TheVariants as who
use Rattle.sng_book.specs.declared.outcome.Denial.TheVariants.{Form}
use Rattle.sng_book.specs.declared.outcome.FormDenial.TheVariants.{BadName, OutOfTurn}
use Rattle.sng_book.specs.declared.outcome.Outcome.{Outcome}
use Rattle.sng_book.specs.declared.outcome.Outcome.TheVariants.{Allowed, Denied}
use Rattle.sng_history.specs.Causes.{Statement, StatesTopic, StatesMessage, UpdatesTopic, UpdatesMessage}
use Rattle.sng_history.specs.Clients.{Client, stated}
use Rattle.sng_history.specs.Outgoing.{all_gone, handed_over}
use Rattle.sng_history.specs.Verdicts.{and_then, client_scope, exit, in_turn}

-- ---- its turn

abbrev pub awaits_topic : Stage → Bool
awaits_topic TopicAwaited = true
awaits_topic Closed = false
awaits_topic (MessageAwaited topic) = false

-- a thing has its turn, or has not
abbrev pub turn : Bool → Outcome
turn has = if has then Allowed else Denied (Form OutOfTurn)

-- a WILLTOPIC and a WILLMSG have their turn where the dialogue awaits them, and the updates where the client
-- is active; a WILLMSGUPD needs a will besides
abbrev pub statement_turn : Statement → Client → Outcome
statement_turn (StatesTopic topic) x = turn (awaits_topic x.wills.stage)
statement_turn (StatesMessage message) x = turn (is_some (awaited_topic x.wills.stage))
statement_turn (UpdatesTopic topic) x = in_turn x
statement_turn (UpdatesMessage message) x = and_then (in_turn x) (turn (is_some x.wills.will))

-- ---- its topic

-- the topic that a statement is about: its own, or that of its message; none where it deletes the will
abbrev pub topic_at : Statement → Client → Option (List ℕ)
topic_at (StatesTopic topic) x = option_map (λ w. w.topic) topic
topic_at (StatesMessage message) x = option_map (λ w. w.topic) (awaited_topic x.wills.stage)
topic_at (UpdatesTopic topic) x = option_map (λ w. w.topic) topic
topic_at (UpdatesMessage message) x = option_map (λ w. w.topic) x.wills.will

abbrev pub name_rule : List ℕ → Outcome
name_rule text = if is_name text then Allowed else Denied (Form BadName)

-- a topic is read where the policy lists the client and it is a topic name
abbrev pub topic_read : Policy → List ℕ → Option (List ℕ) → Outcome
topic_read policy id None = Allowed
topic_read policy id (Some text) = and_then (client_scope policy id) (name_rule text)

abbrev pub topic_granted : Policy → List ℕ → Option (List ℕ) → Outcome
topic_granted policy id None = Allowed
topic_granted policy id (Some name) = exit policy (origin.Client id) name

-- ---- its verdict and its note

-- what comes before the grant
abbrev pub statement_read : Policy → Statement → Client → Outcome
statement_read policy statement x =
    and_then (statement_turn statement x) (topic_read policy x.id (topic_at statement x))

abbrev pub statement_verdict : Policy → Statement → Client → Outcome
statement_verdict policy statement x =
    and_then (statement_read policy statement x) (topic_granted policy x.id (topic_at statement x))

-- the note names the topic that was read
abbrev pub statement_object : Policy → Statement → Client → Option (List ℕ)
statement_object policy statement x =
    if is_allowed (statement_read policy statement x) then topic_at statement x else None

abbrev pub statement_ask : Policy → Statement → Client → Decision
statement_ask policy statement x =
    note.Will (who.Client x.id) (statement_object policy statement x) (statement_verdict policy statement x)

-- ---- what follows

-- as the dialogue ends what waited meanwhile is handed over, which is nothing while it goes on
abbrev pub dialogue_goes_on : Policy → Statement → Client → Outcome → List Decision
dialogue_goes_on policy statement x Allowed = handed_over policy (stated statement x)
-- one that is denied ends the dialogue, and the client leaves
dialogue_goes_on policy statement x (Denied rule) = note.Left x.id ∷ all_gone x.id x.buffer.waiting

-- what follows a WILLTOPIC or a WILLMSG; one out of turn ends nothing
abbrev pub in_dialogue_notes : Policy → Statement → Client → List Decision
in_dialogue_notes policy statement x =
    if is_allowed (statement_turn statement x)
    then dialogue_goes_on policy statement x (statement_verdict policy statement x) else []

abbrev pub statement_follows : Policy → Statement → Client → List Decision
statement_follows policy (StatesTopic topic) x = in_dialogue_notes policy (StatesTopic topic) x
statement_follows policy (StatesMessage message) x = in_dialogue_notes policy (StatesMessage message) x
statement_follows policy (UpdatesTopic topic) x = []
statement_follows policy (UpdatesMessage message) x = []

-- the notes that a statement makes of its client
abbrev pub statement_notes : Policy → Statement → Client → List Decision
statement_notes policy statement x = statement_ask policy statement x ∷ statement_follows policy statement x
