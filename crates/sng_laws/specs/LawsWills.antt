-- What a client states of its will, as it is judged and answered, in the views' words (MQTT-SN 1.2, 5.4.6 to
-- 5.4.9, 5.4.22 to 5.4.25, 6.3 and 6.4).
use Rattle.std.specs.Prelude.{ℕ, Bool, true, false, ◌&&◌, not, List, [], ◌∷◌, ◌++◌, is_some}
use Rattle.std.specs.Prelude.{if◌then◌else◌, Option, Some, None}
use Rattle.std.specs.Option.{option_map}
use Rattle.sng_text.specs.Texts.{is_name}
use Rattle.sng_grants.specs.Sources.{scope_of}
use Rattle.sng_grants.specs.declared.policy.Policy.{Policy}
use Rattle.sng_policy.specs.Grants.{lists}
use Rattle.sng_states.specs.declared.state.ClientState.{ClientState}
use Rattle.sng_states.specs.declared.state.ClientState.TheVariants.{Dialogue}
use Rattle.sng_frames.specs.Writing.{written}
use Rattle.sng_frames.specs.declared.return_code.TheConstants.ReturnCode.{ACCEPTED}
use Rattle.sng_frames.specs.declared.frame.SnFrame.{SnFrame}
use Rattle.sng_frames.specs.declared.frame.SnFrame.TheVariants as frame
use Rattle.sng_book.specs.declared.address.Address.{Address}
use Rattle.sng_book.specs.declared.decision.Decision.TheVariants as note
use Rattle.sng_book.specs.declared.decision.Who.TheVariants as who
use Rattle.sng_book.specs.declared.outcome.Denial.{Denial}
use Rattle.sng_book.specs.declared.outcome.Denial.TheVariants.{Form, Grant}
use Rattle.sng_book.specs.declared.outcome.FormDenial.TheVariants.{NoSession, BadName, OutOfTurn}
use Rattle.sng_book.specs.declared.outcome.GrantDenial.TheVariants.{NoScope, MissingPub}
use Rattle.sng_book.specs.declared.outcome.Outcome.{Outcome}
use Rattle.sng_book.specs.declared.outcome.Outcome.TheVariants.{Allowed, Denied}
use Rattle.sng_book.specs.declared.out.Out.{Out}
use Rattle.sng_book.specs.declared.out.Out.TheVariants.{Send, Note}
use Rattle.sng_book.specs.declared.row.Row.{Row}
use Rattle.sng_history.specs.Causes.{Statement, StatesTopic, StatesMessage, UpdatesTopic, UpdatesMessage}
use Rattle.sng_laws.specs.Views.{last_policy}
use Rattle.sng_laws.specs.ViewsClients.{phase_of}
use Rattle.sng_laws.specs.ViewsHanding.{waits_for}
use Rattle.sng_laws.specs.ViewsWills.{stating_of, will_of}
use Rattle.sng_laws.specs.LawsRules.{Rule, judged, may_publish}
use Rattle.sng_laws.specs.LawsHanding.{mailing, handed_out, gone_answer}
use Rattle.sng_laws.specs.LawsAnswers.{bye, code_for, connack_to, is_active}

-- the message that states it
abbrev pub stated_as : Statement → SnFrame
stated_as (StatesTopic topic) = frame.WillTopic topic
stated_as (StatesMessage message) = frame.WillMessage message
stated_as (UpdatesTopic topic) = frame.WillTopicUpdate topic
stated_as (UpdatesMessage message) = frame.WillMessageUpdate message

-- ---- its turn and its topic

abbrev pub is_in_dialogue : Option ClientState → Bool
is_in_dialogue (Some Dialogue) = true
is_in_dialogue other = false

-- in the dialogue a WILLTOPIC has its turn first, and a WILLMSG once a topic awaits it; an update where the
-- client is active, and a WILLMSGUPD where it has a will besides
abbrev pub has_turn : List Row → List ℕ → Statement → Bool
has_turn h id (StatesTopic topic) = is_in_dialogue (phase_of id h) && not (is_some (stating_of id h).awaited)
has_turn h id (StatesMessage message) = is_in_dialogue (phase_of id h) && is_some (stating_of id h).awaited
has_turn h id (UpdatesTopic topic) = is_active (phase_of id h)
has_turn h id (UpdatesMessage message) = is_active (phase_of id h) && is_some (will_of id h)

-- the topic that it is about: its own, the one that awaits the message, or that of the will; none where it
-- deletes the will
abbrev pub topic_of : List Row → List ℕ → Statement → Option (List ℕ)
topic_of h id (StatesTopic topic) = option_map (λ w. w.topic) topic
topic_of h id (StatesMessage message) = option_map (λ stated. stated.topic) (stating_of id h).awaited
topic_of h id (UpdatesTopic topic) = option_map (λ w. w.topic) topic
topic_of h id (UpdatesMessage message) = option_map (λ will. will.topic) (will_of id h)

-- ---- what forbids it, in order

-- to delete the will nothing has to be granted
abbrev pub topic_rules : Policy → List ℕ → Option (List ℕ) → List Rule
topic_rules policy id None = []
topic_rules policy id (Some text) =
    (not (lists policy id), Grant (NoScope id))
    ∷ (not (is_name text), Form BadName)
    ∷ (not (may_publish (scope_of policy.clients id) text), Grant (MissingPub text))
    ∷ []

abbrev pub will_rules : List Row → List ℕ → Statement → List Rule
will_rules h id statement =
    (not (has_turn h id statement), Form OutOfTurn)
    ∷ topic_rules (last_policy h) id (topic_of h id statement)

-- the note names the topic where it was read: the client may ask, and it is a topic name
abbrev pub is_read : Policy → List ℕ → Option (List ℕ) → Bool
is_read policy id None = true
is_read policy id (Some text) = lists policy id && is_name text

abbrev pub topic_noted : List Row → List ℕ → Statement → Option (List ℕ)
topic_noted h id statement =
    if has_turn h id statement && is_read (last_policy h) id (topic_of h id statement)
    then topic_of h id statement else None

-- ---- the row

abbrev pub is_out_of_turn : Denial → Bool
is_out_of_turn (Form OutOfTurn) = true
is_out_of_turn other = false

-- in the dialogue a topic is answered by WILLMSGREQ and its end by CONNACK, with the code of the rule where
-- one forbids it; what is out of turn is not answered. An update is answered by its own acknowledgement, also
-- out of turn
abbrev pub reply : Address → Statement → Outcome → List Out
reply from (StatesTopic None) Allowed = connack_to from ACCEPTED ∷ []
reply from (StatesTopic (Some w)) Allowed = Send from (written frame.WillMessageRequest) ∷ []
reply from (StatesTopic topic) (Denied rule) =
    if is_out_of_turn rule then [] else connack_to from (code_for rule) ∷ []
reply from (StatesMessage message) Allowed = connack_to from ACCEPTED ∷ []
reply from (StatesMessage message) (Denied rule) =
    if is_out_of_turn rule then [] else connack_to from (code_for rule) ∷ []
reply from (UpdatesTopic topic) Allowed = Send from (written (frame.WillTopicResponse ACCEPTED)) ∷ []
reply from (UpdatesTopic topic) (Denied rule) =
    Send from (written (frame.WillTopicResponse (code_for rule))) ∷ []
reply from (UpdatesMessage message) Allowed = Send from (written (frame.WillMessageResponse ACCEPTED)) ∷ []
reply from (UpdatesMessage message) (Denied rule) =
    Send from (written (frame.WillMessageResponse (code_for rule))) ∷ []

-- what was denied in the dialogue ends it: the client leaves, and what waits for it is gone
abbrev pub broken_off : List Row → List ℕ → Denial → List Out
broken_off h id rule = if is_out_of_turn rule then [] else Note (note.Left id) ∷ gone_answer h id

-- once the dialogue is over all that waited meanwhile is handed over
abbrev pub follows : List Row → Address → Statement → List ℕ → Outcome → List Out
follows h from (StatesTopic None) id Allowed = handed_out (mailing h id from) (waits_for id h)
follows h from (StatesTopic (Some w)) id Allowed = []
follows h from (StatesTopic topic) id (Denied rule) = broken_off h id rule
follows h from (StatesMessage message) id Allowed = handed_out (mailing h id from) (waits_for id h)
follows h from (StatesMessage message) id (Denied rule) = broken_off h id rule
follows h from (UpdatesTopic topic) id outcome = []
follows h from (UpdatesMessage message) id outcome = []

abbrev pub will_answer : List Row → Address → Statement → List ℕ → List Out
will_answer h from statement id =
    let outcome = judged (will_rules h id statement) in
    Note (note.Will (who.Client id) (topic_noted h id statement) outcome)
    ∷ (reply from statement outcome ++ follows h from statement id outcome)

-- by nobody there is no session
abbrev pub will_stranger : Address → List Out
will_stranger from = Note (note.Will (who.Address from) None (Denied (Form NoSession))) ∷ bye from ∷ []
