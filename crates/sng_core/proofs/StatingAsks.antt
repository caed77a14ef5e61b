-- How a statement of a will is judged as code judges it: its note, what follows it, and what answers it.
use Rattle.std.proofs.Common.{◌≡◌, ℕ, Bool, true, false, List, [], ◌∷◌, refl, ap, sym, ◌∙◌}
use Rattle.std.specs.Prelude.{if◌then◌else◌, ◌&&◌, is_some, Option, Some, None}
use Rattle.sng_text.specs.Texts.{is_name}
use Rattle.sng_grants.specs.declared.policy.Policy.{Policy}
use Rattle.sng_policy.specs.Grants.{lists, publish_grant}
use Rattle.sng_policy.specs.declared.grant.NameGrant.{NameGrant}
use Rattle.sng_policy.specs.declared.grant.NameGrant.TheVariants as grant
use Rattle.sng_policy.specs.declared.permission.Permission.TheVariants as permission
use Rattle.sng_outbox.specs.declared.origin.Origin.TheVariants as origin
use Rattle.sng_book.specs.Denials.{is_allowed}
use Rattle.sng_book.specs.declared.address.Address.{Address}
use Rattle.sng_book.specs.declared.decision.Decision.{Decision}
use Rattle.sng_book.specs.declared.decision.Decision.TheVariants as note
use Rattle.sng_book.specs.declared.decision.Who.TheVariants as who
use Rattle.sng_book.specs.declared.outcome.Denial.TheVariants.{Form, Grant}
use Rattle.sng_book.specs.declared.outcome.FormDenial.TheVariants.{BadName, OutOfTurn}
use Rattle.sng_book.specs.declared.outcome.GrantDenial.TheVariants.{NoScope}
use Rattle.sng_book.specs.declared.outcome.Outcome.{Outcome}
use Rattle.sng_book.specs.declared.outcome.Outcome.TheVariants.{Allowed, Denied}
use Rattle.sng_book.specs.declared.out.Out.{Out}
use Rattle.sng_history.specs.Answers.{code_of, connack, dialogue_ended, statement_answer, statement_refused}
use Rattle.sng_history.specs.Causes.{ToState, ByMessage}
use Rattle.sng_history.specs.Causes.{Statement, StatesTopic, StatesMessage, UpdatesTopic, UpdatesMessage}
use Rattle.sng_history.specs.Clients.{Client}
use Rattle.sng_history.specs.State.{State, around}
use Rattle.sng_history.specs.Verdicts.{exit, and_then, is_active, name_outcome}
use Rattle.sng_history.specs.Whole.{frames_of}
use Rattle.sng_history.specs.WillAsks.{turn, statement_turn, topic_at, topic_read, topic_granted}
use Rattle.sng_history.specs.WillAsks.{statement_verdict, statement_ask}
use Rattle.sng_history.specs.WillAsks.{dialogue_goes_on, in_dialogue_notes, statement_follows}
use Rattle.sng_core.specs.Forms.{unread}
use Rattle.sng_core.specs.Stating.{has_turn, topic_judged, statement_judged, answer_of}
use Rattle.sng_core.specs.declared.verdict.Judged.{Judged}

-- ---- its turn

active_turn : (active has : Bool)
    → and_then (if active then Allowed else Denied (Form OutOfTurn)) (turn has) ≡ turn (active && has)
active_turn true has = refl
active_turn false has = refl

turn_is : (statement : Statement) (x : Client) → statement_turn statement x ≡ turn (has_turn statement x)
turn_is (StatesTopic topic) x = refl
turn_is (StatesMessage message) x = refl
turn_is (UpdatesTopic topic) x = refl
turn_is (UpdatesMessage message) x = active_turn (is_active x.phase) (is_some x.wills.will)

-- ---- its verdict and its object

-- what is read of a topic, its verdict, and the topic that the note names
abbrev judged_as : Outcome → Outcome → Option (List ℕ) → Judged
judged_as read granted topic =
    record { name = if is_allowed read then topic else None; outcome = and_then read granted }

-- by whether the policy lists the client, and the text is a topic name
abbrev text_by : Policy → List ℕ → List ℕ → Bool → Bool → Judged
text_by policy id text listed named =
    if listed
    then (if named then record { name = Some text; outcome = exit policy (origin.Client id) text }
    else unread (Form BadName))
    else unread (Grant (NoScope id))

text_is : (policy : Policy) (id text : List ℕ) (listed named : Bool)
    → text_by policy id text listed named
    ≡ judged_as (and_then (if listed then Allowed else Denied (Grant (NoScope id)))
    (if named then Allowed else Denied (Form BadName)))
    (exit policy (origin.Client id) text) (Some text)
text_is policy id text true true = refl
text_is policy id text true false = refl
text_is policy id text false named = refl

judged_is : (policy : Policy) (id : List ℕ) (topic : Option (List ℕ))
    → topic_judged policy id topic
    ≡ judged_as (topic_read policy id topic) (topic_granted policy id topic) topic
judged_is policy id None = refl
judged_is policy id (Some text) = text_is policy id text (lists policy id) (is_name text)

-- the note, by the turn, what is read, and the grant
abbrev noted_as : List ℕ → Outcome → Outcome → Outcome → Option (List ℕ) → Decision
noted_as client turned read granted topic =
    note.Will (who.Client client) (if is_allowed (and_then turned read) then topic else None)
    (and_then (and_then turned read) granted)

ask_by : (client : List ℕ) (has : Bool) (read granted : Outcome) (topic : Option (List ℕ)) → has ≡ true
    → (let j = judged_as read granted topic in
    noted_as client (turn has) read granted topic ≡ note.Will (who.Client client) j.name j.outcome)
ask_by client true read granted topic is = refl
ask_by client false read granted topic is = absurd cc

-- in its turn its note is of what was judged
pub ask_in_turn : (policy : Policy) (statement : Statement) (x : Client) → has_turn statement x ≡ true
    → (let j = statement_judged policy statement x in
    statement_ask policy statement x ≡ note.Will (who.Client x.id) j.name j.outcome)
ask_in_turn policy statement x has =
    let topic = topic_at statement x in
    let read = topic_read policy x.id topic in
    let granted = topic_granted policy x.id topic in
    ap (λ t. noted_as x.id t read granted topic) (turn_is statement x)
    ∙ (ask_by x.id (has_turn statement x) read granted topic has
    ∙ ap (λ j. note.Will (who.Client x.id) j.name j.outcome) (sym (judged_is policy x.id topic)))

untimely_by : (client : List ℕ) (has : Bool) (read granted : Outcome) (topic : Option (List ℕ)) → has ≡ false
    → noted_as client (turn has) read granted topic
    ≡ note.Will (who.Client client) None (Denied (Form OutOfTurn))
untimely_by client true read granted topic is = absurd cc
untimely_by client false read granted topic is = refl

pub ask_untimely : (policy : Policy) (statement : Statement) (x : Client) → has_turn statement x ≡ false
    → statement_ask policy statement x ≡ note.Will (who.Client x.id) None (Denied (Form OutOfTurn))
ask_untimely policy statement x has =
    let topic = topic_at statement x in
    let read = topic_read policy x.id topic in
    let granted = topic_granted policy x.id topic in
    ap (λ t. noted_as x.id t read granted topic) (turn_is statement x)
    ∙ untimely_by x.id (has_turn statement x) read granted topic has

-- ---- what follows it

-- the notes that follow it in its turn, by how it came out
abbrev pub in_turn_notes : Policy → Statement → Client → Outcome → List Decision
in_turn_notes policy (StatesTopic topic) x o = dialogue_goes_on policy (StatesTopic topic) x o
in_turn_notes policy (StatesMessage message) x o = dialogue_goes_on policy (StatesMessage message) x o
in_turn_notes policy (UpdatesTopic topic) x o = []
in_turn_notes policy (UpdatesMessage message) x o = []

goes_by : (goes : Outcome → List Decision) (has : Bool) (read granted : Outcome) → has ≡ true
    → (if is_allowed (turn has) then goes (and_then (and_then (turn has) read) granted) else [])
    ≡ goes (and_then read granted)
goes_by goes true read granted is = refl
goes_by goes false read granted is = absurd cc

goes_in_turn : (policy : Policy) (statement : Statement) (x : Client) → has_turn statement x ≡ true
    → statement_turn statement x ≡ turn (has_turn statement x)
    → in_dialogue_notes policy statement x
    ≡ dialogue_goes_on policy statement x (statement_judged policy statement x).outcome
goes_in_turn policy statement x has is =
    let topic = topic_at statement x in
    let read = topic_read policy x.id topic in
    let granted = topic_granted policy x.id topic in
    let goes = dialogue_goes_on policy statement x in
    ap (λ t. if is_allowed t then goes (and_then (and_then t read) granted) else []) is
    ∙ (goes_by goes (has_turn statement x) read granted has
    ∙ ap (λ j. goes j.outcome) (sym (judged_is policy x.id topic)))

pub follows_in_turn : (policy : Policy) (statement : Statement) (x : Client) → has_turn statement x ≡ true
    → statement_follows policy statement x
    ≡ in_turn_notes policy statement x (statement_judged policy statement x).outcome
follows_in_turn policy (StatesTopic topic) x has = goes_in_turn policy (StatesTopic topic) x has refl
follows_in_turn policy (StatesMessage message) x has = goes_in_turn policy (StatesMessage message) x has refl
follows_in_turn policy (UpdatesTopic topic) x has = refl
follows_in_turn policy (UpdatesMessage message) x has = refl

ends_not : (goes : List Decision) (has : Bool) → has ≡ false
    → (if is_allowed (turn has) then goes else []) ≡ []
ends_not goes true is = absurd cc
ends_not goes false is = refl

pub follows_untimely : (policy : Policy) (statement : Statement) (x : Client) → has_turn statement x ≡ false
    → statement_follows policy statement x ≡ []
follows_untimely policy (StatesTopic topic) x has =
    let st = StatesTopic topic in
    ends_not (dialogue_goes_on policy st x (statement_verdict policy st x)) (has_turn st x) has
follows_untimely policy (StatesMessage message) x has =
    let st = StatesMessage message in
    ends_not (dialogue_goes_on policy st x (statement_verdict policy st x)) (has_turn st x) has
follows_untimely policy (UpdatesTopic topic) x has = refl
follows_untimely policy (UpdatesMessage message) x has = refl

-- ---- what answers it

-- a denial that ends a dialogue is answered
abbrev pub Timely : Outcome → Type 0
Timely Allowed = Unit {0}
Timely (Denied rule) = (to : Address) → dialogue_ended to rule ≡ connack to (code_of rule) ∷ []

granted_timely : (client text : List ℕ) (g : NameGrant)
    → Timely (name_outcome permission.Publish (Some client) text g)
granted_timely client text grant.Allowed = tt
granted_timely client text grant.Unlisted = λ to. refl
granted_timely client text grant.Missing = λ to. refl

text_timely : (policy : Policy) (id text : List ℕ) (listed named : Bool)
    → Timely (text_by policy id text listed named).outcome
text_timely policy id text true true = granted_timely id text (publish_grant policy id text)
text_timely policy id text true false = λ to. refl
text_timely policy id text false named = λ to. refl

pub judged_timely : (policy : Policy) (id : List ℕ) (topic : Option (List ℕ))
    → Timely (topic_judged policy id topic).outcome
judged_timely policy id None = tt
judged_timely policy id (Some text) = text_timely policy id text (lists policy id) (is_name text)

-- the frames behind its note
abbrev pub answer_for : Statement → Address → Outcome → List Out
answer_for statement to Allowed = statement_answer statement to ∷ []
answer_for statement to (Denied rule) = statement_refused statement to rule

pub answers : (statement : Statement) (to : Address) (o : Outcome) → Timely o
    → answer_of statement to o ∷ [] ≡ answer_for statement to o
answers statement to Allowed timely = refl
answers (StatesTopic topic) to (Denied rule) timely = sym (timely to)
answers (StatesMessage message) to (Denied rule) timely = sym (timely to)
answers (UpdatesTopic topic) to (Denied rule) timely = refl
answers (UpdatesMessage message) to (Denied rule) timely = refl

pub framed : (s : State) (from : Address) (statement : Statement) (y : Client) (client : List ℕ)
    (name : Option (List ℕ)) (o : Outcome)
    → answer_for statement y.address o
    ≡ frames_of (around s (ByMessage from (ToState statement))) [] y (note.Will (who.Client client) name o)
framed s from statement y client name Allowed = refl
framed s from statement y client name (Denied rule) = refl
