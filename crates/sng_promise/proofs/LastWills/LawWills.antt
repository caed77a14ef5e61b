-- What a statement of a will lets out is what the law says: what follows it, and the row.
use Rattle.std.proofs.Common.{◌≡◌, ℕ, Bool, true, false, List, [], ◌∷◌, ◌++◌, refl, ap, sym, ◌∙◌}
use Rattle.std.proofs.Common.{if◌then◌else◌}
use Rattle.std.specs.Prelude.{not, is_some, Option, Some, None}
use Rattle.sng_queue.specs.declared.exchange.Exchange.{Exchange}
use Rattle.std.proofs.lemmas.List.{append_assoc}
use Rattle.sng_frames.specs.declared.messages.will.WillTopic.{WillTopic}
use Rattle.sng_book.specs.declared.address.Address.{Address}
use Rattle.sng_book.specs.declared.decision.Decision.TheVariants as note
use Rattle.sng_book.specs.declared.decision.Who.TheVariants as who
use Rattle.sng_book.specs.declared.outcome.Denial.TheVariants.{Form}
use Rattle.sng_book.specs.declared.outcome.FormDenial.TheVariants.{OutOfTurn}
use Rattle.sng_book.specs.declared.outcome.Outcome.{Outcome}
use Rattle.sng_book.specs.declared.outcome.Outcome.TheVariants.{Allowed, Denied}
use Rattle.sng_book.specs.declared.out.Out.TheVariants.{Note}
use Rattle.sng_book.specs.declared.row.Row.{Row}
use Rattle.sng_history.specs.Causes.{Statement, StatesTopic, StatesMessage, UpdatesTopic, UpdatesMessage}
use Rattle.sng_history.specs.Causes.{ByMessage, ToState}
use Rattle.sng_history.specs.Clients.{Client, is_here, stated, stated_by, notes_by, is_drained}
use Rattle.sng_history.specs.State.{State}
use Rattle.sng_history.specs.Standing.{Release}
use Rattle.sng_history.specs.WillAsks.{turn}
use Rattle.sng_history.specs.WillAsks.{statement_follows, statement_notes}
use Rattle.sng_history.specs.Whole.{spell, stranger_to, drops, frame_row, drained_outs}
use Rattle.sng_history.specs.Steps.{notes_for}
use Rattle.sng_history.specs.Good.{AtRest}
use Rattle.sng_laws.specs.Views.{last_policy}
use Rattle.sng_laws.specs.ViewsClients.{those_at}
use Rattle.sng_laws.specs.ViewsWills.{stating_of}
use Rattle.sng_laws.specs.LawsState.{ClientShown}
use Rattle.sng_laws.specs.LawsRules.{judged}
use Rattle.sng_laws.specs.LawsAnswers.{answer_to}
use Rattle.sng_laws.specs.LawsWills.{is_in_dialogue, has_turn, topic_of, topic_rules, will_rules}
use Rattle.sng_laws.specs.LawsWills.{topic_noted}
use Rattle.sng_laws.specs.LawsWills.{reply, follows, will_answer}
use Rattle.sng_laws.specs.LawsWills.{will_stranger}
use Rattle.sng_history.proofs.Places.{here_is}
use Rattle.sng_promise.proofs.Clients.SeenClients.{heard_if}
use Rattle.sng_promise.proofs.Clients.SeenOrder.{StateShown}
use Rattle.sng_promise.proofs.Clients.SeenState.{Stands}
use Rattle.sng_promise.proofs.Clients.LawHere.{row_answer, each_part, settled}
use Rattle.sng_promise.proofs.Answers.LawUnsupported.{by_cause}
use Rattle.sng_promise.proofs.LastWills.LawWillAsks.{ask_shown, replied_same}
use Rattle.sng_promise.proofs.LastWills.LawWillDialogue.{untaking, in_dialogue_turn, let_out, goes_on}
use Rattle.sng_promise.proofs.LastWills.LawWillDialogue.{end_follows}
use Rattle.sng_promise.proofs.LastWills.LawWillDialogue.{delete_follows, topic_follows, denied_follows}
use Rattle.sng_promise.proofs.LastWills.LawWillDialogue.{goes_on_shown}

-- what follows, by the turn and the verdict
abbrev FollowsBy : List Row → State → Address → Statement → List Release → Client → Bool → Outcome → Type 0
FollowsBy h s from statement dropped x has o =
    has_turn h x.id statement ≡ has
    → judged ((not has, Form OutOfTurn) ∷ topic_rules (last_policy h) x.id (topic_of h x.id statement))
    ≡ o
    → let_out (by_cause s (ByMessage from (ToState statement))) dropped
    (stated_by (Some statement) o (heard_if true s.clock x))
    (goes_on s.policy statement x has o)
    ≡ follows h x.address statement x.id o

-- in the dialogue nothing is open with a client
unopened : (x : Client) → AtRest x → is_in_dialogue (Some x.phase) ≡ true → x.buffer.exchange ≡ None
unopened x rest here =
    ap (λ b. let e : Option Exchange = if b then None else x.buffer.exchange in e)
    (sym (untaking x.phase here)) ∙ rest.quiet

delete_by : (h : List Row) (s : State) (from : Address) (dropped : List Release) (x : Client) (has : Bool)
    (o : Outcome)
    → AtRest x → StateShown h s → ClientShown h x → FollowsBy h s from (StatesTopic None) dropped x has o
delete_by h s from dropped x has (Denied rule) rest state shown turn is =
    denied_follows h s from (StatesTopic None) dropped x has (last_policy h) None rule is shown rest.busy
delete_by h s from dropped x false Allowed rest state shown turn is = absurd cc
delete_by h s from dropped x true Allowed rest state shown turn is =
    let here = in_dialogue_turn h x (not (is_some (stating_of x.id h).awaited)) shown turn in
    delete_follows h s from dropped x (unopened x rest here) state shown

topic_by : (h : List Row) (s : State) (from : Address) (w : WillTopic) (dropped : List Release) (x : Client)
    (has : Bool) (o : Outcome)
    → AtRest x → StateShown h s → ClientShown h x → FollowsBy h s from (StatesTopic (Some w)) dropped x has o
topic_by h s from w dropped x has (Denied rule) rest state shown turn is =
    denied_follows h s from (StatesTopic (Some w)) dropped x has (last_policy h)
    (Some w.topic) rule is shown rest.busy
topic_by h s from w dropped x false Allowed rest state shown turn is = absurd cc
topic_by h s from w dropped x true Allowed rest state shown turn is =
    topic_follows h s from w dropped x (stated (StatesTopic (Some w)) (heard_if true s.clock x))
    (in_dialogue_turn h x (not (is_some (stating_of x.id h).awaited)) shown turn) refl

message_by : (h : List Row) (s : State) (from : Address) (message : List ℕ) (dropped : List Release)
    (x : Client) (has : Bool) (o : Outcome)
    → AtRest x → StateShown h s → ClientShown h x → FollowsBy h s from (StatesMessage message) dropped x has o
message_by h s from message dropped x has (Denied rule) rest state shown turn is =
    let topic = topic_of h x.id (StatesMessage message) in
    denied_follows h s from (StatesMessage message) dropped x has
    (last_policy h) topic rule is shown rest.busy
message_by h s from message dropped x false Allowed rest state shown turn is = absurd cc
message_by h s from message dropped x true Allowed rest state shown turn is =
    let here = in_dialogue_turn h x (is_some (stating_of x.id h).awaited) shown turn in
    end_follows h s from message dropped x (unopened x rest here) state shown

-- what follows each statement
abbrev Followed : List Row → State → Address → Statement → List Release → Client → Type 0
Followed h s from statement dropped x =
    let o = judged (will_rules h x.id statement) in
    let_out (by_cause s (ByMessage from (ToState statement))) dropped
    (stated_by (Some statement) o (heard_if true s.clock x))
    (statement_follows s.policy statement x)
    ≡ follows h x.address statement x.id o

-- an update moves neither the state of the client nor what waits for it
updated_busy : (topic : Option WillTopic) (o : Outcome) (x : Client) → is_drained x ≡ false
    → is_drained (stated_by (Some (UpdatesTopic topic)) o x) ≡ false
updated_busy topic Allowed x busy = busy
updated_busy topic (Denied rule) x busy = busy

changed_busy : (message : List ℕ) (o : Outcome) (x : Client) → is_drained x ≡ false
    → is_drained (stated_by (Some (UpdatesMessage message)) o x) ≡ false
changed_busy message Allowed x busy = busy
changed_busy message (Denied rule) x busy = busy

followed : (h : List Row) (s : State) (from : Address) (statement : Statement) (dropped : List Release)
    (x : Client)
    → AtRest x → StateShown h s → ClientShown h x → Followed h s from statement dropped x
followed h s from (StatesTopic None) dropped x rest state shown =
    let st = StatesTopic None in
    let o = judged (will_rules h x.id st) in
    ap (let_out (by_cause s (ByMessage from (ToState st))) dropped
    (stated_by (Some st) o (heard_if true s.clock x)))
    (goes_on_shown h s x st state shown)
    ∙ delete_by h s from dropped x (has_turn h x.id st) o rest state shown refl refl
followed h s from (StatesTopic (Some w)) dropped x rest state shown =
    let st = StatesTopic (Some w) in
    let o = judged (will_rules h x.id st) in
    ap (let_out (by_cause s (ByMessage from (ToState st))) dropped
    (stated_by (Some st) o (heard_if true s.clock x)))
    (goes_on_shown h s x st state shown)
    ∙ topic_by h s from w dropped x (has_turn h x.id st) o rest state shown refl refl
followed h s from (StatesMessage message) dropped x rest state shown =
    let st = StatesMessage message in
    let o = judged (will_rules h x.id st) in
    ap (let_out (by_cause s (ByMessage from (ToState st))) dropped
    (stated_by (Some st) o (heard_if true s.clock x)))
    (goes_on_shown h s x st state shown)
    ∙ message_by h s from message dropped x (has_turn h x.id st) o rest state shown refl refl
followed h s from (UpdatesTopic topic) dropped x rest state shown =
    let y = heard_if true s.clock x in
    let o = judged (will_rules h x.id (UpdatesTopic topic)) in
    settled [] (stated_by (Some (UpdatesTopic topic)) o y) (updated_busy topic o y rest.busy)
followed h s from (UpdatesMessage message) dropped x rest state shown =
    let y = heard_if true s.clock x in
    let o = judged (will_rules h x.id (UpdatesMessage message)) in
    settled [] (stated_by (Some (UpdatesMessage message)) o y) (changed_busy message o y rest.busy)

-- ---- the row

statement_there : (h : List Row) (s : State) (from : Address) (statement : Statement) (dropped : List Release)
    (x : Client)
    → AtRest x → StateShown h s → ClientShown h x
    → let_out (by_cause s (ByMessage from (ToState statement))) dropped (heard_if true s.clock x)
    (statement_notes s.policy statement x)
    ≡ will_answer h x.address statement x.id
statement_there h s from statement dropped x rest state shown =
    let c = ByMessage from (ToState statement) in
    let a = by_cause s c in
    let y : Client = heard_if true s.clock x in
    let o = judged (will_rules h x.id statement) in
    let name = topic_noted h x.id statement in
    let said = note.Will (who.Client x.id) name o in
    let z = stated_by (Some statement) o y in
    let more = statement_follows s.policy statement x in
    let last = drained_outs (notes_by a more z) in
    ap (λ ask. let_out a dropped y (ask ∷ more)) (ask_shown h s x statement state shown)
    ∙ (ap (λ outs. Note said ∷ ((outs ++ spell a dropped z more) ++ last))
    (replied_same from statement y name o)
    ∙ ap (λ outs. Note said ∷ outs)
    (append_assoc (reply x.address statement o) (spell a dropped z more) last
    ∙ ap (λ outs. reply x.address statement o ++ outs)
    (followed h s from statement dropped x rest state shown)))

statement_part : (h : List Row) (s : State) (from : Address) (statement : Statement) (dropped : List Release)
    (x : Client) (b : Bool)
    → AtRest x → StateShown h s → ClientShown h x → (b ≡ true → x.address ≡ from)
    → let notes = if b then statement_notes s.policy statement x else [] in
    (if b then [] else []) ++ let_out (by_cause s (ByMessage from (ToState statement))) dropped
    (heard_if b s.clock x) notes
    ≡ (if b then will_answer h from statement x.id else [])
statement_part h s from statement dropped x true rest state shown at =
    statement_there h s from statement dropped x rest state shown
    ∙ ap (λ to. will_answer h to statement x.id) (at refl)
statement_part h s from statement dropped x false rest state shown at = settled [] x rest.busy

pub statement_row : (h : List Row) (s : State) (from : Address) (statement : Statement) → Stands h s
    → let c = ByMessage from (ToState statement) in
    frame_row s c (stranger_to from (ToState statement)) (notes_for s c)
    ≡ answer_to (will_stranger from) (will_answer h from statement) (those_at from h)
statement_row h s from statement st =
    let c = ByMessage from (ToState statement) in
    row_answer h s from c (stranger_to from (ToState statement)) (will_answer h from statement) st.shown
    (λ x. refl)
    (each_part h s from c (will_answer h from statement) st
    (λ x is rest. statement_part h s from statement (drops s c (notes_for s c)) x
    (is_here x from) rest st.shown is (here_is x from)))
