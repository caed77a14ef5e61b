-- What a statement of a will lets out behind its answer, and for its client.
use Rattle.std.proofs.Common.{◌≡◌, ℕ, Bool, true, false, List, [], ◌∷◌, ◌++◌, refl, ap, sym, ◌∙◌}
use Rattle.std.specs.Prelude.{if◌then◌else◌, is_none, Option, Some, None}
use Rattle.sng_states.specs.States.{takes_messages}
use Rattle.sng_book.specs.declared.address.Address.{Address}
use Rattle.sng_book.specs.declared.decision.Decision.{Decision}
use Rattle.sng_book.specs.declared.decision.Decision.TheVariants as note
use Rattle.sng_book.specs.declared.decision.Who.TheVariants as who
use Rattle.sng_book.specs.declared.outcome.Denial.{Denial}
use Rattle.sng_book.specs.declared.outcome.Denial.TheVariants.{Form}
use Rattle.sng_book.specs.declared.outcome.FormDenial.TheVariants.{OutOfTurn}
use Rattle.sng_book.specs.declared.outcome.Outcome.{Outcome}
use Rattle.sng_book.specs.declared.outcome.Outcome.TheVariants.{Allowed, Denied}
use Rattle.sng_book.specs.declared.out.Out.{Out}
use Rattle.sng_book.specs.declared.out.Out.TheVariants.{Note}
use Rattle.sng_history.specs.Causes.{ToState, ByMessage}
use Rattle.sng_history.specs.Causes.{Statement, StatesTopic, StatesMessage, UpdatesTopic, UpdatesMessage}
use Rattle.sng_history.specs.Clients.{Around, Client, is_here, gone, stated, note_by}
use Rattle.sng_history.specs.Entering.{heard_at}
use Rattle.sng_history.specs.Outgoing.{handed_over, all_gone}
use Rattle.sng_history.specs.State.{State, around}
use Rattle.sng_history.specs.Whole.{spell, frames_of}
use Rattle.sng_history.specs.WillAsks.{topic_at, statement_ask}
use Rattle.sng_history.specs.WillAsks.{statement_follows}
use Rattle.sng_history.specs.Good.{AtRest}
use Rattle.sng_turns.specs.Serving.{over_outs}
use Rattle.sng_turns.specs.HandingOver.{gone_outs}
use Rattle.sng_core.specs.Stating.{has_turn, statement_judged, kept_outs}
use Rattle.sng_core.specs.Stating.{refused_outs}
use Rattle.sng_core.specs.Stating.{following_outs, noted_outs, untimely_outs}
use Rattle.sng_core.specs.Stating.{statement_outs}
use Rattle.sng_core.proofs.Plain.{plain_part}
use Rattle.sng_core.proofs.HandingRows.{free_row, gone_row}
use Rattle.sng_core.proofs.DeliveringClient.{none_handed}
use Rattle.sng_core.proofs.StatingAsks.{in_turn_notes, ask_in_turn, ask_untimely, follows_in_turn}
use Rattle.sng_core.proofs.StatingAsks.{follows_untimely, Timely, judged_timely}
use Rattle.sng_core.proofs.StatingAsks.{answers, framed}

-- ---- what is let out behind its answer

free_by : (a : Around) (z : Client) (none : Bool) → is_none z.buffer.exchange ≡ none
    → takes_messages z.phase ≡ true
    → (if none then over_outs a.policy 0 0 z else []) ≡ spell a [] z (handed_over a.policy z)
free_by a z true is takes = free_row a [] z (rw (takes, is) refl)
free_by a z false is takes = rw (takes, is) refl

kept_spelled : (a : Around) (statement : Statement) (x : Client) → AtRest x
    → kept_outs a.policy statement x
    ≡ spell a [] (stated statement (heard_at a.clock x)) (in_turn_notes a.policy statement x Allowed)
kept_spelled a (StatesTopic None) x rest =
    free_by a (stated (StatesTopic None) (heard_at a.clock x)) (is_none x.buffer.exchange) refl refl
kept_spelled a (StatesTopic (Some w)) x rest =
    sym (ap (spell a [] (stated (StatesTopic (Some w)) (heard_at a.clock x))) (none_handed a.policy x rest))
kept_spelled a (StatesMessage message) x rest =
    free_by a (stated (StatesMessage message) (heard_at a.clock x)) (is_none x.buffer.exchange) refl refl
kept_spelled a (UpdatesTopic topic) x rest = refl
kept_spelled a (UpdatesMessage message) x rest = refl

left_spelled : (s : State) (from : Address) (statement : Statement) (x y : Client)
    → Note (note.Left x.id) ∷ gone_outs x.id x.buffer.waiting
    ≡ spell (around s (ByMessage from (ToState statement))) [] y
    (note.Left x.id ∷ all_gone x.id x.buffer.waiting)
left_spelled s from statement x y =
    ap (λ outs. Note (note.Left x.id) ∷ outs)
    (gone_row (around s (ByMessage from (ToState statement))) [] x.id x.buffer.waiting (gone y))

refused_spelled : (s : State) (from : Address) (statement : Statement) (x y : Client) (rule : Denial)
    → refused_outs statement x
    ≡ spell (around s (ByMessage from (ToState statement))) [] y
    (in_turn_notes s.policy statement x (Denied rule))
refused_spelled s from (StatesTopic topic) x y rule = left_spelled s from (StatesTopic topic) x y
refused_spelled s from (StatesMessage message) x y rule = left_spelled s from (StatesMessage message) x y
refused_spelled s from (UpdatesTopic topic) x y rule = refl
refused_spelled s from (UpdatesMessage message) x y rule = refl

following_spelled : (s : State) (from : Address) (statement : Statement) (x : Client) (name : Option (List ℕ))
    (o : Outcome) → AtRest x
    → (let a = around s (ByMessage from (ToState statement)) in
    following_outs s.policy statement x o
    ≡ spell a [] (note_by a (note.Will (who.Client x.id) name o) (heard_at s.clock x))
    (in_turn_notes s.policy statement x o))
following_spelled s from statement x name Allowed rest =
    kept_spelled (around s (ByMessage from (ToState statement))) statement x rest
following_spelled s from statement x name (Denied rule) rest =
    refused_spelled s from statement x (heard_at s.clock x) rule

-- ---- the part of its client

abbrev part_by : State → Address → Statement → Client → Decision → List Decision → List Out
part_by s from statement x said more =
    let a = around s (ByMessage from (ToState statement)) in
    let y = heard_at s.clock x in
    Note said ∷ (frames_of a [] y said ++ spell a [] (note_by a said y) more)

part_in_turn : (s : State) (from : Address) (statement : Statement) (x : Client) (name : Option (List ℕ))
    (o : Outcome) → Timely o
    → AtRest x
    → noted_outs s.policy statement x (record { name = name; outcome = o })
    ≡ part_by s from statement x (note.Will (who.Client x.id) name o) (in_turn_notes s.policy statement x o)
part_in_turn s from statement x name o timely rest =
    let a = around s (ByMessage from (ToState statement)) in
    let y = heard_at s.clock x in
    let shown = answers statement x.address o timely ∙ framed s from statement y x.id name o in
    λ i. Note (note.Will (who.Client x.id) name o)
    ∷ (shown i ++ following_spelled s from statement x name o rest i)

untimely_part : (s : State) (from : Address) (statement : Statement) (x : Client)
    → untimely_outs statement x ≡ part_by s from statement x
    (note.Will (who.Client x.id) None (Denied (Form OutOfTurn))) []
untimely_part s from (StatesTopic topic) x = refl
untimely_part s from (StatesMessage message) x = refl
untimely_part s from (UpdatesTopic topic) x = refl
untimely_part s from (UpdatesMessage message) x = refl

state_part_by : (s : State) (from : Address) (statement : Statement) (x : Client) (has : Bool)
    → has_turn statement x ≡ has → AtRest x
    → (if has then noted_outs s.policy statement x (statement_judged s.policy statement x)
    else untimely_outs statement x)
    ≡ part_by s from statement x (statement_ask s.policy statement x) (statement_follows s.policy statement x)
state_part_by s from statement x true has rest =
    let j = statement_judged s.policy statement x in
    part_in_turn s from statement x j.name j.outcome (judged_timely s.policy x.id (topic_at statement x)) rest
    ∙ (λ i. part_by s from statement x (sym (ask_in_turn s.policy statement x has) i)
    (sym (follows_in_turn s.policy statement x has) i))
state_part_by s from statement x false has rest =
    untimely_part s from statement x
    ∙ (λ i. part_by s from statement x (sym (ask_untimely s.policy statement x has) i)
    (sym (follows_untimely s.policy statement x has) i))

pub state_part : (s : State) (from : Address) (statement : Statement) (x : Client) → AtRest x
    → is_here x from ≡ true
    → statement_outs s.policy statement x ≡ plain_part s (ByMessage from (ToState statement)) [] x
state_part s from statement x rest here =
    rw here (state_part_by s from statement x (has_turn statement x) refl rest)
