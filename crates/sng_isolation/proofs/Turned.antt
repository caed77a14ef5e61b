-- What is fixed of a client without regard to what all share is the same under policies that say the same to it:
-- what waits for it, its will, and the ends of its subscriptions.
use Rattle.std.proofs.Common.{◌≡◌, ℕ, List, [], ◌∷◌, ◌++◌, refl, ap, ap₂, ◌∙◌}
use Rattle.std.proofs.Common.{if◌then◌else◌}
use Rattle.std.specs.Prelude.{is_some, ◌==◌, Option, Some, None}
use Rattle.sng_grants.specs.declared.policy.Policy.{Policy}
use Rattle.sng_ids.specs.Ids.{Ids, is_full_for}
use Rattle.sng_fan.specs.declared.held.Held.{Held}
use Rattle.sng_queue.specs.Messages.{Message}
use Rattle.sng_queue.specs.Buffers.{settle}
use Rattle.sng_queue.specs.declared.exchange.Exchange.{Exchange}
use Rattle.sng_queue.specs.declared.exchange.Exchange.TheVariants.{Announcing, Acknowledging}
use Rattle.sng_frames.specs.declared.messages.acks.TopicAck.{TopicAck}
use Rattle.sng_book.specs.Denials.{is_allowed}
use Rattle.sng_book.specs.declared.decision.Decision.{Decision}
use Rattle.sng_book.specs.declared.decision.Decision.TheVariants as note
use Rattle.sng_book.specs.declared.decision.Who.TheVariants as who
use Rattle.sng_book.specs.declared.outcome.Outcome.{Outcome}
use Rattle.sng_book.specs.declared.outcome.Outcome.TheVariants.{Allowed, Denied}
use Rattle.sng_history.specs.Causes.{Statement, StatesTopic, StatesMessage, UpdatesTopic, UpdatesMessage}
use Rattle.sng_history.specs.Arriving.{joins, turned_away}
use Rattle.sng_history.specs.Clients.{Client, closed, confirmed_with, is_waking, awake, stated}
use Rattle.sng_history.specs.Outgoing.{receive, offered, judged_turn, turns, is_free, handed_over}
use Rattle.sng_history.specs.Outgoing.{refusals, delivered_notes}
use Rattle.sng_history.specs.Losing.{message_open, judged_again, message_again, exchange_again, again_notes}
use Rattle.sng_history.specs.Ticking.{is_repeating}
use Rattle.sng_history.specs.Verdicts.{and_then}
use Rattle.sng_history.specs.WillAsks.{statement_turn, topic_at, name_rule, topic_read, topic_granted}
use Rattle.sng_history.specs.WillAsks.{statement_read, statement_verdict, statement_ask}
use Rattle.sng_history.specs.WillAsks.{dialogue_goes_on, in_dialogue_notes, statement_follows, statement_notes}
use Rattle.sng_history.specs.Lawful.{confirmations, woken_notes, end_of, ends_under}
use Rattle.sng_history.proofs.Steady.{confirmed_id}
use Rattle.sng_isolation.proofs.Policies.{SaysSame, exit_same, receive_same, coverage_same, client_scope_same}
use Rattle.sng_isolation.proofs.Policies.{known_same}

-- ---- what waits for it

pub turns_same : (id : List ℕ) (ids : Ids) (p q : Policy) (waiting : List Message) → SaysSame id p q
    → turns p id ids waiting ≡ turns q id ids waiting
turns_same id ids p q [] same = refl
turns_same id ids p q (m ∷ more) same =
    ap₂ (λ o rest. judged_turn p id ids m o rest) (receive_same id m.name p q same)
    (turns_same id ids p q more same)
    ∙ by_outcome (receive q id m.name)
  where
    by_outcome : (o : Outcome)
        → judged_turn p id ids m o (turns q id ids more) ≡ judged_turn q id ids m o (turns q id ids more)
    by_outcome Allowed =
        ap (λ known. offered id m (is_some known) (is_full_for m.name ids) (turns q id ids more))
        (known_same id ids m.name p q same)
    by_outcome (Denied rule) = refl

pub handed_same : (p q : Policy) (x : Client) → SaysSame x.id p q → handed_over p x ≡ handed_over q x
handed_same p q x same =
    ap (λ notes. if is_free x then notes else []) (turns_same x.id x.ids p q x.buffer.waiting same)

pub woken_same : (p q : Policy) (client : Option (List ℕ)) (x : Client) → SaysSame x.id p q
    → woken_notes p client x ≡ woken_notes q client x
woken_same p q client x same =
    ap (λ notes. if is_waking client x then notes else []) (handed_same p q (awake x) same)

pub confirmations_same : (p q : Policy) (r : TopicAck) (x : Client) → SaysSame x.id p q
    → confirmations p r x ≡ confirmations q r x
confirmations_same p q r x same =
    let refused : Client = record x { buffer = settle x.buffer } in
    let accepted : handed_over p (confirmed_with r x) ≡ handed_over q (confirmed_with r x) =
    handed_same p q (confirmed_with r x) (rw (confirmed_id r x) same) in
    ap₂ (λ some more. if r.code.0 == 0 then some else refusals x.id r.code.0 x.buffer.waiting ++ more) accepted
    (handed_same p q refused same)

pub delivered_same : (p q : Policy) (due : Option Message) (x : Client) → SaysSame x.id p q
    → delivered_notes p due x ≡ delivered_notes q due x
delivered_same p q due x same =
    ap (λ notes. turned_away x.id due x.buffer ++ notes)
    (handed_same p q (record x { buffer = joins due x.buffer }) same)

-- ---- what is sent again

judged_same : (p q : Policy) (x : Client) (open_one : Exchange) (m : Message) (o : Outcome)
    → SaysSame x.id p q
    → judged_again p x open_one m o ≡ judged_again q x open_one m o
judged_same p q x open_one m Allowed same = refl
judged_same p q x (Announcing sent) m (Denied rule) same =
    ap (λ notes. note.Hand x.id m.name (Denied rule) ∷ notes)
    (handed_same p q (record x { buffer = settle x.buffer }) same)
judged_same p q x (Acknowledging sent k one) m (Denied rule) same =
    ap (λ notes. note.Retry x.id m.name (Denied rule) ∷ notes) (handed_same p q (closed x) same)

message_same : (p q : Policy) (x : Client) (open_one : Exchange) (m : Option Message) → SaysSame x.id p q
    → message_again p x open_one m ≡ message_again q x open_one m
message_same p q x open_one None same = refl
message_same p q x open_one (Some m) same =
    ap (judged_again p x open_one m) (receive_same x.id m.name p q same)
    ∙ judged_same p q x open_one m (receive q x.id m.name) same

exchange_same : (p q : Policy) (x : Client) (open_ones : Option Exchange) → SaysSame x.id p q
    → exchange_again p x open_ones ≡ exchange_again q x open_ones
exchange_same p q x None same = refl
exchange_same p q x (Some open_one) same =
    message_same p q x open_one (message_open x.buffer open_one) same

pub again_same : (p q : Policy) (clock : ℕ) (x : Client) → SaysSame x.id p q
    → again_notes p clock x ≡ again_notes q clock x
again_same p q clock x same =
    ap (λ notes. if is_repeating clock x then notes else []) (exchange_same p q x x.buffer.exchange same)

-- ---- its will

read_same : (p q : Policy) (id : List ℕ) (topic : Option (List ℕ)) → SaysSame id p q
    → topic_read p id topic ≡ topic_read q id topic
read_same p q id None same = refl
read_same p q id (Some text) same = ap (λ o. and_then o (name_rule text)) (client_scope_same id p q same)

granted_same : (p q : Policy) (id : List ℕ) (topic : Option (List ℕ)) → SaysSame id p q
    → topic_granted p id topic ≡ topic_granted q id topic
granted_same p q id None same = refl
granted_same p q id (Some name) same = exit_same id name p q same

statement_read_same : (p q : Policy) (statement : Statement) (x : Client) → SaysSame x.id p q
    → statement_read p statement x ≡ statement_read q statement x
statement_read_same p q statement x same =
    ap (and_then (statement_turn statement x)) (read_same p q x.id (topic_at statement x) same)

verdict_same : (p q : Policy) (statement : Statement) (x : Client) → SaysSame x.id p q
    → statement_verdict p statement x ≡ statement_verdict q statement x
verdict_same p q statement x same =
    ap₂ and_then (statement_read_same p q statement x same)
    (granted_same p q x.id (topic_at statement x) same)

ask_same : (p q : Policy) (statement : Statement) (x : Client) → SaysSame x.id p q
    → statement_ask p statement x ≡ statement_ask q statement x
ask_same p q statement x same =
    ap₂ (λ read o. note.Will (who.Client x.id) (if is_allowed read then topic_at statement x else None) o)
    (statement_read_same p q statement x same) (verdict_same p q statement x same)

goes_on_same : (p q : Policy) (statement : Statement) (x : Client) (o : Outcome) → SaysSame x.id p q
    → dialogue_goes_on p statement x o ≡ dialogue_goes_on q statement x o
goes_on_same p q statement x Allowed same = handed_same p q (stated statement x) same
goes_on_same p q statement x (Denied rule) same = refl

in_dialogue_same : (p q : Policy) (statement : Statement) (x : Client) → SaysSame x.id p q
    → in_dialogue_notes p statement x ≡ in_dialogue_notes q statement x
in_dialogue_same p q statement x same =
    ap (λ notes. if is_allowed (statement_turn statement x) then notes else [])
    (ap (dialogue_goes_on p statement x) (verdict_same p q statement x same)
    ∙ goes_on_same p q statement x (statement_verdict q statement x) same)

follows_same : (p q : Policy) (statement : Statement) (x : Client) → SaysSame x.id p q
    → statement_follows p statement x ≡ statement_follows q statement x
follows_same p q (StatesTopic topic) x same = in_dialogue_same p q (StatesTopic topic) x same
follows_same p q (StatesMessage message) x same = in_dialogue_same p q (StatesMessage message) x same
follows_same p q (UpdatesTopic topic) x same = refl
follows_same p q (UpdatesMessage message) x same = refl

pub statement_same : (p q : Policy) (statement : Statement) (x : Client) → SaysSame x.id p q
    → statement_notes p statement x ≡ statement_notes q statement x
statement_same p q statement x same =
    ap₂ (λ (ask : Decision) (notes : List Decision). ask ∷ notes) (ask_same p q statement x same)
    (follows_same p q statement x same)

-- ---- its subscriptions

pub ends_same : (p q : Policy) (id : List ℕ) (held : List Held) → SaysSame id p q
    → ends_under p id held ≡ ends_under q id held
ends_same p q id [] same = refl
ends_same p q id (h ∷ held) same =
    ap₂ (λ o more. end_of id h.filter o ++ more) (coverage_same id h.filter p q same)
    (ends_same p q id held same)
