-- The row and the next state of a REGACK and of a PUBACK, as code makes them.
use Rattle.std.proofs.Common.{◌≡◌, ℕ, Bool, true, false, List, [], ◌∷◌, ◌++◌, refl, ap, sym, ◌∙◌}
use Rattle.std.specs.Prelude.{if◌then◌else◌, ◌==◌}
use Rattle.sng_grants.specs.declared.policy.Policy.{Policy}
use Rattle.sng_states.specs.States.{takes_messages}
use Rattle.sng_queue.specs.Exchanges.{awaits_ack}
use Rattle.sng_queue.specs.Messages.{Message as Mail}
use Rattle.sng_queue.specs.Buffers.{settle}
use Rattle.sng_frames.specs.declared.messages.acks.TopicAck.{TopicAck}
use Rattle.sng_book.specs.declared.address.Address.{Address}
use Rattle.sng_book.specs.declared.decision.Decision.{Decision}
use Rattle.sng_book.specs.declared.decision.Decision.TheVariants as note
use Rattle.sng_book.specs.declared.outcome.Denial.TheVariants.{Form, Peer}
use Rattle.sng_book.specs.declared.outcome.FormDenial.TheVariants.{OutOfTurn}
use Rattle.sng_book.specs.declared.outcome.PeerDenial.TheVariants.{ClientRefused}
use Rattle.sng_book.specs.declared.outcome.Outcome.TheVariants.{Denied}
use Rattle.sng_book.specs.declared.out.Out.{Out}
use Rattle.sng_book.specs.declared.out.Out.TheVariants.{Note}
use Rattle.sng_history.specs.Causes.{ToConfirm, ToAcknowledge, ByMessage}
use Rattle.sng_history.specs.Handing.{answers_announcement, ends_exchange}
use Rattle.sng_history.specs.Clients.{Around, Client, is_here, closed, confirmed_with, is_confirming}
use Rattle.sng_history.specs.Clients.{is_acknowledging, notes_by, drained}
use Rattle.sng_history.specs.Outgoing.{handed_over, refusals, out_of_turn}
use Rattle.sng_history.specs.Lawful.{confirmations}
use Rattle.sng_history.specs.State.{State, around}
use Rattle.sng_history.specs.Whole.{spell, drained_outs, stranger_to}
use Rattle.sng_history.specs.Steps.{client_next}
use Rattle.sng_history.specs.Good.{AtRest, Good}
use Rattle.sng_history.proofs.SaysParts.{part_for}
use Rattle.sng_history.proofs.Steady.{undrained}
use Rattle.sng_history.proofs.Booleans.{left_holds, right_holds}
use Rattle.sng_history.proofs.Awaited.{awaits_none}
use Rattle.sng_core.specs.Forms.{place_at, at_place, moved_if, found_outs, heard_at, broken_outs}
use Rattle.sng_core.specs.Confirming.{served_outs, served_next, refusing_outs, refusing_next, confirming_outs}
use Rattle.sng_core.specs.Confirming.{confirming_next, confirm_outs, confirm_next, acknowledge_outs}
use Rattle.sng_core.specs.Confirming.{acknowledge_next}
use Rattle.sng_core.proofs.HandingRows.{answered_row, answered_moves, refused_row, refused_moves}
use Rattle.sng_core.proofs.ServingRows.{answered_left, refused_left}
use Rattle.sng_core.proofs.Plain.{Busy, busy_outs}
use Rattle.sng_core.proofs.Rows.{Makes, drain_row, still_message}

-- ---- what a turn says

confirms_takes : (r : TopicAck) (x : Client) → is_confirming r x ≡ true → takes_messages x.phase ≡ true
confirms_takes r x is = left_holds (takes_messages x.phase) (answers_announcement x.buffer.exchange r) is

confirms_open : (r : TopicAck) (x : Client) → is_confirming r x ≡ true → awaits_ack x.buffer.exchange ≡ false
confirms_open r x is =
    awaits_none x.buffer.exchange r
    (right_holds (takes_messages x.phase) (answers_announcement x.buffer.exchange r) is)

acknowledges_takes : (r : TopicAck) (x : Client) → is_acknowledging r x ≡ true → takes_messages x.phase ≡ true
acknowledges_takes r x is = left_holds (takes_messages x.phase) (ends_exchange x.buffer.exchange r) is

-- ---- a REGACK that refuses the id

abbrev front_behind : Client → Client
front_behind x = record x { buffer = settle x.buffer }

-- behind nothing comes nothing
none_behind : (policy : Policy) (x : Client) → x.buffer.waiting ≡ [] → awaits_ack x.buffer.exchange ≡ false
    → takes_messages x.phase ≡ true
    → handed_over policy (front_behind x) ≡ []
none_behind policy x none awaits takes = rw (awaits, none, takes) refl

-- what is let out, and behind it that nothing is left
abbrev all_spelled : Around → Client → List Decision → List Out
all_spelled a y notes = spell a [] y notes ++ drained_outs (notes_by a notes y)

refusing_spelled : (a : Around) (code : ℕ) (x : Client) (waiting : List Mail) → x.buffer.waiting ≡ waiting
    → awaits_ack x.buffer.exchange ≡ false → takes_messages x.phase ≡ true → Busy x
    → refusing_outs a.policy code x waiting
    ≡ all_spelled a (heard_at a.clock x) (refusals x.id code waiting ++ handed_over a.policy (front_behind x))
refusing_spelled a code x [] is awaits takes busy =
    sym (ap (all_spelled a (heard_at a.clock x)) (none_behind a.policy x is awaits takes)
    ∙ busy_outs (heard_at a.clock x) busy)
refusing_spelled a code x (m ∷ waiting) is awaits takes busy =
    ap (λ outs. Note (note.Hand x.id m.name (Denied (Peer (ClientRefused code)))) ∷ outs)
    (λ i. refused_row a [] x awaits takes i ++ refused_left a x awaits takes i)

refusing_moved : (a : Around) (code : ℕ) (x : Client) (waiting : List Mail) → x.buffer.waiting ≡ waiting
    → awaits_ack x.buffer.exchange ≡ false → takes_messages x.phase ≡ true → Busy x
    → refusing_next a.policy a.clock x waiting
    ≡ drained (notes_by a (refusals x.id code waiting ++ handed_over a.policy (front_behind x))
    (heard_at a.clock x))
refusing_moved a code x [] is awaits takes busy =
    sym (ap (λ notes. drained (notes_by a notes (heard_at a.clock x)))
    (none_behind a.policy x is awaits takes)
    ∙ undrained (heard_at a.clock x) busy)
refusing_moved a code x (m ∷ waiting) is awaits takes busy = ap drained (refused_moves a x awaits takes)

-- ---- a REGACK in its turn

confirming_spelled : (a : Around) (r : TopicAck) (x : Client) (accepts : Bool) → (r.code.0 == 0) ≡ accepts
    → is_confirming r x ≡ true → Busy x
    → confirming_outs a.policy r x
    ≡ all_spelled a (confirmed_with r (heard_at a.clock x)) (confirmations a.policy r x)
confirming_spelled a r x true accepts is busy =
    rw accepts (λ i. answered_row a [] r.topic_id x (confirms_takes r x is) i
    ++ answered_left a r.topic_id x (confirms_takes r x is) i)
confirming_spelled a r x false accepts is busy =
    rw accepts (refusing_spelled a r.code.0 x x.buffer.waiting refl (confirms_open r x is)
    (confirms_takes r x is) busy)

confirming_moved : (a : Around) (r : TopicAck) (x : Client) (accepts : Bool) → (r.code.0 == 0) ≡ accepts
    → is_confirming r x ≡ true → Busy x
    → confirming_next a.policy a.clock r x
    ≡ drained (notes_by a (confirmations a.policy r x) (confirmed_with r (heard_at a.clock x)))
confirming_moved a r x true accepts is busy =
    rw accepts (ap drained (answered_moves a r.topic_id x (confirms_takes r x is)))
confirming_moved a r x false accepts is busy =
    rw accepts (refusing_moved a r.code.0 x x.buffer.waiting refl (confirms_open r x is)
    (confirms_takes r x is) busy)

-- ---- one out of turn

untimely_spelled : (a : Around) (x : Client) → Busy x
    → broken_outs (Form OutOfTurn) x ≡ broken_outs (Form OutOfTurn) x ++ drained_outs (heard_at a.clock x)
untimely_spelled a x busy =
    ap (λ more. broken_outs (Form OutOfTurn) x ++ more) (sym (busy_outs (heard_at a.clock x) busy))

untimely_moved : (a : Around) (x : Client) → Busy x → heard_at a.clock x ≡ drained (heard_at a.clock x)
untimely_moved a x busy = sym (undrained (heard_at a.clock x) busy)

-- ---- a REGACK

confirm_turn : (s : State) (from : Address) (r : TopicAck) (x : Client) (turn : Bool)
    → is_confirming r x ≡ turn → Busy x
    → (if turn then confirming_outs s.policy r x else broken_outs (Form OutOfTurn) x)
    ≡ all_spelled (around s (ByMessage from (ToConfirm r)))
    (if turn then confirmed_with r (heard_at s.clock x) else heard_at s.clock x)
    (if turn then confirmations s.policy r x else out_of_turn x.id)
confirm_turn s from r x true is busy =
    confirming_spelled (around s (ByMessage from (ToConfirm r))) r x (r.code.0 == 0) refl is busy
confirm_turn s from r x false is busy = untimely_spelled (around s (ByMessage from (ToConfirm r))) x busy

confirm_moved : (s : State) (from : Address) (r : TopicAck) (x : Client) (turn : Bool)
    → is_confirming r x ≡ turn → Busy x
    → (if turn then confirming_next s.policy s.clock r x else heard_at s.clock x)
    ≡ drained (notes_by (around s (ByMessage from (ToConfirm r)))
    (if turn then confirmations s.policy r x else out_of_turn x.id)
    (if turn then confirmed_with r (heard_at s.clock x) else heard_at s.clock x))
confirm_moved s from r x true is busy =
    confirming_moved (around s (ByMessage from (ToConfirm r))) r x (r.code.0 == 0) refl is busy
confirm_moved s from r x false is busy = untimely_moved (around s (ByMessage from (ToConfirm r))) x busy

confirm_part : (s : State) (from : Address) (r : TopicAck) (x : Client) → is_here x from ≡ true → AtRest x
    → confirm_outs s.policy r x ≡ part_for s (ByMessage from (ToConfirm r)) [] x
confirm_part s from r x here rest = rw here (confirm_turn s from r x (is_confirming r x) refl rest.busy)

confirm_moves : (s : State) (from : Address) (r : TopicAck) (x : Client) → is_here x from ≡ true → AtRest x
    → confirm_next s.policy s.clock r x ≡ client_next s (ByMessage from (ToConfirm r)) x
confirm_moves s from r x here rest = rw here (confirm_moved s from r x (is_confirming r x) refl rest.busy)

pub confirm_row : (s : State) (from : Address) (r : TopicAck) → Good s
    → Makes s (ByMessage from (ToConfirm r))
    (found_outs (stranger_to from (ToConfirm r)) (confirm_outs s.policy r)
    (at_place s.clients (place_at from s.clients)))
    (record s { clients = moved_if (place_at from s.clients) (confirm_next s.policy s.clock r) s.clients })
confirm_row s from r good =
    drain_row s (ByMessage from (ToConfirm r)) from (stranger_to from (ToConfirm r)) (confirm_outs s.policy r)
    (confirm_next s.policy s.clock r)
    (place_at from s.clients) good (still_message s from (ToConfirm r) good refl refl) refl
    (confirm_part s from r) (confirm_moves s from r)

-- ---- a PUBACK

acknowledge_turn : (s : State) (from : Address) (r : TopicAck) (x : Client) (turn : Bool)
    → is_acknowledging r x ≡ turn → Busy x
    → (if turn then served_outs s.policy 0 0 x else broken_outs (Form OutOfTurn) x)
    ≡ all_spelled (around s (ByMessage from (ToAcknowledge r)))
    (if turn then closed (heard_at s.clock x) else heard_at s.clock x)
    (if turn then handed_over s.policy (closed x) else out_of_turn x.id)
acknowledge_turn s from r x true is busy =
    let a = around s (ByMessage from (ToAcknowledge r)) in
    let takes = acknowledges_takes r x is in
    λ i. answered_row a [] 0 x takes i ++ answered_left a 0 x takes i
acknowledge_turn s from r x false is busy =
    untimely_spelled (around s (ByMessage from (ToAcknowledge r))) x busy

acknowledge_moved : (s : State) (from : Address) (r : TopicAck) (x : Client) (turn : Bool)
    → is_acknowledging r x ≡ turn → Busy x
    → (if turn then served_next s.policy s.clock 0 0 x else heard_at s.clock x)
    ≡ drained (notes_by (around s (ByMessage from (ToAcknowledge r)))
    (if turn then handed_over s.policy (closed x) else out_of_turn x.id)
    (if turn then closed (heard_at s.clock x) else heard_at s.clock x))
acknowledge_moved s from r x true is busy =
    ap drained (answered_moves (around s (ByMessage from (ToAcknowledge r))) 0 x (acknowledges_takes r x is))
acknowledge_moved s from r x false is busy =
    untimely_moved (around s (ByMessage from (ToAcknowledge r))) x busy

acknowledge_part : (s : State) (from : Address) (r : TopicAck) (x : Client) → is_here x from ≡ true → AtRest x
    → acknowledge_outs s.policy r x ≡ part_for s (ByMessage from (ToAcknowledge r)) [] x
acknowledge_part s from r x here rest =
    rw here (acknowledge_turn s from r x (is_acknowledging r x) refl rest.busy)

acknowledge_moves : (s : State) (from : Address) (r : TopicAck) (x : Client) → is_here x from ≡ true
    → AtRest x
    → acknowledge_next s.policy s.clock r x ≡ client_next s (ByMessage from (ToAcknowledge r)) x
acknowledge_moves s from r x here rest =
    rw here (acknowledge_moved s from r x (is_acknowledging r x) refl rest.busy)

pub acknowledge_row : (s : State) (from : Address) (r : TopicAck) → Good s
    → Makes s (ByMessage from (ToAcknowledge r))
    (found_outs (stranger_to from (ToAcknowledge r)) (acknowledge_outs s.policy r)
    (at_place s.clients (place_at from s.clients)))
    (record s {
      clients = moved_if (place_at from s.clients)
          (acknowledge_next s.policy s.clock r) s.clients;
    })
acknowledge_row s from r good =
    drain_row s (ByMessage from (ToAcknowledge r)) from (stranger_to from (ToAcknowledge r))
    (acknowledge_outs s.policy r)
    (acknowledge_next s.policy s.clock r) (place_at from s.clients) good
    (still_message s from (ToAcknowledge r) good refl refl) refl
    (acknowledge_part s from r) (acknowledge_moves s from r)
