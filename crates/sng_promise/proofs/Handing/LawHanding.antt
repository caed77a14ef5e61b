-- What a PUBACK of a client lets out, in the views' words, and the laws of both answers.
use Rattle.std.proofs.Common.{◌≡◌, Bool, true, false, List, [], ◌∷◌, ◌++◌, refl, ap, ◌∙◌}
use Rattle.std.proofs.Common.{if◌then◌else◌}
use Rattle.std.specs.Prelude.{◌&&◌, None}
use Rattle.sng_states.specs.States.{takes_messages}
use Rattle.sng_frames.specs.declared.messages.acks.TopicAck.{TopicAck}
use Rattle.sng_frames.specs.declared.frame.SnFrame.{SnFrame}
use Rattle.sng_frames.specs.declared.frame.SnFrame.TheVariants as frame
use Rattle.sng_book.specs.declared.address.Address.{Address}
use Rattle.sng_book.specs.declared.row.Row.{Row}
use Rattle.sng_history.specs.Causes.{ByMessage, ToAcknowledge, cause_of, datagram_cause}
use Rattle.sng_history.specs.Causes.{frame_cause}
use Rattle.sng_history.specs.Handing.{ends_exchange}
use Rattle.sng_history.specs.Clients.{Client, is_here, closed}
use Rattle.sng_history.specs.Clients.{is_acknowledging, is_drained}
use Rattle.sng_history.specs.State.{State, opening, state_of}
use Rattle.sng_history.specs.Standing.{Release}
use Rattle.sng_history.specs.Outgoing.{turns, handed_over, out_of_turn}
use Rattle.sng_history.specs.Lawful.{Lawful}
use Rattle.sng_history.specs.Whole.{stranger_to, drops, frame_row}
use Rattle.sng_history.specs.Steps.{notes_for, outs_by}
use Rattle.sng_laws.specs.ViewsClients.{phase_of, those_at}
use Rattle.sng_laws.specs.ViewsHanding.{waits_for}
use Rattle.sng_laws.specs.ViewsHanding.{names_known}
use Rattle.sng_laws.specs.LawsState.{ClientShown}
use Rattle.sng_laws.specs.LawsHanding as laws
use Rattle.sng_laws.specs.LawsHanding.{mailing, handed_awake}
use Rattle.sng_laws.specs.LawsHanding.{regack_answer, puback_answer}
use Rattle.sng_laws.specs.LawsAnswers.{Brought, answer_to, no_session}
use Rattle.sng_history.proofs.Keeping.{exact_by}
use Rattle.sng_history.proofs.Places.{here_is}
use Rattle.sng_promise.proofs.Clients.SeenClients.{heard_if}
use Rattle.sng_promise.proofs.Clients.SeenOrder.{StateShown}
use Rattle.sng_promise.proofs.Clients.SeenState.{Stands, stands}
use Rattle.sng_promise.proofs.Handing.LawSettled.{front_announced}
use Rattle.sng_promise.proofs.Clients.LawHere.{row_answer, each_part, settled}
use Rattle.sng_promise.proofs.Handing.LawHandingTurn.{acknowledging_shown, all_out, handed_by}
use Rattle.sng_promise.proofs.Handing.LawRegack.{regack_row}
use Rattle.sng_history.proofs.Booleans.{left_holds}

-- ---- PUBACK

puback_by : (h : List Row) (s : State) (from : Address) (r : TopicAck) (dropped : List Release) (x : Client)
    (turn : Bool)
    → is_acknowledging r x ≡ turn
    → StateShown h s → ClientShown h x → is_drained x ≡ false → x.address ≡ from
    → all_out s (ByMessage from (ToAcknowledge r)) dropped
    (if turn then handed_over s.policy (closed x) else out_of_turn x.id)
    (let y : Client = if turn then closed (heard_if true s.clock x) else heard_if true s.clock x in y)
    ≡ (if turn then handed_awake (laws.is_awake (phase_of x.id h)) (mailing h x.id from) (waits_for x.id h)
    else laws.out_of_turn x.id)
puback_by h s from r dropped x true turn state shown busy at =
    let c = ByMessage from (ToAcknowledge r) in
    let takes = left_holds (takes_messages x.phase) (ends_exchange x.buffer.exchange r) turn in
    ap
    (λ ids. all_out s c dropped (if takes_messages x.phase && true
    then turns s.policy x.id ids x.buffer.waiting else [])
    (let z : Client = record x {
      heard = s.clock;
      ids = ids;
      buffer = record { waiting = x.buffer.waiting; exchange = None };
    } in z))
    shown.ids
    ∙ (handed_by h s c dropped from x (names_known x.id h) x.buffer.waiting
    (takes_messages x.phase) takes state shown at
    ∙ ap (handed_awake (laws.is_awake (phase_of x.id h)) (mailing h x.id from)) shown.waiting)
puback_by h s from r dropped x false turn state shown busy at = settled (laws.out_of_turn x.id) x busy

puback_part : (h : List Row) (s : State) (from : Address) (r : TopicAck) (dropped : List Release) (x : Client)
    (b : Bool)
    → StateShown h s → ClientShown h x → is_drained x ≡ false → (b ≡ true → x.address ≡ from)
    → (if b then [] else [])
    ++ all_out s (ByMessage from (ToAcknowledge r)) dropped
    (if b then (if is_acknowledging r x then handed_over s.policy (closed x) else out_of_turn x.id) else [])
    (let y : Client = if b then (if is_acknowledging r x then closed (heard_if true s.clock x)
    else heard_if true s.clock x) else x in y)
    ≡ (if b then puback_answer h from r x.id else [])
puback_part h s from r dropped x true state shown busy at =
    puback_by h s from r dropped x (is_acknowledging r x) refl state shown busy (at refl)
    ∙ ap (λ turn. if turn then handed_awake (laws.is_awake (phase_of x.id h)) (mailing h x.id from)
    (waits_for x.id h) else laws.out_of_turn x.id)
    (acknowledging_shown h x r shown)
puback_part h s from r dropped x false state shown busy at = settled [] x busy

puback_row : (h : List Row) (s : State) (from : Address) (r : TopicAck) → Stands h s
    → let c = ByMessage from (ToAcknowledge r) in
    frame_row s c (stranger_to from (ToAcknowledge r)) (notes_for s c)
    ≡ answer_to (no_session from) (puback_answer h from r)
    (those_at from h)
puback_row h s from r st =
    let c = ByMessage from (ToAcknowledge r) in
    row_answer h s from c (stranger_to from (ToAcknowledge r)) (puback_answer h from r) st.shown (λ x. refl)
    (each_part h s from c (puback_answer h from r) st
    (λ x is rest. puback_part h s from r (drops s c (notes_for s c)) x (is_here x from) st.shown is rest.busy
    (here_is x from)))

-- ---- the laws

-- a lawful row lets out what its message asks
row_outs : (h : List Row) (row : Row) (from : Address) (message : SnFrame) → Lawful opening (row ∷ h)
    → Brought row from message
    → row.outs ≡ outs_by (state_of opening h) (frame_cause from message)
row_outs h row from message l brought =
    exact_by (state_of opening h) (cause_of row.event) row.outs l.1
    ∙ ap (outs_by (state_of opening h)) (ap cause_of brought.event ∙ ap (datagram_cause from) brought.reads)

pub regack_law : (h : List Row) (row : Row) (from : Address) (r : TopicAck) → Lawful opening (row ∷ h)
    → Brought row from (frame.RegisterAck r)
    → row.outs ≡ answer_to (no_session from) (regack_answer h from r) (those_at from h)
regack_law h row from r l brought =
    row_outs h row from (frame.RegisterAck r) l brought
    ∙ regack_row h (state_of opening h) from r (front_announced h l.0) (stands h l.0)

pub puback_law : (h : List Row) (row : Row) (from : Address) (r : TopicAck) → Lawful opening (row ∷ h)
    → Brought row from (frame.PublishAck r)
    → row.outs ≡ answer_to (no_session from) (puback_answer h from r) (those_at from h)
puback_law h row from r l brought =
    row_outs h row from (frame.PublishAck r) l brought
    ∙ puback_row h (state_of opening h) from r (stands h l.0)
