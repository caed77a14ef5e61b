-- What a REGACK of a client lets out, in the views' words.
use Rattle.std.proofs.Common.{◌≡◌, ℕ, Bool, true, false, List, [], ◌∷◌, ◌++◌, refl, ap, sym, ◌∙◌}
use Rattle.std.proofs.Common.{if◌then◌else◌}
use Rattle.std.specs.Prelude.{◌&&◌, ◌==◌, drop, Option, Some, None}
use Rattle.sng_states.specs.States.{takes_messages}
use Rattle.sng_ids.specs.Ids.{confirmed}
use Rattle.sng_queue.specs.Messages.{Message}
use Rattle.sng_queue.specs.Buffers.{Buffer, settle}
use Rattle.sng_frames.specs.declared.messages.acks.TopicAck.{TopicAck}
use Rattle.sng_book.specs.declared.address.Address.{Address}
use Rattle.sng_book.specs.declared.decision.Decision.TheVariants as note
use Rattle.sng_book.specs.declared.outcome.Denial.TheVariants.{Peer}
use Rattle.sng_book.specs.declared.outcome.PeerDenial.TheVariants.{ClientRefused}
use Rattle.sng_book.specs.declared.outcome.Outcome.TheVariants.{Denied}
use Rattle.sng_book.specs.declared.out.Out.{Out}
use Rattle.sng_book.specs.declared.out.Out.TheVariants.{Note}
use Rattle.sng_book.specs.declared.row.Row.{Row}
use Rattle.sng_history.specs.Causes.{ByMessage, ToConfirm}
use Rattle.sng_history.specs.Handing.{answers_announcement}
use Rattle.sng_history.specs.Clients.{Client, is_here, closed, confirmed_with, is_confirming}
use Rattle.sng_history.specs.Clients.{is_drained}
use Rattle.sng_history.specs.State.{State}
use Rattle.sng_history.specs.Standing.{Release}
use Rattle.sng_history.specs.Outgoing.{turns, handed_over, refusals, out_of_turn}
use Rattle.sng_history.specs.Lawful.{confirmations}
use Rattle.sng_history.specs.Whole.{stranger_to, drops, frame_row}
use Rattle.sng_history.specs.Steps.{notes_for}
use Rattle.sng_laws.specs.ViewsClients.{phase_of, with_name, names_told, id_told, those_at}
use Rattle.sng_laws.specs.ViewsHanding.{waits_for, number_of, Opening, Announced, HandedOver, progress_of}
use Rattle.sng_laws.specs.ViewsHanding.{is_regack_of}
use Rattle.sng_laws.specs.ViewsHanding.{name_announced, names_known}
use Rattle.sng_laws.specs.LawsState.{ClientShown, NoneTwice}
use Rattle.sng_laws.specs.LawsHanding as laws
use Rattle.sng_laws.specs.LawsHanding.{mailing, handed_awake, refused_by, FrontAnnounced, IsFront}
use Rattle.sng_laws.specs.LawsHanding.{regack_answer}
use Rattle.sng_laws.specs.LawsAnswers.{answer_to, no_session}
use Rattle.sng_history.proofs.Places.{here_is}
use Rattle.sng_promise.proofs.Clients.SeenClients.{heard_if}
use Rattle.sng_promise.proofs.Clients.SeenOrder.{StateShown}
use Rattle.sng_promise.proofs.Clients.SeenState.{Stands}
use Rattle.sng_promise.proofs.Names.Marked.{marked}
use Rattle.sng_promise.proofs.Names.Confirmed.{confirmed_marked}
use Rattle.sng_promise.proofs.Clients.LawHere.{row_answer, each_part, settled}
use Rattle.sng_promise.proofs.Names.NamesOnce.{names_once}
use Rattle.sng_promise.proofs.Handing.LawHandingTurn.{same_eq, answers_shown, confirming_shown, all_out}
use Rattle.sng_promise.proofs.Handing.LawHandingTurn.{handed_by}
use Rattle.sng_history.proofs.Booleans.{left_holds, right_holds}
use Rattle.sng_history.proofs.Awaited.{awaits_none}

confirmed_ids : (o : Option Opening) (told known : List (List ℕ)) (number : ℕ) (r : TopicAck) → NoneTwice told
    → is_regack_of o told number r ≡ true
    → confirmed r.topic_id (marked told known) ≡ marked told (with_name (name_announced o) known)
confirmed_ids None told known number r once is = absurd (let e = is in cc)
confirmed_ids (Some (Announced name)) told known number r once is =
    let same : r.topic_id ≡ id_told name told =
    same_eq r.topic_id (id_told name told)
    (left_holds (r.topic_id == id_told name told) (r.msg_id == number) is) in
    ap (λ id. confirmed id (marked told known)) same ∙ confirmed_marked name told known once
confirmed_ids (Some (HandedOver m)) told known number r once is = absurd (let e = is in cc)

-- what the laws let out where it accepts the id, and where it refuses it
abbrev accepted_answer : List Row → List ℕ → Address → List Out
accepted_answer h id from =
    handed_awake (laws.is_awake (phase_of id h))
    (record (mailing h id from) {
      known =
          with_name (name_announced (progress_of id h).unanswered) (names_known id h);
    }) (waits_for id h)

abbrev refused_answer : List Row → List ℕ → Address → ℕ → List Message → List Out
refused_answer h id from code waiting =
    refused_by id code waiting ++ handed_awake (laws.is_awake (phase_of id h)) (mailing h id from)
    (drop 1 waiting)

-- it accepts the id
accepted_part : (h : List Row) (s : State) (from : Address) (r : TopicAck) (dropped : List Release)
    (x : Client) → is_confirming r x ≡ true
    → NoneTwice (names_told x.id h) → StateShown h s → ClientShown h x → x.address ≡ from
    → all_out s (ByMessage from (ToConfirm r)) dropped
    (handed_over s.policy (let y : Client = record (closed x) { ids = confirmed r.topic_id x.ids } in y))
    (let y : Client = record (closed (heard_if true s.clock x)) { ids = confirmed r.topic_id x.ids } in y)
    ≡ accepted_answer h x.id from
accepted_part h s from r dropped x turn once state shown at =
    let c = ByMessage from (ToConfirm r) in
    let o = (progress_of x.id h).unanswered in
    let told = names_told x.id h in
    let known = names_known x.id h in
    let takes = left_holds (takes_messages x.phase) (answers_announcement x.buffer.exchange r) turn in
    let answers : is_regack_of o told (number_of x.id h) r ≡ true =
    sym (answers_shown h x r shown)
    ∙ right_holds (takes_messages x.phase) (answers_announcement x.buffer.exchange r) turn in
    let ids : confirmed r.topic_id x.ids ≡ marked told (with_name (name_announced o) known) =
    ap (confirmed r.topic_id) shown.ids ∙ confirmed_ids o told known (number_of x.id h) r once answers in
    ap
    (λ marks. all_out s c dropped
    (handed_over s.policy (let y : Client = record (closed x) { ids = marks } in y))
    (let y : Client = record (closed (heard_if true s.clock x)) { ids = marks } in y))
    ids
    ∙ (handed_by h s c dropped from x (with_name (name_announced o) known) x.buffer.waiting
    (takes_messages x.phase) takes state shown at
    ∙ ap (handed_awake (laws.is_awake (phase_of x.id h))
    (record (mailing h x.id from) { known = with_name (name_announced o) known })) shown.waiting)

-- and its message waits
announced_waits : (o : Option Opening) (told : List (List ℕ)) (number : ℕ) (r : TopicAck)
    (waiting : List Message)
    → is_regack_of o told number r ≡ true
    → ((name : List ℕ) → o ≡ Some (Announced name) → IsFront name waiting) → waiting ≡ [] → ⊥
announced_waits None told number r waiting is front none = absurd (let f = is in cc)
announced_waits (Some (Announced name)) told number r [] is front none = front name refl
announced_waits (Some (Announced name)) told number r (m ∷ more) is front none = absurd (let f = none in cc)
announced_waits (Some (HandedOver m)) told number r waiting is front none = absurd (let f = is in cc)

-- it refuses the id
refused_part : (h : List Row) (s : State) (from : Address) (r : TopicAck) (dropped : List Release)
    (x : Client) (waiting : List Message)
    → takes_messages x.phase ≡ true → (waiting ≡ [] → ⊥)
    → settle x.buffer ≡ record { waiting = drop 1 waiting; exchange = None }
    → StateShown h s → ClientShown h x → x.address ≡ from
    → all_out s (ByMessage from (ToConfirm r)) dropped
    (refusals x.id r.code.0 waiting
    ++ handed_over s.policy (let y : Client = record x { buffer = settle x.buffer } in y))
    (heard_if true s.clock x)
    ≡ refused_answer h x.id from r.code.0 waiting
refused_part h s from r dropped x [] takes some settles state shown at = absurd (some refl)
refused_part h s from r dropped x (m ∷ more) takes some settles state shown at =
    let c = ByMessage from (ToConfirm r) in
    let said : Out = Note (note.Hand x.id m.name (Denied (Peer (ClientRefused r.code.0)))) in
    ap
    (λ b. said ∷ all_out s c dropped (handed_over s.policy (let y : Client = record x { buffer = b } in y))
    (let z : Client = record x { heard = s.clock; buffer = b } in z))
    settles
    ∙ (ap
    (λ ids. said ∷ all_out s c dropped
    (if takes_messages x.phase && true then turns s.policy x.id ids more else [])
    (let z : Client = record x {
      heard = s.clock;
      ids = ids;
      buffer = record { waiting = more; exchange = None };
    } in z))
    shown.ids
    ∙ ap (λ outs. said ∷ outs) (handed_by h s c dropped from x (names_known x.id h) more
    (takes_messages x.phase) takes state shown at))

confirm_by : (h : List Row) (s : State) (from : Address) (r : TopicAck) (dropped : List Release) (x : Client)
    (accepts : Bool)
    → is_confirming r x ≡ true
    → NoneTwice (names_told x.id h) → FrontAnnounced h x.id → StateShown h s → ClientShown h x
    → x.address ≡ from
    → all_out s (ByMessage from (ToConfirm r)) dropped
    (if accepts
    then handed_over s.policy (let y : Client = if accepts
    then record (closed x) { ids = confirmed r.topic_id x.ids } else x in y)
    else refusals x.id r.code.0 x.buffer.waiting
    ++ handed_over s.policy (let y : Client = record x { buffer = settle x.buffer } in y))
    (let y : Client = if accepts then record
    (closed (heard_if true s.clock x)) { ids = confirmed r.topic_id x.ids } else heard_if true s.clock x in y)
    ≡ (if accepts then accepted_answer h x.id from
    else refused_answer h x.id from r.code.0 (waits_for x.id h))
confirm_by h s from r dropped x true turn once front state shown at =
    accepted_part h s from r dropped x turn once state shown at
confirm_by h s from r dropped x false turn once front state shown at =
    let o = (progress_of x.id h).unanswered in
    let takes = left_holds (takes_messages x.phase) (answers_announcement x.buffer.exchange r) turn in
    let answers = right_holds (takes_messages x.phase) (answers_announcement x.buffer.exchange r) turn in
    let some : x.buffer.waiting ≡ [] → ⊥ =
    (λ none. announced_waits o (names_told x.id h) (number_of x.id h) r (waits_for x.id h)
    (sym (answers_shown h x r shown) ∙ answers) front
    (sym shown.waiting ∙ none)) in
    let settles : settle x.buffer ≡ record { waiting = drop 1 x.buffer.waiting; exchange = None } =
    ap (λ b. let c : Buffer = if b then x.buffer
    else record { waiting = drop 1 x.buffer.waiting; exchange = None } in c)
    (awaits_none x.buffer.exchange r answers) in
    refused_part h s from r dropped x x.buffer.waiting takes some settles state shown at
    ∙ ap (refused_answer h x.id from r.code.0) shown.waiting

-- what the laws say of it, as its turn is
abbrev regack_turn : List Row → Address → TopicAck → List ℕ → Bool → List Out
regack_turn h from r id turn =
    if turn then (if r.code.0 == 0 then accepted_answer h id from else refused_answer h id from r.code.0
    (waits_for id h)) else laws.out_of_turn id

regack_by : (h : List Row) (s : State) (from : Address) (r : TopicAck) (dropped : List Release) (x : Client)
    (turn : Bool)
    → is_confirming r x ≡ turn
    → NoneTwice (names_told x.id h) → FrontAnnounced h x.id → StateShown h s → ClientShown h x
    → is_drained x ≡ false → x.address ≡ from
    → all_out s (ByMessage from (ToConfirm r)) dropped
    (if turn then confirmations s.policy r x else out_of_turn x.id)
    (let y : Client = if turn then confirmed_with r (heard_if true s.clock x) else heard_if true s.clock x in
    y)
    ≡ regack_turn h from r x.id turn
regack_by h s from r dropped x true turn once front state shown busy at =
    confirm_by h s from r dropped x (r.code.0 == 0) turn once front state shown at
regack_by h s from r dropped x false turn once front state shown busy at =
    settled (laws.out_of_turn x.id) x busy

regack_part : (h : List Row) (s : State) (from : Address) (r : TopicAck) (dropped : List Release) (x : Client)
    (b : Bool)
    → NoneTwice (names_told x.id h) → FrontAnnounced h x.id → StateShown h s → ClientShown h x
    → is_drained x ≡ false
    → (b ≡ true → x.address ≡ from)
    → (if b then [] else [])
    ++ all_out s (ByMessage from (ToConfirm r)) dropped
    (if b then (if is_confirming r x then confirmations s.policy r x else out_of_turn x.id) else [])
    (let y : Client = if b then
    (if is_confirming r x then confirmed_with r (heard_if true s.clock x) else heard_if true s.clock x)
    else x in y)
    ≡ (if b then regack_answer h from r x.id else [])
regack_part h s from r dropped x true once front state shown busy at =
    regack_by h s from r dropped x (is_confirming r x) refl once front state shown busy (at refl)
    ∙ ap (regack_turn h from r x.id) (confirming_shown h x r shown)
regack_part h s from r dropped x false once front state shown busy at = settled [] x busy

pub regack_row : (h : List Row) (s : State) (from : Address) (r : TopicAck)
    → ((id : List ℕ) → FrontAnnounced h id) → Stands h s
    → let c = ByMessage from (ToConfirm r) in
    frame_row s c (stranger_to from (ToConfirm r)) (notes_for s c)
    ≡ answer_to (no_session from) (regack_answer h from r) (those_at from h)
regack_row h s from r front st =
    let c = ByMessage from (ToConfirm r) in
    row_answer h s from c (stranger_to from (ToConfirm r)) (regack_answer h from r) st.shown (λ x. refl)
    (each_part h s from c (regack_answer h from r) st
    (λ x is rest. regack_part h s from r (drops s c (notes_for s c)) x (is_here x from) (names_once h x.id)
    (front x.id) st.shown is rest.busy (here_is x from)))
