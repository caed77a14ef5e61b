-- What the rows show of the messages for a client is read from the client's own notes, and from what came
-- before them.
use Rattle.std.proofs.Common.{◌≡◌, ℕ, Bool, true, false, List, ◌∷◌, ◌++◌, refl, ap, sym, ◌∙◌}
use Rattle.std.proofs.Common.{if◌then◌else◌, arith}
use Rattle.std.proofs.Common.{Ok, Err}
use Rattle.std.specs.Prelude.{◌&&◌, ◌==◌, Option, Some, None}
use Rattle.std.specs.declared.result.Result.{Result}
use Rattle.std.proofs.lemmas.Bool.Decides.{nat_tests}
use Rattle.sng_states.specs.States.{takes_messages, is_due_messages}
use Rattle.sng_frames.specs.Reading.{frame_of}
use Rattle.sng_frames.specs.declared.fault.FrameFault.{FrameFault}
use Rattle.sng_frames.specs.declared.qos.FrameQos.{FrameQos}
use Rattle.sng_frames.specs.declared.qos.FrameQos.TheVariants as qos
use Rattle.sng_frames.specs.declared.messages.acks.TopicAck.{TopicAck}
use Rattle.sng_frames.specs.declared.messages.publish.Publish.{Publish}
use Rattle.sng_frames.specs.declared.frame.SnFrame.{SnFrame}
use Rattle.sng_frames.specs.declared.frame.SnFrame.TheVariants as frame
use Rattle.sng_book.specs.declared.address.Address.{Address}
use Rattle.sng_book.specs.declared.event.Event.{Event}
use Rattle.sng_book.specs.declared.event.Event.TheVariants.{Datagram, Broker, Up, Down, Take, Replace, Tick}
use Rattle.sng_book.specs.declared.out.Out.{Out}
use Rattle.sng_book.specs.declared.row.Row.{Row}
use Rattle.sng_history.specs.Causes.{publish_cause, datagram_cause, cause_of}
use Rattle.sng_history.specs.Handing.{answers_announcement, ends_exchange}
use Rattle.sng_history.specs.Clients.{Client, Around, is_here, is_confirming, is_acknowledging}
use Rattle.sng_history.specs.Clients.{subscribe_of}
use Rattle.sng_history.specs.Notes.{notes_of}
use Rattle.sng_laws.specs.ViewsMessages.{message_in, message_at, subscribe_in, Publishes}
use Rattle.sng_laws.specs.ViewsClients.{phase_of, address_of, is_at, with_name, names_after}
use Rattle.sng_laws.specs.ViewsClients.{names_told, id_told, is_awaiting}
use Rattle.sng_laws.specs.ViewsHanding.{Opening, Announced, HandedOver, closes}
use Rattle.sng_laws.specs.ViewsHanding.{hands_in}
use Rattle.sng_laws.specs.ViewsHanding.{settlements, settled_of, due_of, is_taking}
use Rattle.sng_laws.specs.ViewsHanding.{progress_after, last_number}
use Rattle.sng_laws.specs.ViewsHanding.{is_regack_of, is_puback_of}
use Rattle.sng_laws.specs.ViewsHanding.{regack_has_turn}
use Rattle.sng_laws.specs.ViewsHanding.{puback_has_turn, ends_by, ends_open, progress_of, knows_after}
use Rattle.sng_laws.specs.ViewsHanding.{name_announced, confirmed_by}
use Rattle.sng_laws.specs.ViewsHanding.{confirmed_in, names_known}
use Rattle.sng_laws.specs.LawsState.{exchange_shown}
use Rattle.sng_laws.specs.LawsTurns.{AtOther, occasion_in, occasion_of}
use Rattle.sng_promise.proofs.Handing.Takes.{taking_same, awaiting_same}
use Rattle.sng_promise.proofs.Handing.SeenFollows.{View}
use Rattle.sng_promise.proofs.Handing.SeenTurns.{closed_view}
use Rattle.sng_promise.proofs.Handing.SeenHandingNotes.{occasion_by, view_notes, Fits}
use Rattle.sng_promise.proofs.Handing.SeenAnswered.{confirmed_view}
use Rattle.sng_promise.proofs.Handing.SeenProgress.{start_view}
use Rattle.sng_laws.specs.ViewsSendings.{Last, last_after, last_of}
use Rattle.sng_laws.specs.Views.{last_policy, clock_at}
use Rattle.sng_promise.proofs.Handing.SeenViewNotes.{view_of, last_outs, last_same, outs_view}

-- ---- what the event shows before the notes

abbrev pub view_start : List ℕ → Event → List Row → View
view_start id e h = record {
  told = names_told id h;
  known = with_name (confirmed_in id h e) (names_known id h);
  progress = if ends_open id (progress_of id h) h e then closes (progress_of id h) else progress_of id h;
  settled = settled_of id h;
  last = last_of id h;
}

-- the client as it is shown
pub record Kept (h : List Row) (x : Client) : Type 0 where
  pub phase : phase_of x.id h ≡ Some x.phase
  pub address : address_of x.id h ≡ Some x.address
  pub number : x.number ≡ last_number (progress_of x.id h).numbered
  pub exchange : x.buffer.exchange
      ≡ exchange_shown (progress_of x.id h).unanswered (names_told x.id h) x.number (last_of x.id h)

equal_back : (a b : ℕ) → (a == b) ≡ (b == a)
equal_back a b = grind (arith, nat_tests)

regack_same : (o : Option Opening) (told : List (List ℕ)) (number : ℕ) (last : Last) (r : TopicAck)
    → is_regack_of o told number r ≡ answers_announcement (exchange_shown o told number last) r
regack_same None told number last r = refl
regack_same (Some (Announced name)) told number last r =
    rw (equal_back r.topic_id (id_told name told), equal_back r.msg_id number) refl
regack_same (Some (HandedOver m)) told number last r = refl

puback_same : (o : Option Opening) (told : List (List ℕ)) (number : ℕ) (last : Last) (r : TopicAck)
    → is_puback_of o number r ≡ ends_exchange (exchange_shown o told number last) r
puback_same None told number last r = refl
puback_same (Some (Announced name)) told number last r = equal_back r.msg_id number
puback_same (Some (HandedOver m)) told number last r = equal_back r.msg_id number

regack_turn : (h : List Row) (x : Client) (r : TopicAck) → Kept h x
    → regack_has_turn x.id (progress_of x.id h) h r ≡ is_confirming r x
regack_turn h x r kept =
    let p = progress_of x.id h in
    ap (λ phase. is_taking phase && is_regack_of p.unanswered (names_told x.id h) (last_number p.numbered) r)
    kept.phase
    ∙ (ap (λ b. b && is_regack_of p.unanswered (names_told x.id h) (last_number p.numbered) r)
    (taking_same x.phase)
    ∙ (ap (λ n. takes_messages x.phase && is_regack_of p.unanswered (names_told x.id h) n r) (sym kept.number)
    ∙ ap (λ b. takes_messages x.phase && b)
    (regack_same p.unanswered (names_told x.id h) x.number (last_of x.id h) r
    ∙ ap (λ e. answers_announcement e r) (sym kept.exchange))))

puback_turn : (h : List Row) (x : Client) (r : TopicAck) → Kept h x
    → puback_has_turn x.id (progress_of x.id h) h r ≡ is_acknowledging r x
puback_turn h x r kept =
    let p = progress_of x.id h in
    ap (λ phase. is_taking phase && is_puback_of p.unanswered (last_number p.numbered) r) kept.phase
    ∙ (ap (λ b. b && is_puback_of p.unanswered (last_number p.numbered) r) (taking_same x.phase)
    ∙ (ap (λ n. takes_messages x.phase && is_puback_of p.unanswered n r) (sym kept.number)
    ∙ ap (λ b. takes_messages x.phase && b)
    (puback_same p.unanswered (names_told x.id h) x.number (last_of x.id h) r
    ∙ ap (λ e. ends_exchange e r) (sym kept.exchange))))

at_same : (h : List Row) (x : Client) (from : Address) → Kept h x → is_at x.id from h ≡ is_here x from
at_same h x from kept = rw (kept.phase, kept.address) refl

-- what a message shows, by whether it comes from where the client is
abbrev read_view : View → Bool → Option (List ℕ) → Bool → View
read_view v here confirms ends =
    record v {
      known = with_name
          (if here then confirms else None) v.known;
      progress = if here && ends then closes v.progress else v.progress;
    }

none_read : (v : View) (here : Bool) → read_view v here None false ≡ v
none_read v true = refl
none_read v false = refl

stays : (here : Bool) (v : View) → (if here then v else v) ≡ v
stays true v = refl
stays false v = refl

regack_view : (v : View) (here accepts turn : Bool)
    → read_view v here (if accepts && turn then name_announced v.progress.unanswered else None)
    (accepts && turn)
    ≡ (if here then (if accepts && turn then confirmed_view v else v) else v)
regack_view v true true true = refl
regack_view v true true false = refl
regack_view v true false turn = refl
regack_view v false accepts turn = refl

puback_view : (v : View) (here turn : Bool)
    → read_view v here None turn ≡ (if here then (if turn then closed_view v else v) else v)
puback_view v true true = refl
puback_view v true false = refl
puback_view v false turn = refl

-- of any other message
publish_still : (from : Address) (p : Publish) (q : FrameQos) (x : Client) (v : View)
    → start_view (publish_cause from p q) x v ≡ v
publish_still from p qos.WithoutSession x v = refl
publish_still from p qos.AtMostOnce x v = stays (is_here x from) v
publish_still from p qos.AtLeastOnce x v = stays (is_here x from) v
publish_still from p qos.ExactlyOnce x v = stays (is_here x from) v

sleep_view : (v : View) (here turn : Bool)
    → read_view v here None turn ≡ (if here then (if turn then closed_view v else v) else v)
sleep_view v true true = refl
sleep_view v true false = refl
sleep_view v false turn = refl

datagram_start : (h : List Row) (x : Client) (from : Address) (read : Result SnFrame FrameFault) → Kept h x
    → let v = view_of x.id h in
    read_view v (is_here x from) (confirmed_by x.id h (message_in read))
    (ends_by x.id (progress_of x.id h) h (message_in read))
    ≡ start_view (datagram_cause from read) x v
datagram_start h x from (Ok (frame.RegisterAck r)) kept =
    rw (regack_turn h x r kept) (regack_view (view_of x.id h) (is_here x from) (r.code.0 == 0)
    (is_confirming r x))
datagram_start h x from (Ok (frame.PublishAck r)) kept =
    rw (puback_turn h x r kept) (puback_view (view_of x.id h) (is_here x from) (is_acknowledging r x))
datagram_start h x from (Ok (frame.Connect connect)) kept = none_read (view_of x.id h) (is_here x from)
datagram_start h x from (Ok (frame.Publish p)) kept =
    none_read (view_of x.id h) (is_here x from) ∙ sym (publish_still from p p.flags.qos x (view_of x.id h))
datagram_start h x from (Ok (frame.Disconnect None)) kept =
    none_read (view_of x.id h) (is_here x from) ∙ sym (stays (is_here x from) (view_of x.id h))
datagram_start h x from (Ok (frame.Disconnect (Some duration))) kept =
    ap (λ b. read_view (view_of x.id h) (is_here x from) None b)
    (ap is_awaiting kept.phase ∙ awaiting_same x.phase)
    ∙ sleep_view (view_of x.id h) (is_here x from) (is_due_messages x.phase)
datagram_start h x from (Ok message) kept =
    none_read (view_of x.id h) (is_here x from) ∙ sym (stays (is_here x from) (view_of x.id h))
datagram_start h x from (Err broke) kept = none_read (view_of x.id h) (is_here x from)

pub start_same : (h : List Row) (x : Client) (e : Event) → Kept h x
    → view_start x.id e h ≡ start_view (cause_of e) x (view_of x.id h)
start_same h x (Datagram from datagram) kept =
    let read = message_in (frame_of datagram) in
    ap (λ here. read_view (view_of x.id h) here (confirmed_by x.id h read)
    (ends_by x.id (progress_of x.id h) h read))
    (at_same h x from kept)
    ∙ datagram_start h x from (frame_of datagram) kept
start_same h x (Broker packet) kept = refl
start_same h x Up kept = refl
start_same h x Down kept = refl
start_same h x Take kept = refl
start_same h x (Replace policy) kept = refl
start_same h x (Tick clock) kept = refl

-- ---- the SUBSCRIBE that the cause is, is the one that the event holds

publish_asks : (from : Address) (p : Publish) (q : FrameQos) → subscribe_of (publish_cause from p q) ≡ None
publish_asks from p qos.WithoutSession = refl
publish_asks from p qos.AtMostOnce = refl
publish_asks from p qos.AtLeastOnce = refl
publish_asks from p qos.ExactlyOnce = refl

datagram_asks : (from : Address) (read : Result SnFrame FrameFault)
    → subscribe_of (datagram_cause from read) ≡ subscribe_in (message_in read)
datagram_asks from (Ok (frame.Publish p)) = publish_asks from p p.flags.qos
datagram_asks from (Ok (frame.Disconnect None)) = refl
datagram_asks from (Ok (frame.Disconnect (Some duration))) = refl
datagram_asks from (Ok message) = refl
datagram_asks from (Err broke) = refl

pub subscribe_same : (e : Event) → subscribe_of (cause_of e) ≡ subscribe_in (message_at e)
subscribe_same (Datagram from datagram) = datagram_asks from (frame_of datagram)
subscribe_same (Broker packet) = refl
subscribe_same Up = refl
subscribe_same Down = refl
subscribe_same Take = refl
subscribe_same (Replace policy) = refl
subscribe_same (Tick clock) = refl

-- ---- the CONNECT and the statement of a will, too

publish_fits : (from : Address) (p : Publish) (q : FrameQos)
    → Fits (publish_cause from p q) (Some (Publishes p))
publish_fits from p qos.WithoutSession = record { connects = refl; states = refl }
publish_fits from p qos.AtMostOnce = record { connects = refl; states = refl }
publish_fits from p qos.AtLeastOnce = record { connects = refl; states = refl }
publish_fits from p qos.ExactlyOnce = record { connects = refl; states = refl }

pub datagram_fits : (from : Address) (read : Result SnFrame FrameFault)
    → Fits (datagram_cause from read) (message_in read)
datagram_fits from (Ok (frame.Publish p)) = publish_fits from p p.flags.qos
datagram_fits from (Ok (frame.Disconnect None)) = record { connects = refl; states = refl }
datagram_fits from (Ok (frame.Disconnect (Some duration))) = record { connects = refl; states = refl }
datagram_fits from (Ok message) = record { connects = refl; states = refl }
datagram_fits from (Err broke) = record { connects = refl; states = refl }

pub event_fits : (e : Event) → Fits (cause_of e) (message_at e)
event_fits (Datagram from datagram) = datagram_fits from (frame_of datagram)
event_fits (Broker packet) = record { connects = refl; states = refl }
event_fits Up = record { connects = refl; states = refl }
event_fits Down = record { connects = refl; states = refl }
event_fits Take = record { connects = refl; states = refl }
event_fits (Replace policy) = record { connects = refl; states = refl }
event_fits (Tick clock) = record { connects = refl; states = refl }

-- ---- and what it is for messages that wait

publish_occasion : (from : Address) (p : Publish) (q : FrameQos)
    → occasion_by (publish_cause from p q) ≡ AtOther
publish_occasion from p qos.WithoutSession = refl
publish_occasion from p qos.AtMostOnce = refl
publish_occasion from p qos.AtLeastOnce = refl
publish_occasion from p qos.ExactlyOnce = refl

datagram_occasion : (from : Address) (read : Result SnFrame FrameFault)
    → occasion_by (datagram_cause from read) ≡ occasion_in (message_in read)
datagram_occasion from (Ok (frame.Publish p)) = publish_occasion from p p.flags.qos
datagram_occasion from (Ok (frame.Disconnect None)) = refl
datagram_occasion from (Ok (frame.Disconnect (Some duration))) = refl
datagram_occasion from (Ok message) = refl
datagram_occasion from (Err broke) = refl

pub occasion_same : (e : Event) → occasion_by (cause_of e) ≡ occasion_of e
occasion_same (Datagram from datagram) = datagram_occasion from (frame_of datagram)
occasion_same (Broker packet) = refl
occasion_same Up = refl
occasion_same Down = refl
occasion_same Take = refl
occasion_same (Replace policy) = refl
occasion_same (Tick clock) = refl

-- the row, by the policy and the clock that are in force as it is written
pub record InForce (a : Around) (by : ℕ) (h : List Row) (e : Event) (outs : List Out) : Type 0 where
  pub cause : a.cause ≡ cause_of e
  pub policy : a.policy ≡ last_policy (record { by = by; event = e; outs = outs } ∷ h)
  pub clock : a.clock ≡ clock_at (record { by = by; event = e; outs = outs } ∷ h)

pub row_view : (a : Around) (id : List ℕ) (by : ℕ) (h : List Row) (e : Event) (outs : List Out)
    → InForce a by h e outs
    → let rows = record { by = by; event = e; outs = outs } ∷ h in
    view_of id rows ≡ view_notes a id (due_of id rows) (notes_of id outs) (view_start id e h)
row_view a id by h e outs is =
    let rows = record { by = by; event = e; outs = outs } ∷ h in
    let v = view_start id e h in
    let m = message_at e in
    let same : subscribe_in m ≡ subscribe_of a.cause = sym (ap subscribe_of is.cause ∙ subscribe_same e) in
    let last : last_of id rows ≡ last_outs a.policy a.clock (subscribe_in m) id outs v.told v.last =
    ap (λ policy. last_after policy (clock_at rows) m id outs v.told v.last) (sym is.policy)
    ∙ (ap (λ clock. last_after a.policy clock m id outs v.told v.last) (sym is.clock)
    ∙ last_same a.policy a.clock m id outs v.told v.last) in
    ap (λ l. let w : View = record (view_of id rows) { last = l } in w) last
    ∙ (ap (λ r. let w : View = record {
      told = names_after r id outs v.told;
      known = knows_after r id outs v.known;
      progress = progress_after id (due_of id rows) outs v.progress;
      settled = v.settled ++ settlements (hands_in id outs);
      last = last_outs a.policy a.clock r id outs v.told v.last;
    } in w) same
    ∙ outs_view a id (due_of id rows) outs v)
