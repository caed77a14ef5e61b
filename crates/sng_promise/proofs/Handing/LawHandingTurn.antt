-- Whose turn it is as a client answers by REGACK or PUBACK, and all that may leave then.
use Rattle.std.proofs.Common.{◌≡◌, ℕ, ◌≤◌, Bool, true, false, List, [], ◌++◌, refl, ap, sym, ◌∙◌}
use Rattle.std.proofs.Common.{if◌then◌else◌, arith}
use Rattle.std.specs.Prelude.{◌&&◌, ◌==◌, Option, Some, None}
use Rattle.std.proofs.lemmas.Bool.Decides.{nat_tests}
use Rattle.sng_states.specs.States.{takes_messages, is_awake}
use Rattle.sng_queue.specs.Messages.{Message}
use Rattle.sng_frames.specs.declared.messages.acks.TopicAck.{TopicAck}
use Rattle.sng_book.specs.declared.address.Address.{Address}
use Rattle.sng_book.specs.declared.decision.Decision.{Decision}
use Rattle.sng_book.specs.declared.out.Out.{Out}
use Rattle.sng_book.specs.declared.row.Row.{Row}
use Rattle.sng_history.specs.Causes.{Cause}
use Rattle.sng_history.specs.Handing.{answers_announcement, ends_exchange}
use Rattle.sng_history.specs.Clients.{Client, is_confirming}
use Rattle.sng_history.specs.Clients.{is_acknowledging, notes_by}
use Rattle.sng_history.specs.State.{State}
use Rattle.sng_history.specs.Standing.{Release}
use Rattle.sng_history.specs.Outgoing.{turns}
use Rattle.sng_history.specs.Whole.{spell, drained_outs}
use Rattle.sng_laws.specs.ViewsClients.{phase_of, names_told, id_told}
use Rattle.sng_laws.specs.ViewsHanding.{number_of, Opening, Announced, HandedOver, progress_of}
use Rattle.sng_laws.specs.ViewsHanding.{is_regack_of, is_puback_of, regack_has_turn, puback_has_turn}
use Rattle.sng_laws.specs.LawsState.{exchange_shown, ClientShown}
use Rattle.sng_laws.specs.ViewsSendings.{Last, last_of}
use Rattle.sng_laws.specs.LawsHanding as laws
use Rattle.sng_laws.specs.LawsHanding.{mailing, handed_awake}
use Rattle.sng_promise.proofs.Handing.Takes.{taking_same}
use Rattle.sng_promise.proofs.Clients.SeenOrder.{StateShown}
use Rattle.sng_promise.proofs.Names.Marked.{marked}
use Rattle.sng_promise.proofs.Handing.LawTurnFrames.{last_within}
use Rattle.sng_promise.proofs.Handing.LawAwake.{awake_same, awake_shown}
use Rattle.sng_promise.proofs.Answers.LawUnsupported.{by_cause}

-- ---- whose turn it is

flip_eq : (n m : ℕ) → (n == m) ≡ (m == n)
flip_eq n m = grind (arith, nat_tests)

pub same_eq : (n m : ℕ) → (n == m) ≡ true → n ≡ m
same_eq n m is = grind (arith, nat_tests, is)

-- what answers what is open, as it is kept and as it is shown
regack_same : (o : Option Opening) (told : List (List ℕ)) (number : ℕ) (last : Last) (r : TopicAck)
    → answers_announcement (exchange_shown o told number last) r ≡ is_regack_of o told number r
regack_same None told number last r = refl
regack_same (Some (Announced name)) told number last r =
    rw (flip_eq r.topic_id (id_told name told), flip_eq r.msg_id number) refl
regack_same (Some (HandedOver m)) told number last r = refl

puback_same : (o : Option Opening) (told : List (List ℕ)) (number : ℕ) (last : Last) (r : TopicAck)
    → ends_exchange (exchange_shown o told number last) r ≡ is_puback_of o number r
puback_same None told number last r = refl
puback_same (Some (Announced name)) told number last r = rw (flip_eq r.msg_id number) refl
puback_same (Some (HandedOver m)) told number last r = rw (flip_eq r.msg_id number) refl

-- the REGACK answers the announcement as it is kept
pub answers_shown : (h : List Row) (x : Client) (r : TopicAck) → ClientShown h x
    → answers_announcement x.buffer.exchange r
    ≡ is_regack_of (progress_of x.id h).unanswered (names_told x.id h) (number_of x.id h) r
answers_shown h x r shown =
    ap (λ e. answers_announcement e r) shown.exchange
    ∙ regack_same (progress_of x.id h).unanswered (names_told x.id h) (number_of x.id h) (last_of x.id h) r

pub confirming_shown : (h : List Row) (x : Client) (r : TopicAck) → ClientShown h x
    → is_confirming r x ≡ regack_has_turn x.id (progress_of x.id h) h r
confirming_shown h x r shown =
    ap (λ b. takes_messages x.phase && b) (answers_shown h x r shown)
    ∙ (rw (shown.phase, taking_same x.phase) refl)

pub acknowledging_shown : (h : List Row) (x : Client) (r : TopicAck) → ClientShown h x
    → is_acknowledging r x ≡ puback_has_turn x.id (progress_of x.id h) h r
acknowledging_shown h x r shown =
    let now = progress_of x.id h in
    ap (λ e. takes_messages x.phase && ends_exchange e r) shown.exchange
    ∙ (ap (λ b. takes_messages x.phase && b)
    (puback_same now.unanswered (names_told x.id h) (number_of x.id h) (last_of x.id h) r)
    ∙ (rw (shown.phase, taking_same x.phase) refl))

-- ---- all that may leave then

number_within : (h : List Row) (x : Client) → ClientShown h x → x.number ≤ 65535
number_within h x shown = rw shown.number (last_within (progress_of x.id h).numbered)

-- the client, once nothing is open, with these that wait and knowing these names
abbrev freed : ℕ → Client → List (List ℕ) → List (List ℕ) → List Message → Client
freed clock x told known waiting =
    record x {
      heard = clock;
      ids = marked told known;
      buffer = record { waiting = waiting; exchange = None };
    }

-- what a client in this state is let out, by these notes of it
abbrev pub all_out : State → Cause → List Release → List Decision → Client → List Out
all_out s c dropped notes y =
    spell (by_cause s c) dropped y notes ++ drained_outs (notes_by (by_cause s c) notes y)

awake_now : (h : List Row) (x : Client) → ClientShown h x → is_awake x.phase ≡ laws.is_awake (phase_of x.id h)
awake_now h x shown = awake_same x.phase ∙ ap laws.is_awake (sym shown.phase)

-- what it is handed
pub handed_by : (h : List Row) (s : State) (c : Cause) (dropped : List Release) (from : Address) (x : Client)
    (known : List (List ℕ)) (waiting : List Message) (taking : Bool)
    → taking ≡ true → StateShown h s → ClientShown h x → x.address ≡ from
    → all_out s c dropped (if taking && true
    then turns s.policy x.id (marked (names_told x.id h) known) waiting
    else []) (freed s.clock x (names_told x.id h) known waiting)
    ≡ handed_awake (laws.is_awake (phase_of x.id h)) (record (mailing h x.id from) { known = known }) waiting
handed_by h s c dropped from x known waiting false takes state shown at = absurd (let e = takes in cc)
handed_by h s c dropped from x known waiting true takes state shown at =
    awake_shown (by_cause s c) dropped (freed s.clock x (names_told x.id h) known waiting)
    (names_told x.id h) known refl refl
    (number_within h x shown)
    ∙ (ap (λ up. handed_awake up
    (record {
      policy = s.policy;
      id = x.id;
      address = x.address;
      told = names_told x.id h;
      known = known;
      number = x.number;
    }) waiting)
    (awake_now h x shown)
    ∙ (rw (shown.number, state.policy, at) refl))
