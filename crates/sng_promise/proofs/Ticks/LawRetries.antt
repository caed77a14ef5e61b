-- What is open with a client and was not answered in time is sent again, or is open no more, as the laws say.
use Rattle.std.proofs.Common.{◌≡◌, ℕ, ◌≤◌, Bool, true, false, List, [], ◌∷◌, ◌++◌, refl, ap, sym, ◌∙◌}
use Rattle.std.proofs.Common.{if◌then◌else◌}
use Rattle.std.specs.Prelude.{◌-◌, ◌&&◌, not, nat_le, is_none, slice_get, Option, Some, None}
use Rattle.sng_states.specs.States.{takes_messages, is_awake}
use Rattle.sng_queue.specs.Messages.{Message}
use Rattle.sng_queue.specs.Buffers.{Buffer, settle}
use Rattle.sng_queue.specs.Exchanges.{repeat}
use Rattle.sng_queue.specs.declared.exchange.Exchange.TheVariants.{Announcing, Acknowledging}
use Rattle.sng_queue.specs.declared.kind.TopicIdKind.{TopicIdKind}
use Rattle.sng_queue.specs.declared.kind.TopicIdKind.TheVariants as kind
use Rattle.sng_queue.specs.declared.limits.TheConstants.{MAX_TRIES}
use Rattle.sng_book.specs.declared.decision.Decision.{Decision}
use Rattle.sng_book.specs.declared.decision.Decision.TheVariants as note
use Rattle.sng_book.specs.declared.outcome.Outcome.{Outcome}
use Rattle.sng_book.specs.declared.outcome.Outcome.TheVariants.{Allowed, Denied}
use Rattle.sng_book.specs.declared.out.Out.{Out}
use Rattle.sng_book.specs.declared.out.Out.TheVariants.{Note}
use Rattle.sng_book.specs.declared.row.Row.{Row}
use Rattle.sng_history.specs.Causes.{ByTick}
use Rattle.sng_history.specs.Handing as handing
use Rattle.sng_history.specs.Handing.{front, repeated_outs}
use Rattle.sng_history.specs.Clients.{Around, Client, notes_by, is_drained}
use Rattle.sng_history.specs.State.{State, around, later}
use Rattle.sng_history.specs.Ticking as ticking
use Rattle.sng_history.specs.Ticking.{is_repeating, is_tried_out}
use Rattle.sng_history.specs.Losing.{judged_again, message_again, exchange_again, again_notes}
use Rattle.sng_history.specs.Outgoing.{turns, handed_over}
use Rattle.sng_history.specs.Whole.{spell, drained_outs}
use Rattle.sng_laws.specs.ViewsClients.{phase_of, address_of, names_told, id_told}
use Rattle.sng_laws.specs.ViewsHanding.{Opening, Announced, HandedOver, is_taking, is_idle, progress_of}
use Rattle.sng_laws.specs.ViewsHanding.{number_of, names_known, waits_for}
use Rattle.sng_laws.specs.ViewsSendings.{Last, last_of}
use Rattle.sng_laws.specs.LawsState.{ClientShown, sending_shown, exchange_shown}
use Rattle.sng_laws.specs.LawsRules.{judged}
use Rattle.sng_laws.specs.LawsHanding as laws
use Rattle.sng_laws.specs.LawsHanding.{mailing, handed_awake, IsFront, FrontAnnounced}
use Rattle.sng_laws.specs.LawsRules.{receive_rules}
use Rattle.sng_laws.specs.LawsLost.{is_unanswered, is_given_up, type_of, announced_again, handed_again}
use Rattle.sng_laws.specs.LawsLost.{opening_again, again_at, again_answer}
use Rattle.sng_promise.proofs.Handing.Takes.{taking_same}
use Rattle.sng_promise.proofs.Clients.SeenOrder.{StateShown}
use Rattle.sng_promise.proofs.Answers.LawRules.{receive_ruled}
use Rattle.sng_promise.proofs.Handing.LawTurnFrames.{last_within, frame_qos_same}
use Rattle.sng_promise.proofs.Handing.LawTurns.{mail, denied_settles}
use Rattle.sng_promise.proofs.Handing.LawAwake.{awake_same, awake_shown}
use Rattle.sng_promise.proofs.Clients.LawHere.{settled}
use Rattle.sng_history.proofs.Booleans.{and_no, left_holds}
use Rattle.sng_history.specs.declared.limits.TheConstants.{RETRY_MS}

abbrev pub ticking_by : State → ℕ → Around
ticking_by s came = around s (ByTick came)

-- what is let out for a client with these notes
abbrev pub let_out : State → ℕ → Client → List Decision → List Out
let_out s came y notes =
    spell (ticking_by s came) [] y notes ++ drained_outs (notes_by (ticking_by s came) notes y)

-- ---- nothing is open any more, and what may leave leaves

abbrev freed : Client → List Message → Client
freed x waiting = record x { buffer = record { waiting = waiting; exchange = None } }

freed_out : (h : List Row) (s : State) (came : ℕ) (x : Client) (waiting : List Message)
    → takes_messages x.phase ≡ true → StateShown h s
    → ClientShown h x
    → let_out s came (freed x waiting) (handed_over s.policy (freed x waiting))
    ≡ handed_awake (laws.is_awake (phase_of x.id h)) (mailing h x.id x.address) waiting
freed_out h s came x waiting takes state shown =
    let y = freed x waiting in
    let told = names_told x.id h in
    let known = names_known x.id h in
    let within : x.number ≤ 65535 = (rw shown.number (last_within (progress_of x.id h).numbered)) in
    ap (λ b. let_out s came y (if b && true then turns s.policy x.id x.ids waiting else [])) takes
    ∙ (awake_shown (ticking_by s came) [] y told known shown.ids refl within
    ∙ (ap (λ awake. handed_awake awake (mail (ticking_by s came) y told known) waiting)
    (awake_same x.phase ∙ ap laws.is_awake (sym shown.phase))
    ∙ (rw (shown.number, state.policy) refl)))

-- ---- an announcement

announced_by : (h : List Row) (s : State) (came : ℕ) (x : Client) (m : Message) (more : List Message)
    (name : List ℕ) (o : Outcome)
    → let last = last_of x.id h in
    let told = names_told x.id h in
    let sent = sending_shown (id_told name told) (number_of x.id h) last in
    x.buffer ≡ record { waiting = m ∷ more; exchange = Some (Announcing sent) } → m.name ≡ name → judged
    (receive_rules s.policy x.id m.name) ≡ o
    → takes_messages x.phase ≡ true → StateShown h s → ClientShown h x
    → let_out s came x (judged_again s.policy x (Announcing sent) m o)
    ≡ announced_again (laws.is_awake (phase_of x.id h)) (mailing h x.id x.address) m.name (m ∷ more) o
announced_by h s came x m more name Allowed is same may takes state shown =
    let clock = later s.clock came in
    let said = note.Retry x.id m.name Allowed in
    let c = mailing h x.id x.address in
    let sent = sending_shown (id_told name (names_told x.id h)) (number_of x.id h) (last_of x.id h) in
    let after : Client =
    record x {
      buffer = record {
        waiting = m ∷ more;
        exchange = repeat (Some (Announcing sent)) clock;
      };
    } in
    ap
    (λ (b : Buffer). (Note said ∷ (repeated_outs x.address b b.exchange ++ []))
    ++ drained_outs (let y : Client = record x { buffer = record b { exchange = repeat b.exchange clock } } in
    y))
    is
    ∙ (settled (Note said ∷ handing.announced_again x.address sent (Some m)) after
    (and_no (is_awake x.phase))
    ∙ (rw same refl))
announced_by h s came x m more name (Denied rule) is same denies takes state shown =
    let said = note.Hand x.id m.name (Denied rule) in
    let notes = handed_over s.policy (let y : Client = record x { buffer = settle x.buffer } in y) in
    ap (λ z. Note said ∷ let_out s came z notes) (denied_settles s.policy x.id m.name rule x denies)
    ∙ (ap
    (λ (b : Buffer). let y : Client = record x { buffer = b } in
    Note said ∷ let_out s came y (handed_over s.policy y))
    (ap settle is)
    ∙ ap (λ outs. Note said ∷ outs) (freed_out h s came x more takes state shown))

-- ---- a message that was handed over

type_same : (k : TopicIdKind) → handing.id_type_of k ≡ type_of k
type_same kind.Normal = refl
type_same kind.Predefined = refl
type_same kind.Short = refl

both_open : (a b : Bool) → (a && (b && false)) ≡ false
both_open a true = and_no a
both_open a false = and_no a

handed_by : (h : List Row) (s : State) (came : ℕ) (x : Client) (m : Message) (o : Outcome)
    → let last = last_of x.id h in
    let sent = sending_shown last.topic_id (number_of x.id h) last in
    x.buffer.exchange ≡ Some (Acknowledging sent last.kind m)
    → takes_messages x.phase ≡ true → StateShown h s → ClientShown h x
    → let_out s came x (judged_again s.policy x (Acknowledging sent last.kind m) m o)
    ≡ handed_again (laws.is_awake (phase_of x.id h)) (mailing h x.id x.address) last m (waits_for x.id h) o
handed_by h s came x m Allowed is takes state shown =
    let clock = later s.clock came in
    let last = last_of x.id h in
    let said = note.Retry x.id m.name Allowed in
    let sent = sending_shown last.topic_id (number_of x.id h) last in
    let after : Client =
    record x {
      buffer = record x.buffer
          { exchange = repeat (Some (Acknowledging sent last.kind m)) clock };
    } in
    ap
    (λ e. (Note said ∷ (repeated_outs x.address x.buffer e ++ []))
    ++ drained_outs (let y : Client = record x { buffer = record x.buffer { exchange = repeat e clock } } in
    y))
    is
    ∙ (settled (Note said ∷ handing.handed_again x.address sent last.kind m ∷ []) after
    (both_open (is_awake x.phase) (is_none (slice_get x.buffer.waiting 0)))
    ∙ (rw (frame_qos_same m.qos, type_same last.kind) refl))
handed_by h s came x m (Denied rule) is takes state shown =
    let said = note.Retry x.id m.name (Denied rule) in
    let awake = laws.is_awake (phase_of x.id h) in
    ap (λ outs. Note said ∷ outs) (freed_out h s came x x.buffer.waiting takes state shown)
    ∙ ap (λ waiting. Note said ∷ handed_awake awake (mailing h x.id x.address) waiting) shown.waiting

-- ---- what is open

front_by : (h : List Row) (s : State) (came : ℕ) (x : Client) (name : List ℕ) (waiting : List Message)
    → x.buffer.waiting ≡ waiting
    → IsFront name waiting
    → x.buffer.exchange ≡ Some (Announcing
    (sending_shown (id_told name (names_told x.id h)) (number_of x.id h) (last_of x.id h)))
    → takes_messages x.phase ≡ true → StateShown h s → ClientShown h x
    → let_out s came x (exchange_again s.policy x x.buffer.exchange)
    ≡ announced_again (laws.is_awake (phase_of x.id h)) (mailing h x.id x.address) name waiting
    (judged (receive_rules s.policy x.id name))
front_by h s came x name [] waits is_front is takes state shown = absurd is_front
front_by h s came x name (m ∷ more) waits is_front is takes state shown =
    let sent = sending_shown (id_told name (names_told x.id h)) (number_of x.id h) (last_of x.id h) in
    let awake = laws.is_awake (phase_of x.id h) in
    let c = mailing h x.id x.address in
    let o = judged (receive_rules s.policy x.id m.name) in
    let buffer : x.buffer ≡ record { waiting = m ∷ more; exchange = Some (Announcing sent) } =
    ap (λ ws. let b : Buffer = record { waiting = ws; exchange = x.buffer.exchange } in b) waits
    ∙ ap (λ e. let b : Buffer = record { waiting = m ∷ more; exchange = e } in b) is in
    ap (λ e. let_out s came x (exchange_again s.policy x e)) is
    ∙ (ap (λ (b : Buffer). let_out s came x (message_again s.policy x (Announcing sent) (front b))) buffer
    ∙ (ap (λ said. let_out s came x (judged_again s.policy x (Announcing sent) m said))
    (receive_ruled s.policy x.id m.name)
    ∙ (announced_by h s came x m more name o buffer is_front refl takes state shown
    ∙ ap (λ text. announced_again awake c text (m ∷ more) (judged (receive_rules s.policy x.id text)))
    is_front)))

opening_by : (h : List Row) (s : State) (came : ℕ) (x : Client) (o : Option Opening)
    → (progress_of x.id h).unanswered ≡ o
    → FrontAnnounced h x.id
    → takes_messages x.phase ≡ true → is_drained x ≡ false → StateShown h s → ClientShown h x
    → let_out s came x (exchange_again s.policy x x.buffer.exchange)
    ≡ opening_again (laws.is_awake (phase_of x.id h)) (mailing h x.id x.address) (last_of x.id h)
    (waits_for x.id h) o
opening_by h s came x None is front takes busy state shown =
    let none : x.buffer.exchange ≡ None =
    shown.exchange ∙ ap (λ open_one. exchange_shown open_one (names_told x.id h) (number_of x.id h)
    (last_of x.id h)) is in
    ap (λ e. let_out s came x (exchange_again s.policy x e)) none ∙ settled [] x busy
opening_by h s came x (Some (Announced name)) is front takes busy state shown =
    let awake = laws.is_awake (phase_of x.id h) in
    let c = mailing h x.id x.address in
    front_by h s came x name (waits_for x.id h) shown.waiting (front name is)
    (shown.exchange ∙ ap (λ open_one. exchange_shown open_one (names_told x.id h) (number_of x.id h)
    (last_of x.id h)) is) takes state shown
    ∙ ap (λ policy. announced_again awake c name (waits_for x.id h) (judged (receive_rules policy x.id name)))
    state.policy
opening_by h s came x (Some (HandedOver m)) is front takes busy state shown =
    let awake = laws.is_awake (phase_of x.id h) in
    let c = mailing h x.id x.address in
    let last = last_of x.id h in
    let sent = sending_shown last.topic_id (number_of x.id h) last in
    let open_one : x.buffer.exchange ≡ Some (Acknowledging sent last.kind m) =
    shown.exchange ∙ ap (λ one. exchange_shown one (names_told x.id h) (number_of x.id h) last) is in
    ap (λ e. let_out s came x (exchange_again s.policy x e)) open_one
    ∙ (ap (λ said. let_out s came x (judged_again s.policy x (Acknowledging sent last.kind m) m said))
    (receive_ruled s.policy x.id m.name)
    ∙ (handed_by h s came x m (judged (receive_rules s.policy x.id m.name)) open_one takes state shown
    ∙ ap (λ policy. handed_again awake c last m (waits_for x.id h)
    (judged (receive_rules policy x.id m.name))) state.policy))

-- ---- when it is

unanswered_by : (o : Option Opening) (told : List (List ℕ)) (number clock : ℕ) (last : Last)
    → ticking.is_unanswered clock (exchange_shown o told number last)
    ≡ (not (is_idle o) && nat_le RETRY_MS (clock - last.at))
unanswered_by None told number clock last = refl
unanswered_by (Some (Announced name)) told number clock last = refl
unanswered_by (Some (HandedOver m)) told number clock last = refl

pub repeating_shown : (h : List Row) (clock : ℕ) (x : Client) → ClientShown h x
    → is_repeating clock x ≡ is_unanswered h clock x.id
repeating_shown h clock x shown =
    let o = (progress_of x.id h).unanswered in
    let last = last_of x.id h in
    ap (λ e. takes_messages x.phase && ticking.is_unanswered clock e) shown.exchange
    ∙ (ap (λ b. takes_messages x.phase && b)
    (unanswered_by o (names_told x.id h) (number_of x.id h) clock last)
    ∙ ap (λ b. b && (not (is_idle o) && nat_le RETRY_MS (clock - last.at)))
    (sym (taking_same x.phase) ∙ ap is_taking (sym shown.phase)))

tried_by : (o : Option Opening) (told : List (List ℕ)) (number clock : ℕ) (last : Last) (takes : Bool)
    → ((takes && ticking.is_unanswered clock (exchange_shown o told number last))
    && is_tried_out (exchange_shown o told number last))
    ≡ ((takes && ticking.is_unanswered clock (exchange_shown o told number last))
    && nat_le MAX_TRIES last.tries)
tried_by None told number clock last true = refl
tried_by None told number clock last false = refl
tried_by (Some (Announced name)) told number clock last takes = refl
tried_by (Some (HandedOver m)) told number clock last takes = refl

pub given_up_shown : (h : List Row) (clock : ℕ) (x : Client) → ClientShown h x
    → (is_repeating clock x && is_tried_out x.buffer.exchange) ≡ is_given_up h clock x.id
given_up_shown h clock x shown =
    let o = (progress_of x.id h).unanswered in
    let last = last_of x.id h in
    ap (λ e. (takes_messages x.phase && ticking.is_unanswered clock e) && is_tried_out e) shown.exchange
    ∙ (tried_by o (names_told x.id h) (number_of x.id h) clock last (takes_messages x.phase)
    ∙ (ap (λ e. (takes_messages x.phase && ticking.is_unanswered clock e) && nat_le MAX_TRIES last.tries)
    (sym shown.exchange)
    ∙ ap (λ b. b && nat_le MAX_TRIES last.tries) (repeating_shown h clock x shown)))

again_by : (h : List Row) (s : State) (came : ℕ) (x : Client) (b : Bool)
    → is_repeating (later s.clock came) x ≡ b → FrontAnnounced h x.id
    → is_drained x ≡ false → StateShown h s → ClientShown h x
    → let_out s came x (if b then exchange_again s.policy x x.buffer.exchange else [])
    ≡ (if b then again_at h x.id (address_of x.id h) else [])
again_by h s came x true is front busy state shown =
    let takes =
    left_holds (takes_messages x.phase) (ticking.is_unanswered (later s.clock came) x.buffer.exchange) is in
    opening_by h s came x (progress_of x.id h).unanswered refl front takes busy state shown
    ∙ ap (again_at h x.id) (sym shown.address)
again_by h s came x false is front busy state shown = settled [] x busy

pub again_shown : (h : List Row) (s : State) (came : ℕ) (x : Client) → FrontAnnounced h x.id
    → is_drained x ≡ false → StateShown h s
    → ClientShown h x
    → let clock = later s.clock came in
    let_out s came x (again_notes s.policy clock x) ≡ again_answer h clock x.id
again_shown h s came x front busy state shown =
    let clock = later s.clock came in
    again_by h s came x (is_repeating clock x) refl front busy state shown
    ∙ ap (λ b. let outs : List Out = if b then again_at h x.id (address_of x.id h) else [] in outs)
    (repeating_shown h clock x shown)
