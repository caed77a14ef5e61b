-- A PUBLISH at QoS 2 is judged by the law's table and answered so, and a repeat is answered alone; a PUBREL is
-- answered.
use Rattle.std.proofs.Common.{◌≡◌, ℕ, Bool, true, false, List, [], ◌∷◌, ◌++◌, refl, ap, sym, ◌∙◌}
use Rattle.std.proofs.Common.{if◌then◌else◌}
use Rattle.std.specs.Prelude.{not, Option, Some, None}
use Rattle.std.proofs.lemmas.List.{append-nil}
use Rattle.sng_frames.specs.declared.qos.FrameQos.{FrameQos}
use Rattle.sng_frames.specs.declared.qos.FrameQos.TheVariants as qos
use Rattle.sng_frames.specs.declared.messages.publish.Publish.{Publish}
use Rattle.sng_book.specs.declared.address.Address.{Address}
use Rattle.sng_book.specs.declared.decision.Decision.{Decision}
use Rattle.sng_book.specs.declared.decision.Decision.TheVariants as note
use Rattle.sng_book.specs.declared.decision.Who.TheVariants as who
use Rattle.sng_book.specs.declared.outcome.Denial.TheVariants.{Form}
use Rattle.sng_book.specs.declared.outcome.FormDenial.TheVariants.{OutOfTurn}
use Rattle.sng_book.specs.declared.outcome.Outcome.{Outcome}
use Rattle.sng_book.specs.declared.outcome.Outcome.TheVariants.{Allowed, Denied}
use Rattle.sng_book.specs.declared.out.Out.{Out}
use Rattle.sng_book.specs.declared.out.Out.TheVariants.{Note}
use Rattle.sng_book.specs.declared.row.Row.{Row}
use Rattle.sng_history.specs.Causes.{Cause, ByMessage, ToPublishOnce, ToRelease}
use Rattle.sng_history.specs.Clients.{Client, is_here, note_by, notes_by, is_drained, received}
use Rattle.sng_history.specs.Clients.{publish_released}
use Rattle.sng_history.specs.State.{State, around}
use Rattle.sng_history.specs.Standing.{Release}
use Rattle.sng_history.specs.Good.{Each, AtRest}
use Rattle.sng_history.specs.Lawful.{fixed_for}
use Rattle.sng_history.specs.Outgoing as machine
use Rattle.sng_history.specs.Answers.{pubrec, pubcomp}
use Rattle.sng_history.specs.Verdicts.{is_active, is_repeat, may_ask, once_room, publish_once_ask}
use Rattle.sng_history.specs.Whole.{spell, replied, stranger_to, drops, frame_row, drained_outs, part}
use Rattle.sng_history.specs.Steps.{notes_for}
use Rattle.sng_laws.specs.Views.{last_policy}
use Rattle.sng_laws.specs.Views.{last_limits}
use Rattle.sng_laws.specs.ViewsMessages.{is_exactly_once}
use Rattle.sng_laws.specs.ViewsClients.{names_told, those_at}
use Rattle.sng_laws.specs.ViewsFlight.{in_flight}
use Rattle.sng_laws.specs.ViewsOpenIds.{is_open}
use Rattle.sng_laws.specs.LawsState.{ClientShown, OpenShown}
use Rattle.sng_laws.specs.LawsHanding.{out_of_turn}
use Rattle.sng_laws.specs.LawsRules.{judged}
use Rattle.sng_laws.specs.LawsAnswers as answers
use Rattle.sng_laws.specs.LawsAnswers.{answer_to, no_session}
use Rattle.sng_laws.specs.LawsAsks as asks
use Rattle.sng_laws.specs.LawsAsks.{name_meant, session_rules, puback, publish_stranger, publish_answer}
use Rattle.sng_laws.specs.LawsAsks.{asked_answer, pubrec_to, pubcomp_to, release_answer}
use Rattle.sng_history.proofs.Own.{each_with}
use Rattle.sng_history.proofs.Asks.{of_publish_once}
use Rattle.sng_history.proofs.Places.{here_is}
use Rattle.sng_promise.proofs.Clients.SeenClients.{heard_if}
use Rattle.sng_promise.proofs.Clients.SeenOrder.{StateShown}
use Rattle.sng_promise.proofs.Clients.SeenState.{Stands}
use Rattle.sng_promise.proofs.Clients.LawHere.{row_answer, each_part, settled}
use Rattle.sng_promise.proofs.Answers.LawUnsupported.{by_cause, code_same}
use Rattle.sng_promise.proofs.Answers.LawPings.{active_same}
use Rattle.sng_promise.proofs.Answers.LawPublishVerdicts.{once_free}
use Rattle.sng_promise.proofs.Answers.LawPublishes.{ask_by, once_is, asked_judged, room_shown, crowded_same}
use Rattle.sng_grants.specs.declared.policy.Policy.{Policy}

-- ---- whether it is a repeat

-- what the rows show of it is what the state says
repeat_same : (h : List Row) (x : Client) (p : Publish) → is_exactly_once p.flags.qos ≡ true
    → ClientShown h x → OpenShown h x
    → asks.is_repeat h x.id p ≡ is_repeat p x
repeat_same h x p twice is opened =
    rw (twice, is.phase, sym (active_same x.phase), sym (opened.same p.msg_id)) refl

-- ---- its note

once_room_shown : (h : List Row) (s : State) (x : Client) (p : Publish) (q : FrameQos) → p.flags.qos ≡ q
    → is_exactly_once q ≡ true → StateShown h s → s.link.in_flight ≡ in_flight h → OpenShown h x
    → is_open p.msg_id x.unreleased ≡ false
    → once_room s x p ≡ judged (room_shown h x.id p)
once_room_shown h s x p qos.ExactlyOnce is twice shown flights opened absent =
    let limits : s.policy.limits ≡ last_limits h = ap (λ (policy : Policy). policy.limits) shown.policy in
    once_free s x p p.flags.qos is absent
    ∙ rw (is, crowded_same h s qos.ExactlyOnce shown flights, shown.up, shown.waits, opened.many, limits) refl
once_room_shown h s x p qos.AtMostOnce is twice shown flights opened absent = absurd (let e = twice in cc)
once_room_shown h s x p qos.AtLeastOnce is twice shown flights opened absent = absurd (let e = twice in cc)
once_room_shown h s x p qos.WithoutSession is twice shown flights opened absent = absurd (let e = twice in cc)

-- one that is not in turn is denied before the room is asked
not_active : (s : State) (x : Client) (p : Publish) (one two : Outcome) → is_active x.phase ≡ false
    → ask_by s x p one (may_ask s.policy x) ≡ ask_by s x p two (may_ask s.policy x)
not_active s x p one two is = rw is refl

once_judged : (h : List Row) (s : State) (x : Client) (p : Publish) (active : Bool) → is_active x.phase ≡ active
    → is_exactly_once p.flags.qos ≡ true → StateShown h s → s.link.in_flight ≡ in_flight h
    → ClientShown h x → OpenShown h x → is_repeat p x ≡ false
    → publish_once_ask s x p
    ≡ note.Publish (who.Client x.id)
    (if asks.may_ask h x.id then name_meant (last_policy h) (names_told x.id h) p.flags.id_type p.topic_id
    else None)
    (judged (session_rules h x.id p))
once_judged h s x p true active twice shown flights is opened first =
    let absent : is_open p.msg_id x.unreleased ≡ false = (rw active at first) in
    once_is s x p (may_ask s.policy x)
    ∙ asked_judged h s x p (once_room s x p) shown is
    (once_room_shown h s x p p.flags.qos refl twice shown flights opened absent)
once_judged h s x p false active twice shown flights is opened first =
    let rest = judged (room_shown h x.id p) in
    once_is s x p (may_ask s.policy x)
    ∙ (not_active s x p (once_room s x p) rest active ∙ asked_judged h s x p rest shown is refl)

-- what follows it
pubrec_by : (s : State) (from : Address) (p : Publish) (y : Client) (name : Option (List ℕ)) (o : Outcome)
    (q : FrameQos) → p.flags.qos ≡ q → is_exactly_once q ≡ true
    → replied (ByMessage from (ToPublishOnce p)) y name o ≡ puback y.address p o
pubrec_by s from p y name (Denied rule) q is twice = rw (code_same rule) refl
pubrec_by s from p y name Allowed qos.ExactlyOnce is twice = rw is refl
pubrec_by s from p y name Allowed qos.AtMostOnce is twice = absurd (let e = twice in cc)
pubrec_by s from p y name Allowed qos.AtLeastOnce is twice = absurd (let e = twice in cc)
pubrec_by s from p y name Allowed qos.WithoutSession is twice = absurd (let e = twice in cc)

first_there : (h : List Row) (s : State) (from : Address) (p : Publish) (dropped : List Release)
    (x : Client) → is_exactly_once p.flags.qos ≡ true → StateShown h s
    → s.link.in_flight ≡ in_flight h → ClientShown h x → OpenShown h x → is_repeat p x ≡ false
    → spell (by_cause s (ByMessage from (ToPublishOnce p))) dropped (heard_if true s.clock x)
    (publish_once_ask s x p ∷ [])
    ≡ publish_answer h x.address p x.id
first_there h s from p dropped x twice shown flights is opened first =
    let y : Client = heard_if true s.clock x in
    let name =
    if asks.may_ask h x.id then name_meant (last_policy h)
    (names_told x.id h) p.flags.id_type p.topic_id else None in
    let o = judged (session_rules h x.id p) in
    let said = Note (note.Publish (who.Client x.id) name o) in
    ap (λ said. spell (by_cause s (ByMessage from (ToPublishOnce p))) dropped y (said ∷ []))
    (once_judged h s x p (is_active x.phase) refl twice shown flights is opened first)
    ∙ (ap (λ outs. said ∷ outs)
    (append-nil (replied (ByMessage from (ToPublishOnce p)) y name o)
    ∙ pubrec_by s from p y name o p.flags.qos refl twice)
    ∙ ap (λ b. if b then pubrec_to x.address p.msg_id ∷ [] else asked_answer h x.address p x.id)
    (sym (repeat_same h x p twice is opened ∙ first)))

received_drained : (number : ℕ) (o : Outcome) (x : Client) → is_drained (received (Some number) o x) ≡ is_drained x
received_drained number Allowed x = refl
received_drained number (Denied rule) x = refl

first_busy : (s : State) (from : Address) (p : Publish) (x : Client) → is_drained x ≡ false
    → (let a = by_cause s (ByMessage from (ToPublishOnce p)) in
    is_drained (notes_by a (publish_once_ask s x p ∷ []) (heard_if true s.clock x)))
    ≡ false
first_busy s from p x busy =
    of_publish_once (λ said. is_drained
    (note_by (by_cause s (ByMessage from (ToPublishOnce p))) said (heard_if true s.clock x)) ≡ false) s x p
    (λ name o. received_drained p.msg_id o (heard_if true s.clock x) ∙ busy)

-- ---- its part

abbrev OnceBy : List Row → State → Address → Publish → List Release → Client → Bool → Type 0
OnceBy h s from p dropped x again =
    let a = by_cause s (ByMessage from (ToPublishOnce p)) in
    let y = heard_if true s.clock x in
    let notes : List Decision = if not again then publish_once_ask s x p ∷ [] else [] in
    (if again then pubrec x.address p.msg_id ∷ [] else [])
    ++ (spell a dropped y notes ++ drained_outs (notes_by a notes y))
    ≡ publish_answer h x.address p x.id

once_there : (h : List Row) (s : State) (from : Address) (p : Publish) (dropped : List Release) (x : Client)
    (again : Bool) → is_repeat p x ≡ again
    → is_exactly_once p.flags.qos ≡ true → StateShown h s → s.link.in_flight ≡ in_flight h
    → ClientShown h x → OpenShown h x → is_drained x ≡ false → OnceBy h s from p dropped x again
once_there h s from p dropped x true is_so twice shown flights is opened busy =
    settled (pubrec x.address p.msg_id ∷ []) (heard_if true s.clock x) busy
    ∙ ap (λ b. if b then pubrec_to x.address p.msg_id ∷ [] else asked_answer h x.address p x.id)
    (sym (repeat_same h x p twice is opened ∙ is_so))
once_there h s from p dropped x false is_so twice shown flights is opened busy =
    let a = by_cause s (ByMessage from (ToPublishOnce p)) in
    let notes = publish_once_ask s x p ∷ [] in
    settled (spell a dropped (heard_if true s.clock x) notes) (notes_by a notes (heard_if true s.clock x))
    (first_busy s from p x busy)
    ∙ first_there h s from p dropped x twice shown flights is opened is_so

once_part : (h : List Row) (s : State) (from : Address) (p : Publish) (dropped : List Release) (x : Client)
    (b : Bool) → is_exactly_once p.flags.qos ≡ true → StateShown h s
    → s.link.in_flight ≡ in_flight h → ClientShown h x → OpenShown h x → is_drained x ≡ false
    → (b ≡ true → x.address ≡ from)
    → let a = by_cause s (ByMessage from (ToPublishOnce p)) in
    let notes : List Decision = if b then (if not (is_repeat p x) then publish_once_ask s x p ∷ [] else [])
    else [] in
    (if b then (if is_repeat p x then pubrec x.address p.msg_id ∷ [] else []) else [])
    ++ (spell a dropped (heard_if b s.clock x) notes
    ++ drained_outs (notes_by a notes (heard_if b s.clock x)))
    ≡ (if b then publish_answer h from p x.id else [])
once_part h s from p dropped x true twice shown flights is opened busy at =
    once_there h s from p dropped x (is_repeat p x) refl twice shown flights is opened busy
    ∙ ap (λ to. publish_answer h to p x.id) (at refl)
once_part h s from p dropped x false twice shown flights is opened busy at = settled [] x busy

-- each client's part, given what the rows show of it, of its open MsgIds too
each_open_part : (h : List Row) (s : State) (from : Address) (c : Cause) (f : List ℕ → List Out) → Stands h s
    → Each (OpenShown h) s.clients
    → ((x : Client) → ClientShown h x → OpenShown h x → AtRest x
    → part (around s c) (drops s c (notes_for s c)) (fixed_for s c x) x
    ≡ (if is_here x from then f x.id else []))
    → Each (λ x. part (around s c) (drops s c (notes_for s c)) (fixed_for s c x) x
    ≡ (if is_here x from then f x.id else [])) s.clients
each_open_part h s from c f st opened each =
    each_with (λ x. ClientShown h x × OpenShown h x) AtRest
    (λ x. part (around s c) (drops s c (notes_for s c)) (fixed_for s c x) x
    ≡ (if is_here x from then f x.id else []))
    s.clients (λ x both rest. each x both.0 both.1 rest)
    (each_with (ClientShown h) (OpenShown h) (λ x. ClientShown h x × OpenShown h x) s.clients
    (λ x one two. (one, two)) st.shown.clients opened)
    st.good.rest

pub once_row : (h : List Row) (s : State) (from : Address) (p : Publish) → Stands h s
    → Each (OpenShown h) s.clients
    → s.link.in_flight ≡ in_flight h → is_exactly_once p.flags.qos ≡ true
    → let c = ByMessage from (ToPublishOnce p) in
    frame_row s c (stranger_to from (ToPublishOnce p)) (notes_for s c)
    ≡ answer_to (publish_stranger from) (publish_answer h from p) (those_at from h)
once_row h s from p st opened flights twice =
    let c = ByMessage from (ToPublishOnce p) in
    row_answer h s from c (stranger_to from (ToPublishOnce p)) (publish_answer h from p) st.shown (λ x. refl)
    (each_open_part h s from c (publish_answer h from p) st opened
    (λ x is opened rest. once_part h s from p (drops s c (notes_for s c)) x
    (is_here x from) twice st.shown flights is opened rest.busy (here_is x from)))

-- ---- PUBREL

release_there : (s : State) (from : Address) (number : ℕ) (dropped : List Release) (x : Client) (active : Bool)
    → is_drained x ≡ false
    → let a = by_cause s (ByMessage from (ToRelease number)) in
    let y : Client =
    if active then publish_released number (heard_if true s.clock x) else heard_if true s.clock x in
    let notes : List Decision = if active then [] else machine.out_of_turn x.id in
    (if active then pubcomp x.address number ∷ [] else [])
    ++ (spell a dropped y notes ++ drained_outs (notes_by a notes y))
    ≡ (if active then pubcomp_to x.address number ∷ [] else out_of_turn x.id)
release_there s from number dropped x true busy =
    settled (pubcomp x.address number ∷ []) (publish_released number (heard_if true s.clock x)) busy
release_there s from number dropped x false busy =
    settled (Note (note.Frame (who.Client x.id) (Denied (Form OutOfTurn))) ∷ []) (heard_if true s.clock x) busy

release_part : (h : List Row) (s : State) (from : Address) (number : ℕ) (dropped : List Release) (x : Client)
    (b : Bool) → ClientShown h x → is_drained x ≡ false → (b ≡ true → x.address ≡ from)
    → let a = by_cause s (ByMessage from (ToRelease number)) in
    let y : Client =
    if b then (if is_active x.phase then publish_released number (heard_if true s.clock x)
    else heard_if true s.clock x) else x in
    let notes : List Decision = if b then (if is_active x.phase then [] else machine.out_of_turn x.id)
    else [] in
    (if b then (if is_active x.phase then pubcomp x.address number ∷ [] else []) else [])
    ++ (spell a dropped y notes ++ drained_outs (notes_by a notes y))
    ≡ (if b then release_answer h from number x.id else [])
release_part h s from number dropped x true is busy at =
    release_there s from number dropped x (is_active x.phase) busy
    ∙ (ap (λ b. if b then pubcomp_to x.address number ∷ [] else out_of_turn x.id)
    (active_same x.phase ∙ ap answers.is_active (sym is.phase))
    ∙ ap (λ to. release_answer h to number x.id) (at refl))
release_part h s from number dropped x false is busy at = settled [] x busy

pub release_row : (h : List Row) (s : State) (from : Address) (number : ℕ) → Stands h s
    → let c = ByMessage from (ToRelease number) in
    frame_row s c (stranger_to from (ToRelease number)) (notes_for s c)
    ≡ answer_to (no_session from) (release_answer h from number) (those_at from h)
release_row h s from number st =
    let c = ByMessage from (ToRelease number) in
    row_answer h s from c (stranger_to from (ToRelease number)) (release_answer h from number) st.shown
    (λ x. refl)
    (each_part h s from c (release_answer h from number) st
    (λ x is rest. release_part h s from number (drops s c (notes_for s c)) x (is_here x from) is rest.busy
    (here_is x from)))
