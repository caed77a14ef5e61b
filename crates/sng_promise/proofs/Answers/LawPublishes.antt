-- A PUBLISH of a session is judged by the law's tables, and answered so.
use Rattle.std.proofs.Common.{◌≡◌, ℕ, Bool, true, false, List, [], ◌∷◌, ◌++◌, refl}
use Rattle.std.proofs.Common.{ap, sym, ◌∙◌, if◌then◌else◌, length, Ok, Err}
use Rattle.std.specs.Prelude.{◌&&◌, not, nat_lt, Option, None, Some}
use Rattle.std.specs.declared.result.Result.{Result}
use Rattle.std.proofs.lemmas.List.{append-nil}
use Rattle.sng_grants.specs.Limits.{flight_limit}
use Rattle.sng_policy.specs.Grants.{lists}
use Rattle.sng_states.specs.declared.limits.TheConstants.{MAX_OPEN_IDS}
use Rattle.sng_frames.specs.declared.qos.FrameQos.{FrameQos}
use Rattle.sng_frames.specs.declared.qos.FrameQos.TheVariants as qos
use Rattle.sng_frames.specs.declared.messages.publish.Publish.{Publish}
use Rattle.sng_book.specs.declared.address.Address.{Address}
use Rattle.sng_book.specs.declared.decision.Decision.{Decision}
use Rattle.sng_book.specs.declared.decision.Decision.TheVariants as note
use Rattle.sng_book.specs.declared.decision.Who.TheVariants as who
use Rattle.sng_book.specs.declared.outcome.Denial.{Denial}
use Rattle.sng_book.specs.declared.outcome.Denial.TheVariants.{Form, Grant}
use Rattle.sng_book.specs.declared.outcome.FormDenial.TheVariants.{OutOfTurn}
use Rattle.sng_book.specs.declared.outcome.GrantDenial.TheVariants.{NoScope}
use Rattle.sng_book.specs.declared.outcome.Outcome.{Outcome}
use Rattle.sng_book.specs.declared.outcome.Outcome.TheVariants.{Allowed, Denied}
use Rattle.sng_book.specs.declared.out.Out.TheVariants.{Note}
use Rattle.sng_book.specs.declared.row.Row.{Row}
use Rattle.sng_history.specs.Causes.{ByMessage, ToPublish}
use Rattle.sng_history.specs.Clients.{Client, is_here, note_by, notes_by, is_drained}
use Rattle.sng_history.specs.State.{State, qos_of}
use Rattle.sng_history.specs.Standing.{Release}
use Rattle.sng_history.specs.Verdicts.{is_active, may_ask, name_in, room, once_room, publish_ask, publish_by}
use Rattle.sng_history.specs.Verdicts.{publish_named, publish_once_by, publish_once_named}
use Rattle.sng_history.specs.Whole.{spell, replied, stranger_to, drops, frame_row, drained_outs}
use Rattle.sng_history.specs.Steps.{notes_for}
use Rattle.sng_laws.specs.Views.{last_policy, is_up}
use Rattle.sng_laws.specs.Views.{last_limits}
use Rattle.sng_laws.specs.ViewsMessages.{is_exactly_once}
use Rattle.sng_laws.specs.ViewsHanding.{names_known}
use Rattle.sng_laws.specs.ViewsClients.{names_told, those_at}
use Rattle.sng_laws.specs.ViewsOpenIds.{open_of}
use Rattle.sng_laws.specs.ViewsLink.{waiting}
use Rattle.sng_laws.specs.LawsState.{ClientShown}
use Rattle.sng_laws.specs.ViewsFlight.{in_flight}
use Rattle.sng_laws.specs.LawsRules.{Rule, judged}
use Rattle.sng_laws.specs.LawsAnswers.{answer_to}
use Rattle.sng_laws.specs.LawsAsks as asks
use Rattle.sng_laws.specs.LawsAsks.{name_meant, is_acknowledged, unacknowledged, asked_answer}
use Rattle.sng_laws.specs.LawsAsks.{session_rules, puback, publish_stranger}
use Rattle.sng_laws.specs.LawsAsks.{publish_answer}
use Rattle.sng_history.proofs.Asks.{of_publish}
use Rattle.sng_history.proofs.Places.{here_is}
use Rattle.sng_promise.proofs.Clients.SeenClients.{heard_if}
use Rattle.sng_promise.proofs.Names.Marked.{marked}
use Rattle.sng_promise.proofs.Clients.SeenOrder.{StateShown}
use Rattle.sng_promise.proofs.Clients.SeenState.{Stands}
use Rattle.sng_promise.proofs.Clients.LawHere.{row_answer, each_part, settled}
use Rattle.sng_promise.proofs.Answers.LawUnsupported.{by_cause, code_same}
use Rattle.sng_promise.proofs.Answers.LawPings.{active_same}
use Rattle.sng_promise.proofs.Answers.LawPublishVerdicts.{load_same, type_table, type_judged, said_of}
use Rattle.sng_promise.proofs.Answers.LawPublishVerdicts.{is_crowded, room_table, room_free}
use Rattle.sng_grants.specs.declared.policy.Policy.{Policy}

-- ---- the note

-- an ask by what stands before the name is read
abbrev pub ask_by : State → Client → Publish → Outcome → Outcome → Decision
ask_by s x p more Allowed = said_of s x more (name_in s.policy (Some x.ids) p.flags.id_type p.topic_id)
ask_by s x p more (Denied rule) = note.Publish (who.Client x.id) None (Denied rule)

named_is : (s : State) (x : Client) (p : Publish) (named : Result (List ℕ) Denial)
    → publish_named s x (qos_of p.flags.qos) named ≡ said_of s x (room s (qos_of p.flags.qos)) named
named_is s x p (Ok name) = refl
named_is s x p (Err rule) = refl

publish_is : (s : State) (x : Client) (p : Publish) (may : Outcome)
    → publish_by s x p may ≡ ask_by s x p (room s (qos_of p.flags.qos)) may
publish_is s x p Allowed = named_is s x p (name_in s.policy (Some x.ids) p.flags.id_type p.topic_id)
publish_is s x p (Denied rule) = refl

once_named : (s : State) (x : Client) (p : Publish) (named : Result (List ℕ) Denial)
    → publish_once_named s x p named ≡ said_of s x (once_room s x p) named
once_named s x p (Ok name) = refl
once_named s x p (Err rule) = refl

pub once_is : (s : State) (x : Client) (p : Publish) (may : Outcome)
    → publish_once_by s x p may ≡ ask_by s x p (once_room s x p) may
once_is s x p Allowed = once_named s x p (name_in s.policy (Some x.ids) p.flags.id_type p.topic_id)
once_is s x p (Denied rule) = refl

asked_said : (s : State) (x : Client) (told knows : List (List ℕ)) (p : Publish) (more : Outcome)
    (rest : List Rule) (a l : Bool)
    → is_active x.phase ≡ a
    → lists s.policy x.id ≡ l → x.ids ≡ marked told knows → more ≡ judged rest
    → ask_by s x p more (may_ask s.policy x)
    ≡ note.Publish (who.Client x.id)
    (if a && l then name_meant s.policy told p.flags.id_type p.topic_id else None)
    (judged ((not a, Form OutOfTurn) ∷ (not l, Grant (NoScope x.id))
    ∷ type_table s x.id told p.flags.id_type p.topic_id rest))
asked_said s x told knows p more rest false l active listed is room = rw active refl
asked_said s x told knows p more rest true false active listed is room = rw (active, listed) refl
asked_said s x told knows p more rest true true active listed is room =
    rw (active, listed, is) (type_judged s x told knows p.flags.id_type p.topic_id more rest listed room)

-- what of the room forbids it, as the rows show it
abbrev pub room_shown : List Row → List ℕ → Publish → List Rule
room_shown h id p =
    room_table (is_up h) (is_exactly_once p.flags.qos && not (nat_lt (length (open_of id h)) MAX_OPEN_IDS))
    (is_acknowledged p.flags.qos && not (nat_lt (unacknowledged h) (flight_limit (last_limits h))))
    (nat_lt (length (waiting h)) (last_limits h).waiting)

-- the verdict on a PUBLISH, as the rows show it
pub asked_judged : (h : List Row) (s : State) (x : Client) (p : Publish) (more : Outcome) → StateShown h s
    → ClientShown h x → more ≡ judged (room_shown h x.id p)
    → ask_by s x p more (may_ask s.policy x)
    ≡ note.Publish (who.Client x.id)
    (if asks.may_ask h x.id then name_meant (last_policy h) (names_told x.id h) p.flags.id_type p.topic_id
    else None)
    (judged (session_rules h x.id p))
asked_judged h s x p more shown is room =
    let told = names_told x.id h in
    rw (is.phase, sym (active_same x.phase), sym shown.policy)
    (asked_said s x told (names_known x.id h) p more (room_shown h x.id p) (is_active x.phase)
    (lists s.policy x.id) refl refl is.ids room)

pub crowded_same : (h : List Row) (s : State) (q : FrameQos) → StateShown h s → s.link.in_flight ≡ in_flight h
    → is_crowded s q ≡ (is_acknowledged q && not (nat_lt (unacknowledged h) (flight_limit (last_limits h))))
crowded_same h s q shown flights =
    ap (λ n. is_acknowledged q && not (nat_lt n (flight_limit s.policy.limits))) (load_same h s shown flights)
    ∙ ap (λ (policy : Policy). is_acknowledged q && not (nat_lt (unacknowledged h) (flight_limit policy.limits)))
    shown.policy

publish_room : (h : List Row) (s : State) (id : List ℕ) (p : Publish) → StateShown h s
    → s.link.in_flight ≡ in_flight h → is_exactly_once p.flags.qos ≡ false
    → room s (qos_of p.flags.qos) ≡ judged (room_shown h id p)
publish_room h s id p shown flights other =
    let limits : s.policy.limits ≡ last_limits h = ap (λ (policy : Policy). policy.limits) shown.policy in
    room_free s p.flags.qos
    ∙ rw (other, crowded_same h s p.flags.qos shown flights, shown.up, shown.waits, limits) refl

publish_judged : (h : List Row) (s : State) (x : Client) (p : Publish) → StateShown h s
    → s.link.in_flight ≡ in_flight h → ClientShown h x → is_exactly_once p.flags.qos ≡ false
    → publish_ask s x p
    ≡ note.Publish (who.Client x.id)
    (if asks.may_ask h x.id then name_meant (last_policy h) (names_told x.id h) p.flags.id_type p.topic_id
    else None)
    (judged (session_rules h x.id p))
publish_judged h s x p shown flights is other =
    publish_is s x p (may_ask s.policy x)
    ∙ asked_judged h s x p (room s (qos_of p.flags.qos)) shown is
    (publish_room h s x.id p shown flights other)

-- ---- at QoS 0 or 1

-- what follows the note
puback_by : (s : State) (from : Address) (p : Publish) (y : Client) (name : Option (List ℕ)) (o : Outcome)
    (q : FrameQos) → p.flags.qos ≡ q → is_exactly_once q ≡ false
    → replied (ByMessage from (ToPublish p)) y name o ≡ puback y.address p o
puback_by s from p y name (Denied rule) q is other = rw (code_same rule) refl
puback_by s from p y name Allowed qos.AtMostOnce is other = rw is refl
puback_by s from p y name Allowed qos.AtLeastOnce is other = rw is refl
puback_by s from p y name Allowed qos.ExactlyOnce is other = absurd (let e = other in cc)
puback_by s from p y name Allowed qos.WithoutSession is other = rw is refl

no_repeat : (h : List Row) (from : Address) (p : Publish) (id : List ℕ) → is_exactly_once p.flags.qos ≡ false
    → asked_answer h from p id ≡ publish_answer h from p id
no_repeat h from p id other = rw other refl

publish_there : (h : List Row) (s : State) (from : Address) (p : Publish) (dropped : List Release)
    (x : Client) → StateShown h s
    → s.link.in_flight ≡ in_flight h → ClientShown h x → is_exactly_once p.flags.qos ≡ false
    → spell (by_cause s (ByMessage from (ToPublish p))) dropped (heard_if true s.clock x)
    (publish_ask s x p ∷ [])
    ≡ publish_answer h x.address p x.id
publish_there h s from p dropped x shown flights is other =
    let y : Client = heard_if true s.clock x in
    let name =
    if asks.may_ask h x.id then name_meant (last_policy h)
    (names_told x.id h) p.flags.id_type p.topic_id else None in
    let o = judged (session_rules h x.id p) in
    ap (λ said. spell (by_cause s (ByMessage from (ToPublish p))) dropped y (said ∷ []))
    (publish_judged h s x p shown flights is other)
    ∙ (ap (λ outs. Note (note.Publish (who.Client x.id) name o) ∷ outs)
    (append-nil (replied (ByMessage from (ToPublish p)) y name o)
    ∙ puback_by s from p y name o p.flags.qos refl other)
    ∙ no_repeat h x.address p x.id other)

publish_busy : (s : State) (from : Address) (p : Publish) (x : Client) → is_drained x ≡ false
    → (let a = by_cause s (ByMessage from (ToPublish p)) in
    is_drained (notes_by a (publish_ask s x p ∷ []) (heard_if true s.clock x)))
    ≡ false
publish_busy s from p x busy =
    of_publish (λ said. is_drained
    (note_by (by_cause s (ByMessage from (ToPublish p))) said (heard_if true s.clock x)) ≡ false) s x p
    (λ name o. busy)

publish_part : (h : List Row) (s : State) (from : Address) (p : Publish) (dropped : List Release) (x : Client)
    (b : Bool) → StateShown h s
    → s.link.in_flight ≡ in_flight h → ClientShown h x → is_exactly_once p.flags.qos ≡ false
    → is_drained x ≡ false → (b ≡ true → x.address ≡ from)
    → let a = by_cause s (ByMessage from (ToPublish p)) in
    let notes = if b then publish_ask s x p ∷ [] else [] in
    (if b then [] else []) ++ (spell a dropped (heard_if b s.clock x) notes
    ++ drained_outs (notes_by a notes (heard_if b s.clock x)))
    ≡ (if b then publish_answer h from p x.id else [])
publish_part h s from p dropped x true shown flights is other busy at =
    let a = by_cause s (ByMessage from (ToPublish p)) in
    let notes = publish_ask s x p ∷ [] in
    settled (spell a dropped (heard_if true s.clock x) notes) (notes_by a notes (heard_if true s.clock x))
    (publish_busy s from p x busy)
    ∙ (publish_there h s from p dropped x shown flights is other
    ∙ ap (λ to. publish_answer h to p x.id) (at refl))
publish_part h s from p dropped x false shown flights is other busy at = settled [] x busy

pub publish_row : (h : List Row) (s : State) (from : Address) (p : Publish) → Stands h s
    → s.link.in_flight ≡ in_flight h → is_exactly_once p.flags.qos ≡ false
    → let c = ByMessage from (ToPublish p) in
    frame_row s c (stranger_to from (ToPublish p)) (notes_for s c)
    ≡ answer_to (publish_stranger from) (publish_answer h from p)
    (those_at from h)
publish_row h s from p st flights other =
    let c = ByMessage from (ToPublish p) in
    row_answer h s from c (stranger_to from (ToPublish p)) (publish_answer h from p) st.shown (λ x. refl)
    (each_part h s from c (publish_answer h from p) st
    (λ x is rest. publish_part h s from p (drops s c (notes_for s c)) x
    (is_here x from) st.shown flights is other rest.busy (here_is x from)))
