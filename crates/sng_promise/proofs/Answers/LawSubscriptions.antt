-- A SUBSCRIBE is judged by the law's table, and answered so.
use Rattle.std.proofs.Common.{◌≡◌, ℕ, Bool, true, false, List, [], ◌∷◌, ◌++◌, length, refl, ap, sym, ◌∙◌}
use Rattle.std.proofs.Common.{if◌then◌else◌, Ok, Err}
use Rattle.std.specs.Prelude.{◌&&◌, not, nat_lt, Option, Some, None}
use Rattle.std.specs.declared.result.Result.{Result}
use Rattle.std.proofs.lemmas.List.{append-nil}
use Rattle.sng_text.specs.Texts.{is_filter}
use Rattle.sng_grants.specs.declared.policy.Policy.{Policy}
use Rattle.sng_policy.specs.Grants.{lists}
use Rattle.sng_fan.specs.Subscriptions.{stands, is_full}
use Rattle.sng_fan.specs.declared.limits.TheConstants.{MAX_SUBSCRIPTIONS}
use Rattle.sng_ids.specs.Ids.{Ids, is_full_for}
use Rattle.sng_ids.specs.declared.limits.TheConstants.{MAX_TOPIC_IDS}
use Rattle.sng_frames.specs.declared.flags.TopicIdType.{TopicIdType}
use Rattle.sng_frames.specs.declared.flags.TopicIdType.TheVariants.{Normal, Predefined, Short, Reserved}
use Rattle.sng_frames.specs.declared.messages.subscribe.TopicRequest.{TopicRequest}
use Rattle.sng_frames.specs.declared.qos.FrameQos.{FrameQos}
use Rattle.sng_frames.specs.declared.qos.FrameQos.TheVariants as qos
use Rattle.sng_book.specs.declared.address.Address.{Address}
use Rattle.sng_book.specs.declared.decision.Decision.TheVariants as note
use Rattle.sng_book.specs.declared.decision.Who.TheVariants as who
use Rattle.sng_book.specs.declared.outcome.Place.TheVariants as place
use Rattle.sng_book.specs.declared.outcome.Denial.{Denial}
use Rattle.sng_book.specs.declared.outcome.Denial.TheVariants.{Form, Grant, Room}
use Rattle.sng_book.specs.declared.outcome.FormDenial.TheVariants.{OutOfTurn}
use Rattle.sng_book.specs.declared.outcome.GrantDenial.TheVariants.{NoScope}
use Rattle.sng_book.specs.declared.outcome.RoomDenial.TheVariants.{UpstreamDown, Full}
use Rattle.sng_book.specs.declared.outcome.Outcome.{Outcome}
use Rattle.sng_book.specs.declared.outcome.Outcome.TheVariants.{Allowed, Denied}
use Rattle.sng_book.specs.declared.out.Out.TheVariants.{Note}
use Rattle.sng_book.specs.declared.row.Row.{Row}
use Rattle.sng_history.specs.Causes.{ByMessage, ToSubscribe}
use Rattle.sng_history.specs.Requests.{granted, gets_id}
use Rattle.sng_history.specs.Clients as clients
use Rattle.sng_history.specs.Clients.{Client, is_here, note_by}
use Rattle.sng_history.specs.Clients.{notes_by, is_drained}
use Rattle.sng_history.specs.Standing.{Release}
use Rattle.sng_history.specs.State.{State}
use Rattle.sng_history.specs.Verdicts.{and_then, is_active, filter_in, subscribe_room, subscribe_named}
use Rattle.sng_history.specs.Verdicts.{subscribe_ask}
use Rattle.sng_history.specs.Answers.{flags_of, id_given}
use Rattle.sng_history.specs.Whole.{spell, drained_outs, replied, granted_to, stranger_to, drops, frame_row}
use Rattle.sng_history.specs.Steps.{notes_for}
use Rattle.sng_laws.specs.Views.{last_policy}
use Rattle.sng_laws.specs.Views.{last_limits}
use Rattle.sng_laws.specs.ViewsHanding.{names_known}
use Rattle.sng_laws.specs.ViewsClients.{phase_of, tells_id, names_told, is_among, those_at}
use Rattle.sng_laws.specs.ViewsStanding.{standing_of}
use Rattle.sng_laws.specs.LawsState.{ClientShown}
use Rattle.sng_laws.specs.LawsRules.{Rule, judged}
use Rattle.sng_laws.specs.LawsAnswers as laws
use Rattle.sng_laws.specs.LawsAnswers.{answer_to, or_empty}
use Rattle.sng_laws.specs.LawsHanding.{unset}
use Rattle.sng_laws.specs.LawsAsks as asks
use Rattle.sng_laws.specs.LawsSubscriptions.{filter_meant, if_filter, form_rules, gap_rule, room_rules}
use Rattle.sng_laws.specs.LawsSubscriptions.{subscribe_rules, qos_granted, id_granted, suback}
use Rattle.sng_laws.specs.LawsSubscriptions.{subscribe_stranger, subscribe_answer}
use Rattle.sng_history.proofs.Asks.{of_subscribe}
use Rattle.sng_history.proofs.Places.{here_is}
use Rattle.sng_promise.proofs.Clients.SeenClients.{heard_if}
use Rattle.sng_promise.proofs.Names.Marked.{marked, id_marked, full_marked}
use Rattle.sng_promise.proofs.Names.SeenIds.{gets_same}
use Rattle.sng_promise.proofs.Clients.SeenOrder.{StateShown}
use Rattle.sng_promise.proofs.Clients.SeenState.{Stands}
use Rattle.sng_promise.proofs.Clients.LawHere.{row_answer, each_part, settled}
use Rattle.sng_promise.proofs.Answers.LawUnsupported.{code_same}
use Rattle.sng_promise.proofs.Answers.LawUnsupported.{by_cause}
use Rattle.sng_promise.proofs.Answers.LawPings.{active_same}
use Rattle.sng_promise.proofs.Answers.LawRegisters.{most_by}
use Rattle.sng_promise.proofs.Answers.LawForms.{gap_judged, read_as, verdict_as, number_same, read}
use Rattle.sng_promise.proofs.Answers.LawForms.{form_meant}
use Rattle.sng_promise.proofs.Answers.LawForms.{judged_both}

-- ---- a SUBSCRIBE

room_by : (u g f p : Bool)
    → (if u then (if g then Denied (Room (Full place.Ids))
    else (if f then Denied (Room (Full place.Subscriptions))
    else (if p then Allowed else Denied (Room (Full place.Outbox))))) else Denied (Room UpstreamDown))
    ≡ judged ((not u, Room UpstreamDown) ∷ (g, Room (Full place.Ids)) ∷ (f, Room (Full place.Subscriptions))
    ∷ (not p, Room (Full place.Outbox)) ∷ [])
room_by false g f p = refl
room_by true g f true = refl
room_by true g f false = refl

room_judged : (h : List Row) (s : State) (x : Client) (r : TopicRequest) (text : List ℕ) → StateShown h s
    → ClientShown h x
    → subscribe_room s x r text ≡ judged (room_rules h x.id r.flags.id_type text)
room_judged h s x r text shown is =
    let told = names_told x.id h in
    let held = standing_of x.id h in
    let full : (gets_id r.flags.id_type text && is_full_for text x.ids)
    ≡ (tells_id r.flags.id_type text
    && (not (is_among text told) && not (nat_lt (length told) MAX_TOPIC_IDS))) =
    ap (λ b. b && is_full_for text x.ids) (gets_same r.flags.id_type text)
    ∙ ap (λ b. tells_id r.flags.id_type text && b)
    (ap (is_full_for text) is.ids ∙ full_marked text told (names_known x.id h)) in
    let crowded : is_full x.filters text
    ≡ (not (stands held text) && not (nat_lt (length held) MAX_SUBSCRIPTIONS)) =
    ap (λ all. is_full all text) is.filters
    ∙ ap (λ b. not (stands held text) && b) (most_by (length held) MAX_SUBSCRIPTIONS) in
    let limits : s.policy.limits ≡ last_limits h = ap (λ (policy : Policy). policy.limits) shown.policy in
    room_by s.up (gets_id r.flags.id_type text && is_full_for text x.ids) (is_full x.filters text)
    (nat_lt (length s.link.waiting) s.policy.limits.waiting)
    ∙ rw (full, crowded, shown.up, shown.waits, limits) refl

-- a client that may ask
named_judged : (h : List Row) (s : State) (x : Client) (r : TopicRequest) (named : Result (List ℕ) Denial)
    → StateShown h s
    → ClientShown h x → lists s.policy x.id ≡ true
    → read_as named ≡ filter_meant s.policy r.flags.id_type r.topic
    → verdict_as named ≡ judged (form_rules s.policy r)
    → let text = or_empty (filter_meant s.policy r.flags.id_type r.topic) in
    subscribe_named s x r named
    ≡ note.Subscribe (who.Client x.id) (filter_meant s.policy r.flags.id_type r.topic)
    (judged (form_rules s.policy r ++ gap_rule s.policy x.id text ∷ room_rules h x.id r.flags.id_type text))
named_judged h s x r (Ok text) shown is listed meant ruled =
    let more = gap_rule s.policy x.id text ∷ room_rules h x.id r.flags.id_type text in
    rw (sym meant)
    (ap (note.Subscribe (who.Client x.id) (Some text))
    (ap (λ o. and_then o (subscribe_room s x r text)) (gap_judged s.policy x.id text listed)
    ∙ (ap (and_then (judged (gap_rule s.policy x.id text ∷ []))) (room_judged h s x r text shown is)
    ∙ (sym (judged_both (gap_rule s.policy x.id text ∷ []) (room_rules h x.id r.flags.id_type text))
    ∙ sym (judged_both (form_rules s.policy r) more ∙ ap (λ o. and_then o (judged more)) (sym ruled))))))
named_judged h s x r (Err rule) shown is listed meant ruled =
    let more = gap_rule s.policy x.id [] ∷ room_rules h x.id r.flags.id_type [] in
    rw (sym meant) (ap (note.Subscribe (who.Client x.id) None)
    (sym (judged_both (form_rules s.policy r) more ∙ ap (λ o. and_then o (judged more)) (sym ruled))))

subscribe_said : (h : List Row) (s : State) (x : Client) (r : TopicRequest) (a l : Bool) → StateShown h s
    → ClientShown h x
    → is_active x.phase ≡ a → lists s.policy x.id ≡ l
    → let text = filter_meant s.policy r.flags.id_type r.topic in
    subscribe_ask s x r
    ≡ note.Subscribe (who.Client x.id) (if a && l then text else None)
    (judged ((not a, Form OutOfTurn) ∷ (not l, Grant (NoScope x.id)) ∷
    (form_rules s.policy r ++ gap_rule s.policy x.id (or_empty text)
    ∷ room_rules h x.id r.flags.id_type (or_empty text))))
subscribe_said h s x r false l shown is active listed = rw active refl
subscribe_said h s x r true false shown is active listed = rw (active, listed) refl
subscribe_said h s x r true true shown is active listed =
    let known = read s.policy r.flags.id_type r.topic in
    rw (active, listed) (named_judged h s x r
    (filter_in s.policy r.flags.id_type r.topic) shown is listed known.meant known.ruled)

subscribe_judged : (h : List Row) (s : State) (x : Client) (r : TopicRequest) → StateShown h s
    → ClientShown h x
    → subscribe_ask s x r
    ≡ note.Subscribe (who.Client x.id)
    (if asks.may_ask h x.id then filter_meant (last_policy h) r.flags.id_type r.topic else None)
    (judged (subscribe_rules h x.id r))
subscribe_judged h s x r shown is =
    rw (is.phase, sym (active_same x.phase), sym shown.policy)
    (subscribe_said h s x r (is_active x.phase) (lists s.policy x.id) shown is refl refl)

-- what follows the note
qos_same : (q : FrameQos) → flags_of (granted q) ≡ record unset { qos = qos_granted q }
qos_same qos.AtMostOnce = refl
qos_same qos.AtLeastOnce = refl
qos_same qos.ExactlyOnce = refl
qos_same qos.WithoutSession = refl

text_same : (octets text : List ℕ) (b : Bool) → is_filter octets ≡ b → if_filter (Some octets) ≡ Some text
    → text ≡ octets
text_same octets text true is meant = let e : Some octets ≡ Some text = rw is at meant in sym (injective e)
  where
    injective : Some octets ≡ Some text → octets ≡ text
    injective e = cc
text_same octets text false is meant = let e = rw is at meant in absurd cc

id_same : (policy : Policy) (type : TopicIdType) (octets text : List ℕ) (ids : Ids)
    (told knows : List (List ℕ))
    → filter_meant policy type octets ≡ Some text → ids ≡ marked told knows
    → id_given type octets ids text ≡ id_granted told type octets
id_same policy Normal octets text ids told knows meant is =
    rw (text_same octets text (is_filter octets) refl meant, is, id_marked octets told knows) refl
id_same policy Predefined octets text ids told knows meant is = number_same octets
id_same policy Short octets text ids told knows meant is = refl
id_same policy Reserved octets text ids told knows meant is = refl

suback_by : (policy : Policy) (r : TopicRequest) (y : Client) (told knows : List (List ℕ)) (text : List ℕ)
    → filter_meant policy r.flags.id_type r.topic ≡ Some text → y.ids ≡ marked told knows
    → granted_to (ToSubscribe r) y (Some text)
    ≡ suback y.address (id_granted told r.flags.id_type r.topic) r Allowed ∷ []
suback_by policy r y told knows text meant is =
    rw (id_same policy r.flags.id_type r.topic text y.ids told knows meant is, qos_same r.flags.qos) refl

-- where it is allowed it may ask and is well formed
pub allowed_form : (a l : Bool) (id : List ℕ) (form more : List Rule)
    → judged ((not a, Form OutOfTurn) ∷ (not l, Grant (NoScope id)) ∷ (form ++ more)) ≡ Allowed
    → ((a && l) ≡ true) × (judged form ≡ Allowed)
allowed_form false l id form more is = absurd (let e = is in cc)
allowed_form true false id form more is = absurd (let e = is in cc)
allowed_form true true id form more is =
    (refl, first (judged form) (judged more) (sym (judged_both form more) ∙ is))
  where
    first : (one two : Outcome) → and_then one two ≡ Allowed → one ≡ Allowed
    first Allowed two e = refl
    first (Denied rule) two e = absurd cc

replied_as : (h : List Row) (s : State) (from : Address) (r : TopicRequest) (x y : Client) (o : Outcome)
    → judged (subscribe_rules h x.id r) ≡ o → y.ids ≡ marked (names_told x.id h) (names_known x.id h)
    → replied (ByMessage from (ToSubscribe r)) y
    (if asks.may_ask h x.id then filter_meant (last_policy h) r.flags.id_type r.topic else None) o
    ≡ suback y.address (id_granted (names_told x.id h) r.flags.id_type r.topic) r o ∷ []
replied_as h s from r x y (Denied rule) is ids = rw (code_same rule) refl
replied_as h s from r x y Allowed is ids =
    let policy = last_policy h in
    let text = or_empty (filter_meant policy r.flags.id_type r.topic) in
    let may =
    allowed_form (laws.is_active (phase_of x.id h)) (lists policy x.id) x.id (form_rules policy r)
    (gap_rule policy x.id text ∷ room_rules h x.id r.flags.id_type text) is in
    let meant = form_meant policy r may.1 in
    ap (λ b. granted_to (ToSubscribe r) y (if b then filter_meant policy r.flags.id_type r.topic else None))
    may.0
    ∙ (ap (granted_to (ToSubscribe r) y) meant.1
    ∙ suback_by policy r y (names_told x.id h) (names_known x.id h) meant.0 meant.1 ids)

subscribe_there : (h : List Row) (s : State) (from : Address) (r : TopicRequest) (dropped : List Release)
    (x : Client) → StateShown h s
    → ClientShown h x
    → spell (by_cause s (ByMessage from (ToSubscribe r))) dropped (heard_if true s.clock x)
    (subscribe_ask s x r ∷ [])
    ≡ subscribe_answer h x.address r x.id
subscribe_there h s from r dropped x shown is =
    let c = ByMessage from (ToSubscribe r) in
    let y : Client = heard_if true s.clock x in
    let text =
    if asks.may_ask h x.id then filter_meant (last_policy h) r.flags.id_type r.topic else None in
    let o = judged (subscribe_rules h x.id r) in
    ap (λ said. spell (by_cause s c) dropped y (said ∷ [])) (subscribe_judged h s x r shown is)
    ∙ ap (λ outs. Note (note.Subscribe (who.Client x.id) text o) ∷ outs)
    (append-nil (replied c y text o) ∙ replied_as h s from r x y o refl is.ids)

-- the note moves no more than the filters of the client
subscribed_busy : (r : Option TopicRequest) (filter : Option (List ℕ)) (o : Outcome) (x : Client)
    → is_drained x ≡ false
    → is_drained (clients.subscribed r filter o x) ≡ false
subscribed_busy None filter o x busy = busy
subscribed_busy (Some r) None o x busy = busy
subscribed_busy (Some r) (Some filter) Allowed x busy = busy
subscribed_busy (Some r) (Some filter) (Denied rule) x busy = busy

subscribe_busy : (s : State) (from : Address) (r : TopicRequest) (x : Client) → is_drained x ≡ false
    → (let a = by_cause s (ByMessage from (ToSubscribe r)) in
    is_drained (notes_by a (subscribe_ask s x r ∷ []) (heard_if true s.clock x)))
    ≡ false
subscribe_busy s from r x busy =
    let a = by_cause s (ByMessage from (ToSubscribe r)) in
    of_subscribe (λ said. is_drained (note_by a said (heard_if true s.clock x)) ≡ false) s x r
    (λ filter o. subscribed_busy (Some r) filter o (heard_if true s.clock x) busy)

subscribe_part : (h : List Row) (s : State) (from : Address) (r : TopicRequest) (dropped : List Release)
    (x : Client) (b : Bool)
    → StateShown h s → ClientShown h x → is_drained x ≡ false → (b ≡ true → x.address ≡ from)
    → let a = by_cause s (ByMessage from (ToSubscribe r)) in
    let notes = if b then subscribe_ask s x r ∷ [] else [] in
    (if b then [] else []) ++ (spell a dropped (heard_if b s.clock x) notes
    ++ drained_outs (notes_by a notes (heard_if b s.clock x)))
    ≡ (if b then subscribe_answer h from r x.id else [])
subscribe_part h s from r dropped x true shown is busy at =
    let a = by_cause s (ByMessage from (ToSubscribe r)) in
    let notes = subscribe_ask s x r ∷ [] in
    settled (spell a dropped (heard_if true s.clock x) notes) (notes_by a notes (heard_if true s.clock x))
    (subscribe_busy s from r x busy)
    ∙ (subscribe_there h s from r dropped x shown is ∙ ap (λ to. subscribe_answer h to r x.id) (at refl))
subscribe_part h s from r dropped x false shown is busy at = settled [] x busy

pub subscribe_row : (h : List Row) (s : State) (from : Address) (r : TopicRequest) → Stands h s
    → let c = ByMessage from (ToSubscribe r) in
    frame_row s c (stranger_to from (ToSubscribe r)) (notes_for s c)
    ≡ answer_to (subscribe_stranger from) (subscribe_answer h from r)
    (those_at from h)
subscribe_row h s from r st =
    let c = ByMessage from (ToSubscribe r) in
    row_answer h s from c (stranger_to from (ToSubscribe r)) (subscribe_answer h from r) st.shown (λ x. refl)
    (each_part h s from c (subscribe_answer h from r) st
    (λ x is rest. subscribe_part h s from r (drops s c (notes_for s c)) x
    (is_here x from) st.shown is rest.busy (here_is x from)))
