-- No SUBSCRIBE is owed where each policy lets in no more clients than have room for an open one of each filter.
use Rattle.std.proofs.Common.{◌≡◌, ℕ, ◌+◌, ◌*◌, ◌≤◌, ◌<◌, Bool, true, false, List, [], ◌∷◌, ◌++◌, length}
use Rattle.std.proofs.Common.{refl, ap, sym, ◌∙◌, subst, length-append}
use Rattle.std.proofs.Common.{if◌then◌else◌, arith}
use Rattle.std.proofs.Common.{Ok, Err}
use Rattle.std.proofs.Common.{◌↔◌}
use Rattle.std.specs.Prelude.{not, ◌&&◌, ◌||◌, nat_le, nat_lt, Option, Some, None, is_some}
use Rattle.std.specs.Str.{bytes_eq}
use Rattle.std.proofs.lemmas.Bool.Decides.{nat_tests}
use Rattle.std.proofs.lemmas.List.{append-nil, length-map}
use Rattle.sng_grants.specs.declared.policy.Policy.{Policy}
use Rattle.sng_frames.specs.declared.messages.connect.Connect.{Connect}
use Rattle.sng_outbox.specs.declared.item.Item.{Item}
use Rattle.sng_outbox.specs.declared.item.Item.TheVariants as item
use Rattle.sng_book.specs.Denials.{is_allowed}
use Rattle.sng_book.specs.declared.event.Event.{Event}
use Rattle.sng_book.specs.declared.event.Event.TheVariants.{Datagram, Broker, Up, Down, Take, Replace, Tick}
use Rattle.sng_book.specs.declared.outcome.Denial.TheVariants.{Room}
use Rattle.sng_book.specs.declared.outcome.Outcome.{Outcome}
use Rattle.sng_book.specs.declared.outcome.Outcome.TheVariants.{Allowed, Denied}
use Rattle.sng_book.specs.declared.row.Row.{Row}
use Rattle.sng_history.specs.Causes.{Cause, cause_of}
use Rattle.sng_history.specs.Causes.{ByConnect, ByMessage, BySource, ByBroken, ByPacket, ByUp, ByDown, ByTake}
use Rattle.sng_history.specs.Causes.{ByReplace, ByTick}
use Rattle.sng_history.specs.Causes.{publish_cause, datagram_cause}
use Rattle.sng_history.specs.Clients.{blank}
use Rattle.sng_history.specs.Good.{Good}
use Rattle.sng_history.specs.Lawful.{Lawful, exits_for}
use Rattle.sng_history.specs.Links.{Link, Wanted, wants, may_open, open_id, open_ids}
use Rattle.sng_history.specs.Links.{exited, filters_wanted, link_after, next_packet_id, resumed, subscribe_left}
use Rattle.sng_history.specs.Links.{subscribe_sent, subscribes_sent, unsubscribe_left, outgoing}
use Rattle.sng_history.specs.Packets.{answer_of}
use Rattle.sng_history.specs.State.{State, is_known, later, link_moved, opening, policy_by, state_of}
use Rattle.sng_history.specs.Steps.{client_next, newcomers_for, next_by}
use Rattle.sng_history.specs.Verdicts.{client_scope, entry, entry_form, entry_room}
use Rattle.sng_history.specs.Verdicts.{and_then}
use Rattle.sng_history.specs.declared.limits.TheConstants.{MAX_OPEN_SUBSCRIBES}
use Rattle.sng_fan.specs.declared.limits.TheConstants.{MAX_SUBSCRIPTIONS}
use Rattle.sng_laws.specs.LawsUpstream.{AllFewClients, IsSame, IsSameOrOwed, NoneOwed, has_few_clients}
use Rattle.sng_laws.specs.LawsUpstream.{is_kept}
use Rattle.sng_laws.specs.ViewsWanted.{is_upstream}
use Rattle.sng_history.proofs.Booleans.{and_no, or_neither, or_right}
use Rattle.sng_history.proofs.FewWanted.{few_wanted}
use Rattle.sng_history.proofs.WaitingAcks.{allowed_second}
use Rattle.sng_history.proofs.WantedKept.{SameFilters, or_no, same_wants, sent_filters, ticked_wanted}
use Rattle.sng_promise.proofs.Clients.SeenState.{stands}
use Rattle.sng_promise.proofs.WantedFilters.UpstreamDebts.{is_opened}
use Rattle.sng_promise.proofs.WantedFilters.UpstreamLeaving.{EachWanted, exited_wanted, still_each}
use Rattle.sng_promise.proofs.WantedFilters.UpstreamMarks.{answered_owes, owes_next}
use Rattle.sng_promise.proofs.WantedFilters.UpstreamOpen.{each_among}
use Rattle.sng_promise.proofs.WantedFilters.UpstreamSpeaks.{none_owes, opened_owes, owes}
use Rattle.sng_promise.proofs.WantedFilters.UpstreamTold.{next_is}
use Rattle.sng_promise.proofs.WantedFilters.UpstreamWanted.{wanted_shown}
use Rattle.sng_history.specs.Exits.{exits_of}
use Rattle.sng_frames.specs.Reading.{frame_of}
use Rattle.sng_frames.specs.declared.fault.FrameFault.{FrameFault}
use Rattle.std.specs.declared.result.Result.{Result}
use Rattle.sng_frames.specs.declared.qos.FrameQos.{FrameQos}
use Rattle.sng_frames.specs.declared.frame.SnFrame.{SnFrame}
use Rattle.sng_book.specs.declared.address.Address.{Address}
use Rattle.sng_book.specs.declared.outcome.Place.TheVariants as place
use Rattle.sng_frames.specs.declared.frame.SnFrame.TheVariants as frame
use Rattle.sng_frames.specs.declared.qos.FrameQos.TheVariants as qos
use Rattle.sng_frames.specs.declared.messages.publish.Publish.{Publish}
use Rattle.sng_book.specs.declared.outcome.RoomDenial.TheVariants.{Full}

-- ---- a SUBSCRIBE may be open

abbrev opens : List Wanted → ℕ
opens wanted = length (open_ids wanted)

one_more : (o : Option ℕ) (rest : List ℕ) → length (open_id o ++ rest) ≤ length rest + 1
one_more None rest = omega arith
one_more (Some packet_id) rest = omega arith

none_more : (o : Option ℕ) (rest : List ℕ) → is_some o ≡ false → length (open_id o ++ rest) ≡ length rest
none_more None rest is = refl
none_more (Some packet_id) rest is = absurd cc

opens_most : (wanted : List Wanted) → opens wanted ≤ length wanted
opens_most [] = omega arith
opens_most (w ∷ wanted) = omega (arith, one_more w.open_id (open_ids wanted), opens_most wanted)

fewer_by : (w : Wanted) (wanted : List Wanted) (text : List ℕ) (b : Bool) → bytes_eq text w.filter ≡ b
    → is_opened (w ∷ wanted) text ≡ false → wants (w ∷ wanted) text ≡ true
    → (is_opened wanted text ≡ false → wants wanted text ≡ true → opens wanted + 1 ≤ length wanted)
    → opens (w ∷ wanted) + 1 ≤ length (w ∷ wanted)
fewer_by w wanted text true same none is later =
    let both =
    or_neither (is_some w.open_id) (is_opened wanted text)
    (ap (λ b. (b && is_some w.open_id) || is_opened wanted text) (sym same) ∙ none) in
    omega (arith, none_more w.open_id (open_ids wanted) both.0, opens_most wanted)
fewer_by w wanted text false same none is later =
    let rest_none : is_opened wanted text ≡ false =
    ap (λ b. (b && is_some w.open_id) || is_opened wanted text) (sym same) ∙ none in
    let rest_is : wants wanted text ≡ true = ap (λ b. b || wants wanted text) (sym same) ∙ is in
    omega (arith, one_more w.open_id (open_ids wanted), later rest_none rest_is)

-- a wanted filter without one leaves room for its own
opens_fewer : (wanted : List Wanted) (text : List ℕ) → is_opened wanted text ≡ false
    → wants wanted text ≡ true → opens wanted + 1 ≤ length wanted
opens_fewer [] text none is = absurd (let bad : false ≡ true = is in cc)
opens_fewer (w ∷ wanted) text none is =
    fewer_by w wanted text (bytes_eq text w.filter) refl none is
    (λ rest_none rest_is. opens_fewer wanted text rest_none rest_is)

is_less : (n m : ℕ) → n + 1 ≤ m → nat_lt n m ≡ true
is_less n m less = grind (arith, nat_tests, less)

or_first : (a b : Bool) → a ≡ true → (a || b) ≡ true
or_first true b is = refl
or_first false b is = absurd cc

may_always : (wanted : List Wanted) (text : List ℕ) → length wanted ≤ MAX_OPEN_SUBSCRIBES
    → wants wanted text ≡ true → may_open wanted text ≡ true
may_always wanted text few is = by_open (is_opened wanted text) refl
  where
    by_open : (b : Bool) → is_opened wanted text ≡ b → may_open wanted text ≡ true
    by_open true there = or_right (nat_lt (opens wanted) MAX_OPEN_SUBSCRIBES) (is_opened wanted text) there
    by_open false there =
        or_first (nat_lt (opens wanted) MAX_OPEN_SUBSCRIBES) (is_opened wanted text)
        (is_less (opens wanted) MAX_OPEN_SUBSCRIBES (omega (arith, few, opens_fewer wanted text there is)))

-- ---- so none is owed as they leave

abbrev None_owes : Link → Type 0
None_owes link = (text : List ℕ) → owes link.wanted text ≡ false

length_same : (a b : List Wanted) → SameFilters a b → length a ≡ length b
length_same a b same =
    sym (length-map a (λ (w : Wanted). w.filter)) ∙ (ap length same ∙ length-map b (λ (w : Wanted). w.filter))

sent_none : (link : Link) (one : List ℕ) → length link.wanted ≤ MAX_OPEN_SUBSCRIBES
    → wants link.wanted one ≡ true → None_owes link → None_owes (subscribe_sent link one)
sent_none link one few is none text =
    rw (may_always link.wanted one few is)
    (opened_owes link.wanted one text (next_packet_id link)
    ∙ (ap (λ b. not (bytes_eq text one) && b) (none text) ∙ and_no (not (bytes_eq text one))))

sent_few : (link : Link) (one : List ℕ) → length link.wanted ≤ MAX_OPEN_SUBSCRIBES
    → length (subscribe_sent link one).wanted ≤ MAX_OPEN_SUBSCRIBES
sent_few link one few =
    omega (arith, few, length_same (subscribe_sent link one).wanted link.wanted (sent_filters link one))

left_none : (link : Link) (one : List ℕ) (b : Bool) → wants link.wanted one ≡ b
    → length link.wanted ≤ MAX_OPEN_SUBSCRIBES → None_owes link → None_owes (subscribe_left link one)
left_none link one true is few none text = rw is (sent_none link one few is none text)
left_none link one false is few none text = rw is (none text)

left_few : (link : Link) (one : List ℕ) (b : Bool) → wants link.wanted one ≡ b
    → length link.wanted ≤ MAX_OPEN_SUBSCRIBES
    → length (subscribe_left link one).wanted ≤ MAX_OPEN_SUBSCRIBES
left_few link one true is few = rw is (sent_few link one few)
left_few link one false is few = rw is few

unsubscribe_wanted : (link : Link) (one : List ℕ) (b : Bool) → wants link.wanted one ≡ b
    → (unsubscribe_left link one).wanted ≡ link.wanted
unsubscribe_wanted link one true is = rw is refl
unsubscribe_wanted link one false is = rw is refl

after_none : (link : Link) (items : List Item) (outcomes : List Outcome)
    → length link.wanted ≤ MAX_OPEN_SUBSCRIBES
    → None_owes link → None_owes (link_after link items outcomes)
after_none link [] outcomes few none = none
after_none link (item.Publish p ∷ items) [] few none = none
after_none link (item.Publish p ∷ items) (o ∷ outcomes) few none =
    let same = exited_wanted link p o in
    after_none (exited link p o) items outcomes
    (subst (λ (ws : List Wanted). length ws ≤ MAX_OPEN_SUBSCRIBES) (sym same) few)
    (λ text. ap (λ ws. owes ws text) same ∙ none text)
after_none link (item.Subscribe one ∷ items) outcomes few none =
    after_none (subscribe_left link one) items outcomes
    (left_few link one (wants link.wanted one) refl few)
    (left_none link one (wants link.wanted one) refl few none)
after_none link (item.Unsubscribe one ∷ items) outcomes few none =
    let same = unsubscribe_wanted link one (wants link.wanted one) refl in
    after_none (unsubscribe_left link one) items outcomes
    (subst (λ (ws : List Wanted). length ws ≤ MAX_OPEN_SUBSCRIBES) (sym same) few)
    (λ text. ap (λ ws. owes ws text) same ∙ none text)
after_none link (item.Acknowledge packet_id ∷ items) outcomes few none = after_none link items outcomes few none
after_none link (item.Ping ∷ items) outcomes few none = after_none link items outcomes few none

anew_none : (link : Link) (texts : List (List ℕ)) → length link.wanted ≤ MAX_OPEN_SUBSCRIBES
    → EachWanted link.wanted texts → None_owes link → None_owes (subscribes_sent link texts)
anew_none link [] few each none = none
anew_none link (one ∷ texts) few each none =
    let next = subscribe_sent link one in
    anew_none next texts (sent_few link one few)
    (still_each link.wanted next.wanted texts
    (λ text. same_wants next.wanted link.wanted (sent_filters link one) text) each.1)
    (sent_none link one few each.0 none)

-- ---- a row

record FewClients (s : State) : Type 0 where
  limit : s.policy.limits.clients * MAX_SUBSCRIPTIONS ≤ MAX_OPEN_SUBSCRIBES
  clients : length s.clients * MAX_SUBSCRIPTIONS ≤ MAX_OPEN_SUBSCRIBES
  none : None_owes s.link

few_of : (s : State) → Good s → FewClients s → length s.link.wanted ≤ MAX_OPEN_SUBSCRIBES
few_of s good few = omega (arith, few_wanted s good, few.clients)

take_none : (s : State) (up : Bool) → s.up ≡ up → length s.link.wanted ≤ MAX_OPEN_SUBSCRIBES
    → None_owes s.link → None_owes (link_moved s ByTake (exits_for s ByTake))
take_none s true is few none text =
    rw is (after_none s.link (outgoing s.link) (exits_of s.policy (outgoing s.link)) few none text)
take_none s false is few none text = rw is (none text)

moved_none : (s : State) (c : Cause) → Good s → FewClients s → (text : List ℕ)
    → owes (link_moved s c (exits_for s c)).wanted text ≡ false
moved_none s (ByConnect from connect) good few text = few.none text
moved_none s (ByMessage from request) good few text = few.none text
moved_none s (BySource from p) good few text = few.none text
moved_none s (ByBroken from rule) good few text = few.none text
moved_none s (ByPacket p) good few text = answered_owes s.link (answer_of p) text ∙ few.none text
moved_none s ByUp good few text =
    let link = resumed s.link s.clock (exits_for s ByUp) in
    anew_none link (filters_wanted s.link) (few_of s good few)
    (each_among s.link.wanted s.link.wanted (λ one is. is)) few.none text
moved_none s ByDown good few text = few.none text
moved_none s ByTake good few text = take_none s s.up refl (few_of s good few) few.none text
moved_none s (ByReplace policy) good few text = few.none text
moved_none s (ByTick clock) good few text =
    ap (λ wanted. owes wanted text) (ticked_wanted s.policy.limits s.up s.link (later s.clock clock) s.clients)
    ∙ few.none text

next_none : (s : State) (c : Cause) → Good s → FewClients s → (text : List ℕ)
    → owes (next_by s c).link.wanted text ≡ false
next_none s c good few text = by_wants (wants (next_by s c).link.wanted text) refl
  where
    by_wants : (b : Bool) → wants (next_by s c).link.wanted text ≡ b
        → owes (next_by s c).link.wanted text ≡ false
    by_wants true is = owes_next s c text good is ∙ moved_none s c good few text
    by_wants false is = none_owes (next_by s c).link.wanted text is

-- a client is let in where there is room
has_room : (known fits : Bool) (rule : Outcome) → (if known || fits then Allowed else rule) ≡ Allowed
    → (rule ≡ Allowed → ⊥) → known ≡ false → fits ≡ true
has_room true fits rule room never away = absurd cc
has_room false true rule room never away = refl
has_room false false rule room never away = absurd (never room)

few_more : (n limit : ℕ) → nat_lt n limit ≡ true → limit * MAX_SUBSCRIPTIONS ≤ MAX_OPEN_SUBSCRIBES
    → (n + 1) * MAX_SUBSCRIPTIONS ≤ MAX_OPEN_SUBSCRIBES
few_more n limit is few = let less : n < limit = grind (arith, nat_tests) in omega (arith, less, few)

entry_few : (s : State) (connect : Connect) (o : Outcome) (known : Bool) → entry s connect ≡ o
    → is_known connect.client_id s.clients ≡ known → FewClients s
    → length (s.clients ++ (if is_allowed o && not known then blank connect.client_id ∷ [] else []))
    * MAX_SUBSCRIPTIONS ≤ MAX_OPEN_SUBSCRIBES
entry_few s connect (Denied rule) known is k few = rw (append-nil s.clients) few.clients
entry_few s connect Allowed true is k few = rw (append-nil s.clients) few.clients
entry_few s connect Allowed false is k few =
    let id = connect.client_id in
    let limits = s.policy.limits in
    let room : entry_room limits s.clients id ≡ Allowed =
    allowed_second (client_scope s.policy id) (entry_room limits s.clients id)
    (allowed_second (entry_form connect)
    (and_then (client_scope s.policy id) (entry_room limits s.clients id)) is) in
    let fits : nat_lt (length s.clients) limits.clients ≡ true =
    has_room (is_known id s.clients) (nat_lt (length s.clients) limits.clients)
    (Denied (Room (Full place.Clients))) room (λ never. absurd cc) k in
    rw (length-append s.clients (blank id ∷ []))
    (few_more (length s.clients) limits.clients fits few.limit)

clients_few : (s : State) (c : Cause) → FewClients s
    → length (s.clients ++ newcomers_for s c) * MAX_SUBSCRIPTIONS ≤ MAX_OPEN_SUBSCRIBES
clients_few s (ByConnect from connect) few =
    entry_few s connect (entry s connect) (is_known connect.client_id s.clients) refl refl few
clients_few s (ByMessage from request) few = rw (append-nil s.clients) few.clients
clients_few s (BySource from p) few = rw (append-nil s.clients) few.clients
clients_few s (ByBroken from rule) few = rw (append-nil s.clients) few.clients
clients_few s (ByPacket p) few = rw (append-nil s.clients) few.clients
clients_few s ByUp few = rw (append-nil s.clients) few.clients
clients_few s ByDown few = rw (append-nil s.clients) few.clients
clients_few s ByTake few = rw (append-nil s.clients) few.clients
clients_few s (ByReplace policy) few = rw (append-nil s.clients) few.clients
clients_few s (ByTick clock) few = rw (append-nil s.clients) few.clients

is_at_most : (n m : ℕ) → nat_le n m ≡ true → n ≤ m
is_at_most n m is = grind (arith, nat_tests)

publish_policy : (from : Address) (p : Publish) (q : FrameQos) (before : Policy)
    → policy_by (publish_cause from p q) before ≡ before
publish_policy from p qos.WithoutSession before = refl
publish_policy from p qos.AtMostOnce before = refl
publish_policy from p qos.AtLeastOnce before = refl
publish_policy from p qos.ExactlyOnce before = refl

disconnect_policy : (from : Address) (duration : Option ℕ) (before : Policy)
    → policy_by (datagram_cause from (Ok (frame.Disconnect duration))) before ≡ before
disconnect_policy from None before = refl
disconnect_policy from (Some duration) before = refl

datagram_policy : (from : Address) (read : Result SnFrame FrameFault) (before : Policy)
    → policy_by (datagram_cause from read) before ≡ before
datagram_policy from (Ok (frame.Publish p)) before = publish_policy from p p.flags.qos before
datagram_policy from (Ok (frame.Disconnect duration)) before = disconnect_policy from duration before
datagram_policy from (Ok message) before = refl
datagram_policy from (Err broke) before = refl

limit_next : (s : State) (e : Event) → FewClients s → has_few_clients e ≡ true
    → (policy_by (cause_of e) s.policy).limits.clients * MAX_SUBSCRIPTIONS ≤ MAX_OPEN_SUBSCRIBES
limit_next s (Datagram from datagram) few is =
    subst (λ (p : Policy). p.limits.clients * MAX_SUBSCRIPTIONS ≤ MAX_OPEN_SUBSCRIBES)
    (sym (datagram_policy from (frame_of datagram) s.policy)) few.limit
limit_next s (Broker sent) few is = few.limit
limit_next s Up few is = few.limit
limit_next s Down few is = few.limit
limit_next s Take few is = few.limit
limit_next s (Replace policy) few is =
    is_at_most (policy.limits.clients * MAX_SUBSCRIPTIONS) MAX_OPEN_SUBSCRIBES is
limit_next s (Tick clock) few is = few.limit

few_clients : (h : List Row) → Lawful opening h → AllFewClients h → FewClients (state_of opening h)
few_clients [] l all = record { limit = omega arith; clients = omega arith; none = λ text. refl }
few_clients (row ∷ h) l all =
    let s = state_of opening h in
    let c = cause_of row.event in
    let was = few_clients h l.0 all.0 in
    let good = (stands h l.0).good in
    subst FewClients (sym (next_is h row l))
    (record {
      limit = limit_next s row.event was all.1;
      clients =
          rw (length-map (s.clients ++ newcomers_for s c) (client_next s c)) (clients_few s c was);
      none = next_none s c good was;
    })

-- ---- the laws

pub none_owed : (h : List Row) → Lawful opening h → AllFewClients h → NoneOwed h
none_owed h l all text =
    ap (λ wanted. owes wanted text) (sym (wanted_shown h l).wanted) ∙ (few_clients h l all).none text

-- then just the filters that stand are kept or owed where just they are kept
pub few_same : (h : List Row) → NoneOwed h → (IsSameOrOwed h ↔ IsSame h)
few_same h none = (
  (λ same text. sym (kept_alone text) ∙ same text),
  (λ same text. kept_alone text ∙ same text),
)
  where
    kept_alone : (text : List ℕ) → is_kept h text ≡ is_upstream h text
    kept_alone text = ap (λ b. is_upstream h text || b) (none text) ∙ or_no (is_upstream h text)
