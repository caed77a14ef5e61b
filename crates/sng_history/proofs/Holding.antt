-- For whom filters stand after a step: just those that stand for somebody are wanted.
use Rattle.std.proofs.Common.{◌≡◌, ℕ, Bool, true, false, List, [], ◌∷◌, ◌++◌, map, refl, ap, sym, ◌∙◌}
use Rattle.std.specs.Prelude.{if◌then◌else◌, ◌&&◌, ◌||◌, filter, Some, None}
use Rattle.std.specs.List.{flat_map}
use Rattle.std.specs.Str.{bytes_eq}
use Rattle.std.proofs.lemmas.List.{append-nil}
use Rattle.sng_text.specs.declared.qos.Qos.{Qos}
use Rattle.sng_fan.specs.declared.held.Held.{Held}
use Rattle.sng_fan.specs.Subscriptions.{has_text, stands, with_filter}
use Rattle.sng_frames.specs.declared.messages.subscribe.TopicRequest.{TopicRequest}
use Rattle.sng_outbox.specs.declared.item.Item.{Item}
use Rattle.sng_book.specs.declared.address.Address.{Address}
use Rattle.sng_book.specs.declared.decision.Decision.{Decision}
use Rattle.sng_book.specs.declared.decision.Decision.TheVariants as note
use Rattle.sng_book.specs.declared.decision.Who.TheVariants as who
use Rattle.sng_book.specs.declared.outcome.Denial.{Denial}
use Rattle.sng_book.specs.declared.outcome.Outcome.{Outcome}
use Rattle.sng_book.specs.declared.outcome.Outcome.TheVariants.{Allowed, Denied}
use Rattle.sng_history.specs.Causes.{Request, ToPing, ToLeave, ToSleep, ToRegister, ToPublish, ToSubscribe}
use Rattle.sng_history.specs.Causes.{ToUnsubscribe, ToConfirm, ToAcknowledge}
use Rattle.sng_history.specs.Causes.{ToState, Untaken, Cause}
use Rattle.sng_history.specs.Causes.{ByConnect, ByMessage, BySource, ByBroken, ByPacket, ByUp, ByDown, ByTake}
use Rattle.sng_history.specs.Causes.{ByReplace, ByTick}
use Rattle.sng_history.specs.Causes.{ToPublishOnce, ToRelease}
use Rattle.sng_history.specs.Requests.{granted}
use Rattle.sng_history.specs.Clients.{Client, is_here, start_by}
use Rattle.sng_history.specs.Clients.{subscribed, subscribe_of, note_by, notes_by}
use Rattle.sng_history.specs.Links.{Wanted, wants}
use Rattle.sng_history.specs.Packets.{answer_of, answered}
use Rattle.sng_history.specs.Standing.{holds, is_held, still_wanted}
use Rattle.sng_history.specs.State.{State, later, around, subscribe_item}
use Rattle.sng_history.specs.State.{link_moved}
use Rattle.sng_history.specs.Verdicts.{subscribe_ask}
use Rattle.sng_history.specs.Lawful.{fixed_for, exits_for}
use Rattle.sng_history.specs.Steps.{newcomers_for, client_next, clients_next, asked_by_all, asked_for}
use Rattle.sng_history.specs.Steps.{next_by}
use Rattle.sng_history.specs.Good.{Good}
use Rattle.sng_history.proofs.Own.{same_means, flip}
use Rattle.sng_history.proofs.Statements.{tick_placid, placid_filters}
use Rattle.sng_history.proofs.Steady.{start_filters, client_filters}
use Rattle.sng_history.proofs.FiltersKept.{subscribe_verdict, ask_cases}
use Rattle.sng_history.proofs.WantedKept.{or_no, or_back, swap, joins, same_wants, wants_kept}
use Rattle.sng_history.proofs.WantedKept.{moved_wanted}
use Rattle.sng_history.proofs.Wanted.{subscribes, subscribes_both, joined_wants}
use Rattle.sng_history.proofs.NothingNew.{present_held, held_same, still_held, is_other, asks_none}

-- ---- a SUBSCRIBE

flipped_by : (a b : List ℕ) (t u : Bool) → bytes_eq a b ≡ t → bytes_eq b a ≡ u → t ≡ u
flipped_by a b true true one two = refl
flipped_by a b false false one two = refl
flipped_by a b true false one two = absurd (let bad : true ≡ false = sym one ∙ flip a b two in cc)
flipped_by a b false true one two = absurd (let bad : true ≡ false = sym two ∙ flip b a one in cc)

pub flipped : (a b : List ℕ) → bytes_eq a b ≡ bytes_eq b a
flipped a b = flipped_by a b (bytes_eq a b) (bytes_eq b a) refl refl

with_stands_by : (h : Held) (held : List Held) (filter text : List ℕ) (q : Qos) (same : Bool)
    → has_text filter h ≡ same
    → stands (with_filter held filter q) text ≡ (stands held text || bytes_eq text filter)
    → stands (if same then record h { qos = q } ∷ held else h ∷ with_filter held filter q) text
    ≡ ((has_text text h || stands held text) || bytes_eq text filter)
with_stands_by h held filter text q true is later =
    already (has_text text h) (stands held text) (bytes_eq text filter) (same_text h.filter filter text is)
  where
    already : (a b c : Bool) → c ≡ a → (a || b) ≡ ((a || b) || c)
    already true b c same = refl
    already false true c same = refl
    already false false c same = sym same

    same_text : (a b c : List ℕ) → bytes_eq a b ≡ true → bytes_eq c b ≡ bytes_eq a c
    same_text a b c is = let e : a ≡ b = same_means a b is in rw (← e) (flipped c a)
with_stands_by h held filter text q false is later =
    ap (λ b. has_text text h || b) later ∙ or_back (has_text text h) (stands held text) (bytes_eq text filter)

pub with_stands : (held : List Held) (filter text : List ℕ) (q : Qos)
    → stands (with_filter held filter q) text ≡ (stands held text || bytes_eq text filter)
with_stands [] filter text q = or_no (bytes_eq filter text) ∙ flipped filter text
with_stands (h ∷ held) filter text q =
    with_stands_by h held filter text q (has_text filter h) refl (with_stands held filter text q)

-- of a client's note, what stands then and what it asks for
stands_then : (x y : Client) (r : TopicRequest) (filter text : List ℕ) (o : Outcome) → y.filters ≡ x.filters
    → stands (subscribed (Some r) (Some filter) o y).filters text
    ≡ (holds text x || subscribes (subscribe_item (Some filter) o ++ []) text)
stands_then x y r filter text Allowed same =
    ap (λ held. stands (with_filter held filter (granted r.flags.qos)) text) same
    ∙ (with_stands x.filters filter text (granted r.flags.qos)
    ∙ ap (λ b. holds text x || b) (sym (or_no (bytes_eq text filter))))
stands_then x y r filter text (Denied rule) same =
    ap (λ held. stands held text) same ∙ sym (or_no (holds text x))

subscribe_stands : (s : State) (from : Address) (r : TopicRequest) (x : Client) (text : List ℕ) (here : Bool)
    → (let a = around s (ByMessage from (ToSubscribe r)) in
    let notes : List Decision = if here then subscribe_ask s x r ∷ [] else [] in
    stands (notes_by a notes (start_by a x)).filters text
    ≡ (holds text x || subscribes (asked_by_all None notes) text))
subscribe_stands s from r x text true =
    let a = around s (ByMessage from (ToSubscribe r)) in
    let y = start_by a x in
    ask_cases (λ said. stands (note_by a said y).filters text
    ≡ (holds text x || subscribes (asked_by_all None (said ∷ [])) text)) s x r
    (λ filter is. stands_then x y r filter text (subscribe_verdict s x r filter) (start_filters a x))
    (λ rule. ap (λ held. stands held text) (start_filters a x) ∙ sym (or_no (holds text x)))
subscribe_stands s from r x text false =
    let a = around s (ByMessage from (ToSubscribe r)) in
    ap (λ held. stands held text) (start_filters a x) ∙ sym (or_no (holds text x))

all_stand : (f : Client → Client) (g : Client → List Item) (xs : List Client) (text : List ℕ)
    → ((x : Client) → holds text (f x) ≡ (holds text x || subscribes (g x) text))
    → is_held (map f xs) text ≡ (is_held xs text || subscribes (flat_map g xs) text)
all_stand f g [] text each = refl
all_stand f g (x ∷ xs) text each =
    rw (each x, all_stand f g xs text each)
    (swap (holds text x) (subscribes (g x) text) (is_held xs text) (subscribes (flat_map g xs) text)
    ∙ ap (λ b. (holds text x || is_held xs text) || b) (sym (subscribes_both (g x) (flat_map g xs) text)))

-- what stands after a SUBSCRIBE is what stood, and what it asks for
pub subscribed_held : (s : State) (from : Address) (r : TopicRequest) (text : List ℕ)
    → is_held (clients_next s (ByMessage from (ToSubscribe r))) text
    ≡ (is_held s.clients text || subscribes (asked_for s (ByMessage from (ToSubscribe r))) text)
subscribed_held s from r text =
    let c = ByMessage from (ToSubscribe r) in
    ap (λ xs. is_held (map (client_next s c) xs) text) (append-nil s.clients)
    ∙ all_stand (client_next s c) (λ x. asked_by_all None (fixed_for s c x)) s.clients text
    (λ x. ap (λ held. stands held text) (client_filters (around s c) (fixed_for s c x) x)
    ∙ subscribe_stands s from r x text (is_here x from))

-- ---- each cause

subscribe_wanted : (s : State) (from : Address) (r : TopicRequest) (text : List ℕ)
    → wants s.link.wanted text ≡ is_held s.clients text
    → (let c = ByMessage from (ToSubscribe r) in
    wants (next_by s c).link.wanted text ≡ is_held (clients_next s c) text)
subscribe_wanted s from r text held =
    let c = ByMessage from (ToSubscribe r) in
    let asked = subscribes (asked_for s c) text in
    joined_wants (still_wanted (clients_next s c) s.link.wanted) (asked_for s c) text
    ∙ (ap (λ b. b || asked) (wants_kept (is_held (clients_next s c)) s.link.wanted text)
    ∙ (ap (λ b. (b && is_held (clients_next s c) text) || asked) held
    ∙ (ap (λ b. (is_held s.clients text && b) || asked) (subscribed_held s from r text)
    ∙ (joins (is_held s.clients text) asked ∙ sym (subscribed_held s from r text)))))

other_wanted : (s : State) (from : Address) (request : Request) (text : List ℕ) → is_other request ≡ true
    → subscribe_of (ByMessage from request) ≡ None → wants s.link.wanted text ≡ is_held s.clients text
    → wants (next_by s (ByMessage from request)).link.wanted text
    ≡ is_held (clients_next s (ByMessage from request)) text
other_wanted s from request text other quiet held =
    let c = ByMessage from request in
    joined_wants (still_wanted (clients_next s c) s.link.wanted) (asked_for s c) text
    ∙ (ap (λ b. wants (still_wanted (clients_next s c) s.link.wanted) text || b)
    (asks_none s from request text other)
    ∙ (or_no (wants (still_wanted (clients_next s c) s.link.wanted) text)
    ∙ still_held s c s.link.wanted text quiet held))

message_wanted : (s : State) (from : Address) (request : Request) (text : List ℕ)
    → wants s.link.wanted text ≡ is_held s.clients text
    → wants (next_by s (ByMessage from request)).link.wanted text
    ≡ is_held (clients_next s (ByMessage from request)) text
message_wanted s from (ToSubscribe r) text held = subscribe_wanted s from r text held
message_wanted s from (ToPing client) text held = other_wanted s from (ToPing client) text refl refl held
message_wanted s from (ToSleep duration) text held =
    other_wanted s from (ToSleep duration) text refl refl held
message_wanted s from ToLeave text held = other_wanted s from ToLeave text refl refl held
message_wanted s from (ToRegister r) text held = other_wanted s from (ToRegister r) text refl refl held
message_wanted s from (ToPublish p) text held = other_wanted s from (ToPublish p) text refl refl held
message_wanted s from (ToPublishOnce p) text held = other_wanted s from (ToPublishOnce p) text refl refl held
message_wanted s from (ToRelease id) text held = other_wanted s from (ToRelease id) text refl refl held
message_wanted s from (ToUnsubscribe r) text held = other_wanted s from (ToUnsubscribe r) text refl refl held
message_wanted s from (ToConfirm r) text held = other_wanted s from (ToConfirm r) text refl refl held
message_wanted s from (ToAcknowledge r) text held = other_wanted s from (ToAcknowledge r) text refl refl held
message_wanted s from (ToState statement) text held =
    other_wanted s from (ToState statement) text refl refl held
message_wanted s from (Untaken message) text held = other_wanted s from (Untaken message) text refl refl held

-- a client of whom nothing is noted is heard at most
pub unmoved : (s : State) (c : Cause) (x : Client) → fixed_for s c x ≡ []
    → (client_next s c x).filters ≡ x.filters
unmoved s c x none =
    client_filters (around s c) (fixed_for s c x) x
    ∙ ap (λ notes. (notes_by (around s c) notes (start_by (around s c) x)).filters) none
    ∙ start_filters (around s c) x

pub broken_unmoved : (s : State) (from : Address) (rule : Denial) (x : Client) (here : Bool)
    → (let a = around s (ByBroken from rule) in
    (notes_by a (if here then note.Frame (who.Client x.id) (Denied rule) ∷ [] else [])
    (start_by a x)).filters ≡ x.filters)
broken_unmoved s from rule x true = start_filters (around s (ByBroken from rule)) x
broken_unmoved s from rule x false = start_filters (around s (ByBroken from rule)) x

pub ticked_unmoved : (s : State) (clock : ℕ) (x : Client)
    → (client_next s (ByTick clock) x).filters ≡ x.filters
ticked_unmoved s clock x =
    let a = around s (ByTick clock) in
    let notes = fixed_for s (ByTick clock) x in
    client_filters a notes x ∙ placid_filters a notes x
    (tick_placid a s.policy s.link (later s.clock clock) s.clients x)

-- a row that moves no filter
unmoved_wanted : (s : State) (c : Cause) (wanted : List Wanted) (text : List ℕ)
    → ((x : Client) → (client_next s c x).filters ≡ x.filters) → wants wanted text ≡ is_held s.clients text
    → wants wanted text ≡ is_held (clients_next s c) text
unmoved_wanted s c wanted text same held =
    held ∙ (sym (present_held s c text)
    ∙ sym (held_same (client_next s c) (s.clients ++ newcomers_for s c) text same))

wanted_by_cause : (s : State) (c : Cause) (text : List ℕ)
    → wants (link_moved s c (exits_for s c)).wanted text ≡ is_held s.clients text
    → wants (next_by s c).link.wanted text ≡ is_held (clients_next s c) text
wanted_by_cause s (ByMessage from request) text held = message_wanted s from request text held
wanted_by_cause s (ByConnect from connect) text held =
    still_held s (ByConnect from connect) s.link.wanted text refl held
wanted_by_cause s (ByReplace policy) text held = still_held s (ByReplace policy) s.link.wanted text refl held
wanted_by_cause s (ByPacket p) text held =
    still_held s (ByPacket p) (answered s.link (answer_of p)).wanted text refl held
wanted_by_cause s (BySource from p) text held =
    unmoved_wanted s (BySource from p) s.link.wanted text (λ x. unmoved s (BySource from p) x refl) held
wanted_by_cause s (ByBroken from rule) text held =
    let c = ByBroken from rule in
    unmoved_wanted s c s.link.wanted text
    (λ x. client_filters (around s c) (fixed_for s c x) x ∙ broken_unmoved s from rule x (is_here x from))
    held
wanted_by_cause s ByUp text held =
    unmoved_wanted s ByUp (link_moved s ByUp (exits_for s ByUp)).wanted text (λ x. unmoved s ByUp x refl) held
wanted_by_cause s ByDown text held =
    unmoved_wanted s ByDown s.link.wanted text (λ x. unmoved s ByDown x refl) held
wanted_by_cause s ByTake text held =
    unmoved_wanted s ByTake (link_moved s ByTake (exits_for s ByTake)).wanted text
    (λ x. unmoved s ByTake x refl) held
wanted_by_cause s (ByTick clock) text held =
    let moved = link_moved s (ByTick clock) (exits_for s (ByTick clock)) in
    unmoved_wanted s (ByTick clock) moved.wanted text (λ x. ticked_unmoved s clock x) held

pub wanted_held_next : (s : State) (c : Cause) → Good s → (filter : List ℕ)
    → wants (next_by s c).link.wanted filter ≡ is_held (clients_next s c) filter
wanted_held_next s c good filter =
    wanted_by_cause s c filter (same_wants (link_moved s c (exits_for s c)).wanted s.link.wanted
    (moved_wanted s c) filter ∙ good.wanted_held filter)
