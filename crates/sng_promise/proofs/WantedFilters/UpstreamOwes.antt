-- While the connection is up, what waits makes the broker keep just the filters that stand for somebody.
use Rattle.std.proofs.Common.{◌≡◌, ℕ, Bool, true, false, List, [], ◌∷◌, ◌++◌, map, refl, ap, sym, ◌∙◌, subst}
use Rattle.std.proofs.Common.{if◌then◌else◌}
use Rattle.std.specs.Prelude.{◌&&◌, ◌||◌, not, Option, Some, None}
use Rattle.std.specs.Str.{bytes_eq}
use Rattle.sng_fan.specs.declared.held.Held.{Held}
use Rattle.sng_fan.specs.Subscriptions.{has_text, stands, without_filter}
use Rattle.mqtt_frames.specs.declared.packet.SubscribeCode.{SubscribeCode}
use Rattle.mqtt_frames.specs.declared.packet.SubscribeCode.TheVariants as code
use Rattle.mqtt_frames.specs.declared.packet.Packet.{Packet}
use Rattle.mqtt_frames.specs.declared.packet.Packet.TheVariants as packet
use Rattle.sng_outbox.specs.declared.item.Item.{Item}
use Rattle.sng_outbox.specs.declared.item.Item.TheVariants as item
use Rattle.sng_book.specs.declared.decision.Decision.TheVariants as note
use Rattle.sng_book.specs.declared.outcome.Denial.TheVariants.{Peer}
use Rattle.sng_book.specs.declared.outcome.PeerDenial.TheVariants.{BrokerRefused}
use Rattle.sng_book.specs.declared.outcome.Outcome.TheVariants.{Denied}
use Rattle.sng_book.specs.declared.event.Event.TheVariants.{Up, Take}
use Rattle.sng_history.specs.Causes.{ByPacket, ByUp, ByTake}
use Rattle.sng_history.specs.Causes.{ByTick}
use Rattle.sng_history.specs.Clients.{Around, Client, message_due, start_by, notes_by}
use Rattle.sng_history.specs.Outgoing.{delivered_notes}
use Rattle.sng_history.specs.Links.{Link, Wanted, wants, resumed, filters_wanted}
use Rattle.sng_history.specs.Links.{outgoing, filters_owed}
use Rattle.sng_history.specs.Packets.{answer_of, subscribe_answer, refused_filter, acknowledgements}
use Rattle.sng_history.specs.Standing.{holds, is_held}
use Rattle.sng_history.specs.State.{State, around, later}
use Rattle.sng_history.specs.State.{link_moved}
use Rattle.sng_history.specs.Exits.{agains_of}
use Rattle.sng_history.specs.Lawful.{refused_end, fixed_for}
use Rattle.sng_history.specs.Lawful.{exits_for}
use Rattle.sng_history.specs.Steps.{outs_of, newcomers_for, client_next, clients_next}
use Rattle.sng_history.specs.Steps.{next_by}
use Rattle.sng_history.specs.Good.{Good}
use Rattle.sng_laws.specs.ViewsWanted.{words_sent, said_upstream, filter_with, is_same, is_refusal}
use Rattle.sng_laws.specs.ViewsWanted.{refuses, wanted}
use Rattle.sng_history.proofs.Own.{same_means}
use Rattle.sng_history.proofs.Steady.{start_filters, client_filters}
use Rattle.sng_history.proofs.Ticked.{Growing, ticked_holds}
use Rattle.sng_history.proofs.WantedKept.{ticked_wanted}
use Rattle.sng_history.proofs.Hands.{Calm, messages_calm, notes_calm, every_delivered}
use Rattle.sng_history.proofs.Statements.{notes_both}
use Rattle.sng_history.proofs.NothingNew.{present_held}
use Rattle.sng_history.proofs.Holding.{unmoved, wanted_held_next}
use Rattle.sng_promise.proofs.WantedFilters.UpstreamSpeaks.{ShortEnds, settled, Speaks}
use Rattle.sng_promise.proofs.WantedFilters.UpstreamSpeaks.{none_owes, outgoing_short}
use Rattle.sng_promise.proofs.WantedFilters.UpstreamSpeaks.{owes}
use Rattle.sng_promise.proofs.WantedFilters.UpstreamLeaving.{is_one, leaving_says}
use Rattle.sng_promise.proofs.WantedFilters.UpstreamLeaving.{subscribing_says}
use Rattle.sng_promise.proofs.WantedFilters.UpstreamOpen.{texts_short, begun_words}
use Rattle.sng_promise.proofs.WantedFilters.UpstreamOpen.{each_among}
use Rattle.sng_promise.proofs.WantedFilters.UpstreamSettled.{Owes, settled_more, settled_right}
use Rattle.sng_promise.proofs.WantedFilters.UpstreamSettled.{settled_less, settled_front}
use Rattle.sng_promise.proofs.WantedFilters.UpstreamCarries.{same_held}
use Rattle.sng_promise.proofs.WantedFilters.UpstreamMarks.{marks_carry, answered_owes, owes_next}
use Rattle.sng_grants.specs.Limits.{Limits}

-- ---- a tick

-- what joins is a will or a PINGREQ
owed_grows : (limits : Limits) (text : List ℕ) (u : Bool)
    → Growing limits (λ link. settled (wants link.wanted text) link.waiting text u ≡ wants link.wanted text)
owed_grows limits text u = record {
  publish =
      λ link p room was. settled_more (wants link.wanted text) link.waiting (item.Publish p ∷ []) text u was;
  ping = λ link clock was. settled_more (wants link.wanted text) link.waiting (item.Ping ∷ []) text u was;
}

tick_kept : (s : State) (clock : ℕ) (text : List ℕ) (u : Bool) → Owes s text u
    → Owes (next_by s (ByTick clock)) text u
tick_kept s clock text u was =
    ticked_holds s.policy.limits (λ link. settled (wants link.wanted text) link.waiting text u
    ≡ wants link.wanted text)
    (owed_grows s.policy.limits text u)
    s.up s.link (later s.clock clock) s.clients was

pub tick_owes : (s : State) (clock : ℕ) (text : List ℕ) (u : Bool) → Good s
    → Owes s text (u || owes s.link.wanted text)
    → Owes (next_by s (ByTick clock)) text (u || owes (next_by s (ByTick clock)).link.wanted text)
tick_owes s clock text u good was =
    marks_carry s (ByTick clock) text u good
    (ap (λ wanted. owes wanted text)
    (ticked_wanted s.policy.limits s.up s.link (later s.clock clock) s.clients))
    (tick_kept s clock text (u || owes s.link.wanted text) was)

-- ---- a packet of the broker

without_by : (h : Held) (rest : List Held) (gone text : List ℕ) (before one other same : Bool)
    → has_text text h ≡ one
    → has_text gone h ≡ other → bytes_eq text gone ≡ same
    → stands rest text ≡ (before && not same)
    → stands (if not other then h ∷ rest else rest) text ≡ ((one || before) && not same)
without_by h rest gone text before true true true is goes away later = later ∙ none before
  where
    none : (b : Bool) → (b && false) ≡ false
    none true = refl
    none false = refl
without_by h rest gone text before true true false is goes away later =
    absurd (let e : h.filter ≡ text = same_means h.filter text is in
    let bad : true ≡ false = sym (subst (λ t. bytes_eq t gone ≡ true) e goes) ∙ away in cc)
without_by h rest gone text before true false true is goes away later =
    absurd (let e : text ≡ gone = same_means text gone away in
    let bad : true ≡ false = sym (subst (λ t. bytes_eq h.filter t ≡ true) e is) ∙ goes in cc)
without_by h rest gone text before true false false is goes away later = ap (λ b. b || stands rest text) is
without_by h rest gone text before false true same is goes away later = later
without_by h rest gone text before false false same is goes away later =
    ap (λ b. b || stands rest text) is ∙ later

without_stands : (held : List Held) (gone text : List ℕ)
    → stands (without_filter held gone) text ≡ (stands held text && not (bytes_eq text gone))
without_stands [] gone text = refl
without_stands (h ∷ held) gone text =
    without_by h (without_filter held gone) gone text (stands held text) (has_text text h) (has_text gone h)
    (bytes_eq text gone) refl refl refl (without_stands held gone text)

refused_by : (a : Around) (x y : Client) (gone text : List ℕ) (there : Bool) → holds gone x ≡ there
    → y.filters ≡ x.filters
    → holds text (notes_by a (if there then note.End x.id gone (Denied (Peer BrokerRefused)) ∷ [] else []) y)
    ≡ (holds text x && not (bytes_eq text gone))
refused_by a x y gone text true is same =
    ap (λ held. stands (without_filter held gone) text) same ∙ without_stands x.filters gone text
refused_by a x y gone text false is same =
    ap (λ held. stands held text) same ∙ other (bytes_eq text gone) refl
  where
    other : (b : Bool) → bytes_eq text gone ≡ b → holds text x ≡ (holds text x && not b)
    other true e =
        let none : holds text x ≡ false = ap (λ t. holds t x) (same_means text gone e) ∙ is in rw none refl
    other false e = whole (holds text x)
      where
        whole : (b : Bool) → b ≡ (b && true)
        whole true = refl
        whole false = refl

refused_holds : (s : State) (p : Packet) (x : Client) (text : List ℕ) (gone : Option (List ℕ))
    → (let a = around s (ByPacket p) in holds text (notes_by a (refused_end x gone) (start_by a x)))
    ≡ (holds text x && not (is_same text gone))
refused_holds s p x text None =
    ap (λ held. stands held text) (start_filters (around s (ByPacket p)) x) ∙ whole (holds text x)
  where
    whole : (b : Bool) → b ≡ (b && true)
    whole true = refl
    whole false = refl
refused_holds s p x text (Some gone) =
    refused_by (around s (ByPacket p)) x (start_by (around s (ByPacket p)) x) gone text (holds gone x) refl
    (start_filters (around s (ByPacket p)) x)

-- a message that comes to the client leaves its filters alone
packet_holds : (s : State) (p : Packet) (x : Client) (text : List ℕ)
    → holds text (client_next s (ByPacket p) x)
    ≡ (holds text x && not (is_same text (refused_filter s.link (answer_of p))))
packet_holds s p x text =
    let a = around s (ByPacket p) in
    let due = message_due (answer_of p) x in
    let gone = refused_filter s.link (answer_of p) in
    let one = refused_end x gone in
    let two = delivered_notes s.policy due x in
    let calm =
    notes_calm a two (notes_by a one (start_by a x))
    (every_delivered (Calm a) s.policy due x (messages_calm a x.id)) in
    ap (λ held. stands held text) (client_filters a (fixed_for s (ByPacket p) x) x)
    ∙ ap (holds text) (notes_both a one two (start_by a x))
    ∙ (ap (λ held. stands held text) calm.filters ∙ refused_holds s p x text gone)

all_less : (f : Client → Client) (xs : List Client) (text : List ℕ) (k : Bool)
    → ((x : Client) → holds text (f x) ≡ (holds text x && k))
    → is_held (map f xs) text ≡ (is_held xs text && k)
all_less f [] text k same = refl
all_less f (x ∷ xs) text k same =
    rw (same x, all_less f xs text k same) (spread (holds text x) (is_held xs text) k)
  where
    spread : (a b k : Bool) → ((a && k) || (b && k)) ≡ ((a || b) && k)
    spread true true true = refl
    spread true true false = refl
    spread true false true = refl
    spread true false false = refl
    spread false b k = refl

pub packet_held : (s : State) (p : Packet) (text : List ℕ)
    → is_held (clients_next s (ByPacket p)) text
    ≡ (is_held s.clients text && not (is_same text (refused_filter s.link (answer_of p))))
packet_held s p text =
    let c = ByPacket p in
    all_less (client_next s c) (s.clients ++ newcomers_for s c) text
    (not (is_same text (refused_filter s.link (answer_of p))))
    (λ x. packet_holds s p x text)
    ∙ ap (λ b. b && not (is_same text (refused_filter s.link (answer_of p)))) (present_held s c text)

-- the packet refuses as the view says
refusal_same : (link : Link) (packet_id : ℕ) (codes : List SubscribeCode) (text : List ℕ)
    → (is_refusal codes && is_same text (filter_with packet_id link.wanted))
    ≡ is_same text (refused_filter link (subscribe_answer packet_id codes))
refusal_same link packet_id [] text = refl
refusal_same link packet_id (code.Refused ∷ codes) text = refl
refusal_same link packet_id (code.Granted qos ∷ codes) text = refl

pub refuses_same : (link : Link) (sent : Packet) (text : List ℕ)
    → refuses sent link.wanted text ≡ is_same text (refused_filter link (answer_of sent))
refuses_same link (packet.SubscribeAck answer) text = refusal_same link answer.packet_id answer.codes text
refuses_same link (packet.Publish p) text = refl
refuses_same link (packet.PublishAck packet_id) text = refl
refuses_same link (packet.UnsubscribeAck packet_id) text = refl
refuses_same link (packet.Connect connect) text = refl
refuses_same link (packet.ConnectAck answer) text = refl
refuses_same link (packet.Subscribe request) text = refl
refuses_same link (packet.Unsubscribe request) text = refl
refuses_same link packet.PingRequest text = refl
refuses_same link packet.PingResponse text = refl
refuses_same link packet.Disconnect text = refl

refused_settles : (w r : Bool) (items more : List Item) (text : List ℕ) (u : Bool)
    → settled w items text u ≡ w
    → settled (w && not r) (items ++ more) text (not r && u) ≡ (w && not r)
refused_settles w false items more text u was =
    subst (λ v. settled v (items ++ more) text u ≡ v) (whole w) (settled_more w items more text u was)
  where
    whole : (b : Bool) → b ≡ (b && true)
    whole true = refl
    whole false = refl
refused_settles true true items more text u was = settled_right false (items ++ more) text
refused_settles false true items more text u was = settled_right false (items ++ more) text

packet_wants : (s : State) (sent : Packet) (text : List ℕ) → Good s
    → wants (next_by s (ByPacket sent)).link.wanted text
    ≡ (wants s.link.wanted text && not (is_same text (refused_filter s.link (answer_of sent))))
packet_wants s sent text good =
    let r = is_same text (refused_filter s.link (answer_of sent)) in
    wanted_held_next s (ByPacket sent) good text
    ∙ (packet_held s sent text ∙ ap (λ b. b && not r) (sym (good.wanted_held text)))

broker_kept : (s : State) (sent : Packet) (text : List ℕ) (u : Bool) → Good s → Owes s text u
    → Owes (next_by s (ByPacket sent)) text (not (refuses sent s.link.wanted text) && u)
broker_kept s sent text u good was =
    let c = ByPacket sent in
    let r = is_same text (refused_filter s.link (answer_of sent)) in
    let w = packet_wants s sent text good in
    let more = acknowledgements s.policy.limits s.up s.link (answer_of sent) in
    ap (λ b. settled (wants (next_by s c).link.wanted text) (s.link.waiting ++ more) text (not b && u))
    (refuses_same s.link sent text)
    ∙ (ap (λ b. settled b (s.link.waiting ++ more) text (not r && u)) w
    ∙ (refused_settles (wants s.link.wanted text) r s.link.waiting more text u was ∙ sym w))

-- what is not refused is as good as kept as before
refused_less : (r u o : Bool) → ((not r && u) || false) ≡ true → (not r && (u || o)) ≡ true
refused_less true u o is = absurd cc
refused_less false true o is = refl
refused_less false false o is = absurd cc

not_refused : (w r : Bool) → (w && not r) ≡ true → r ≡ false
not_refused w false is = refl
not_refused true true is = absurd cc
not_refused false true is = absurd cc

pub broker_owes : (s : State) (sent : Packet) (text : List ℕ) (u : Bool) → Good s
    → Owes s text (u || owes s.link.wanted text)
    → Owes (next_by s (ByPacket sent)) text
    ((not (refuses sent s.link.wanted text) && u) || owes (next_by s (ByPacket sent)).link.wanted text)
broker_owes s sent text u good was =
    let c = ByPacket sent in
    let next = (next_by s c).link in
    let r = refuses sent s.link.wanted text in
    let o = owes s.link.wanted text in
    let same : owes (link_moved s c (exits_for s c)).wanted text ≡ o = answered_owes s.link (answer_of sent) text in
    settled_less (wants next.wanted text) next.waiting text (not r && (u || o))
    ((not r && u) || owes next.wanted text) (broker_kept s sent text (u || o) good was)
    (λ is. let no : r ≡ false =
    refuses_same s.link sent text
    ∙ not_refused (wants s.link.wanted text) (is_same text (refused_filter s.link (answer_of sent)))
    (sym (packet_wants s sent text good) ∙ is) in
    rw no (ap (λ b. u || b) (owes_next s c text good is ∙ same)))
    (λ is_not some. refused_less r u o
    (ap (λ b. (not r && u) || b) (sym (none_owes next.wanted text is_not)) ∙ some))

-- ---- a take, and a connection that begins

-- once what leaves left, the broker keeps the filter, or a SUBSCRIBE is owed, just where it is wanted
pub take_said : (s : State) (text : List ℕ) (u : Bool) → s.up ≡ true → Speaks s.link
    → ShortEnds s.link.waiting → Owes s text (u || owes s.link.wanted text)
    → (said_upstream (words_sent (outs_of s Take)) text u || owes (next_by s ByTake).link.wanted text)
    ≡ wants s.link.wanted text
take_said s text u up speaks ends was =
    let says = leaving_says s.policy s.link (outgoing s.link) speaks (outgoing_short s.link ends) in
    rw up
    (says.said text u
    ∙ settled_front (wants s.link.wanted text) (filters_owed s.link) s.link.waiting text
    (u || owes s.link.wanted text) was)

pub take_owes : (s : State) (text : List ℕ) (u : Bool) → Good s → s.up ≡ true → Speaks s.link
    → ShortEnds s.link.waiting → Owes s text (u || owes s.link.wanted text)
    → Owes (next_by s ByTake) text
    (said_upstream (words_sent (outs_of s Take)) text u || owes (next_by s ByTake).link.wanted text)
take_owes s text u good up speaks ends was =
    let w : wants (next_by s ByTake).link.wanted text ≡ wants s.link.wanted text =
    wanted_held_next s ByTake good text
    ∙ (same_held s ByTake text (λ x. unmoved s ByTake x refl) ∙ sym (good.wanted_held text)) in
    let words = take_said s text u up speaks ends was in
    let empty : (next_by s ByTake).link.waiting ≡ [] = rw up refl in
    ap (λ b. settled (wants (next_by s ByTake).link.wanted text) (next_by s ByTake).link.waiting text b)
    (words ∙ sym w)
    ∙ settled_right (wants (next_by s ByTake).link.wanted text) (next_by s ByTake).link.waiting text

one_wanted : (wanted : List Wanted) (text : List ℕ)
    → is_one (map (λ w. w.filter) wanted) text ≡ wants wanted text
one_wanted [] text = refl
one_wanted (w ∷ wanted) text = ap (λ b. bytes_eq text w.filter || b) (one_wanted wanted text)

all_told : (w o : Bool) → (w ≡ false → o ≡ false) → (w || (false || o)) ≡ w
all_told true o none = refl
all_told false o none = none refl

-- what the broker is told as a connection begins
pub up_said : (s : State) (text : List ℕ) → Speaks s.link
    → (said_upstream (words_sent (outs_of s Up)) text false || owes (next_by s ByUp).link.wanted text)
    ≡ wants s.link.wanted text
up_said s text speaks =
    let wanted = s.link.wanted in
    ap (λ words. said_upstream words text false || owes (next_by s ByUp).link.wanted text) (begun_words s)
    ∙ (subscribing_says (resumed s.link s.clock (agains_of s.policy s.link.in_flight))
    (filters_wanted s.link) speaks.last (texts_short wanted speaks.short)
    (each_among wanted wanted (λ one is. is)) text false
    ∙ (ap (λ b. b || (false || owes wanted text)) (one_wanted wanted text)
    ∙ all_told (wants wanted text) (owes wanted text) (none_owes wanted text)))

pub up_owes : (s : State) (text : List ℕ) → Good s → Speaks s.link
    → Owes (next_by s ByUp) text
    (said_upstream (words_sent (outs_of s Up)) text false || owes (next_by s ByUp).link.wanted text)
up_owes s text good speaks =
    let w : wants (next_by s ByUp).link.wanted text ≡ wants s.link.wanted text =
    wanted_held_next s ByUp good text
    ∙ (same_held s ByUp text (λ x. unmoved s ByUp x refl) ∙ sym (good.wanted_held text)) in
    ap (λ b. settled (wants (next_by s ByUp).link.wanted text) (next_by s ByUp).link.waiting text b)
    (up_said s text speaks ∙ sym w)
    ∙ settled_right (wants (next_by s ByUp).link.wanted text) (next_by s ByUp).link.waiting text
