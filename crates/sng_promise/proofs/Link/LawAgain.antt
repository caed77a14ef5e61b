-- What a new connection lets out for the broker: what is in flight, each with its note and its own packet.
use Rattle.std.proofs.Common.{◌≡◌, ℕ, ◌≤◌, Bool, true, false, List, [], ◌∷◌, ◌++◌, refl, ap, sym, ◌∙◌, subst}
use Rattle.std.proofs.Common.{if◌then◌else◌}
use Rattle.std.proofs.Common.{map}
use Rattle.std.specs.Prelude.{Option, Some, None}
use Rattle.std.specs.Prelude.{filter}
use Rattle.std.proofs.lemmas.List.{append-nil, map-append}
use Rattle.sng_text.specs.declared.qos.Qos.{Qos}
use Rattle.sng_text.specs.declared.qos.Qos.TheVariants.{AtMostOnce, AtLeastOnce}
use Rattle.sng_grants.specs.declared.policy.Policy.{Policy}
use Rattle.sng_outbox.specs.Sending.{is_at_least_once}
use Rattle.sng_outbox.specs.declared.in_flight.InFlight.{InFlight}
use Rattle.sng_outbox.specs.declared.item.Item.{Item}
use Rattle.sng_outbox.specs.declared.item.Item.TheVariants as item
use Rattle.sng_outbox.specs.declared.item.Publication.{Publication}
use Rattle.sng_book.specs.Whom.{who_of}
use Rattle.sng_book.specs.declared.decision.Decision.{Decision}
use Rattle.sng_book.specs.declared.decision.Decision.TheVariants as note
use Rattle.sng_book.specs.declared.outcome.Outcome.{Outcome}
use Rattle.sng_book.specs.declared.outcome.Outcome.TheVariants.{Allowed, Denied}
use Rattle.sng_book.specs.declared.out.Out.{Out}
use Rattle.sng_book.specs.declared.out.Out.TheVariants.{Send, Wire, Note}
use Rattle.sng_history.specs.Notes.{exits_in, exit_of}
use Rattle.sng_history.specs.Links.{Link, wants, next_packet_id, packet_id_by, sent_by, exited}
use Rattle.sng_history.specs.Links.{subscribe_sent, subscribe_left}
use Rattle.sng_history.specs.Links.{unsubscribe_left}
use Rattle.sng_history.specs.Links.{Wanted, may_open, opened, owing}
use Rattle.sng_history.specs.Verdicts.{exit}
use Rattle.sng_history.specs.Exits.{packet_of, exits_of, forwarded, subscribe_leaves, unsubscribe_leaves}
use Rattle.sng_history.specs.Exits.{subscribing, leaving}
use Rattle.sng_history.specs.Exits.{subscribe_out}
use Rattle.sng_laws.specs.ViewsLink.{listed, Departure, departures, wires_in}
use Rattle.sng_laws.specs.ViewsLink.{waiting}
use Rattle.sng_laws.specs.ViewsFlight.{id_shown, return, agains, id_left}
use Rattle.sng_laws.specs.LawsFlight.{Given, given_publishes, AreNext}
use Rattle.sng_laws.specs.LawsFlight.{subscribe_with, PacketsFor}
use Rattle.sng_laws.specs.LawsFlight.{subscribes_with}
use Rattle.sng_laws.specs.LawsFlight.{given_subscribe, subscribe_by}
use Rattle.sng_history.proofs.WantedKept.{left_same, same_wants}
use Rattle.sng_promise.proofs.Link.FlightIds.{ids_of, shown}
use Rattle.sng_promise.proofs.WantedFilters.UpstreamSpeaks.{next_is, exited_last, subscribe_last}
use Rattle.sng_promise.proofs.WantedFilters.UpstreamSpeaks.{unsubscribe_last}
use Rattle.sng_promise.proofs.WantedFilters.UpstreamSpeaks.{wires_both}
use Rattle.sng_promise.proofs.Link.LawLink.{Wires, subscribe_wires, unsubscribe_wires}
use Rattle.sng_promise.proofs.Link.LawLink.{wires_depart, out_wires}
use Rattle.sng_promise.proofs.Link.LawLinkOrder.{later_exits}
use Rattle.sng_promise.proofs.Link.LawAgainBegins.{wires_again}
use Rattle.sng_history.specs.Links as links
use Rattle.sng_laws.specs.ViewsWanted.{outgoing, wanted}
use Rattle.sng_book.specs.declared.row.Row.{Row}

-- ---- at a take

again_first : (p : Publication) (packet_id : Option ℕ) (o : Outcome) (outs : List Out)
    → agains (forwarded p packet_id o ++ outs) ≡ agains outs
again_first p packet_id Allowed outs = refl
again_first p packet_id (Denied rule) outs = refl

pub none_again : (policy : Policy) (link : Link) (items : List Item)
    → agains (leaving link items (exits_of policy items)) ≡ []
none_again policy link [] = refl
none_again policy link (item.Publish p ∷ items) =
    let o = exit policy p.origin p.name in
    again_first p (packet_id_by link p.qos) o (leaving (exited link p o) items (exits_of policy items))
    ∙ none_again policy (exited link p o) items
none_again policy link (item.Subscribe text ∷ items) =
    let next = subscribe_left link text in
    wires_again (subscribe_leaves link text) (leaving next items (exits_of policy items))
    (subscribe_wires link text)
    ∙ none_again policy next items
none_again policy link (item.Unsubscribe text ∷ items) =
    let next = unsubscribe_left link text in
    wires_again (unsubscribe_leaves link text) (leaving next items (exits_of policy items))
    (unsubscribe_wires link text)
    ∙ none_again policy next items
none_again policy link (item.Acknowledge packet_id ∷ items) = none_again policy link items
none_again policy link (item.Ping ∷ items) = none_again policy link items

-- the packet ids that a link gave
abbrev pub given_by : Link → Given
given_by link = record { in_flight = ids_of link.in_flight; wanted = link.wanted; last = link.last }

-- what leaves is what the rows show
pub outgoing_same : (h : List Row) (link : Link) → link.waiting ≡ waiting h → link.wanted ≡ wanted h
    → links.outgoing link ≡ outgoing h
outgoing_same h link waits are =
    ap (λ items. map item.Subscribe (links.filters_owed link) ++ items) waits
    ∙ ap (λ all. map item.Subscribe (map (λ (w : Wanted). w.filter) (filter (λ w. w.owed) all)) ++ waiting h) are

-- the packet ids of a publish that leaves are the next one, and those of the link then
record Leaves (link after : Link) (ids : List ℕ) : Type 0 where
  next : AreNext (given_by link) ids
  given : given_publishes (given_by link) ids ≡ given_by after

gives : (link : Link) (p : Publication) (n m : ℕ) → n ≡ next_packet_id link → m ≡ n
    → Leaves link (record link {
      last = n;
      in_flight = link.in_flight ++ record { packet_id = n; publication = p } ∷ [];
    }) (m ∷ [])
gives link p n m is same = record {
  next = same ∙ is;
  given = ap (λ k. given_publishes (given_by link) (k ∷ [])) same
      ∙ ap (λ ids. record { in_flight = ids; wanted = link.wanted; last = n })
      (sym (map-append (λ (sent : InFlight). sent.packet_id) link.in_flight
      (record { packet_id = n; publication = p } ∷ [])));
}

gives_none : (link : Link) → Leaves link link []
gives_none link =
    record {
      next = tt;
      given = ap (λ ids. record { in_flight = ids; wanted = link.wanted; last = link.last })
          (append-nil (ids_of link.in_flight));
    }

-- the packet of a publish at this QoS
abbrev pub departed : Link → Publication → Qos → Departure
departed link p q =
    record {
      whom = who_of p.origin;
      name = p.name;
      outcome = Allowed;
      packet = Some (packet_of p (packet_id_by link q));
    }

-- and the packet ids that it gets
abbrev pub ids_by : Link → Publication → Qos → List ℕ
ids_by link p q =
    ids_of (if is_at_least_once q
    then record { packet_id = id_shown p (departed link p q).packet; publication = p } ∷ [] else [])

sent_leaves : (link : Link) (p : Publication) (q : Qos) → link.last ≤ 65535
    → Leaves link (sent_by link p q) (ids_by link p q)
sent_leaves link p AtMostOnce small = gives_none link
sent_leaves link p AtLeastOnce small =
    let n = next_packet_id link in
    gives link p n (id_shown p (Some (packet_of p (Some n)))) refl (shown p n (next_is link small).small)

packets_then : (held : List ℕ → Bool) (link after : Link) (p : Publication) (d : Departure)
    (items : List Item) (outs : List Out)
    → Leaves link after (id_left p d)
    → PacketsFor held (given_by after) items (departures outs) (wires_in outs)
    → PacketsFor held (given_by link) (item.Publish p ∷ items) (d ∷ departures outs)
    (listed d.packet ++ wires_in outs)
packets_then held link after p d items outs leaves rest = (
  leaves.next,
  (
    wires_in outs,
    (
      refl,
      subst (λ given. PacketsFor held given items (departures outs) (wires_in outs))
          (sym leaves.given) rest,
    ),
  ),
)

packets_first : (held : List ℕ → Bool) (link : Link) (p : Publication) (items : List Item) (o : Outcome)
    (outs : List Out)
    → link.last ≤ 65535
    → PacketsFor held (given_by (exited link p o)) items (departures outs) (wires_in outs)
    → PacketsFor held (given_by link) (item.Publish p ∷ items)
    (departures (forwarded p (packet_id_by link p.qos) o ++ outs))
    (wires_in (forwarded p (packet_id_by link p.qos) o ++ outs))
packets_first held link p items Allowed outs small rest =
    packets_then held link (exited link p Allowed) p (departed link p p.qos) items outs
    (sent_leaves link p p.qos small) rest
packets_first held link p items (Denied rule) outs small rest =
    packets_then held link link p
    (record { whom = who_of p.origin; name = p.name; outcome = Denied rule; packet = None }) items outs
    (gives_none link) rest

-- a SUBSCRIBE that has to leave
either : (b : Bool) (one two : Link) → (if b then given_by one else given_by two) ≡ given_by (if b then one else two)
either true one two = refl
either false one two = refl

pub given_sent : (link : Link) (text : List ℕ)
    → given_subscribe (given_by link) text ≡ given_by (subscribe_sent link text)
given_sent link text =
    either (may_open link.wanted text)
    (record link { last = next_packet_id link; wanted = opened link.wanted text (next_packet_id link) })
    (record link { wanted = owing link.wanted text })

wired : (b : Bool) (sent : List ℕ)
    → (if b then Wire sent ∷ [] else []) ≡ map (λ octets. Wire octets) (if b then sent ∷ [] else [])
wired true sent = refl
wired false sent = refl

pub out_by : (link : Link) (text : List ℕ)
    → subscribe_out link text ≡ map (λ octets. Wire octets) (subscribe_by (given_by link) text)
out_by link text = wired (may_open link.wanted text) (subscribe_with (next_packet_id link) text)

pub all_out : (link : Link) (texts : List (List ℕ))
    → subscribing link texts ≡ map (λ octets. Wire octets) (subscribes_with (given_by link) texts)
all_out link [] = refl
all_out link (text ∷ texts) =
    let next = subscribe_sent link text in
    let given = given_by link in
    let first = subscribe_by given text in
    ap (λ outs. outs ++ subscribing next texts) (out_by link text)
    ∙ (ap (λ more. map (λ octets. Wire octets) first ++ more)
    (all_out next texts
    ∙ ap (λ from. map (λ octets. Wire octets) (subscribes_with from texts)) (sym (given_sent link text)))
    ∙ sym (map-append (λ octets. Wire octets) first (subscribes_with (given_subscribe given text) texts)))

wires_sent : (sent : List (List ℕ)) → wires_in (map (λ octets. Wire octets) sent) ≡ sent
wires_sent [] = refl
wires_sent (octets ∷ sent) = ap (λ more. octets ∷ more) (wires_sent sent)

subscribe_goes : (held : List ℕ → Bool) (given : Given) (text : List ℕ) (items : List Item)
    (ds : List Departure) (sent rest : List (List ℕ))
    → held text ≡ true → sent ≡ subscribe_by given text ++ rest
    → PacketsFor held (given_subscribe given text) items ds rest
    → PacketsFor held given (item.Subscribe text ∷ items) ds sent
subscribe_goes held given text items ds sent rest is same packets = rw is (rest, (same, packets))

subscribe_then : (held : List ℕ → Bool) (link : Link) (text : List ℕ) (items : List Item) (outs : List Out)
    → held text ≡ true
    → PacketsFor held (given_by (subscribe_sent link text)) items (departures outs) (wires_in outs)
    → PacketsFor held (given_by link) (item.Subscribe text ∷ items)
    (departures (subscribe_out link text ++ outs))
    (wires_in (subscribe_out link text ++ outs))
subscribe_then held link text items outs is packets =
    let out = subscribe_out link text in
    let given = given_by link in
    subst (λ ds. PacketsFor held given (item.Subscribe text ∷ items) ds (wires_in (out ++ outs)))
    (sym (wires_depart out outs (out_wires link text)))
    (subscribe_goes held given text items (departures outs) (wires_in (out ++ outs)) (wires_in outs) is
    (wires_both out outs
    ∙ ap (λ sent. sent ++ wires_in outs) (ap wires_in (out_by link text) ∙ wires_sent (subscribe_by given text)))
    (subst (λ after. PacketsFor held after items (departures outs) (wires_in outs)) (sym (given_sent link text))
    packets))

subscribe_first : (held : List ℕ → Bool) (link : Link) (text : List ℕ) (items : List Item) (outs : List Out)
    (b : Bool)
    → wants link.wanted text ≡ b → held text ≡ b
    → PacketsFor held (given_by (subscribe_left link text)) items (departures outs) (wires_in outs)
    → PacketsFor held (given_by link) (item.Subscribe text ∷ items)
    (departures (subscribe_leaves link text ++ outs))
    (wires_in (subscribe_leaves link text ++ outs))
subscribe_first held link text items outs true is same =
    rw is (λ packets. subscribe_then held link text items outs same packets)
subscribe_first held link text items outs false is same =
    rw (is, same) (λ rest. (wires_in outs, (refl, rest)))

unsubscribe_first : (held : List ℕ → Bool) (link : Link) (text : List ℕ) (items : List Item) (outs : List Out)
    (b : Bool)
    → wants link.wanted text ≡ b → held text ≡ b
    → PacketsFor held (given_by (unsubscribe_left link text)) items (departures outs) (wires_in outs)
    → PacketsFor held (given_by link) (item.Unsubscribe text ∷ items)
    (departures (unsubscribe_leaves link text ++ outs))
    (wires_in (unsubscribe_leaves link text ++ outs))
unsubscribe_first held link text items outs true is same =
    rw (is, same) (λ rest. (wires_in outs, (refl, rest)))
unsubscribe_first held link text items outs false is same =
    rw (is, same) (λ rest. (wires_in outs, (refl, rest)))

-- its packets are those behind its notes, and the others in their places, each with the next packet id
pub take_wires : (held : List ℕ → Bool) (policy : Policy) (link : Link) (items : List Item)
    → link.last ≤ 65535
    → ((text : List ℕ) → wants link.wanted text ≡ held text)
    → let outs =
    leaving link items (exits_of policy items) in
    PacketsFor held (given_by link) items (departures outs) (wires_in outs)
take_wires held policy link [] small same = refl
take_wires held policy link (item.Publish p ∷ items) small same =
    let o = exit policy p.origin p.name in
    let next = exited link p o in
    packets_first held link p items o (leaving next items (exits_of policy items)) small
    (take_wires held policy next items (exited_last link p o small)
    (λ text. same_wants next.wanted link.wanted (left_same link (item.Publish p ∷ []) (o ∷ [])) text
    ∙ same text))
take_wires held policy link (item.Subscribe text ∷ items) small same =
    let next = subscribe_left link text in
    subscribe_first held link text items (leaving next items (exits_of policy items))
    (wants link.wanted text) refl (sym (same text))
    (take_wires held policy next items (subscribe_last link text (wants link.wanted text) refl small)
    (λ one. same_wants next.wanted link.wanted (left_same link (item.Subscribe text ∷ []) []) one ∙ same one))
take_wires held policy link (item.Unsubscribe text ∷ items) small same =
    let next = unsubscribe_left link text in
    unsubscribe_first held link text items (leaving next items (exits_of policy items))
    (wants link.wanted text) refl (sym (same text))
    (take_wires held policy next items (unsubscribe_last link text (wants link.wanted text) refl small)
    (λ one. same_wants next.wanted link.wanted (left_same link (item.Unsubscribe text ∷ []) []) one
    ∙ same one))
take_wires held policy link (item.Acknowledge packet_id ∷ items) small same = (
  wires_in (leaving link items (exits_of policy items)),
  (refl, take_wires held policy link items small same),
)
take_wires held policy link (item.Ping ∷ items) small same = (
  wires_in (leaving link items (exits_of policy items)),
  (refl, take_wires held policy link items small same),
)

-- and the SUBSCRIBEs of these filters
pub all_subscribe : (link : Link) (texts : List (List ℕ))
    → wires_in (subscribing link texts) ≡ subscribes_with (given_by link) texts
all_subscribe link texts = ap wires_in (all_out link texts) ∙ wires_sent (subscribes_with (given_by link) texts)

pub wires_none : (xs : List Out) → Wires xs → agains xs ≡ []
wires_none [] are = refl
wires_none (Wire sent ∷ xs) are = wires_none xs are.1
wires_none (Send to datagram ∷ xs) are = absurd are
wires_none (Note said ∷ xs) are = absurd are

-- ---- any other row

again_note : (said : Decision) (outs : List Out) → exit_of said ++ exits_in outs ≡ [] → return said outs ≡ []
again_note (note.Again who name outcome) outs none = absurd (let e = none in cc)
again_note _ outs none = refl

pub no_agains : (outs : List Out) → exits_in outs ≡ [] → agains outs ≡ []
no_agains [] none = refl
no_agains (Note said ∷ outs) none =
    rw (again_note said outs none) (no_agains outs (later_exits said outs none))
no_agains (Send to datagram ∷ outs) none = no_agains outs none
no_agains (Wire sent ∷ outs) none = no_agains outs none
