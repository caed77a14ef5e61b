-- The packet id that was given last, and so the whole link, is what the rows of a lawful history show.
use Rattle.std.proofs.Common.{◌≡◌, ℕ, ◌≤◌, Bool, true, false, List, [], ◌∷◌, ◌++◌, length, refl, ap, sym}
use Rattle.std.proofs.Common.{◌∙◌, subst}
use Rattle.std.specs.Prelude.{Option, Some, None}
use Rattle.std.proofs.lemmas.List.{append_assoc}
use Rattle.sng_text.specs.declared.qos.Qos.{Qos}
use Rattle.sng_text.specs.declared.qos.Qos.TheVariants.{AtMostOnce, AtLeastOnce}
use Rattle.sng_frames.specs.Reading.{frame_of}
use Rattle.sng_grants.specs.declared.policy.Policy.{Policy}
use Rattle.mqtt_frames.specs.Fronts.{decode}
use Rattle.mqtt_frames.specs.declared.packet.Publish.{Publish}
use Rattle.sng_outbox.specs.declared.in_flight.InFlight.{InFlight}
use Rattle.sng_outbox.specs.declared.item.Item.{Item}
use Rattle.sng_outbox.specs.declared.item.Item.TheVariants as item
use Rattle.sng_outbox.specs.declared.item.Publication.{Publication}
use Rattle.sng_book.specs.declared.outcome.Outcome.{Outcome}
use Rattle.sng_book.specs.declared.outcome.Outcome.TheVariants.{Allowed, Denied}
use Rattle.sng_book.specs.declared.event.Event.{Event}
use Rattle.sng_book.specs.declared.event.Event.TheVariants.{Datagram, Broker, Up, Down, Take, Replace, Tick}
use Rattle.sng_book.specs.declared.out.Out.{Out}
use Rattle.sng_book.specs.declared.out.Out.TheVariants.{Send, Wire, Note}
use Rattle.sng_book.specs.declared.row.Row.{Row}
use Rattle.sng_history.specs.Causes.{ByUp, ByPacket, ByReplace, cause_of, datagram_cause, ByTick}
use Rattle.sng_history.specs.Notes.{exits_in}
use Rattle.sng_history.specs.Links.{Link, wants, next_packet_id, packet_id_by, sent_by, exited, resumed}
use Rattle.sng_history.specs.Links.{filters_wanted, subscribe_sent, subscribes_sent, subscribe_left}
use Rattle.sng_history.specs.Links.{unsubscribe_left, link_after}
use Rattle.sng_history.specs.Links.{may_open, outgoing}
use Rattle.sng_history.specs.State.{State, opening, state_of, link_moved}
use Rattle.sng_history.specs.Verdicts.{exit}
use Rattle.sng_history.specs.Exits.{packet_of, exits_of, agains_of, forwarded, subscribe_leaves}
use Rattle.sng_history.specs.Exits.{unsubscribe_leaves, subscribing, leaving, sent_again, resending}
use Rattle.sng_history.specs.Exits.{subscribe_out}
use Rattle.sng_history.specs.Lawful.{Lawful, exits_for}
use Rattle.sng_history.specs.Steps.{outs_of}
use Rattle.sng_laws.specs.LawsState.{RestShown}
use Rattle.sng_laws.specs.ViewsLink.{wires_in, publications, waiting}
use Rattle.sng_laws.specs.ViewsFlight.{id_read, given_in, last_among, last_id}
use Rattle.sng_history.proofs.Says.{says}
use Rattle.sng_history.proofs.Keeping.{exact_by}
use Rattle.sng_promise.proofs.Link.FlightIds.{shown}
use Rattle.sng_promise.proofs.Link.LawLinkOrder.{departed_note, later_exits}
use Rattle.sng_promise.proofs.Link.LawLinkOrder.{outgoing_published}
use Rattle.sng_promise.proofs.Link.LawAgain.{ids_by}
use Rattle.sng_promise.proofs.Link.LawRows.{anew}
use Rattle.sng_promise.proofs.Link.LawWires.{datagram_still, broker_wires, replace_wires, tick_wires}
use Rattle.sng_promise.proofs.Clients.SeenState.{Stands, stands}
use Rattle.sng_promise.proofs.WantedFilters.UpstreamWords.{publish_quiet, ack_quiet, subscribe_read}
use Rattle.sng_promise.proofs.WantedFilters.UpstreamWords.{unsubscribe_read}
use Rattle.sng_promise.proofs.WantedFilters.UpstreamWords.{ping_quiet}
use Rattle.sng_promise.proofs.WantedFilters.UpstreamSpeaks.{Speaks, ShortEnds, next_is, exited_speaks}
use Rattle.sng_promise.proofs.WantedFilters.UpstreamLeaving.{ShortTexts}
use Rattle.sng_promise.proofs.WantedFilters.UpstreamSpeaks.{subscribe_speaks, unsubscribe_speaks}
use Rattle.sng_promise.proofs.WantedFilters.UpstreamSpeaks.{subscribed_last, outgoing_short}
use Rattle.sng_promise.proofs.WantedFilters.UpstreamOpen.{WantedShown, speaks_of, texts_short}
use Rattle.sng_promise.proofs.WantedFilters.UpstreamWanted.{wanted_shown}
use Rattle.sng_promise.proofs.WantedFilters.UpstreamWanted.{answered_last}
use Rattle.sng_promise.proofs.Link.SeenRest.{flights_shown}
use Rattle.sng_promise.proofs.Link.SeenPings.{ticked_along, datagram_unmoved}

-- ---- a row that gives none

given_none : (ps : List Publication) (outs : List Out) → exits_in outs ≡ [] → wires_in outs ≡ []
    → given_in ps outs ≡ []
given_none ps [] none none_sent = refl
given_none ps (Note said ∷ outs) none none_sent =
    rw (departed_note said outs none) (given_none ps outs (later_exits said outs none) none_sent)
given_none ps (Send to datagram ∷ outs) none none_sent = given_none ps outs none none_sent
given_none ps (Wire sent ∷ outs) none none_sent = absurd (let e = none_sent in cc)

-- ---- what waits leaves

-- the last of the ids that are given from here on
abbrev Last : List Publication → List Out → ℕ → ℕ
Last ps outs before = last_among (given_in ps outs) before

-- the PUBLISH of the publish
abbrev sent_as : Publication → Option ℕ → Publish
sent_as p packet_id =
    record { dup = false; retain = p.retain; packet_id = packet_id; name = p.name; payload = p.payload }

sent_last : (link : Link) (p : Publication) (ps : List Publication) (outs : List Out) (q : Qos)
    → link.last ≤ 65535
    → last_among ((ids_by link p q ++ [])
    ++ (id_read (decode (packet_of p (packet_id_by link q))) ++ given_in ps outs)) link.last
    ≡ Last ps outs (sent_by link p q).last
sent_last link p ps outs AtMostOnce small =
    rw (publish_quiet (sent_as p None)).ids refl
sent_last link p ps outs AtLeastOnce small =
    let n = next_packet_id link in
    rw ((publish_quiet (sent_as p (Some n))).ids, shown p n (next_is link small).small) refl

forwarded_last : (link : Link) (p : Publication) (ps : List Publication) (outs : List Out) (o : Outcome)
    → link.last ≤ 65535
    → Last (p ∷ ps) (forwarded p (packet_id_by link p.qos) o ++ outs) link.last
    ≡ Last ps outs (exited link p o).last
forwarded_last link p ps outs Allowed small = sent_last link p ps outs p.qos small
forwarded_last link p ps outs (Denied rule) small = refl

out_last : (link : Link) (text : List ℕ) (ps : List Publication) (outs : List Out) (may : Bool)
    → may_open link.wanted text ≡ may → link.last ≤ 65535 → length text ≤ 65535
    → Last ps (subscribe_out link text ++ outs) link.last ≡ Last ps outs (subscribe_sent link text).last
out_last link text ps outs true is small short =
    rw (is, (subscribe_read (next_packet_id link) text (next_is link small) short).ids) refl
out_last link text ps outs false is small short = rw is refl

subscribe_last : (link : Link) (text : List ℕ) (ps : List Publication) (outs : List Out) (b : Bool)
    → wants link.wanted text ≡ b → Speaks link
    → Last ps (subscribe_leaves link text ++ outs) link.last ≡ Last ps outs (subscribe_left link text).last
subscribe_last link text ps outs true is speaks =
    rw is
    (out_last link text ps outs (may_open link.wanted text) refl speaks.last (speaks.short text is))
subscribe_last link text ps outs false is speaks = rw is refl

unsubscribe_last : (link : Link) (text : List ℕ) (ps : List Publication) (outs : List Out) (b : Bool)
    → wants link.wanted text ≡ b → Speaks link → length text ≤ 65535
    → Last ps (unsubscribe_leaves link text ++ outs) link.last
    ≡ Last ps outs (unsubscribe_left link text).last
unsubscribe_last link text ps outs true is speaks short = rw is refl
unsubscribe_last link text ps outs false is speaks short =
    rw (is, (unsubscribe_read (next_packet_id link) text (next_is link speaks.last) short).ids) refl

leaving_last : (policy : Policy) (link : Link) (items : List Item) → Speaks link → ShortEnds items
    → Last (publications items) (leaving link items (exits_of policy items)) link.last
    ≡ (link_after link items (exits_of policy items)).last
leaving_last policy link [] speaks short = refl
leaving_last policy link (item.Publish p ∷ items) speaks short =
    let o = exit policy p.origin p.name in
    let next = exited link p o in
    forwarded_last link p (publications items) (leaving next items (exits_of policy items)) o speaks.last
    ∙ leaving_last policy next items (exited_speaks link p o speaks) short.1
leaving_last policy link (item.Subscribe text ∷ items) speaks short =
    let next = subscribe_left link text in
    subscribe_last link text (publications items) (leaving next items (exits_of policy items))
    (wants link.wanted text) refl speaks
    ∙ leaving_last policy next items (subscribe_speaks link text speaks) short.1
leaving_last policy link (item.Unsubscribe text ∷ items) speaks short =
    let next = unsubscribe_left link text in
    unsubscribe_last link text (publications items) (leaving next items (exits_of policy items))
    (wants link.wanted text) refl speaks short.0
    ∙ leaving_last policy next items (unsubscribe_speaks link text speaks) short.1
leaving_last policy link (item.Acknowledge packet_id ∷ items) speaks short =
    rw (ack_quiet packet_id).ids (leaving_last policy link items speaks short.1)
leaving_last policy link (item.Ping ∷ items) speaks short =
    rw ping_quiet.ids (leaving_last policy link items speaks short.1)

-- ---- a connection begins

again_first : (ps : List Publication) (sent : InFlight) (o : Outcome) (outs : List Out)
    → given_in ps (sent_again sent o ++ outs) ≡ given_in ps outs
again_first ps sent Allowed outs =
    rw (publish_quiet (sent_as sent.publication (Some sent.packet_id))).ids refl
again_first ps sent (Denied rule) outs = refl

-- what is sent again gets no new one
none_again : (ps : List Publication) (policy : Policy) (flights : List InFlight) (more : List Out)
    → given_in ps (resending flights (agains_of policy flights) ++ more) ≡ given_in ps more
none_again ps policy [] more = refl
none_again ps policy (sent ∷ flights) more =
    let o = exit policy sent.publication.origin sent.publication.name in
    let rest = resending flights (agains_of policy flights) in
    ap (given_in ps) (append_assoc (sent_again sent o) rest more)
    ∙ (again_first ps sent o (rest ++ more) ∙ none_again ps policy flights more)

anew_last : (ps : List Publication) (link : Link) (texts : List (List ℕ)) → link.last ≤ 65535
    → ShortTexts texts → Last ps (subscribing link texts) link.last ≡ (subscribes_sent link texts).last
anew_last ps link [] small short = refl
anew_last ps link (text ∷ texts) small short =
    let next = subscribe_sent link text in
    out_last link text ps (subscribing next texts) (may_open link.wanted text) refl small short.0
    ∙ anew_last ps next texts (subscribed_last link text small) short.1

-- ---- all rows

abbrev Moves : State → Event → List Out → Type 0
Moves s e outs =
    (link_moved s (cause_of e) (exits_for s (cause_of e))).last ≡ Last
    (publications s.link.waiting) outs s.link.last

still : (s : State) (outs : List Out) → exits_in outs ≡ [] → wires_in outs ≡ []
    → s.link.last ≡ Last (publications s.link.waiting) outs s.link.last
still s outs none none_sent =
    sym (ap (λ ids. last_among ids s.link.last)
    (given_none (publications s.link.waiting) outs none none_sent))

up_moves : (s : State) → Speaks s.link → Moves s Up (outs_of s Up)
up_moves s speaks =
    let ps = publications s.link.waiting in
    sym (ap (λ ids. last_among ids s.link.last) (none_again ps s.policy s.link.in_flight (anew s))
    ∙ anew_last ps (resumed s.link s.clock (exits_for s ByUp)) (filters_wanted s.link) speaks.last
    (texts_short s.link.wanted speaks.short))

take_moves : (s : State) (b : Bool) → s.up ≡ b → Speaks s.link → ShortEnds s.link.waiting
    → Moves s Take (outs_of s Take)
take_moves s true is speaks ends =
    let items = outgoing s.link in
    let outs = leaving s.link items (exits_of s.policy items) in
    rw is
    (sym (ap (λ ps. Last ps outs s.link.last) (sym (outgoing_published s.link))
    ∙ leaving_last s.policy s.link items speaks (outgoing_short s.link ends)))
take_moves s false is speaks ends = rw is refl

row_moves : (h : List Row) (s : State) (e : Event) → Stands h s → WantedShown h s → Moves s e (outs_of s e)
row_moves h s (Datagram from datagram) st are =
    let e = Datagram from datagram in
    let stays = datagram_still s from (frame_of datagram) in
    ap (λ link. link.last) (datagram_unmoved s from (frame_of datagram) (exits_for s (cause_of e)))
    ∙ still s (outs_of s e) ((says s (datagram_cause from (frame_of datagram)) st.good.apart).exits
    ∙ stays.exits) stays.wires
row_moves h s (Broker sent) st are =
    answered_last s.link sent
    ∙ still s (outs_of s (Broker sent)) (says s (ByPacket sent) st.good.apart).exits (broker_wires s sent)
row_moves h s Up st are = up_moves s (speaks_of s st.good are.last are.filters)
row_moves h s Down st are = refl
row_moves h s Take st are = take_moves s s.up refl (speaks_of s st.good are.last are.filters) are.ends
row_moves h s (Replace policy) st are =
    still s (outs_of s (Replace policy)) (says s (ByReplace policy) st.good.apart).exits
    (replace_wires s policy)
row_moves h s (Tick clock) st are =
    (ticked_along s clock).last
    ∙ still s (outs_of s (Tick clock)) (says s (ByTick clock) st.good.apart).exits (tick_wires s clock)

pub last_shown : (h : List Row) → Lawful opening h → (state_of opening h).link.last ≡ last_id h
last_shown [] l = refl
last_shown (row ∷ h) l =
    let s = state_of opening h in
    let c = cause_of row.event in
    let st = stands h l.0 in
    let now = Last (publications s.link.waiting) row.outs s.link.last in
    let moved : (link_moved s c (exits_in row.outs)).last ≡ now =
    subst (λ outcomes. (link_moved s c outcomes).last ≡ now) (sym l.1.exits)
    (subst (Moves s row.event) (sym (exact_by s c row.outs l.1))
    (row_moves h s row.event st (wanted_shown h l.0)))
    in
    moved
    ∙ (ap (λ items. Last (publications items) row.outs s.link.last) st.shown.waits
    ∙ ap (Last (publications (waiting h)) row.outs) (last_shown h l.0))

pub rest_shown : (h : List Row) → Lawful opening h → RestShown h (state_of opening h).link
rest_shown h l =
    let are = (flights_shown h l).shown in
    record {
      in_flight = are.in_flight;
      last = last_shown h l;
      wanted = (wanted_shown h l).wanted;
      pinged = (stands h l).shown.pinged;
    }
