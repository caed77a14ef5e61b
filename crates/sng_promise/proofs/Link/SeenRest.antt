-- What else the link holds in a lawful history: what is in flight, and that there is a packet id to be had.
use Rattle.std.proofs.Common.{◌≡◌, ℕ, ◌+◌, ◌≤◌, Bool, true, false, List, [], ◌∷◌, ◌++◌, length, refl, ap, sym}
use Rattle.std.proofs.Common.{◌∙◌, subst, arith}
use Rattle.std.proofs.Common.{if◌then◌else◌, map}
use Rattle.std.specs.Prelude.{count_by}
use Rattle.std.proofs.lemmas.List.{append-nil}
use Rattle.mqtt_frames.specs.declared.packet.SubscribeAck.{SubscribeAck}
use Rattle.mqtt_frames.specs.declared.packet.SubscribeCode.{SubscribeCode}
use Rattle.mqtt_frames.specs.declared.packet.SubscribeCode.TheVariants as code
use Rattle.mqtt_frames.specs.declared.packet.Packet.{Packet}
use Rattle.mqtt_frames.specs.declared.packet.Packet.TheVariants as packet
use Rattle.sng_grants.specs.declared.policy.Policy.{Policy}
use Rattle.sng_frames.specs.Reading.{frame_of}
use Rattle.sng_outbox.specs.Sending.{asks_for_ack}
use Rattle.sng_outbox.specs.declared.in_flight.InFlight.{InFlight}
use Rattle.sng_grants.specs.declared.limits.TheConstants.{MAX_FLIGHT}
use Rattle.sng_book.specs.declared.outcome.Outcome.{Outcome}
use Rattle.sng_book.specs.declared.outcome.Outcome.TheVariants.{Allowed, Denied}
use Rattle.sng_book.specs.declared.event.Event.{Event}
use Rattle.sng_book.specs.declared.event.Event.TheVariants.{Datagram, Broker, Up, Down, Take, Replace, Tick}
use Rattle.sng_book.specs.declared.out.Out.{Out}
use Rattle.sng_book.specs.declared.row.Row.{Row}
use Rattle.sng_history.specs.Causes.{ByUp, ByTake, cause_of, ByTick}
use Rattle.sng_history.specs.Notes.{exits_in}
use Rattle.sng_history.specs.Links.{Link, closed, still_in_flight, resumed}
use Rattle.sng_history.specs.Links.{filters_wanted}
use Rattle.sng_history.specs.Links.{subscribes_sent}
use Rattle.sng_history.specs.Links.{outgoing, filters_owed, link_after}
use Rattle.sng_history.specs.Packets.{subscribe_answer, answer_of, answered}
use Rattle.sng_history.specs.Packets.{Grants}
use Rattle.sng_history.specs.State.{State, opening, state_of, link_moved}
use Rattle.sng_history.specs.Verdicts.{exit}
use Rattle.sng_history.specs.Exits.{agains_of, sent_again, resending}
use Rattle.sng_history.specs.Exits.{exits_of, leaving}
use Rattle.sng_history.specs.Lawful.{Lawful, exits_for}
use Rattle.sng_history.specs.Steps.{outs_of}
use Rattle.sng_laws.specs.Views.{is_up}
use Rattle.sng_laws.specs.ViewsLink.{publications, departures}
use Rattle.sng_laws.specs.ViewsFlight.{agains, allowed_again, others, flights_of, launched, staying}
use Rattle.sng_laws.specs.ViewsFlight.{in_flight}
use Rattle.sng_history.proofs.Keeping.{exact_by}
use Rattle.sng_promise.proofs.Clients.SeenState.{Stands, stands}
use Rattle.sng_promise.proofs.Link.FlightIds.{Fit, without_ids, one_other, still_ids}
use Rattle.sng_history.proofs.FewOpen.{FewOpen, answered_open}
use Rattle.sng_history.proofs.WaitingFlight.{subscribes_flights}
use Rattle.sng_promise.proofs.Link.LawRows.{anew}
use Rattle.sng_promise.proofs.Link.SeenFlight.{Moves, all_move}
use Rattle.sng_promise.proofs.Link.SeenFlight.{all_subscribed}
use Rattle.sng_promise.proofs.Link.SeenPings.{datagram_unmoved, ticked_along}
use Rattle.sng_laws.specs.LawsFlight.{AreIds}
use Rattle.sng_history.specs.Good.{Good}
use Rattle.sng_promise.proofs.Link.LawLinkOrder.{outgoing_published}
use Rattle.sng_outbox.specs.declared.item.Item.{Item}
use Rattle.sng_outbox.specs.declared.item.Item.TheVariants as item
use Rattle.sng_outbox.proofs.LoadLemmas.{counted-front}

-- what a row makes of the link, but for what waits
record Moved (h : List Row) (e : Event) (outs : List Out) (link : Link) : Type 0 where
  in_flight : link.in_flight ≡ staying e outs (in_flight h) ++ launched e h outs
  fit : Fit link

-- the link is as the rows show
pub record FlightsShown (h : List Row) (link : Link) : Type 0 where
  pub in_flight : link.in_flight ≡ in_flight h

pub record Flights (h : List Row) (link : Link) : Type 0 where
  pub shown : FlightsShown h link
  pub fit : Fit link

-- ---- an event that moves nothing of it

unmoved : (h : List Row) (e : Event) (outs : List Out) (link : Link)
    → staying e outs (in_flight h) ≡ in_flight h → launched e h outs ≡ []
    → Flights h link → Moved h e outs link
unmoved h e outs link same none was = record {
  in_flight = was.shown.in_flight
      ∙ (sym (append-nil (in_flight h))
      ∙ (ap (λ flights. flights ++ []) (sym same)
      ∙ ap (λ new. staying e outs (in_flight h) ++ new) (sym none)));
  fit = was.fit;
}

-- ---- a packet of the broker

closed_flights : (h : List Row) (link : Link) (packet_id : ℕ) → Flights h link
    → Flights h (record link { wanted = closed link.wanted packet_id })
closed_flights h link packet_id was = record {
  shown = record { in_flight = was.shown.in_flight };
  fit = record {
    ids = was.fit.ids;
    last = was.fit.last;
    few = answered_open link (Grants packet_id) was.fit.few;
  };
}

suback_moved : (h : List Row) (answer : SubscribeAck) (outs : List Out) (link : Link)
    (codes : List SubscribeCode) → Flights h link
    → Moved h (Broker (packet.SubscribeAck answer)) outs
    (answered link (subscribe_answer answer.packet_id codes))
suback_moved h answer outs link [] was =
    unmoved h (Broker (packet.SubscribeAck answer)) outs
    (record link { wanted = closed link.wanted answer.packet_id }) refl refl
    (closed_flights h link answer.packet_id was)
suback_moved h answer outs link (code.Refused ∷ codes) was =
    unmoved h (Broker (packet.SubscribeAck answer)) outs
    (record link { wanted = closed link.wanted answer.packet_id }) refl refl
    (closed_flights h link answer.packet_id was)
suback_moved h answer outs link (code.Granted q ∷ codes) was =
    unmoved h (Broker (packet.SubscribeAck answer)) outs
    (record link { wanted = closed link.wanted answer.packet_id }) refl refl
    (closed_flights h link answer.packet_id was)

packet_moved : (h : List Row) (sent : Packet) (outs : List Out) (link : Link) → Flights h link
    → Moved h (Broker sent) outs (answered link (answer_of sent))
packet_moved h (packet.PublishAck packet_id) outs link was = record {
  in_flight = one_other link.in_flight packet_id was.fit.ids
      ∙ (ap (others packet_id) was.shown.in_flight ∙ sym (append-nil (others packet_id (in_flight h))));
  fit =
      record {
        ids = without_ids link.in_flight packet_id was.fit.ids;
        last = was.fit.last;
        few = was.fit.few;
      };
}
packet_moved h (packet.Publish p) outs link was =
    unmoved h (Broker (packet.Publish p)) outs link refl refl was
packet_moved h (packet.Connect connect) outs link was =
    unmoved h (Broker (packet.Connect connect)) outs link refl refl was
packet_moved h (packet.ConnectAck answer) outs link was =
    unmoved h (Broker (packet.ConnectAck answer)) outs link refl refl was
packet_moved h (packet.Subscribe request) outs link was =
    unmoved h (Broker (packet.Subscribe request)) outs link refl refl was
packet_moved h (packet.SubscribeAck answer) outs link was = suback_moved h answer outs link answer.codes was
packet_moved h (packet.Unsubscribe request) outs link was =
    unmoved h (Broker (packet.Unsubscribe request)) outs link refl refl was
packet_moved h (packet.UnsubscribeAck packet_id) outs link was =
    unmoved h (Broker (packet.UnsubscribeAck packet_id)) outs link refl refl was
packet_moved h packet.PingRequest outs link was =
    unmoved h (Broker packet.PingRequest) outs link refl refl was
packet_moved h packet.PingResponse outs link was =
    unmoved h (Broker packet.PingResponse) outs link refl refl was
packet_moved h packet.Disconnect outs link was = unmoved h (Broker packet.Disconnect) outs link refl refl was

-- ---- a connection begins

again_first : (sent : InFlight) (flights : List InFlight) (o : Outcome) (outcomes : List Outcome)
    (outs more : List Out)
    → still_in_flight flights outcomes ≡ allowed_again flights (agains (outs ++ more))
    → still_in_flight (sent ∷ flights) (o ∷ outcomes)
    ≡ allowed_again (sent ∷ flights) (agains ((sent_again sent o ++ outs) ++ more))
again_first sent flights Allowed outcomes outs more rest = ap (λ flights. sent ∷ flights) rest
again_first sent flights (Denied rule) outcomes outs more rest = rest

pub again_stays : (policy : Policy) (flights : List InFlight) (more : List Out)
    → still_in_flight flights (agains_of policy flights)
    ≡ allowed_again flights (agains (resending flights (agains_of policy flights) ++ more))
again_stays policy [] more = refl
again_stays policy (sent ∷ flights) more =
    again_first sent flights (exit policy sent.publication.origin sent.publication.name)
    (agains_of policy flights)
    (resending flights (agains_of policy flights)) more (again_stays policy flights more)

anew_fit : (link : Link) (texts : List (List ℕ)) → Fit link → length link.in_flight ≤ MAX_FLIGHT
    → Fit (subscribes_sent link texts)
anew_fit link texts fit few = (all_subscribed link texts fit few).fit

still_fewer : (flights : List InFlight) (outcomes : List Outcome)
    → length (still_in_flight flights outcomes) ≤ length flights
still_fewer [] outcomes = omega arith
still_fewer (sent ∷ flights) [] = omega arith
still_fewer (sent ∷ flights) (Allowed ∷ outcomes) = omega (arith, still_fewer flights outcomes)
still_fewer (sent ∷ flights) (Denied rule ∷ outcomes) = omega (arith, still_fewer flights outcomes)

up_moved : (h : List Row) (s : State) → Stands h s → Flights h s.link
    → Moved h Up (outs_of s Up) (link_moved s ByUp (exits_for s ByUp))
up_moved h s st was =
    let outs = outs_of s Up in
    let begun : Link = resumed s.link s.clock (exits_for s ByUp) in
    let texts = filters_wanted s.link in
    let flights = still_in_flight s.link.in_flight (agains_of s.policy s.link.in_flight) in
    let fit : Fit begun =
    record {
      ids = still_ids s.link.in_flight (agains_of s.policy s.link.in_flight) was.fit.ids;
      last = was.fit.last;
      few = was.fit.few;
    } in
    record {
      in_flight = subscribes_flights begun texts
          ∙ (again_stays s.policy s.link.in_flight (anew s)
          ∙ (ap (λ all. allowed_again all (agains outs)) was.shown.in_flight
          ∙ sym (append-nil (allowed_again (in_flight h) (agains outs)))));
      fit =
          anew_fit begun texts fit (omega
          (arith, still_fewer s.link.in_flight (agains_of s.policy s.link.in_flight), st.good.few));
    }

-- ---- what waits leaves

owed_count : (texts : List (List ℕ)) (items : List Item)
    → count_by asks_for_ack (map item.Subscribe texts ++ items) ≡ count_by asks_for_ack items
owed_count [] items = refl
owed_count (text ∷ texts) items =
    omega (
      arith,
      counted-front (item.Subscribe text) (map item.Subscribe texts ++ items),
      owed_count texts items,
    )

take_moves : (s : State) (up : Bool) → s.up ≡ up → Fit s.link
    → length s.link.in_flight + count_by asks_for_ack s.link.waiting ≤ MAX_FLIGHT
    → Moves s.link (link_moved s ByTake (exits_for s ByTake))
    (if up then flights_of (publications s.link.waiting) (departures (outs_of s Take)) else [])
take_moves s true is fit few =
    let items = outgoing s.link in
    let outcomes = exits_of s.policy items in
    let ds = departures (leaving s.link items outcomes) in
    let count : count_by asks_for_ack items ≡ count_by asks_for_ack s.link.waiting =
    owed_count (filters_owed s.link) s.link.waiting in
    rw is (subst (λ ps. Moves s.link (link_after s.link items outcomes) (flights_of ps ds))
    (outgoing_published s.link) (all_move s.policy s.link items fit (omega (arith, few, count))))
take_moves s false is fit few =
    rw is (record { in_flight = sym (append-nil s.link.in_flight); pinged = refl; fit = fit })

take_moved : (h : List Row) (s : State) → Stands h s → Flights h s.link
    → Moved h Take (outs_of s Take) (link_moved s ByTake (exits_for s ByTake))
take_moved h s st was =
    let ds = departures (outs_of s Take) in
    let new = if s.up then flights_of (publications s.link.waiting) ds else [] in
    let moves = take_moves s s.up refl was.fit (omega (arith, st.good.few)) in
    let same : new ≡ launched Take h (outs_of s Take) =
    ap (λ up. if up then flights_of (publications s.link.waiting) ds else []) st.shown.up
    ∙ ap (λ items. if is_up h then flights_of (publications items) ds else []) st.shown.waits
    in
    record {
      in_flight =
          moves.in_flight ∙ (ap (λ flights. flights ++ new) was.shown.in_flight
          ∙ ap (λ more. in_flight h ++ more) same);
      fit = moves.fit;
    }

-- ---- all rows

row_moved : (h : List Row) (s : State) (e : Event) → Stands h s → Flights h s.link
    → Moved h e (outs_of s e) (link_moved s (cause_of e) (exits_for s (cause_of e)))
row_moved h s (Datagram from datagram) st was =
    let e = Datagram from datagram in
    subst (Moved h e (outs_of s e))
    (sym (datagram_unmoved s from (frame_of datagram) (exits_for s (cause_of e))))
    (unmoved h e (outs_of s e) s.link refl refl was)
row_moved h s (Broker sent) st was = packet_moved h sent (outs_of s (Broker sent)) s.link was
row_moved h s Up st was = up_moved h s st was
row_moved h s Down st was = unmoved h Down (outs_of s Down) s.link refl refl was
row_moved h s Take st was = take_moved h s st was
row_moved h s (Replace policy) st was =
    unmoved h (Replace policy) (outs_of s (Replace policy)) s.link refl refl was
row_moved h s (Tick clock) st was =
    let link = link_moved s (ByTick clock) [] in
    let along = ticked_along s clock in
    unmoved h (Tick clock) (outs_of s (Tick clock)) link refl refl (record {
      shown = record { in_flight = along.in_flight ∙ was.shown.in_flight };
      fit = record {
        ids =
            subst (λ flights. AreIds (map (λ sent. sent.packet_id) flights))
            (sym along.in_flight) was.fit.ids;
        last = subst (λ n. n ≤ 65535) (sym along.last) was.fit.last;
        few = subst FewOpen (sym along.wanted) was.fit.few;
      };
    })

open_of : {s : State} → Good s → FewOpen s.link.wanted
open_of good = record { once = good.wanted_once; few = good.few_subscribes }

pub flights_shown : (h : List Row) → Lawful opening h → Flights h (state_of opening h).link
flights_shown [] l =
    record {
      shown = record { in_flight = refl };
      fit = record { ids = tt; last = omega arith; few = record { once = tt; few = omega arith } };
    }
flights_shown (row ∷ h) l =
    let s = state_of opening h in
    let c = cause_of row.event in
    let step = row_moved h s row.event (stands h l.0) (flights_shown h l.0) in
    let moved : Moved h row.event row.outs (link_moved s c (exits_in row.outs)) =
    subst (λ outcomes. Moved h row.event row.outs (link_moved s c outcomes)) (sym l.1.exits)
    (subst (λ outs. Moved h row.event outs (link_moved s c (exits_for s c)))
    (sym (exact_by s c row.outs l.1)) step)
    in
    record {
      shown = record { in_flight = moved.in_flight };
      fit =
          record {
            ids = moved.fit.ids;
            last = moved.fit.last;
            few = open_of (stands (row ∷ h) l).good;
          };
    }
