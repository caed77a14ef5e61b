-- The laws of what is in flight and of each packet, by induction over the rows.
use Rattle.std.proofs.Common.{◌≡◌, ℕ, ◌≤◌, map, Bool, true, false, List, [], ◌∷◌, ◌++◌, refl, ap, sym, ◌∙◌}
use Rattle.std.proofs.Common.{subst, MatchBool}
use Rattle.sng_frames.specs.Reading.{frame_of}
use Rattle.sng_book.specs.declared.event.Event.{Event}
use Rattle.sng_book.specs.declared.event.Event.TheVariants.{Datagram, Broker, Up, Down, Take, Replace, Tick}
use Rattle.sng_book.specs.declared.out.Out.{Out}
use Rattle.sng_book.specs.declared.row.Row.{Row}
use Rattle.sng_history.specs.Causes.{ByPacket, ByUp, ByReplace, ByTick, cause_of, datagram_cause}
use Rattle.sng_history.specs.Links.{Link, wants, still_in_flight, resumed, filters_wanted}
use Rattle.sng_history.specs.Links.{outgoing}
use Rattle.sng_laws.specs.ViewsStanding.{held_in}
use Rattle.sng_laws.specs.ViewsWanted.{wanted}
use Rattle.sng_promise.proofs.Link.LawRows.{anew, anew_wires}
use Rattle.sng_promise.proofs.Standing.StandingState.{standing_shown, held_shown}
use Rattle.sng_promise.proofs.WantedFilters.UpstreamWanted.{wanted_shown}
use Rattle.sng_history.specs.State.{State, opening, state_of}
use Rattle.sng_history.specs.Lawful.{Lawful, exits_for}
use Rattle.sng_history.specs.Steps.{outs_of}
use Rattle.sng_laws.specs.Views.{last_policy}
use Rattle.sng_laws.specs.ViewsLink.{departures, wires_in}
use Rattle.sng_laws.specs.ViewsFlight.{agains, allowed_again, in_flight}
use Rattle.sng_laws.specs.LawsFlight.{AllReturn, is_beginning, EachReturns, AreIds, IdsApart, given_at}
use Rattle.sng_laws.specs.LawsFlight.{packets_of, PacketsFor, subscribes_with, PacketsAt, EachPacket}
use Rattle.sng_laws.specs.LawsState.{RestShown}
use Rattle.sng_history.specs.Exits.{agains_of}
use Rattle.sng_history.proofs.Says.{says}
use Rattle.sng_history.proofs.Keeping.{exact_by}
use Rattle.sng_promise.proofs.Clients.SeenState.{Stands, stands}
use Rattle.sng_promise.proofs.Link.FlightIds.{ids_of}
use Rattle.sng_promise.proofs.Link.SeenRest.{flights_shown, again_stays}
use Rattle.sng_promise.proofs.Link.SeenLast.{rest_shown}
use Rattle.sng_promise.proofs.Link.LawAgainBegins.{all_return, again_wires}
use Rattle.sng_promise.proofs.Link.LawAgain.{none_again, given_by, take_wires}
use Rattle.sng_promise.proofs.Link.LawAgain.{all_subscribe, wires_none, no_agains}
use Rattle.sng_promise.proofs.Link.LawAgain.{outgoing_same}
use Rattle.sng_promise.proofs.Link.LawWires.{datagram_still, broker_wires, replace_wires, tick_wires}

-- ---- judged again

abbrev RowReturns : List Row → Event → List Out → Type 0
RowReturns h e outs =
    MatchBool (is_beginning e) (AllReturn (last_policy h) (in_flight h) (agains outs)) (agains outs ≡ [])

take_returns : (s : State) (b : Bool) → s.up ≡ b → agains (outs_of s Take) ≡ []
take_returns s true is = rw is (none_again s.policy s.link (outgoing s.link))
take_returns s false is = rw is refl

row_returns : (h : List Row) (s : State) (e : Event) → Stands h s → s.link.in_flight ≡ in_flight h
    → RowReturns h e (outs_of s e)
row_returns h s (Datagram from datagram) st flights =
    no_agains (outs_of s (Datagram from datagram))
    ((says s (datagram_cause from (frame_of datagram)) st.good.apart).exits
    ∙ (datagram_still s from (frame_of datagram)).exits)
row_returns h s (Broker sent) st flights =
    no_agains (outs_of s (Broker sent)) (says s (ByPacket sent) st.good.apart).exits
row_returns h s Up st flights =
    subst (λ policy. AllReturn policy (in_flight h) (agains (outs_of s Up))) st.shown.policy
    (subst (λ fs. AllReturn s.policy fs (agains (outs_of s Up))) flights
    (all_return s.policy s.link.in_flight (anew s) (wires_none (anew s) (anew_wires s))))
row_returns h s Down st flights = refl
row_returns h s Take st flights = take_returns s s.up refl
row_returns h s (Replace policy) st flights =
    no_agains (outs_of s (Replace policy)) (says s (ByReplace policy) st.good.apart).exits
row_returns h s (Tick clock) st flights =
    no_agains (outs_of s (Tick clock)) (says s (ByTick clock) st.good.apart).exits

pub each_returns : (h : List Row) → Lawful opening h → EachReturns h
each_returns [] l = tt
each_returns (row ∷ h) l =
    let s = state_of opening h in (
      each_returns h l.0,
      subst (RowReturns h row.event) (sym (exact_by s (cause_of row.event) row.outs l.1))
          (row_returns h s row.event (stands h l.0) (flights_shown h l.0).shown.in_flight),
    )

-- ---- packet ids

pub ids_apart : (h : List Row) → Lawful opening h → IdsApart h
ids_apart h l =
    let are = flights_shown h l in
    subst (λ fs. AreIds (ids_of fs)) are.shown.in_flight are.fit.ids

-- ---- each packet

-- the packet ids that the link gave are those that the rows show
given_same : (h : List Row) (link : Link) → RestShown h link → given_by link ≡ given_at (in_flight h) h
given_same h link are = rw (are.in_flight, are.wanted, are.last) refl

begun_same : (h : List Row) (s : State) → RestShown h s.link
    → given_by (resumed s.link s.clock (exits_for s ByUp))
    ≡ given_at (allowed_again (in_flight h) (agains (outs_of s Up))) h
begun_same h s are =
    let stays : still_in_flight s.link.in_flight (agains_of s.policy s.link.in_flight)
    ≡ allowed_again (in_flight h) (agains (outs_of s Up)) =
    again_stays s.policy s.link.in_flight (anew s)
    ∙ ap (λ flights. allowed_again flights (agains (outs_of s Up))) are.in_flight in
    ap (λ flights. record { in_flight = ids_of flights; wanted = s.link.wanted; last = s.link.last }) stays
    ∙ (ap (λ wanted. record {
      in_flight = ids_of
          (allowed_again (in_flight h) (agains (outs_of s Up)));
      wanted = wanted;
      last = s.link.last;
    }) are.wanted
    ∙ ap (λ last. record {
      in_flight = ids_of
          (allowed_again (in_flight h) (agains (outs_of s Up)));
      wanted = wanted h;
      last = last;
    }) are.last)

take_packets : (s : State) (held : List ℕ → Bool) (b : Bool) → s.up ≡ b → s.link.last ≤ 65535
    → ((text : List ℕ) → wants s.link.wanted text ≡ held text)
    → MatchBool b (PacketsFor held (given_by s.link) (outgoing s.link) (departures (outs_of s Take))
    (wires_in (outs_of s Take))) (wires_in (outs_of s Take) ≡ [])
take_packets s held true is small same = rw is (take_wires held s.policy s.link (outgoing s.link) small same)
take_packets s held false is small same = rw is refl

up_packets : (h : List Row) (s : State) → RestShown h s.link → PacketsAt Up h (outs_of s Up)
up_packets h s are =
    let given = given_at (allowed_again (in_flight h) (agains (outs_of s Up))) h in
    again_wires s.policy s.link.in_flight (anew s) (wires_none (anew s) (anew_wires s))
    ∙ ap (λ more. packets_of (agains (outs_of s Up)) ++ more)
    (all_subscribe (resumed s.link s.clock (exits_for s ByUp)) (filters_wanted s.link)
    ∙ (ap (λ from. subscribes_with from (filters_wanted s.link)) (begun_same h s are)
    ∙ ap (λ all. subscribes_with given (map (λ w. w.filter) all)) are.wanted))

row_packets : (h : List Row) (s : State) (e : Event) → Stands h s → RestShown h s.link → s.link.last ≤ 65535
    → ((text : List ℕ) → wants s.link.wanted text ≡ held_in h text) → PacketsAt e h (outs_of s e)
row_packets h s (Datagram from datagram) st are small same = (datagram_still s from (frame_of datagram)).wires
row_packets h s (Broker sent) st are small same = broker_wires s sent
row_packets h s Up st are small same = up_packets h s are
row_packets h s Down st are small same = refl
row_packets h s Take st are small same =
    rw (sym (given_same h s.link are), sym st.shown.up, sym (outgoing_same h s.link st.shown.waits are.wanted))
    (take_packets s (held_in h) s.up refl small same)
row_packets h s (Replace policy) st are small same = replace_wires s policy
row_packets h s (Tick clock) st are small same = tick_wires s clock

pub each_packet : (h : List Row) → Lawful opening h → EachPacket h
each_packet [] l = tt
each_packet (row ∷ h) l =
    let s = state_of opening h in
    let st = stands h l.0 in (
      each_packet h l.0,
      subst (PacketsAt row.event h) (sym (exact_by s (cause_of row.event) row.outs l.1))
          (row_packets h s row.event st (rest_shown h l.0) (wanted_shown h l.0).last
          (λ text. st.good.wanted_held text
          ∙ sym (held_shown h s text st.shown.order (standing_shown h l.0).filters))),
    )
