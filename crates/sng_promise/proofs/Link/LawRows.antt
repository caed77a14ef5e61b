-- The laws of what leaves, by induction over the rows.
use Rattle.std.proofs.Common.{◌≡◌, ℕ, Bool, true, false, List, [], ◌∷◌, ◌++◌, map, refl, ap, sym, ◌∙◌, subst}
use Rattle.std.proofs.Common.{if◌then◌else◌, MatchBool}
use Rattle.std.proofs.lemmas.List.{append-nil, append_assoc}
use Rattle.sng_frames.specs.Reading.{frame_of}
use Rattle.sng_outbox.specs.Sending.{publishes}
use Rattle.sng_outbox.specs.declared.item.Item.{Item}
use Rattle.sng_outbox.specs.declared.item.Publication.{Publication}
use Rattle.sng_book.specs.declared.decision.Who.{Who}
use Rattle.sng_book.specs.declared.event.Event.{Event}
use Rattle.sng_book.specs.declared.event.Event.TheVariants.{Datagram, Broker, Up, Down, Take, Replace, Tick}
use Rattle.sng_book.specs.declared.out.Out.{Out}
use Rattle.sng_book.specs.declared.row.Row.{Row}
use Rattle.sng_history.specs.Causes.{ByPacket, ByUp, ByReplace, ByTick, cause_of, datagram_cause}
use Rattle.sng_history.specs.Links.{resumed, filters_wanted}
use Rattle.sng_history.specs.Links.{outgoing}
use Rattle.sng_history.specs.Exits.{subscribing}
use Rattle.sng_history.specs.Exits.{leaving, exits_of}
use Rattle.sng_history.specs.State.{State, opening, state_of}
use Rattle.sng_history.specs.Lawful.{Lawful, exits_for}
use Rattle.sng_history.specs.Steps.{outs_of}
use Rattle.sng_laws.specs.Views.{last_policy, is_up}
use Rattle.sng_laws.specs.ViewsLink.{Departure, publications, asked, asked_with, added, waiting, left}
use Rattle.sng_laws.specs.ViewsLink.{lets_out, drops, departures, wires_in, sends_in}
use Rattle.sng_laws.specs.LawsLink.{about_asked, about_left, LeavesInOrder, AllDepart, EachDeparts}
use Rattle.sng_laws.specs.LawsLink.{may_send, EachTimely, is_upstream}
use Rattle.sng_laws.specs.LawsReached.{Announced, EachAnnounced}
use Rattle.sng_laws.specs.LawsLink.{EachUpstream}
use Rattle.sng_history.proofs.Says.{says}
use Rattle.sng_history.proofs.Keeping.{exact_by}
use Rattle.sng_promise.proofs.Link.LawLink.{all_depart, all_announced}
use Rattle.sng_promise.proofs.Link.LawLinkOrder.{all_unsent, no_departures, none_announced, outgoing_published}
use Rattle.sng_promise.proofs.Link.LawLink.{Wires, subscribing_wires, wires_gone, wires_kept, wires_alone}
use Rattle.sng_promise.proofs.Link.LawLinkOrder.{about_all, publications_append, publications_added}
use Rattle.sng_promise.proofs.Link.LawLinkOrder.{publications_kept}
use Rattle.sng_promise.proofs.Link.LawAgainBegins.{none_departed, again_announced, again_unsent}
use Rattle.sng_promise.proofs.Link.LawWires.{datagram_still, broker_wires, replace_wires, tick_wires}
use Rattle.sng_promise.proofs.Clients.SeenState.{Stands, stands}

-- ---- one row

-- the SUBSCRIBEs as a connection begins
abbrev pub anew : State → List Out
anew s = subscribing (resumed s.link s.clock (exits_for s ByUp)) (filters_wanted s.link)

pub anew_wires : (s : State) → Wires (anew s)
anew_wires s = subscribing_wires (resumed s.link s.clock (exits_for s ByUp)) (filters_wanted s.link)

abbrev RowDeparts : List Row → Event → List Out → Type 0
RowDeparts h e outs =
    MatchBool (lets_out e h) (AllDepart (last_policy h) (publications (waiting h)) (departures outs))
    (departures outs ≡ [])

take_departs : (s : State) (b : Bool) → s.up ≡ b
    → MatchBool b (AllDepart s.policy (publications s.link.waiting) (departures (outs_of s Take)))
    (departures (outs_of s Take) ≡ [])
take_departs s true is =
    rw is
    (subst (λ ps. AllDepart s.policy ps (departures
    (leaving s.link (outgoing s.link) (exits_of s.policy (outgoing s.link)))))
    (outgoing_published s.link) (all_depart s.policy s.link (outgoing s.link)))
take_departs s false is = rw is refl

row_departs : (h : List Row) (s : State) (e : Event) → Stands h s → RowDeparts h e (outs_of s e)
row_departs h s (Datagram from datagram) st =
    no_departures (outs_of s (Datagram from datagram))
    ((says s (datagram_cause from (frame_of datagram)) st.good.apart).exits
    ∙ (datagram_still s from (frame_of datagram)).exits)
row_departs h s (Broker packet) st =
    no_departures (outs_of s (Broker packet)) (says s (ByPacket packet) st.good.apart).exits
row_departs h s Up st = none_departed s.policy s.link.in_flight (anew s) ∙ wires_gone (anew s) (anew_wires s)
row_departs h s Down st = refl
row_departs h s Take st =
    rw (sym st.shown.policy, sym st.shown.waits, sym st.shown.up) (take_departs s s.up refl)
row_departs h s (Replace policy) st =
    no_departures (outs_of s (Replace policy)) (says s (ByReplace policy) st.good.apart).exits
row_departs h s (Tick clock) st =
    no_departures (outs_of s (Tick clock)) (says s (ByTick clock) st.good.apart).exits

take_announced : (s : State) (b : Bool) → s.up ≡ b → Announced false (outs_of s Take)
take_announced s true is = rw is (all_announced s.policy s.link (outgoing s.link) false)
take_announced s false is = rw is tt

row_announced : (s : State) (e : Event) → Announced false (outs_of s e)
row_announced s (Datagram from datagram) =
    none_announced false (outs_of s (Datagram from datagram))
    (datagram_still s from (frame_of datagram)).wires
row_announced s (Broker packet) = none_announced false (outs_of s (Broker packet)) (broker_wires s packet)
row_announced s Up =
    again_announced s.policy s.link.in_flight (anew s) false (λ b. wires_alone (anew s) b (anew_wires s))
row_announced s Down = tt
row_announced s Take = take_announced s s.up refl
row_announced s (Replace policy) = none_announced false (outs_of s (Replace policy)) (replace_wires s policy)
row_announced s (Tick clock) = none_announced false (outs_of s (Tick clock)) (tick_wires s clock)

row_timely : (h : List Row) (s : State) (e : Event) → s.up ≡ is_up h → may_send e h ≡ false
    → wires_in (outs_of s e) ≡ []
row_timely h s (Datagram from datagram) up never = (datagram_still s from (frame_of datagram)).wires
row_timely h s (Broker packet) up never = broker_wires s packet
row_timely h s Up up never = absurd (let e = never in cc)
row_timely h s Down up never = refl
row_timely h s Take up never = rw (up ∙ never) refl
row_timely h s (Replace policy) up never = replace_wires s policy
row_timely h s (Tick clock) up never = tick_wires s clock

take_unsent : (s : State) (b : Bool) → s.up ≡ b → sends_in (outs_of s Take) ≡ []
take_unsent s true is = rw is (all_unsent s.policy s.link (outgoing s.link))
take_unsent s false is = rw is refl

pub row_unsent : (s : State) (e : Event) → is_upstream e ≡ true → sends_in (outs_of s e) ≡ []
row_unsent s Up is = again_unsent s.policy s.link.in_flight (anew s) ∙ wires_kept (anew s) (anew_wires s)
row_unsent s Down is = refl
row_unsent s Take is = take_unsent s s.up refl
row_unsent s (Datagram from datagram) is = absurd (let e = is in cc)
row_unsent s (Broker packet) is = absurd (let e = is in cc)
row_unsent s (Replace policy) is = absurd (let e = is in cc)
row_unsent s (Tick clock) is = absurd (let e = is in cc)

-- ---- in order

abbrev abouts : List Publication → List (Who × List ℕ)
abouts ps = map about_asked ps

abouts_append : (xs ys : List Publication) → abouts (xs ++ ys) ≡ abouts xs ++ abouts ys
abouts_append [] ys = refl
abouts_append (x ∷ xs) ys = ap (λ rest. about_asked x ∷ rest) (abouts_append xs ys)

lefts_append : (xs ys : List Departure) → map about_left (xs ++ ys) ≡ map about_left xs ++ map about_left ys
lefts_append [] ys = refl
lefts_append (x ∷ xs) ys = ap (λ rest. about_left x ∷ rest) (lefts_append xs ys)

order_row : (h : List Row) (outs : List Out) (drop b : Bool) (new : List Publication) (more : List Item)
    → publications more ≡ new → LeavesInOrder h
    → MatchBool b (AllDepart (last_policy h) (publications (waiting h)) (departures outs))
    (departures outs ≡ [])
    → abouts (asked h ++ new) ≡ map about_left (left h ++ departures outs)
    ++ abouts (publications ((if b then [] else (if drop then publishes (waiting h) else waiting h))
    ++ more))
order_row h outs drop true new more is order all =
    let ds = departures outs in
    abouts_append (asked h) new
    ∙ (ap (λ xs. xs ++ abouts new)
    (order ∙ (ap (λ xs. map about_left (left h) ++ xs)
    (sym (about_all (last_policy h) (publications (waiting h)) ds all))
    ∙ sym (lefts_append (left h) ds)))
    ∙ ap (λ xs. map about_left (left h ++ ds) ++ abouts xs) (sym is))
order_row h outs drop false new more is order none =
    let items = if drop then publishes (waiting h) else waiting h in
    rw (
      none,
      append-nil (left h),
      publications_append items more,
      is,
      publications_kept drop (waiting h),
      abouts_append (asked h) new,
      abouts_append (publications (waiting h)) new,
      order,
    )
    (append_assoc (map about_left (left h)) (abouts (publications (waiting h))) (abouts new))

-- ---- all rows

pub record Links (h : List Row) : Type 0 where
  pub order : LeavesInOrder h
  pub depart : EachDeparts h
  pub announced : EachAnnounced h
  pub timely : EachTimely h
  pub upstream : EachUpstream h

links_row : (by : ℕ) (h : List Row) (s : State) (e : Event) (outs : List Out) → Stands h s
    → outs ≡ outs_of s e → Links h → Links (record { by = by; event = e; outs = outs } ∷ h)
links_row by h s e outs st is links =
    let departs : RowDeparts h e outs = subst (RowDeparts h e) (sym is) (row_departs h s e st) in
    record {
      order =
          order_row h outs (drops e h) (lets_out e h) (asked_with e h outs) (added e h (waiting h) outs)
          (publications_added e h (waiting h) outs) links.order departs;
      depart = (links.depart, departs);
      announced = (links.announced, subst (Announced false) (sym is) (row_announced s e));
      timely = (links.timely, λ never. ap wires_in is ∙ row_timely h s e st.shown.up never);
      upstream = (links.upstream, λ of_link. ap sends_in is ∙ row_unsent s e of_link);
    }

pub links : (h : List Row) → Lawful opening h → Links h
links [] l = record { order = refl; depart = tt; announced = tt; timely = tt; upstream = tt }
links (row ∷ h) l =
    let s = state_of opening h in
    links_row row.by h s row.event row.outs (stands h l.0) (exact_by s (cause_of row.event) row.outs l.1)
    (links h l.0)
