-- All that goes out at a take and as a connection begins is what the laws say.
use Rattle.std.proofs.Common.{◌≡◌, ℕ, Bool, true, false, List, [], ◌∷◌, ◌++◌, map, refl, ap, sym, ◌∙◌}
use Rattle.std.proofs.Common.{if◌then◌else◌}
use Rattle.std.specs.Prelude.{Some, None}
use Rattle.std.specs.List.{flat_map}
use Rattle.std.proofs.lemmas.List.{map-append}
use Rattle.sng_text.specs.declared.qos.Qos.{Qos}
use Rattle.sng_text.specs.declared.qos.Qos.TheVariants.{AtMostOnce, AtLeastOnce}
use Rattle.sng_grants.specs.declared.policy.Policy.{Policy}
use Rattle.mqtt_frames.specs.Packets.{written}
use Rattle.mqtt_frames.specs.declared.packet.Packet.TheVariants as packet
use Rattle.sng_outbox.specs.Sending.{is_at_least_once}
use Rattle.sng_outbox.specs.declared.in_flight.InFlight.{InFlight}
use Rattle.sng_outbox.specs.declared.item.Item.{Item}
use Rattle.sng_outbox.specs.declared.item.Item.TheVariants as item
use Rattle.sng_outbox.specs.declared.item.Publication.{Publication}
use Rattle.sng_book.specs.Denials.{is_allowed}
use Rattle.sng_book.specs.declared.event.Event.TheVariants.{Up, Take}
use Rattle.sng_book.specs.declared.outcome.Outcome.{Outcome}
use Rattle.sng_book.specs.declared.outcome.Outcome.TheVariants.{Allowed, Denied}
use Rattle.sng_book.specs.declared.out.Out.{Out}
use Rattle.sng_book.specs.declared.out.Out.TheVariants.{Wire}
use Rattle.sng_book.specs.declared.row.Row.{Row}
use Rattle.sng_history.specs.Causes.{cause_of}
use Rattle.sng_history.specs.Links.{Link, wants, next_packet_id, packet_id_by, sent_by, exited}
use Rattle.sng_history.specs.Links.{subscribe_sent}
use Rattle.sng_history.specs.Links.{unsubscribe_sent, subscribe_left, unsubscribe_left, still_in_flight}
use Rattle.sng_history.specs.Links.{resumed}
use Rattle.sng_history.specs.Links.{filters_wanted}
use Rattle.sng_history.specs.Exits.{exits_of, forwarded}
use Rattle.sng_history.specs.Exits.{leaving, agains_of, sent_again, resending, subscribing}
use Rattle.sng_history.specs.Verdicts.{exit}
use Rattle.sng_history.specs.State.{State, opening, state_of}
use Rattle.sng_history.specs.Lawful.{Lawful}
use Rattle.sng_history.specs.Steps.{outs_of}
use Rattle.sng_laws.specs.Views.{last_policy, is_up}
use Rattle.sng_laws.specs.ViewsFlight.{in_flight}
use Rattle.sng_laws.specs.ViewsStanding.{held_in}
use Rattle.sng_laws.specs.LawsState.{RestShown}
use Rattle.sng_laws.specs.LawsFlight.{Given, given_publishes, given_at, next_given}
use Rattle.sng_laws.specs.LawsFlight.{unsubscribe_with, subscribes_with}
use Rattle.sng_laws.specs.LawsFlight.{subscribe_by}
use Rattle.sng_laws.specs.LawsOutgoing.{publish_judged, leaving_outs, given_leaving}
use Rattle.sng_laws.specs.LawsOutgoing.{taken_outs, take_answer, again_outs, still_allowed, up_answer}
use Rattle.sng_history.proofs.Keeping.{exact_by}
use Rattle.sng_promise.proofs.Answers.LawRules.{exit_ruled}
use Rattle.sng_promise.proofs.Link.LawAgain.{given_by}
use Rattle.sng_promise.proofs.Link.LawAgain.{out_by, given_sent, outgoing_same, all_out}
use Rattle.sng_promise.proofs.Link.SeenLast.{rest_shown}
use Rattle.sng_promise.proofs.Clients.SeenState.{Stands, stands}
use Rattle.sng_promise.proofs.Standing.StandingState.{standing_shown, held_shown}
use Rattle.sng_history.proofs.WantedKept.{left_same, same_wants}
use Rattle.sng_history.specs.Links as links

-- ---- at a take

id_by : (link : Link) (q : Qos)
    → packet_id_by link q ≡ (if is_at_least_once q then Some (next_given (given_by link)) else None)
id_by link AtMostOnce = refl
id_by link AtLeastOnce = refl

outs_same : (link : Link) (p : Publication) (o : Outcome)
    → forwarded p (packet_id_by link p.qos) o ≡ leaving_outs (given_by link) p o
outs_same link p Allowed = rw (id_by link p.qos) refl
outs_same link p (Denied rule) = refl

sent_given : (link : Link) (p : Publication) (q : Qos)
    → (if is_at_least_once q then given_publishes (given_by link) (next_given (given_by link) ∷ [])
    else given_by link) ≡ given_by (sent_by link p q)
sent_given link p AtMostOnce = refl
sent_given link p AtLeastOnce =
    let n = next_packet_id link in
    ap (λ ids. let given : Given = record { in_flight = ids; wanted = link.wanted; last = n } in given)
    (sym (map-append (λ (sent : InFlight). sent.packet_id) link.in_flight
    (record { packet_id = n; publication = p } ∷ [])))

given_same : (link : Link) (p : Publication) (o : Outcome)
    → given_leaving (given_by link) p o ≡ given_by (exited link p o)
given_same link p Allowed = sent_given link p p.qos
given_same link p (Denied rule) = refl

-- what the rest lets out, whatever the link is then
abbrev Rest : Policy → (List ℕ → Bool) → List Item → Link → Type 0
Rest policy held items link =
    leaving link items (exits_of policy items) ≡ taken_outs policy held (given_by link) items

publish_taken : (policy : Policy) (held : List ℕ → Bool) (link : Link) (p : Publication) (items : List Item)
    (o : Outcome)
    → o ≡ publish_judged policy p → Rest policy held items (exited link p o)
    → forwarded p (packet_id_by link p.qos) o ++ leaving (exited link p o) items (exits_of policy items)
    ≡ leaving_outs (given_by link) p (publish_judged policy p)
    ++ taken_outs policy held (given_leaving (given_by link) p (publish_judged policy p)) items
publish_taken policy held link p items o is rest =
    ap (λ outs. outs ++ leaving (exited link p o) items (exits_of policy items)) (outs_same link p o)
    ∙ (ap (λ outs. leaving_outs (given_by link) p o ++ outs)
    (rest ∙ ap (λ given. taken_outs policy held given items) (sym (given_same link p o)))
    ∙ ap (λ j. leaving_outs (given_by link) p j
    ++ taken_outs policy held (given_leaving (given_by link) p j) items) is)

subscribe_taken : (policy : Policy) (held : List ℕ → Bool) (link : Link) (text : List ℕ) (items : List Item)
    (b : Bool)
    → wants link.wanted text ≡ b → held text ≡ b
    → Rest policy held items (if b then subscribe_sent link text else link)
    → Rest policy held (item.Subscribe text ∷ items) link
subscribe_taken policy held link text items true is same rest =
    let next = subscribe_sent link text in
    let given = given_by link in
    rw (is, same)
    (ap (λ outs. outs ++ leaving next items (exits_of policy items)) (out_by link text)
    ∙ ap (λ more. map (λ octets. Wire octets) (subscribe_by given text) ++ more)
    (rest ∙ ap (λ from. taken_outs policy held from items) (sym (given_sent link text))))
subscribe_taken policy held link text items false is same rest = rw (is, same) rest

unsubscribe_taken : (policy : Policy) (held : List ℕ → Bool) (link : Link) (text : List ℕ) (items : List Item)
    (b : Bool)
    → wants link.wanted text ≡ b → held text ≡ b
    → Rest policy held items (if b then link else unsubscribe_sent link)
    → Rest policy held (item.Unsubscribe text ∷ items) link
unsubscribe_taken policy held link text items true is same rest = rw (is, same) rest
unsubscribe_taken policy held link text items false is same rest =
    rw (is, same) (ap (λ outs. Wire (unsubscribe_with (next_packet_id link) text) ∷ outs) rest)

-- all items leave so, where just the filters that stand are wanted
all_taken : (policy : Policy) (held : List ℕ → Bool) (link : Link) (items : List Item)
    → ((text : List ℕ) → wants link.wanted text ≡ held text) → Rest policy held items link
all_taken policy held link [] same = refl
all_taken policy held link (item.Publish p ∷ items) same =
    let o = exit policy p.origin p.name in
    let next = exited link p o in
    publish_taken policy held link p items o (exit_ruled policy p.origin p.name)
    (all_taken policy held next items
    (λ text. same_wants next.wanted link.wanted (left_same link (item.Publish p ∷ []) (o ∷ [])) text
    ∙ same text))
all_taken policy held link (item.Subscribe text ∷ items) same =
    let next = subscribe_left link text in
    subscribe_taken policy held link text items (wants link.wanted text) refl (sym (same text))
    (all_taken policy held next items
    (λ one. same_wants next.wanted link.wanted (left_same link (item.Subscribe text ∷ []) []) one ∙ same one))
all_taken policy held link (item.Unsubscribe text ∷ items) same =
    let next = unsubscribe_left link text in
    unsubscribe_taken policy held link text items (wants link.wanted text) refl (sym (same text))
    (all_taken policy held next items
    (λ one. same_wants next.wanted link.wanted (left_same link (item.Unsubscribe text ∷ []) []) one
    ∙ same one))
all_taken policy held link (item.Acknowledge packet_id ∷ items) same =
    ap (λ outs. Wire (written (packet.PublishAck packet_id)) ∷ outs) (all_taken policy held link items same)
all_taken policy held link (item.Ping ∷ items) same =
    ap (λ outs. Wire (written packet.PingRequest) ∷ outs) (all_taken policy held link items same)

-- the packet ids that the link gave are those that the rows show
given_shown : (h : List Row) (link : Link) → RestShown h link → given_by link ≡ given_at (in_flight h) h
given_shown h link are = rw (are.in_flight, are.wanted, are.last) refl

take_by : (s : State) (held : List ℕ → Bool) (b : Bool) → s.up ≡ b
    → ((text : List ℕ) → wants s.link.wanted text ≡ held text)
    → outs_of s Take
    ≡ (if b then taken_outs s.policy held (given_by s.link) (links.outgoing s.link) else [])
take_by s held true is same = rw is (all_taken s.policy held s.link (links.outgoing s.link) same)
take_by s held false is same = rw is refl

take_whole : (h : List Row) (s : State) → Stands h s → RestShown h s.link
    → ((text : List ℕ) → wants s.link.wanted text ≡ held_in h text)
    → outs_of s Take ≡ take_answer h
take_whole h s st are same =
    let held = held_in h in
    let given = given_at (in_flight h) h in
    let items = links.outgoing s.link in
    take_by s held s.up refl same
    ∙ (ap (λ b. if b then taken_outs s.policy held (given_by s.link) items else []) st.shown.up
    ∙ (ap (λ policy. if is_up h then taken_outs policy held (given_by s.link) items else []) st.shown.policy
    ∙ (ap (λ g. if is_up h then taken_outs (last_policy h) held g items else []) (given_shown h s.link are)
    ∙ ap (λ leave. if is_up h then taken_outs (last_policy h) held given leave else [])
    (outgoing_same h s.link st.shown.waits are.wanted))))

-- ---- as a connection begins

again_same : (sent : InFlight) (o : Outcome) → sent_again sent o ≡ again_outs sent o
again_same sent Allowed = refl
again_same sent (Denied rule) = refl

resent : (policy : Policy) (flights : List InFlight)
    → resending flights (agains_of policy flights)
    ≡ flat_map (λ sent. again_outs sent (publish_judged policy sent.publication)) flights
resent policy [] = refl
resent policy (sent ∷ flights) =
    let p = sent.publication in
    ap (λ outs. outs ++ resending flights (agains_of policy flights))
    (again_same sent (exit policy p.origin p.name)
    ∙ ap (again_outs sent) (exit_ruled policy p.origin p.name))
    ∙ ap (λ outs. again_outs sent (publish_judged policy p) ++ outs) (resent policy flights)

still_first : (sent : InFlight) (flights rest : List InFlight) (outcomes : List Outcome) (o : Outcome)
    → still_in_flight flights outcomes ≡ rest
    → still_in_flight (sent ∷ flights) (o ∷ outcomes) ≡ (if is_allowed o then sent ∷ rest else rest)
still_first sent flights rest outcomes Allowed is = ap (λ more. sent ∷ more) is
still_first sent flights rest outcomes (Denied rule) is = is

still_same : (policy : Policy) (flights : List InFlight)
    → still_in_flight flights (agains_of policy flights) ≡ still_allowed policy flights
still_same policy [] = refl
still_same policy (sent ∷ flights) =
    let p = sent.publication in
    let rest = still_allowed policy flights in
    still_first sent flights rest (agains_of policy flights) (exit policy p.origin p.name)
    (still_same policy flights)
    ∙ ap (λ o. if is_allowed o then sent ∷ rest else rest) (exit_ruled policy p.origin p.name)

-- all of it, where these are in flight under the policy and these filters stand
abbrev begun : Policy → List InFlight → List Row → List (List ℕ) → List Out
begun policy flights h texts =
    flat_map (λ sent. again_outs sent (publish_judged policy sent.publication)) flights
    ++ map (λ octets. Wire octets) (subscribes_with (given_at (still_allowed policy flights) h) texts)

up_whole : (h : List Row) (s : State) → Stands h s → RestShown h s.link → outs_of s Up ≡ up_answer h
up_whole h s st are =
    let flights = s.link.in_flight in
    let link = resumed s.link s.clock (agains_of s.policy flights) in
    let given : given_by link ≡ given_at (still_allowed s.policy flights) h =
    rw (still_same s.policy flights, are.wanted, are.last) refl in
    ap (λ outs. outs ++ subscribing link (filters_wanted s.link)) (resent s.policy flights)
    ∙ (ap (λ outs. flat_map (λ sent. again_outs sent (publish_judged s.policy sent.publication)) flights
    ++ outs)
    (all_out link (filters_wanted s.link)
    ∙ ap (λ g. map (λ octets. Wire octets) (subscribes_with g (filters_wanted s.link))) given)
    ∙ (ap (λ policy. begun policy flights h (filters_wanted s.link)) st.shown.policy
    ∙ (ap (λ sent. begun (last_policy h) sent h (filters_wanted s.link)) are.in_flight
    ∙ ap (λ wants. begun (last_policy h) (in_flight h) h (map (λ w. w.filter) wants)) are.wanted)))

-- ---- the rows

pub takes : (h : List Row) (row : Row) → Lawful opening (row ∷ h) → row.event ≡ Take
    → row.outs ≡ take_answer h
takes h row l is =
    let s = state_of opening h in
    let st = stands h l.0 in
    exact_by s (cause_of row.event) row.outs l.1
    ∙ (ap (outs_of s) is
    ∙ take_whole h s st (rest_shown h l.0)
    (λ text. st.good.wanted_held text
    ∙ sym (held_shown h s text st.shown.order (standing_shown h l.0).filters)))

pub ups : (h : List Row) (row : Row) → Lawful opening (row ∷ h) → row.event ≡ Up → row.outs ≡ up_answer h
ups h row l is =
    let s = state_of opening h in
    exact_by s (cause_of row.event) row.outs l.1
    ∙ (ap (outs_of s) is ∙ up_whole h s (stands h l.0) (rest_shown h l.0))
