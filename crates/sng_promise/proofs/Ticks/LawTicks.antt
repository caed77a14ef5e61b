-- What a tick of the clock lets out is what the law says: the clients that are lost, with what becomes of
-- their wills and of what waits for them, and a PINGREQ to the broker that finds no place.
use Rattle.std.proofs.Common.{◌≡◌, ℕ, Bool, true, false, List, [], ◌∷◌, ◌++◌, map, refl, ap, sym}
use Rattle.std.proofs.Common.{◌∙◌, subst, append_assoc, if◌then◌else◌}
use Rattle.std.specs.Prelude.{◌&&◌, not, Option, Some, None}
use Rattle.std.specs.List.{flat_map}
use Rattle.std.proofs.lemmas.List.{append-nil}
use Rattle.sng_grants.specs.Limits.{Limits}
use Rattle.sng_wills.specs.declared.will.Will.{Will}
use Rattle.sng_outbox.specs.declared.item.Item.{Item}
use Rattle.sng_outbox.specs.declared.item.Publication.{Publication}
use Rattle.sng_outbox.specs.declared.origin.Origin.TheVariants as origin
use Rattle.sng_book.specs.declared.decision.Decision.{Decision}
use Rattle.sng_book.specs.declared.decision.Decision.TheVariants as note
use Rattle.sng_book.specs.declared.outcome.Denial.TheVariants.{Peer}
use Rattle.sng_book.specs.declared.outcome.PeerDenial.TheVariants.{Gone}
use Rattle.sng_book.specs.declared.outcome.Outcome.{Outcome}
use Rattle.sng_book.specs.declared.outcome.Outcome.TheVariants.{Allowed, Denied}
use Rattle.sng_book.specs.declared.out.Out.{Out}
use Rattle.sng_book.specs.declared.out.Out.TheVariants.{Note}
use Rattle.sng_book.specs.declared.row.Row.{Row}
use Rattle.sng_history.specs.Causes.{ByTick}
use Rattle.sng_history.specs.Clients.{Around, Client, lost, note_by, notes_by, is_drained}
use Rattle.sng_history.specs.Links.{Link}
use Rattle.sng_history.specs.Packets.{has_place}
use Rattle.sng_history.specs.Room.{room_in}
use Rattle.sng_history.specs.Standing.{Release}
use Rattle.sng_history.specs.State.{State, later}
use Rattle.sng_history.specs.Outgoing.{all_gone}
use Rattle.sng_history.specs.Ticking as ticking
use Rattle.sng_history.specs.Ticking.{is_lost_at, testament}
use Rattle.sng_history.specs.Ticking.{testaments, all_placed, ping_dropped}
use Rattle.sng_history.specs.Losing.{before, again_notes, unplaced, will_dropped, lost_notes, tick_notes}
use Rattle.sng_history.specs.Whole.{frames_of, spell, part, whole_by, drained_outs}
use Rattle.sng_history.specs.Steps.{notes_for}
use Rattle.sng_history.specs.Good.{Each, Distinct, AtRest}
use Rattle.sng_laws.specs.Views.{ticks, greatest}
use Rattle.sng_laws.specs.Views.{last_limits}
use Rattle.sng_laws.specs.ViewsClients.{accepted}
use Rattle.sng_laws.specs.ViewsLink as views
use Rattle.sng_laws.specs.ViewsLink.{published_for, pinged}
use Rattle.sng_laws.specs.ViewsWills.{will_of}
use Rattle.sng_laws.specs.LawsState.{ClientShown, RestShown}
use Rattle.sng_laws.specs.LawsHanding.{gone_answer, FrontAnnounced}
use Rattle.sng_laws.specs.LawsLost.{is_due_to_be_lost, again_answer}
use Rattle.sng_laws.specs.LawsLost.{refused_by, will_placed, will_refused, ping_noted, tick_parts}
use Rattle.sng_laws.specs.LawsLost.{tick_answer}
use Rattle.sng_history.proofs.Own.{each_with}
use Rattle.sng_history.proofs.ClientIds.{ids_of}
use Rattle.sng_promise.proofs.Clients.SeenOrder.{StateShown}
use Rattle.sng_promise.proofs.Clients.SeenState.{Stands}
use Rattle.sng_promise.proofs.Link.SeenPlaced.{all_alongside}
use Rattle.sng_history.proofs.WillsPlaced.{placed_append}
use Rattle.sng_history.proofs.WillsPlaced.{before_is}
use Rattle.sng_history.proofs.TickRests.{lost_next}
use Rattle.sng_promise.proofs.Answers.LawDisconnects.{gone_spelled}
use Rattle.sng_promise.proofs.Ticks.LawRetries.{ticking_by, let_out, again_shown}
use Rattle.sng_promise.proofs.LastWills.LawTickWills.{lost_shown, Crowds, room_judged, will_waits}
use Rattle.sng_history.proofs.WillsPlaced.{testaments_with}
use Rattle.sng_grants.specs.declared.policy.Policy.{Policy}

-- ---- the notes of a client that is lost

spelled_both : (a : Around) (dropped : List Release) (one two : List Decision) (x : Client)
    → spell a dropped x (one ++ two) ≡ spell a dropped x one ++ spell a dropped (notes_by a one x) two
spelled_both a dropped [] two x = refl
spelled_both a dropped (said ∷ one) two x =
    let y = note_by a said x in
    ap (λ outs. Note said ∷ (frames_of a dropped x said ++ outs)) (spelled_both a dropped one two y)
    ∙ ap (λ outs. Note said ∷ outs)
    (sym (append_assoc (frames_of a dropped x said) (spell a dropped y one)
    (spell a dropped (notes_by a one y) two)))

refused_as : (s : State) (came : ℕ) (y : Client) (id : List ℕ) (p : Publication) (o : Outcome)
    → spell (ticking_by s came) [] y (unplaced id p o) ≡ refused_by id p o
refused_as s came y id p Allowed = refl
refused_as s came y id p (Denied rule) = refl

will_spelled : (limits : Limits) (h : List Row) (s : State) (came : ℕ) (link : Link) (y : Client) (id : List ℕ)
    (will : Option Will) → Crowds limits h link
    → spell (ticking_by s came) [] y (will_dropped limits link id (ticking.will_of id will))
    ≡ will_refused h link.waiting id (published_for id will)
will_spelled limits h s came link y id None flights = refl
will_spelled limits h s came link y id (Some will) flights =
    let p : Publication =
    record {
      origin = origin.Client id;
      name = will.topic;
      payload = will.payload;
      qos = will.qos;
      retain = will.retain;
    } in
    refused_as s came y id p (room_in limits link p.qos) ∙ ap (refused_by id p) (room_judged limits h link p flights)

-- what is let out for it, where these items wait
abbrev lost_outs : List Row → List Item → List ℕ → List Out
lost_outs h items id =
    Note (note.Lost id) ∷ (gone_answer h id ++ will_refused h items id (published_for id (will_of id h)))

lost_spelled : (limits : Limits) (h : List Row) (s : State) (came : ℕ) (link : Link) (x : Client)
    → Crowds limits h link
    → ClientShown h x
    → spell (ticking_by s came) [] x (lost_notes limits link x) ≡ lost_outs h link.waiting x.id
lost_spelled limits h s came link x flights shown =
    let a = ticking_by s came in
    let id = x.id in
    let gone = all_gone id x.buffer.waiting in
    let dropped = will_dropped limits link id (ticking.will_of id x.wills.will) in
    ap (λ outs. Note (note.Lost id) ∷ outs)
    (spelled_both a [] gone dropped (lost x)
    ∙ (ap (λ outs. outs ++ spell a [] (notes_by a gone (lost x)) dropped)
    (gone_spelled a [] id x.buffer.waiting (lost x)
    ∙ ap (λ waiting. map (λ m. Note (note.Hand id m.name (Denied (Peer Gone)))) waiting) shown.waiting)
    ∙ ap (λ outs. gone_answer h id ++ outs)
    (will_spelled limits h s came link (notes_by a gone (lost x)) id x.wills.will flights
    ∙ ap (λ will. will_refused h link.waiting id (published_for id will)) shown.will)))

-- ---- each client, behind those before it

-- the link once the wills of these wait
abbrev behind : State → ℕ → List Client → Link
behind s clock xs = all_placed s.policy.limits s.link (testaments clock xs)

behind_with : (s : State) (clock : ℕ) (xs : List Client) (x : Client)
    → behind s clock (xs ++ x ∷ []) ≡ all_placed s.policy.limits (behind s clock xs) (testament clock x)
behind_with s clock xs x =
    ap (all_placed s.policy.limits s.link) (testaments_with clock xs x)
    ∙ placed_append s.policy.limits s.link (testaments clock xs) (testament clock x)

-- what a client lets out, by whether it is lost
abbrev outs_if : List Row → ℕ → List Item → List ℕ → Bool → List Out
outs_if h clock items id lost = if lost then lost_outs h items id else again_answer h clock id

tick_spelled : (h : List Row) (s : State) (came : ℕ) (link : Link) (x : Client) (over : Bool)
    → Crowds s.policy.limits h link
    → FrontAnnounced h x.id
    → is_drained x ≡ false
    → StateShown h s → ClientShown h x
    → let clock = later s.clock came in
    let_out s came x (if over then lost_notes s.policy.limits link x else again_notes s.policy clock x)
    ≡ outs_if h clock link.waiting x.id over
tick_spelled h s came link x true flights front busy state shown =
    ap (λ y. spell (ticking_by s came) [] x (lost_notes s.policy.limits link x) ++ drained_outs y)
    (lost_next s came s.policy.limits link x)
    ∙ (append-nil (spell (ticking_by s came) [] x (lost_notes s.policy.limits link x))
    ∙ lost_spelled s.policy.limits h s came link x flights shown)
tick_spelled h s came link x false flights front busy state shown =
    again_shown h s came x front busy state shown

-- what waits behind it
waits_if : (limits : Limits) (h : List Row) (link : Link) (x : Client) (over : Bool) → Crowds limits h link
    → ClientShown h x
    → (all_placed limits link (if over then ticking.will_of x.id x.wills.will else [])).waiting
    ≡ (if over then link.waiting ++ will_placed h link.waiting (published_for x.id (will_of x.id h))
    else link.waiting)
waits_if limits h link x true flights shown =
    will_waits limits h link x.id x.wills.will flights
    ∙ ap (λ will. link.waiting ++ will_placed h link.waiting (published_for x.id will)) shown.will
waits_if limits h link x false flights shown = refl

-- ---- the PINGREQ

ping_by : (due free : Bool)
    → (let outs : List Out = if due then (if free then [] else Note note.Outbox ∷ []) else [] in outs)
    ≡ (if due && not free then Note note.Outbox ∷ [] else [])
ping_by true true = refl
ping_by true false = refl
ping_by false free = refl

clock_shown : (h : List Row) (s : State) (came : ℕ) → StateShown h s
    → later s.clock came ≡ greatest (came ∷ ticks h)
clock_shown h s came shown = ap (λ was. later was came) shown.clock

ping_shown : (h : List Row) (s : State) (came : ℕ) (link : Link) → StateShown h s → link.pinged ≡ pinged h
    → ping_dropped s.policy.limits s.up link (later s.clock came) ≡ ping_noted h came link.waiting
ping_shown h s came link shown last =
    let limits : s.policy.limits ≡ last_limits h = ap (λ (policy : Policy). policy.limits) shown.policy in
    ping_by (ticking.is_ping_due s.up link (later s.clock came)) (has_place s.policy.limits link)
    ∙ (rw (clock_shown h s came shown, shown.up, last, limits) refl)

-- ---- the row

-- all clients behind these, by what waits then
abbrev RestOf : List Row → State → ℕ → List Client → List Client → Type 0
RestOf h s came xs ys =
    let clock = later s.clock came in
    flat_map (λ x. part (ticking_by s came) [] (tick_notes s.policy s.link clock s.clients x) x) ys
    ++ ping_dropped s.policy.limits s.up (behind s clock (xs ++ ys)) clock
    ≡ tick_parts h came clock (behind s clock xs).waiting (ids_of ys)

parts_if : (h : List Row) (came clock : ℕ) (items more : List Item) (id : List ℕ) (ids : List (List ℕ))
    (rest : List Out) (over : Bool)
    → is_due_to_be_lost h clock id ≡ over
    → more ≡ (if over then items ++ will_placed h items (published_for id (will_of id h)) else items)
    → rest ≡ tick_parts h came clock more ids
    → outs_if h clock items id over ++ rest ≡ tick_parts h came clock items (id ∷ ids)
parts_if h came clock items more id ids rest true due waits is =
    let refused = will_refused h items id (published_for id (will_of id h)) in
    rw due
    (ap (λ outs. Note (note.Lost id) ∷ outs)
    (append_assoc (gone_answer h id) refused rest
    ∙ ap (λ outs. gone_answer h id ++ (refused ++ outs))
    (is ∙ ap (λ all. tick_parts h came clock all ids) waits)))
parts_if h came clock items more id ids rest false due waits is =
    rw due (ap (λ outs. again_answer h clock id ++ outs)
    (is ∙ ap (λ all. tick_parts h came clock all ids) waits))

-- what holds of each client
record Known (h : List Row) (x : Client) : Type 0 where
  shown : ClientShown h x
  busy : is_drained x ≡ false

rest_of : (h : List Row) (s : State) (came : ℕ) (xs ys : List Client) → s.clients ≡ xs ++ ys → Stands h s
    → RestShown h s.link
    → ((id : List ℕ) → FrontAnnounced h id) → Each (Known h) ys → RestOf h s came xs ys
rest_of h s came xs [] all st rest fronts each =
    let clock = later s.clock came in
    let link = behind s clock (xs ++ []) in
    ping_shown h s came link st.shown
    ((all_alongside s.policy.limits s.link (testaments clock (xs ++ []))).pinged ∙ rest.pinged)
    ∙ ap (λ zs. ping_noted h came (behind s clock zs).waiting) (append-nil xs)
rest_of h s came xs (x ∷ ys) all st rest fronts each =
    let a = ticking_by s came in
    let clock = later s.clock came in
    let link = behind s clock xs in
    let known = each.0 in
    let flights : Crowds s.policy.limits h link = (
      ap (λ (policy : Policy). policy.limits) st.shown.policy,
      (all_alongside s.policy.limits s.link (testaments clock xs)).in_flight ∙ rest.in_flight,
    ) in
    let f : Client → List Out = λ y. part a [] (tick_notes s.policy s.link clock s.clients y) y in
    let first : before x.id s.clients ≡ xs =
    ap (before x.id) all ∙ before_is xs x ys (subst Distinct all st.good.apart) in
    let over = is_lost_at clock x in
    let own : f x ≡ outs_if h clock link.waiting x.id over =
    ap (λ zs. let_out s came x (if over then lost_notes s.policy.limits (behind s clock zs) x
    else again_notes s.policy clock x)) first
    ∙ tick_spelled h s came link x over flights (fronts x.id) known.busy st.shown known.shown in
    let next = xs ++ x ∷ [] in
    let moved : next ++ ys ≡ xs ++ x ∷ ys = append_assoc xs (x ∷ []) ys in
    let last = ping_dropped s.policy.limits s.up (behind s clock (xs ++ x ∷ ys)) clock in
    let others : flat_map f ys ++ last ≡ tick_parts h came clock (behind s clock next).waiting (ids_of ys) =
    ap (λ zs. flat_map f ys ++ ping_dropped s.policy.limits s.up (behind s clock zs) clock) (sym moved)
    ∙ rest_of h s came next ys (all ∙ sym moved) st rest fronts each.1 in
    ap (λ outs. (outs ++ flat_map f ys) ++ last) own
    ∙ (append_assoc (outs_if h clock link.waiting x.id over) (flat_map f ys) last
    ∙ parts_if h came clock link.waiting (behind s clock next).waiting x.id (ids_of ys)
    (flat_map f ys ++ last) over
    (sym (lost_shown h clock x known.shown))
    (ap (λ l. l.waiting) (behind_with s clock xs x) ∙ waits_if s.policy.limits h link x over flights known.shown)
    others)

pub tick_row : (h : List Row) (s : State) (came : ℕ) → Stands h s → RestShown h s.link
    → ((id : List ℕ) → FrontAnnounced h id)
    → whole_by s (ByTick came) (notes_for s (ByTick came)) ≡ tick_answer h came
tick_row h s came st rest fronts =
    rest_of h s came [] s.clients refl st rest fronts
    (each_with (ClientShown h) AtRest (Known h) s.clients
    (λ x is at. record { shown = is; busy = at.busy }) st.shown.clients st.good.rest)
    ∙ (ap (λ items. tick_parts h came (later s.clock came) items (ids_of s.clients)) st.shown.waits
    ∙ (ap (λ ids. tick_parts h came (later s.clock came) (views.waiting h) ids) st.shown.order
    ∙ ap (λ clock. tick_parts h came clock (views.waiting h) (accepted h)) (clock_shown h s came st.shown)))
