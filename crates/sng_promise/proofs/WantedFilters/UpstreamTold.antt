-- The laws of what the broker is told of subscriptions.
use Rattle.std.proofs.Common.{◌≡◌, ℕ, Bool, true, false, List, [], ◌∷◌, refl, ap, sym, ◌∙◌, subst, Ok, Err}
use Rattle.std.specs.Prelude.{◌&&◌, not, Option, Some, None}
use Rattle.std.specs.Prelude.{◌||◌}
use Rattle.std.specs.declared.result.Result.{Result}
use Rattle.sng_frames.specs.Reading.{frame_of}
use Rattle.sng_frames.specs.declared.fault.FrameFault.{FrameFault}
use Rattle.sng_frames.specs.declared.qos.FrameQos.{FrameQos}
use Rattle.sng_frames.specs.declared.qos.FrameQos.TheVariants as qos
use Rattle.sng_frames.specs.declared.messages.publish.Publish.{Publish}
use Rattle.sng_frames.specs.declared.frame.SnFrame.{SnFrame}
use Rattle.sng_frames.specs.declared.frame.SnFrame.TheVariants as frame
use Rattle.sng_outbox.specs.declared.item.Item.{Item}
use Rattle.sng_book.specs.declared.address.Address.{Address}
use Rattle.sng_book.specs.declared.event.Event.{Event}
use Rattle.sng_book.specs.declared.event.Event.TheVariants.{Datagram, Broker, Up, Down, Take, Replace, Tick}
use Rattle.sng_book.specs.declared.out.Out.{Out}
use Rattle.sng_book.specs.declared.row.Row.{Row}
use Rattle.sng_history.specs.Causes.{ByUp, ByTake, datagram_cause, publish_cause, cause_of}
use Rattle.sng_history.specs.Causes.{ByReplace}
use Rattle.sng_history.specs.Links.{wants}
use Rattle.sng_history.specs.Packets.{answer_of, refused_filter}
use Rattle.sng_history.specs.Standing.{is_held}
use Rattle.sng_history.specs.State.{State, opening, after, state_of, up_by}
use Rattle.sng_history.specs.State.{link_moved}
use Rattle.sng_history.specs.State.{later}
use Rattle.sng_history.specs.Lawful.{Lawful, LawfulRow}
use Rattle.sng_history.specs.Lawful.{exits_for}
use Rattle.sng_history.specs.Steps.{outs_of, clients_next, next_of}
use Rattle.sng_history.specs.Steps.{next_by}
use Rattle.sng_history.specs.Good.{Good}
use Rattle.sng_laws.specs.Views.{is_up}
use Rattle.sng_laws.specs.ViewsLink.{wires_in, is_outbox_noted}
use Rattle.sng_laws.specs.ViewsWanted.{words_of, words_sent, said_upstream, is_same, refuses}
use Rattle.sng_laws.specs.ViewsStanding.{held_in}
use Rattle.sng_laws.specs.ViewsWanted.{is_upstream, wanted}
use Rattle.sng_laws.specs.ViewsWanted.{is_owed}
use Rattle.sng_laws.specs.LawsUpstream.{unsubscribe_waits, AllPlaced, EachIsOwed}
use Rattle.sng_laws.specs.ViewsLink.{subscribe_waits}
use Rattle.sng_laws.specs.LawsUpstream.{StandsStill}
use Rattle.sng_laws.specs.LawsUpstream.{IsSameOrOwed}
use Rattle.sng_laws.specs.LawsUpstream.{is_kept}
use Rattle.sng_history.proofs.WantedKept.{or_no}
use Rattle.sng_history.proofs.WantedKept.{ticked_wanted}
use Rattle.sng_history.proofs.Wanted.{subscribes}
use Rattle.sng_history.proofs.Holding.{unmoved}
use Rattle.sng_history.proofs.Keeping.{exact_by, next_same}
use Rattle.sng_promise.proofs.Clients.SeenState.{stands}
use Rattle.sng_promise.proofs.Link.LawWires.{datagram_still, broker_wires, replace_wires, tick_wires}
use Rattle.sng_promise.proofs.Standing.StandingState.{standing_shown, held_shown}
use Rattle.sng_promise.proofs.WantedFilters.UpstreamSpeaks.{unsubscribes, settled}
use Rattle.sng_promise.proofs.WantedFilters.UpstreamSpeaks.{owes, none_owes}
use Rattle.sng_promise.proofs.WantedFilters.UpstreamOpen.{WantedShown, speaks_of}
use Rattle.sng_promise.proofs.WantedFilters.UpstreamOpen.{datagram_moves}
use Rattle.sng_promise.proofs.WantedFilters.UpstreamWanted.{wanted_shown}
use Rattle.sng_promise.proofs.WantedFilters.UpstreamSettled.{Owes, settled_right}
use Rattle.sng_promise.proofs.WantedFilters.UpstreamCarries.{same_held, replace_carries, datagram_carries}
use Rattle.sng_promise.proofs.WantedFilters.UpstreamOwes.{packet_held, refuses_same, broker_owes, tick_owes}
use Rattle.sng_promise.proofs.WantedFilters.UpstreamOwes.{take_owes}
use Rattle.sng_promise.proofs.WantedFilters.UpstreamOwes.{up_said, up_owes}
use Rattle.sng_promise.proofs.WantedFilters.UpstreamOwes.{take_said}
use Rattle.sng_promise.proofs.WantedFilters.UpstreamMarks.{marks_carry, owes_next, answered_owes}
use Rattle.sng_history.proofs.Booleans.{or_neither}
use Rattle.mqtt_frames.specs.declared.packet.Packet.{Packet}

-- ---- each row

publish_up : (from : Address) (p : Publish) (q : FrameQos) (up : Bool)
    → up_by (publish_cause from p q) up ≡ up
publish_up from p qos.WithoutSession up = refl
publish_up from p qos.AtMostOnce up = refl
publish_up from p qos.AtLeastOnce up = refl
publish_up from p qos.ExactlyOnce up = refl

disconnect_up : (from : Address) (duration : Option ℕ) (up : Bool)
    → up_by (datagram_cause from (Ok (frame.Disconnect duration))) up ≡ up
disconnect_up from None up = refl
disconnect_up from (Some duration) up = refl

datagram_up : (from : Address) (read : Result SnFrame FrameFault) (up : Bool)
    → up_by (datagram_cause from read) up ≡ up
datagram_up from (Ok (frame.Publish p)) up = publish_up from p p.flags.qos up
datagram_up from (Ok (frame.Disconnect duration)) up = disconnect_up from duration up
datagram_up from (Ok message) up = refl
datagram_up from (Err broke) up = refl

-- a row without packets says nothing to the broker
unsaid : (outs : List Out) (text : List ℕ) (u : Bool) → wires_in outs ≡ []
    → said_upstream (words_sent outs) text u ≡ u
unsaid outs text u none = ap (λ packets. said_upstream (words_of packets) text u) none

abbrev OwedAt : ℕ → List Row → Event → List Out → State → Type 0
OwedAt by h e outs s =
    s.up ≡ true → (text : List ℕ)
    → Owes s text (is_upstream (record { by = by; event = e; outs = outs } ∷ h) text || owes s.link.wanted text)

abbrev OwedBefore : List Row → State → Type 0
OwedBefore h s = s.up ≡ true → (text : List ℕ) → Owes s text (is_upstream h text || owes s.link.wanted text)

owed_row : (by : ℕ) (h : List Row) (s : State) (e : Event) → Good s → WantedShown h s
    → is_outbox_noted (outs_of s e) ≡ false → OwedBefore h s → OwedAt by h e (outs_of s e) (next_of s e)
owed_row by h s (Datagram from datagram) good shown quiet was up text =
    let e = Datagram from datagram in
    let u = is_upstream h text in
    let next = next_of s e in
    subst (λ k. Owes next text (k || owes next.link.wanted text))
    (sym (unsaid (outs_of s e) text u (datagram_still s from (frame_of datagram)).wires))
    (marks_carry s (cause_of e) text u good
    (ap (λ wanted. owes wanted text) (datagram_moves s from (frame_of datagram)))
    (datagram_carries s from (frame_of datagram) good quiet text (u || owes s.link.wanted text)
    (was (sym (datagram_up from (frame_of datagram) s.up) ∙ up) text)))
owed_row by h s (Broker sent) good shown quiet was up text =
    let e = Broker sent in
    let u = is_upstream h text in
    let kept : Bool = not (refuses sent (wanted h) text) && u in
    let next = next_of s e in
    subst (λ k. Owes next text (k || owes next.link.wanted text))
    (sym (unsaid (outs_of s e) text kept (broker_wires s sent)))
    (subst (λ w. Owes next text ((not (refuses sent w text) && u) || owes next.link.wanted text)) shown.wanted
    (broker_owes s sent text u good (was up text)))
owed_row by h s Up good shown quiet was up text =
    up_owes s text good (speaks_of s good shown.last shown.filters)
owed_row by h s Down good shown quiet was up text = absurd (let bad : false ≡ true = up in cc)
owed_row by h s Take good shown quiet was up text =
    take_owes s text (is_upstream h text) good up (speaks_of s good shown.last shown.filters) shown.ends
    (was up text)
owed_row by h s (Replace policy) good shown quiet was up text =
    let e = Replace policy in
    let u = is_upstream h text in
    let next = next_of s e in
    subst (λ k. Owes next text (k || owes next.link.wanted text))
    (sym (unsaid (outs_of s e) text u (replace_wires s policy)))
    (marks_carry s (ByReplace policy) text u good refl
    (replace_carries s policy good quiet text (u || owes s.link.wanted text) (was up text)))
owed_row by h s (Tick clock) good shown quiet was up text =
    let e = Tick clock in
    let u = is_upstream h text in
    let next = next_of s e in
    subst (λ k. Owes next text (k || owes next.link.wanted text))
    (sym (unsaid (outs_of s e) text u (tick_wires s clock)))
    (tick_owes s clock text u good (was up text))

owed_after : (by : ℕ) (h : List Row) (s : State) (e : Event) (outs : List Out) → outs ≡ outs_of s e → Good s
    → WantedShown h s → is_outbox_noted outs ≡ false → OwedBefore h s
    → OwedAt by h e outs (after s (cause_of e) outs)
owed_after by h s e outs is good shown quiet was =
    subst (λ o. OwedAt by h e o (after s (cause_of e) o)) (sym is)
    (subst (OwedAt by h e (outs_of s e)) (sym (next_same s (cause_of e) good))
    (owed_row by h s e good shown (sym (ap is_outbox_noted is) ∙ quiet) was))

owed : (h : List Row) → Lawful opening h → AllPlaced h → OwedBefore h (state_of opening h)
owed [] l placed = λ up text. refl
owed (row ∷ h) l placed =
    let s = state_of opening h in
    owed_after row.by h s row.event row.outs (exact_by s (cause_of row.event) row.outs l.1)
    (stands h l.0).good (wanted_shown h l.0) placed.1 (owed h l.0 placed.0)

-- ---- what waits

held_wants : (h : List Row) → Lawful opening h → (text : List ℕ)
    → held_in h text ≡ wants (state_of opening h).link.wanted text
held_wants h l text =
    let s = state_of opening h in
    let was = stands h l in
    held_shown h s text was.shown.order (standing_shown h l).filters ∙ sym (was.good.wanted_held text)

owed_by : (items : List Item) (text : List ℕ) (w u : Bool) → settled w items text u ≡ w
    → (w ≡ true → u ≡ false → subscribes items text ≡ true)
    × (w ≡ false → u ≡ true → unsubscribes items text ≡ true)
owed_by items text true true is = ((λ one two. absurd cc), (λ one two. absurd cc))
owed_by items text true false is =
    ((λ one two. sym (or_no (subscribes items text)) ∙ is), (λ one two. absurd cc))
owed_by items text false true is = ((λ one two. absurd cc), (λ one two. flipped (unsubscribes items text) is))
  where
    flipped : (b : Bool) → (not b && true) ≡ false → b ≡ true
    flipped true is = refl
    flipped false is = absurd cc
owed_by items text false false is = ((λ one two. absurd cc), (λ one two. absurd cc))

pub each_owed : (h : List Row) → Lawful opening h → AllPlaced h → is_up h ≡ true → EachIsOwed h
each_owed h l placed up text =
    let s = state_of opening h in
    let was = stands h l in
    let both =
    owed_by s.link.waiting text (wants s.link.wanted text) (is_kept h text)
    (subst (λ wanted. Owes s text (is_upstream h text || owes wanted text)) (wanted_shown h l).wanted
    (owed h l placed (was.shown.up ∙ up) text)) in
    let same = held_wants h l text in
    record {
      begins =
          λ one two. ap (λ items. subscribe_waits items text) (sym was.shown.waits)
          ∙ both.0 (sym same ∙ one) two;
      ends =
          λ one two. ap (λ items. unsubscribe_waits items text) (sym was.shown.waits)
          ∙ both.1 (sym same ∙ one) two;
    }

-- ---- what the broker keeps

-- the state after a lawful row
pub next_is : (h : List Row) (row : Row) → Lawful opening (row ∷ h)
    → state_of opening (row ∷ h) ≡ next_of (state_of opening h) row.event
next_is h row l =
    let s = state_of opening h in
    let c = cause_of row.event in
    ap (after s c) (exact_by s c row.outs l.1) ∙ next_same s c (stands h l.0).good

held_next : (h : List Row) (row : Row) → Lawful opening (row ∷ h) → (text : List ℕ)
    → held_in (row ∷ h) text ≡ is_held (clients_next (state_of opening h) (cause_of row.event)) text
held_next h row l text =
    held_shown (row ∷ h) (state_of opening (row ∷ h)) text (stands (row ∷ h) l).shown.order
    (standing_shown (row ∷ h) l).filters ∙ ap (λ s. is_held s.clients text) (next_is h row l)

held_now : (h : List Row) → Lawful opening h → (text : List ℕ)
    → held_in h text ≡ is_held (state_of opening h).clients text
held_now h l text =
    held_shown h (state_of opening h) text (stands h l).shown.order (standing_shown h l).filters

-- what is owed then is what the rows show
marks_shown : (h : List Row) (row : Row) (l : Lawful opening h)
    → LawfulRow (state_of opening h) row.event row.outs → (text : List ℕ)
    → owes (next_of (state_of opening h) row.event).link.wanted text ≡ is_owed (row ∷ h) text
marks_shown h row l lawful text =
    ap (λ s. owes s.link.wanted text) (sym (next_is h row (l, lawful)))
    ∙ ap (λ wanted. owes wanted text) (wanted_shown (row ∷ h) (l, lawful)).wanted

-- of a row with this event
abbrev SameAt : List Row → Row → Event → Type 0
SameAt h row e =
    LawfulRow (state_of opening h) e row.outs → (text : List ℕ)
    → is_kept (record { by = row.by; event = e; outs = row.outs } ∷ h) text
    ≡ held_in (record { by = row.by; event = e; outs = row.outs } ∷ h) text

up_same : (h : List Row) (row : Row) → Lawful opening h → SameAt h row Up
up_same h row l lawful text =
    let s = state_of opening h in
    let at : Row = record { by = row.by; event = Up; outs = row.outs } in
    let shown = wanted_shown h l in
    let good = (stands h l).good in
    let said : is_kept (at ∷ h) text ≡ wants s.link.wanted text =
    ap (λ b. is_upstream (at ∷ h) text || b) (sym (marks_shown h at l lawful text))
    ∙ (ap (λ outs. said_upstream (words_sent outs) text false || owes (next_of s Up).link.wanted text)
    (exact_by s ByUp row.outs lawful)
    ∙ up_said s text (speaks_of s good shown.last shown.filters)) in
    said ∙ (good.wanted_held text
    ∙ sym (held_next h at (l, lawful) text ∙ same_held s ByUp text (λ x. unmoved s ByUp x refl)))

take_same : (h : List Row) (row : Row) → Lawful opening h → is_up h ≡ true
    → ((text : List ℕ)
    → Owes (state_of opening h) text (is_upstream h text || owes (state_of opening h).link.wanted text))
    → SameAt h row Take
take_same h row l up was lawful text =
    let s = state_of opening h in
    let at : Row = record { by = row.by; event = Take; outs = row.outs } in
    let shown = wanted_shown h l in
    let good = (stands h l).good in
    let u = is_upstream h text in
    let said : is_kept (at ∷ h) text ≡ wants s.link.wanted text =
    ap (λ b. is_upstream (at ∷ h) text || b) (sym (marks_shown h at l lawful text))
    ∙ (ap (λ outs. said_upstream (words_sent outs) text u || owes (next_of s Take).link.wanted text)
    (exact_by s ByTake row.outs lawful)
    ∙ take_said s text u ((stands h l).shown.up ∙ up) (speaks_of s good shown.last shown.filters) shown.ends
    (was text)) in
    said ∙ (good.wanted_held text
    ∙ sym (held_next h at (l, lawful) text ∙ same_held s ByTake text (λ x. unmoved s ByTake x refl)))

pub begins_same : (h : List Row) (row : Row) → Lawful opening (row ∷ h) → row.event ≡ Up → IsSameOrOwed (row ∷ h)
begins_same h row l is = subst (SameAt h row) (sym is) (up_same h row l.0) l.1

pub takes_same : (h : List Row) (row : Row) → Lawful opening (row ∷ h) → AllPlaced h → is_up h ≡ true
    → row.event ≡ Take → IsSameOrOwed (row ∷ h)
takes_same h row l placed up is =
    subst (SameAt h row) (sym is)
    (take_same h row l.0 up (owed h l.0 placed ((stands h l.0).shown.up ∙ up))) l.1

-- ---- and that stays so

unsaid_row : (s : State) (e : Event) (outs : List Out) (text : List ℕ) (u : Bool) → outs ≡ outs_of s e
    → wires_in (outs_of s e) ≡ [] → said_upstream (words_sent outs) text u ≡ u
unsaid_row s e outs text u is none =
    ap (λ o. said_upstream (words_sent o) text u) is ∙ unsaid (outs_of s e) text u none

-- of a filter that stands for nobody none is owed
owed_gone : (h : List Row) → Lawful opening h → (text : List ℕ) → held_in h text ≡ false → is_owed h text ≡ false
owed_gone h l text none =
    let s = state_of opening h in
    ap (λ wanted. owes wanted text) (sym (wanted_shown h l).wanted)
    ∙ none_owes s.link.wanted text (sym (held_wants h l text) ∙ none)

-- and of one that stands as much as before, where the row sends none
owed_stays : (h : List Row) (row : Row) → Lawful opening (row ∷ h) → (text : List ℕ)
    → (let s = state_of opening h in
    let c = cause_of row.event in
    owes (link_moved s c (exits_for s c)).wanted text ≡ owes s.link.wanted text)
    → held_in (row ∷ h) text ≡ true → is_owed (row ∷ h) text ≡ is_owed h text
owed_stays h row l text same is =
    let s = state_of opening h in
    let c = cause_of row.event in
    let wants_is : wants (next_by s c).link.wanted text ≡ true =
    ap (λ after. wants after.link.wanted text) (sym (next_is h row l))
    ∙ (sym (held_wants (row ∷ h) l text) ∙ is) in
    sym (marks_shown h row l.0 l.1 text)
    ∙ (owes_next s c text (stands h l.0).good wants_is
    ∙ (same ∙ ap (λ wanted. owes wanted text) (wanted_shown h l.0).wanted))

kept_stays : (u o after w : Bool) → (u || o) ≡ w → (w ≡ true → after ≡ o) → (w ≡ false → after ≡ false)
    → (u || after) ≡ w
kept_stays u o after true is same none = ap (λ b. u || b) (same refl) ∙ is
kept_stays u o after false is same none =
    let both = or_neither u o is in rw (both.0, none refl) refl

kept_row : (h : List Row) (row : Row) → Lawful opening (row ∷ h) → IsSameOrOwed h → StandsStill h row
    → (text : List ℕ)
    → (let s = state_of opening h in
    let c = cause_of row.event in
    owes (link_moved s c (exits_for s c)).wanted text ≡ owes s.link.wanted text)
    → (is_upstream h text || is_owed (row ∷ h) text) ≡ held_in (row ∷ h) text
kept_row h row l same still text moved =
    kept_stays (is_upstream h text) (is_owed h text) (is_owed (row ∷ h) text) (held_in h text) (same text)
    (λ is. owed_stays h row l text moved (still text ∙ is))
    (λ none. owed_gone (row ∷ h) l text (still text ∙ none))
    ∙ sym (still text)

-- what the broker refuses stands for nobody
refused_row : (h : List Row) (row : Row) (sent : Packet) → Lawful opening (row ∷ h) → row.event ≡ Broker sent
    → IsSameOrOwed h → StandsStill h row → (text : List ℕ) (r : Bool) → refuses sent (wanted h) text ≡ r
    → (let s = state_of opening h in
    let c = cause_of row.event in
    owes (link_moved s c (exits_for s c)).wanted text ≡ owes s.link.wanted text)
    → held_in (row ∷ h) text ≡ (held_in h text && not (refuses sent (wanted h) text))
    → ((not r && is_upstream h text) || is_owed (row ∷ h) text) ≡ held_in (row ∷ h) text
refused_row h row sent l at same still text false is moved held = kept_row h row l same still text moved
refused_row h row sent l at same still text true is moved held =
    let none : held_in (row ∷ h) text ≡ false = held ∙ rw is (no_more (held_in h text)) in
    owed_gone (row ∷ h) l text none ∙ sym none
  where
    no_more : (b : Bool) → (b && false) ≡ false
    no_more true = refl
    no_more false = refl

stays_at : (h : List Row) (row : Row) (e : Event) → Lawful opening h → IsSameOrOwed h
    → is_up (record { by = row.by; event = e; outs = row.outs } ∷ h) ≡ true
    → StandsStill h (record { by = row.by; event = e; outs = row.outs }) → SameAt h row e
stays_at h row (Datagram from datagram) l same up still lawful text =
    let s = state_of opening h in
    let e = Datagram from datagram in
    let at : Row = record { by = row.by; event = e; outs = row.outs } in
    ap (λ b. b || is_owed (at ∷ h) text)
    (unsaid_row s e row.outs text (is_upstream h text) (exact_by s (cause_of e) row.outs lawful)
    (datagram_still s from (frame_of datagram)).wires)
    ∙ kept_row h at (l, lawful) same still text
    (ap (λ wanted. owes wanted text) (datagram_moves s from (frame_of datagram)))
stays_at h row (Broker sent) l same up still lawful text =
    let s = state_of opening h in
    let e = Broker sent in
    let at : Row = record { by = row.by; event = e; outs = row.outs } in
    let refused : is_same text (refused_filter s.link (answer_of sent)) ≡ refuses sent (wanted h) text =
    sym (refuses_same s.link sent text)
    ∙ ap (λ wanted. refuses sent wanted text) (wanted_shown h l).wanted in
    ap (λ b. b || is_owed (at ∷ h) text)
    (unsaid_row s e row.outs text (not (refuses sent (wanted h) text) && is_upstream h text)
    (exact_by s (cause_of e) row.outs lawful) (broker_wires s sent))
    ∙ refused_row h at sent (l, lawful) refl same still text (refuses sent (wanted h) text) refl
    (answered_owes s.link (answer_of sent) text)
    (held_next h at (l, lawful) text
    ∙ (packet_held s sent text
    ∙ (ap (λ b. b && not (is_same text (refused_filter s.link (answer_of sent)))) (sym (held_now h l text))
    ∙ ap (λ r. held_in h text && not r) refused)))
stays_at h row Up l same up still lawful text = up_same h row l lawful text
stays_at h row Down l same up still lawful text = absurd (let bad : false ≡ true = up in cc)
stays_at h row Take l same up still lawful text =
    let s = state_of opening h in
    take_same h row l up (λ t. subst
    (λ wanted. Owes s t (is_upstream h t || owes wanted t)) (sym (wanted_shown h l).wanted)
    (subst (Owes s t) (sym (same t ∙ held_wants h l t))
    (settled_right (wants s.link.wanted t) s.link.waiting t))) lawful text
stays_at h row (Replace policy) l same up still lawful text =
    let s = state_of opening h in
    let e = Replace policy in
    let at : Row = record { by = row.by; event = e; outs = row.outs } in
    ap (λ b. b || is_owed (at ∷ h) text)
    (unsaid_row s e row.outs text (is_upstream h text) (exact_by s (cause_of e) row.outs lawful)
    (replace_wires s policy))
    ∙ kept_row h at (l, lawful) same still text refl
stays_at h row (Tick clock) l same up still lawful text =
    let s = state_of opening h in
    let e = Tick clock in
    let at : Row = record { by = row.by; event = e; outs = row.outs } in
    ap (λ b. b || is_owed (at ∷ h) text)
    (unsaid_row s e row.outs text (is_upstream h text) (exact_by s (cause_of e) row.outs lawful)
    (tick_wires s clock))
    ∙ kept_row h at (l, lawful) same still text
    (ap (λ wanted. owes wanted text)
    (ticked_wanted s.policy.limits s.up s.link (later s.clock clock) s.clients))

pub stays_same : (h : List Row) (row : Row) → Lawful opening (row ∷ h) → is_up (row ∷ h) ≡ true → IsSameOrOwed h
    → StandsStill h row → IsSameOrOwed (row ∷ h)
stays_same h row l up same still = stays_at h row row.event l.0 same up still l.1
