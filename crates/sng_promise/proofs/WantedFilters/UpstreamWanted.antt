-- The filters that are wanted, each with its open SUBSCRIBE, are what the rows of a lawful history show.
use Rattle.std.proofs.Common.{◌≡◌, ℕ, ◌≤◌, Bool, true, false, List, [], ◌∷◌, refl, ap, sym, ◌∙◌}
use Rattle.std.proofs.Common.{subst}
use Rattle.std.proofs.Common.{arith}
use Rattle.std.specs.Prelude.{filter}
use Rattle.std.specs.Prelude.{◌&&◌}
use Rattle.mqtt_frames.specs.declared.packet.SubscribeCode.{SubscribeCode}
use Rattle.mqtt_frames.specs.declared.packet.SubscribeCode.TheVariants as code
use Rattle.mqtt_frames.specs.declared.packet.Packet.{Packet}
use Rattle.mqtt_frames.specs.declared.packet.Packet.TheVariants as packet
use Rattle.sng_book.specs.declared.event.Event.{Event}
use Rattle.sng_book.specs.declared.out.Out.{Out}
use Rattle.sng_book.specs.declared.row.Row.{Row}
use Rattle.sng_history.specs.Causes.{Cause, cause_of}
use Rattle.sng_history.specs.Causes.{ByConnect, ByMessage, BySource, ByBroken, ByPacket, ByUp, ByDown, ByTake}
use Rattle.sng_history.specs.Causes.{ByReplace, ByTick}
use Rattle.sng_history.specs.Links.{Link, Wanted, resumed, filters_wanted}
use Rattle.sng_history.specs.Links.{outgoing}
use Rattle.sng_history.specs.Packets.{answer_of, answered, subscribe_answer}
use Rattle.sng_history.specs.Standing.{is_held}
use Rattle.sng_history.specs.State.{State, opening, after, state_of}
use Rattle.sng_history.specs.State.{link_moved}
use Rattle.sng_history.specs.Exits.{agains_of}
use Rattle.sng_history.specs.Lawful.{Lawful, exits_for}
use Rattle.sng_history.specs.Steps.{outs_of, clients_next, next_by, next_of}
use Rattle.sng_laws.specs.ViewsMessages.{message_at, subscribe_in}
use Rattle.sng_laws.specs.ViewsClients.{accepted}
use Rattle.sng_laws.specs.ViewsStanding.{begun, joining}
use Rattle.sng_laws.specs.ViewsWanted.{words_sent, with_words}
use Rattle.sng_laws.specs.ViewsStanding.{held_in}
use Rattle.sng_laws.specs.ViewsWanted.{answered_by, wanted_then, wanted}
use Rattle.sng_laws.specs.ViewsWanted.{has_to_leave}
use Rattle.sng_history.proofs.Keeping.{exact_by, next_same}
use Rattle.sng_history.proofs.ClientIds.{ids_of}
use Rattle.sng_promise.proofs.Clients.SeenState.{stands}
use Rattle.sng_promise.proofs.Clients.SeenState.{Stands}
use Rattle.sng_promise.proofs.Standing.StandingState.{StandingShown, standing_shown, held_shown}
use Rattle.sng_promise.proofs.WantedFilters.UpstreamLeaving.{sent_small, after_small}
use Rattle.sng_promise.proofs.WantedFilters.HeldFilters.{filters_next}
use Rattle.sng_promise.proofs.WantedFilters.UpstreamShort.{ends_next}
use Rattle.sng_promise.proofs.Link.SeenPings.{ticked_along}
use Rattle.sng_promise.proofs.WantedFilters.UpstreamOpen.{WantedShown, speaks_of, moves}
use Rattle.sng_promise.proofs.WantedFilters.UpstreamOpen.{has_left}
use Rattle.sng_promise.proofs.WantedFilters.UpstreamJoins.{event_joins}
use Rattle.sng_history.proofs.Wanted.{subscribes}
use Rattle.sng_laws.specs.Views.{is_up}
use Rattle.sng_laws.specs.ViewsLink.{subscribe_waits}
use Rattle.sng_promise.proofs.WantedFilters.UpstreamDebts.{marked, marks_agree, agree_all}
use Rattle.sng_book.specs.declared.event.Event.TheVariants.{Datagram, Broker, Up, Down, Take, Replace, Tick}

-- ---- the packet id that was given last

take_last : (s : State) (b : Bool) → s.up ≡ b → s.link.last ≤ 65535
    → (link_moved s ByTake (exits_for s ByTake)).last ≤ 65535
take_last s true is small = rw is (after_small s.policy s.link (outgoing s.link) small)
take_last s false is small = rw is small

-- no answer moves it
pub answered_last : (link : Link) (sent : Packet) → (answered link (answer_of sent)).last ≡ link.last
answered_last link (packet.SubscribeAck answer) = suback_last answer.codes
  where
    suback_last : (codes : List SubscribeCode)
        → (answered link (subscribe_answer answer.packet_id codes)).last ≡ link.last
    suback_last [] = refl
    suback_last (code.Refused ∷ codes) = refl
    suback_last (code.Granted qos ∷ codes) = refl
answered_last link (packet.Publish p) = refl
answered_last link (packet.PublishAck packet_id) = refl
answered_last link (packet.UnsubscribeAck packet_id) = refl
answered_last link (packet.Connect connect) = refl
answered_last link (packet.ConnectAck answer) = refl
answered_last link (packet.Subscribe request) = refl
answered_last link (packet.Unsubscribe request) = refl
answered_last link packet.PingRequest = refl
answered_last link packet.PingResponse = refl
answered_last link packet.Disconnect = refl

pub last_next : (s : State) (c : Cause) → s.link.last ≤ 65535 → (next_by s c).link.last ≤ 65535
last_next s (ByConnect from connect) small = small
last_next s (ByMessage from request) small = small
last_next s (BySource from p) small = small
last_next s (ByBroken from rule) small = small
last_next s (ByPacket p) small = subst (λ n. n ≤ 65535) (sym (answered_last s.link p)) small
last_next s ByUp small =
    sent_small (resumed s.link s.clock (agains_of s.policy s.link.in_flight)) (filters_wanted s.link) small
last_next s ByDown small = small
last_next s ByTake small = take_last s s.up refl small
last_next s (ByReplace policy) small = small
last_next s (ByTick clock) small = subst (λ n. n ≤ 65535) (sym (ticked_along s clock).last) small

-- ---- all rows

same_keep : (keep other : List ℕ → Bool) (wanted : List Wanted) → ((text : List ℕ) → keep text ≡ other text)
    → filter (λ w. keep w.filter) wanted ≡ filter (λ w. other w.filter) wanted
same_keep keep other [] same = refl
same_keep keep other (w ∷ wanted) same = rw (same w.filter, same_keep keep other wanted same) refl

-- what has to leave is what the rows show
leaves_same : (h : List Row) (s : State) (e : Event) → Stands h s → (text : List ℕ)
    → has_left s e text ≡ has_to_leave e h text
leaves_same h s Take st text =
    ap (λ up. up && subscribes s.link.waiting text) st.shown.up
    ∙ ap (λ items. is_up h && subscribe_waits items text) st.shown.waits
leaves_same h s Up st text = refl
leaves_same h s Down st text = refl
leaves_same h s (Datagram from datagram) st text = refl
leaves_same h s (Broker sent) st text = refl
leaves_same h s (Replace policy) st text = refl
leaves_same h s (Tick clock) st text = refl

wanted_row : (by : ℕ) (h : List Row) (s : State) (e : Event) → Stands h s → WantedShown h s
    → ids_of (next_of s e).clients ≡ accepted (record { by = by; event = e; outs = outs_of s e } ∷ h)
    → StandingShown (record { by = by; event = e; outs = outs_of s e } ∷ h) (next_of s e)
    → WantedShown (record { by = by; event = e; outs = outs_of s e } ∷ h) (next_of s e)
wanted_row by h s e st shown order standing =
    let good = st.good in
    let c = cause_of e in
    let outs = outs_of s e in
    let rows = record { by = by; event = e; outs = outs } ∷ h in
    let texts = begun (subscribe_in (message_at e)) outs in
    let w = (link_moved s c (exits_for s c)).wanted in
    record {
      wanted = event_joins s e good
          ∙ (ap (λ v. joining v texts)
          (same_keep (is_held (clients_next s c)) (held_in rows) w
          (λ text. sym (held_shown rows (next_of s e) text order standing.filters)))
          ∙ (ap (wanted_then rows texts) (moves s e (speaks_of s good shown.last shown.filters) shown.ends
          good.wanted_once)
          ∙ ap (λ v. wanted_then rows texts (answered_by e (with_words v (words_sent outs))))
          (ap (marked (has_left s e)) shown.wanted
          ∙ marks_agree (has_left s e) (has_to_leave e h) (wanted h)
          (agree_all (has_left s e) (has_to_leave e h) (wanted h) (leaves_same h s e st)))));
      last = last_next s c shown.last;
      filters = filters_next s c shown.filters;
      ends = ends_next s c shown.filters shown.ends;
    }

abbrev AtNext : ℕ → List Row → Event → List Out → State → Type 0
AtNext by h e outs s =
    ids_of s.clients
    ≡ accepted (record { by = by; event = e; outs = outs } ∷ h)
    → StandingShown (record { by = by; event = e; outs = outs } ∷ h) s
    → WantedShown (record { by = by; event = e; outs = outs } ∷ h) s

wanted_after : (by : ℕ) (h : List Row) (s : State) (e : Event) (outs : List Out) → outs ≡ outs_of s e → Stands h s
    → WantedShown h s
    → AtNext by h e outs (after s (cause_of e) outs)
wanted_after by h s e outs is st shown =
    subst (λ o. AtNext by h e o (after s (cause_of e) o)) (sym is)
    (subst (AtNext by h e (outs_of s e)) (sym (next_same s (cause_of e) st.good))
    (wanted_row by h s e st shown))

pub wanted_shown : (h : List Row) → Lawful opening h → WantedShown h (state_of opening h)
wanted_shown [] l = record { wanted = refl; last = omega arith; filters = tt; ends = tt }
wanted_shown (row ∷ h) l =
    let s = state_of opening h in
    wanted_after row.by h s row.event row.outs (exact_by s (cause_of row.event) row.outs l.1)
    (stands h l.0) (wanted_shown h l.0)
    (stands (row ∷ h) l).shown.order (standing_shown (row ∷ h) l)
