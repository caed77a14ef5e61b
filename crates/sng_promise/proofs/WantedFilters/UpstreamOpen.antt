-- The SUBSCRIBEs that are open are those that the rows of a lawful history show.
use Rattle.std.proofs.Common.{◌≡◌, ℕ, ◌≤◌, Bool, true, false, List, [], ◌∷◌, ◌++◌, map, refl, ap, sym, ◌∙◌}
use Rattle.std.proofs.Common.{Ok, Err}
use Rattle.std.specs.Prelude.{◌||◌, Option, Some, None}
use Rattle.std.specs.Prelude.{◌&&◌}
use Rattle.std.specs.Str.{bytes_eq}
use Rattle.std.specs.declared.result.Result.{Result}
use Rattle.sng_frames.specs.Reading.{frame_of}
use Rattle.sng_frames.specs.declared.fault.FrameFault.{FrameFault}
use Rattle.sng_frames.specs.declared.qos.FrameQos.{FrameQos}
use Rattle.sng_frames.specs.declared.qos.FrameQos.TheVariants as qos
use Rattle.sng_frames.specs.declared.messages.publish.Publish.{Publish}
use Rattle.sng_frames.specs.declared.frame.SnFrame.{SnFrame}
use Rattle.sng_frames.specs.declared.frame.SnFrame.TheVariants as frame
use Rattle.mqtt_frames.specs.declared.packet.SubscribeCode.{SubscribeCode}
use Rattle.mqtt_frames.specs.declared.packet.SubscribeCode.TheVariants as code
use Rattle.mqtt_frames.specs.declared.packet.Packet.{Packet}
use Rattle.mqtt_frames.specs.declared.packet.Packet.TheVariants as packet
use Rattle.sng_book.specs.declared.address.Address.{Address}
use Rattle.sng_book.specs.declared.event.Event.{Event}
use Rattle.sng_book.specs.declared.event.Event.TheVariants.{Datagram, Broker, Up, Down, Take, Replace, Tick}
use Rattle.sng_book.specs.declared.out.Out.{Out}
use Rattle.sng_book.specs.declared.row.Row.{Row}
use Rattle.sng_history.specs.Causes.{Cause, datagram_cause, publish_cause, cause_of}
use Rattle.sng_history.specs.Causes.{ByUp, ByTake}
use Rattle.sng_history.specs.Links.{Link, Wanted, wants, resumed, filters_wanted}
use Rattle.sng_history.specs.Packets.{answer_of, answered, subscribe_answer}
use Rattle.sng_history.specs.State.{State}
use Rattle.sng_history.specs.State.{link_moved}
use Rattle.sng_history.specs.Exits.{agains_of, resending, subscribing}
use Rattle.sng_history.specs.Lawful.{exits_for}
use Rattle.sng_history.specs.Steps.{outs_of}
use Rattle.sng_history.specs.Good.{Each, Good}
use Rattle.sng_history.specs.Good.{WantedOnce}
use Rattle.sng_laws.specs.ViewsLink.{wires_in}
use Rattle.sng_laws.specs.ViewsWanted.{words_of}
use Rattle.sng_laws.specs.ViewsWanted.{words_sent, with_words, without_open}
use Rattle.sng_laws.specs.ViewsWanted.{with_answer, answered_by, wanted}
use Rattle.sng_history.proofs.Own.{same_self}
use Rattle.sng_promise.proofs.Link.LawWires.{datagram_still, broker_wires, replace_wires, tick_wires}
use Rattle.sng_promise.proofs.WantedFilters.UpstreamSpeaks.{ShortWanted, ShortEnds, Speaks, words_append}
use Rattle.sng_promise.proofs.WantedFilters.UpstreamLeaving.{ShortTexts}
use Rattle.sng_promise.proofs.WantedFilters.UpstreamLeaving.{resending_quiet}
use Rattle.sng_promise.proofs.WantedFilters.UpstreamLeaving.{EachWanted}
use Rattle.sng_promise.proofs.WantedFilters.HeldFilters.{OwnFilters}
use Rattle.sng_promise.proofs.WantedFilters.UpstreamShort.{held_short}
use Rattle.sng_promise.proofs.Link.SeenPings.{ticked_along}
use Rattle.sng_history.proofs.Booleans.{or_right}
use Rattle.sng_history.proofs.Wanted.{subscribes}
use Rattle.sng_promise.proofs.WantedFilters.UpstreamDebts.{marked, unmarked, up_marks, take_marks}

-- what is wanted is what the rows show, and what goes out can be said in packets
pub record WantedShown (h : List Row) (s : State) : Type 0 where
  pub wanted : s.link.wanted ≡ wanted h
  pub last : s.link.last ≤ 65535
  pub filters : Each OwnFilters s.clients
  pub ends : ShortEnds s.link.waiting

-- ---- the SUBSCRIBEs that are open

-- wanted filters are short, as they stand for somebody
wanted_short : (s : State) → Good s → Each OwnFilters s.clients → ShortWanted s.link.wanted
wanted_short s good short text is = held_short s.clients text short (sym (good.wanted_held text) ∙ is)

pub speaks_of : (s : State) → Good s → s.link.last ≤ 65535 → Each OwnFilters s.clients → Speaks s.link
speaks_of s good last short = record { last = last; short = wanted_short s good short }

pub texts_short : (wanted : List Wanted) → ShortWanted wanted → ShortTexts (map (λ w. w.filter) wanted)
texts_short [] short = tt
texts_short (w ∷ wanted) short = (
  short w.filter (ap (λ b. b || wants wanted w.filter) (same_self w.filter)),
  texts_short wanted (λ text is. short text (or_right (bytes_eq text w.filter) (wants wanted text) is)),
)

-- a SUBSCRIBE of the filter has to leave
abbrev pub has_left : State → Event → List ℕ → Bool
has_left s Take text = s.up && subscribes s.link.waiting text
has_left s Up text = true
has_left s other text = false

-- the link's filters, once this event answered or opened SUBSCRIBEs
abbrev Moves : State → Cause → Event → List Out → Type 0
Moves s c e outs =
    (link_moved s c (exits_for s c)).wanted
    ≡ answered_by e (with_words (marked (has_left s e) s.link.wanted) (words_sent outs))

still_moves : (s : State) (outs : List Out) → wires_in outs ≡ []
    → s.link.wanted ≡ with_words (marked (λ text. false) s.link.wanted) (words_sent outs)
still_moves s outs none =
    sym (ap (λ packets. with_words (marked (λ text. false) s.link.wanted) (words_of packets)) none
    ∙ unmarked s.link.wanted)

publish_moves : (s : State) (from : Address) (p : Publish) (q : FrameQos)
    → (link_moved s (publish_cause from p q) (exits_for s (publish_cause from p q))).wanted ≡ s.link.wanted
publish_moves s from p qos.WithoutSession = refl
publish_moves s from p qos.AtMostOnce = refl
publish_moves s from p qos.AtLeastOnce = refl
publish_moves s from p qos.ExactlyOnce = refl

disconnect_moves : (s : State) (from : Address) (duration : Option ℕ)
    → let c = datagram_cause from (Ok (frame.Disconnect duration)) in
    (link_moved s c (exits_for s c)).wanted ≡ s.link.wanted
disconnect_moves s from None = refl
disconnect_moves s from (Some duration) = refl

pub datagram_moves : (s : State) (from : Address) (read : Result SnFrame FrameFault)
    → let c = datagram_cause from read in
    (link_moved s c (exits_for s c)).wanted ≡ s.link.wanted
datagram_moves s from (Ok (frame.Publish p)) = publish_moves s from p p.flags.qos
datagram_moves s from (Ok (frame.Disconnect duration)) = disconnect_moves s from duration
datagram_moves s from (Ok message) = refl
datagram_moves s from (Err broke) = refl

suback_moves : (link : Link) (packet_id : ℕ) (codes : List SubscribeCode)
    → (answered link (subscribe_answer packet_id codes)).wanted ≡ without_open packet_id link.wanted
suback_moves link packet_id [] = refl
suback_moves link packet_id (code.Refused ∷ codes) = refl
suback_moves link packet_id (code.Granted qos ∷ codes) = refl

packet_moves : (link : Link) (sent : Packet)
    → (answered link (answer_of sent)).wanted ≡ with_answer sent link.wanted
packet_moves link (packet.SubscribeAck answer) = suback_moves link answer.packet_id answer.codes
packet_moves link (packet.Publish p) = refl
packet_moves link (packet.PublishAck packet_id) = refl
packet_moves link (packet.UnsubscribeAck packet_id) = refl
packet_moves link (packet.Connect connect) = refl
packet_moves link (packet.ConnectAck answer) = refl
packet_moves link (packet.Subscribe request) = refl
packet_moves link (packet.Unsubscribe request) = refl
packet_moves link packet.PingRequest = refl
packet_moves link packet.PingResponse = refl
packet_moves link packet.Disconnect = refl

-- what a connection that begins says
pub begun_words : (s : State)
    → words_sent (outs_of s Up)
    ≡ words_sent (subscribing (resumed s.link s.clock (agains_of s.policy s.link.in_flight))
    (filters_wanted s.link))
begun_words s =
    let back = resending s.link.in_flight (agains_of s.policy s.link.in_flight) in
    let anew =
    subscribing (resumed s.link s.clock (agains_of s.policy s.link.in_flight)) (filters_wanted s.link) in
    words_append back anew ∙ ap (λ first. first ++ words_sent anew)
    (resending_quiet s.policy s.link.in_flight)

pub each_among : (wanted among : List Wanted)
    → ((text : List ℕ) → wants among text ≡ true → wants wanted text ≡ true)
    → EachWanted wanted (map (λ w. w.filter) among)
each_among wanted [] are = tt
each_among wanted (w ∷ among) are = (
  are w.filter (ap (λ b. b || wants among w.filter) (same_self w.filter)),
  each_among wanted among (λ text is. are text (or_right (bytes_eq text w.filter) (wants among text) is)),
)

up_moves : (s : State) → Speaks s.link → Moves s ByUp Up (outs_of s Up)
up_moves s speaks =
    let link = resumed s.link s.clock (agains_of s.policy s.link.in_flight) in
    sym (ap (with_words (marked (λ text. true) s.link.wanted)) (begun_words s)
    ∙ up_marks s.policy link (record { last = speaks.last; short = speaks.short })
    (each_among link.wanted link.wanted (λ text is. is)))

take_moves : (s : State) (b : Bool) → s.up ≡ b → Speaks s.link → ShortEnds s.link.waiting
    → WantedOnce s.link.wanted
    → Moves s ByTake Take (outs_of s Take)
take_moves s true is speaks ends once = rw is (sym (take_marks s.policy s.link speaks ends once))
take_moves s false is speaks ends once = rw is (sym (unmarked s.link.wanted))

pub moves : (s : State) (e : Event) → Speaks s.link → ShortEnds s.link.waiting → WantedOnce s.link.wanted
    → Moves s (cause_of e) e (outs_of s e)
moves s (Datagram from datagram) speaks ends once =
    datagram_moves s from (frame_of datagram)
    ∙ still_moves s (outs_of s (Datagram from datagram)) (datagram_still s from (frame_of datagram)).wires
moves s (Broker sent) speaks ends once =
    packet_moves s.link sent ∙ ap (with_answer sent)
    (still_moves s (outs_of s (Broker sent)) (broker_wires s sent))
moves s Up speaks ends once = up_moves s speaks
moves s Down speaks ends once = sym (unmarked s.link.wanted)
moves s Take speaks ends once = take_moves s s.up refl speaks ends once
moves s (Replace policy) speaks ends once = still_moves s (outs_of s (Replace policy)) (replace_wires s policy)
moves s (Tick clock) speaks ends once =
    (ticked_along s clock).wanted ∙ still_moves s (outs_of s (Tick clock)) (tick_wires s clock)
