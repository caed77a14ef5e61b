-- What joins what waits for the broker, and which filters stay wanted, is what the rows show.
use Rattle.std.proofs.Common.{◌≡◌, ℕ, Bool, true, false, List, [], ◌∷◌, ◌++◌, refl, ap, sym, ◌∙◌}
use Rattle.std.proofs.Common.{if◌then◌else◌, Ok, Err}
use Rattle.std.specs.Prelude.{◌||◌, filter, Option, Some, None}
use Rattle.std.specs.Str.{bytes_eq}
use Rattle.std.specs.declared.result.Result.{Result}
use Rattle.sng_frames.specs.Reading.{frame_of}
use Rattle.sng_frames.specs.declared.fault.FrameFault.{FrameFault}
use Rattle.sng_frames.specs.declared.qos.FrameQos.{FrameQos}
use Rattle.sng_frames.specs.declared.qos.FrameQos.TheVariants as qos
use Rattle.sng_frames.specs.declared.messages.publish.Publish.{Publish}
use Rattle.sng_frames.specs.declared.messages.subscribe.TopicRequest.{TopicRequest}
use Rattle.sng_frames.specs.declared.frame.SnFrame.{SnFrame}
use Rattle.sng_frames.specs.declared.frame.SnFrame.TheVariants as frame
use Rattle.sng_outbox.specs.declared.item.Item.{Item}
use Rattle.sng_outbox.specs.declared.item.Item.TheVariants as item
use Rattle.sng_book.specs.Denials.{is_allowed}
use Rattle.sng_book.specs.declared.address.Address.{Address}
use Rattle.sng_book.specs.declared.decision.Decision.{Decision}
use Rattle.sng_book.specs.declared.decision.Decision.TheVariants as note
use Rattle.sng_book.specs.declared.outcome.Outcome.{Outcome}
use Rattle.sng_book.specs.declared.outcome.Outcome.TheVariants.{Allowed, Denied}
use Rattle.sng_book.specs.declared.event.Event.{Event}
use Rattle.sng_book.specs.declared.event.Event.TheVariants.{Datagram, Broker, Up, Down, Take, Replace, Tick}
use Rattle.sng_book.specs.declared.out.Out.{Out}
use Rattle.sng_book.specs.declared.out.Out.TheVariants.{Send, Wire, Note}
use Rattle.sng_history.specs.Causes.{Request, ToPing, ToLeave, ToRegister, ToPublish, ToSubscribe}
use Rattle.sng_history.specs.Causes.{ToUnsubscribe, ToConfirm, ToAcknowledge}
use Rattle.sng_history.specs.Causes.{Untaken, Cause, datagram_cause, publish_cause, rule_of, cause_of}
use Rattle.sng_history.specs.Causes.{Statement, StatesTopic}
use Rattle.sng_history.specs.Causes.{StatesMessage, UpdatesTopic, UpdatesMessage, ToState, ToSleep}
use Rattle.sng_history.specs.Causes.{ByMessage, BySource, ByBroken, ByUp, ByDown, ByTake}
use Rattle.sng_history.specs.Causes.{ByTick}
use Rattle.sng_history.specs.Causes.{ToPublishOnce, ToRelease}
use Rattle.sng_history.specs.Links.{Wanted, wants}
use Rattle.sng_history.specs.Standing.{is_held, still_wanted}
use Rattle.sng_history.specs.State.{State, subscribe_item, asked_by, asked_all}
use Rattle.sng_history.specs.State.{with_wanted, joined, wanted_by}
use Rattle.sng_history.specs.State.{link_moved}
use Rattle.sng_history.specs.Lawful.{exits_for}
use Rattle.sng_history.specs.Steps.{outs_by, outs_of, clients_next, asked_for, next_by}
use Rattle.sng_history.specs.Good.{Good}
use Rattle.sng_laws.specs.ViewsMessages.{message_in, message_at, subscribe_in}
use Rattle.sng_laws.specs.ViewsStanding.{begun_with, begun_by, begun_in, begun, joining}
use Rattle.sng_laws.specs.ViewsWanted.{wanted}
use Rattle.sng_history.proofs.Own.{same_self}
use Rattle.sng_history.proofs.Says.{message_asks}
use Rattle.sng_history.proofs.Wanted.{subscribes}
use Rattle.sng_history.proofs.NothingNew.{asks_none}
use Rattle.sng_history.proofs.GoodNext.{good_next}
use Rattle.sng_history.proofs.Booleans.{or_right}

-- what a row's notes ask for joins as what they let stand
joined_item : (w : List Wanted) (filter : Option (List ℕ)) (o : Outcome) (more : List Item)
    (texts : List (List ℕ))
    → ((v : List Wanted) → joined v more ≡ joining v texts)
    → joined w (subscribe_item filter o ++ more) ≡ joining w (begun_with filter (is_allowed o) ++ texts)
joined_item w None o more texts rest = rest w
joined_item w (Some filter) Allowed more texts rest = rest (with_wanted w filter)
joined_item w (Some filter) (Denied rule) more texts rest = rest w

joined_said : (w : List Wanted) (said : Decision) (more : List Item) (texts : List (List ℕ))
    → ((v : List Wanted) → joined v more ≡ joining v texts)
    → joined w (asked_by None said ++ more) ≡ joining w (begun_by said ++ texts)
joined_said w (note.Subscribe whom filter o) more texts rest = joined_item w filter o more texts rest
joined_said w (note.Publish whom name o) more texts rest = rest w
joined_said w _ more texts rest = rest w

joined_outs : (outs : List Out) (w : List Wanted) → joined w (asked_all None outs) ≡ joining w (begun_in outs)
joined_outs [] w = refl
joined_outs (Note said ∷ outs) w = joined_said w said (asked_all None outs) (begun_in outs) (joined_outs outs)
joined_outs (Send to datagram ∷ outs) w = joined_outs outs w
joined_outs (Wire sent ∷ outs) w = joined_outs outs w

-- where no SUBSCRIBE is among the items nothing joins
joined_none : (items : List Item) (w : List Wanted) → ((text : List ℕ) → subscribes items text ≡ false)
    → joined w items ≡ w
joined_none [] w none = refl
joined_none (item.Subscribe filter ∷ items) w none =
    absurd (let bad : true ≡ false = sym (ap (λ b. b || subscribes items filter) (same_self filter))
    ∙ none filter in cc)
joined_none (item.Publish p ∷ items) w none = joined_none items w none
joined_none (item.Unsubscribe filter ∷ items) w none = joined_none items w none
joined_none (item.Acknowledge packet_id ∷ items) w none = joined_none items w none
joined_none (item.Ping ∷ items) w none = joined_none items w none

-- of the filters those stay that stand for somebody then, and behind them these join
abbrev Joins : State → Cause → List (List ℕ) → Type 0
Joins s c texts =
    wanted_by s c (link_moved s c (exits_for s c)).wanted (asked_for s c) (clients_next s c)
    ≡ joining (still_wanted (clients_next s c) (link_moved s c (exits_for s c)).wanted) texts

kept_if : (w : Wanted) (kept rest : List Wanted) (b : Bool) → b ≡ true → kept ≡ rest
    → (if b then w ∷ kept else kept) ≡ w ∷ rest
kept_if w kept rest true is same = ap (λ more. w ∷ more) same
kept_if w kept rest false is same = absurd cc

kept_all : (keep : List ℕ → Bool) (wanted : List Wanted)
    → ((text : List ℕ) → wants wanted text ≡ true → keep text ≡ true)
    → filter (λ w. keep w.filter) wanted ≡ wanted
kept_all keep [] all = refl
kept_all keep (w ∷ wanted) all =
    kept_if w (filter (λ v. keep v.filter) wanted) wanted (keep w.filter)
    (all w.filter (ap (λ b. b || wants wanted w.filter) (same_self w.filter)))
    (kept_all keep wanted (λ text is. all text (or_right (bytes_eq text w.filter) (wants wanted text) is)))

-- a row that lets all of them stay
idle_joins : (s : State) (c : Cause) → Good s
    → (link_moved s c (exits_for s c)).wanted ≡ (next_by s c).link.wanted
    → (link_moved s c (exits_for s c)).wanted
    ≡ still_wanted (clients_next s c) (link_moved s c (exits_for s c)).wanted
idle_joins s c good same =
    let w = (link_moved s c (exits_for s c)).wanted in
    sym
    (kept_all (is_held (clients_next s c)) w
    (λ text is. sym ((good_next s c good).wanted_held text) ∙ (sym (ap (λ v. wants v text) same) ∙ is)))

message_joins : (s : State) (from : Address) (request : Request)
    → ((text : List ℕ) → subscribes (asked_for s (ByMessage from request)) text ≡ false)
    → Joins s (ByMessage from request) []
message_joins s from request none =
    let c = ByMessage from request in
    joined_none (asked_for s c) (still_wanted (clients_next s c) s.link.wanted) none

subscribe_joins : (s : State) (from : Address) (r : TopicRequest)
    → Joins s (ByMessage from (ToSubscribe r)) (begun_in (outs_by s (ByMessage from (ToSubscribe r))))
subscribe_joins s from r =
    let c = ByMessage from (ToSubscribe r) in
    let w = still_wanted (clients_next s c) s.link.wanted in
    ap (joined w) (sym (message_asks s from (ToSubscribe r))) ∙ joined_outs (outs_by s c) w

statement_joins : (s : State) (from : Address) (statement : Statement)
    → Joins s (ByMessage from (ToState statement)) []
statement_joins s from statement =
    message_joins s from (ToState statement) (λ text. asks_none s from (ToState statement) text refl)

untaken_joins : (s : State) (from : Address) (message : SnFrame)
    → Joins s (ByMessage from (Untaken message)) []
untaken_joins s from message =
    message_joins s from (Untaken message) (λ text. asks_none s from (Untaken message) text refl)

publish_joins : (s : State) (from : Address) (p : Publish) (q : FrameQos) → Good s
    → Joins s (publish_cause from p q) []
publish_joins s from p qos.WithoutSession good = idle_joins s (BySource from p) good refl
publish_joins s from p qos.AtMostOnce good =
    message_joins s from (ToPublish p) (λ text. asks_none s from (ToPublish p) text refl)
publish_joins s from p qos.AtLeastOnce good =
    message_joins s from (ToPublish p) (λ text. asks_none s from (ToPublish p) text refl)
publish_joins s from p qos.ExactlyOnce good =
    message_joins s from (ToPublishOnce p) (λ text. asks_none s from (ToPublishOnce p) text refl)

disconnect_joins : (s : State) (from : Address) (duration : Option ℕ)
    → Joins s (datagram_cause from (Ok (frame.Disconnect duration))) []
disconnect_joins s from None = message_joins s from ToLeave (λ text. asks_none s from ToLeave text refl)
disconnect_joins s from (Some duration) =
    message_joins s from (ToSleep duration) (λ text. asks_none s from (ToSleep duration) text refl)

datagram_joins : (s : State) (from : Address) (read : Result SnFrame FrameFault) → Good s
    → let c = datagram_cause from read in
    Joins s c (begun (subscribe_in (message_in read)) (outs_by s c))
datagram_joins s from (Ok (frame.Connect connect)) good = refl
datagram_joins s from (Ok (frame.Register r)) good =
    message_joins s from (ToRegister r) (λ text. asks_none s from (ToRegister r) text refl)
datagram_joins s from (Ok (frame.Publish p)) good = publish_joins s from p p.flags.qos good
datagram_joins s from (Ok (frame.Subscribe r)) good = subscribe_joins s from r
datagram_joins s from (Ok (frame.Unsubscribe r)) good =
    message_joins s from (ToUnsubscribe r) (λ text. asks_none s from (ToUnsubscribe r) text refl)
datagram_joins s from (Ok (frame.PingRequest client)) good =
    message_joins s from (ToPing client) (λ text. asks_none s from (ToPing client) text refl)
datagram_joins s from (Ok (frame.RegisterAck r)) good =
    message_joins s from (ToConfirm r) (λ text. asks_none s from (ToConfirm r) text refl)
datagram_joins s from (Ok (frame.PublishAck r)) good =
    message_joins s from (ToAcknowledge r) (λ text. asks_none s from (ToAcknowledge r) text refl)
datagram_joins s from (Ok (frame.PublishRelease n)) good =
    message_joins s from (ToRelease n) (λ text. asks_none s from (ToRelease n) text refl)
datagram_joins s from (Ok (frame.Disconnect None)) good = disconnect_joins s from None
datagram_joins s from (Ok (frame.Disconnect (Some duration))) good = disconnect_joins s from (Some duration)
datagram_joins s from (Ok (frame.WillTopic topic)) good = statement_joins s from (StatesTopic topic)
datagram_joins s from (Ok (frame.WillMessage message)) good = statement_joins s from (StatesMessage message)
datagram_joins s from (Ok (frame.WillTopicUpdate topic)) good = statement_joins s from (UpdatesTopic topic)
datagram_joins s from (Ok (frame.WillMessageUpdate message)) good =
    statement_joins s from (UpdatesMessage message)
datagram_joins s from (Ok message) good = untaken_joins s from message
datagram_joins s from (Err broke) good = idle_joins s (ByBroken from (rule_of broke)) good refl

pub event_joins : (s : State) (e : Event) → Good s
    → Joins s (cause_of e) (begun (subscribe_in (message_at e)) (outs_of s e))
event_joins s (Datagram from datagram) good = datagram_joins s from (frame_of datagram) good
event_joins s (Broker sent) good = refl
event_joins s Up good = idle_joins s ByUp good refl
event_joins s Down good = idle_joins s ByDown good refl
event_joins s Take good = idle_joins s ByTake good refl
event_joins s (Replace policy) good = refl
event_joins s (Tick clock) good = idle_joins s (ByTick clock) good refl
