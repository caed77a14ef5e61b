-- What is kept of a client's will, and of the dialogue about it, is what the rows show of what it stated.
use Rattle.std.proofs.Common.{◌≡◌, ℕ, false, List, [], refl, ap, sym, ◌∙◌, subst}
use Rattle.std.proofs.Common.{if◌then◌else◌}
use Rattle.std.specs.Prelude.{is_some, Option, Some, None}
use Rattle.std.specs.Option.{option_map}
use Rattle.sng_states.specs.declared.state.ClientState.{ClientState}
use Rattle.sng_states.specs.declared.state.ClientState.TheVariants.{Dialogue, Active, Asleep, Awake}
use Rattle.sng_states.specs.declared.state.ClientState.TheVariants.{Disconnected, Lost}
use Rattle.sng_wills.specs.Wills as wills
use Rattle.sng_wills.specs.Stated.{awaited_topic}
use Rattle.sng_wills.specs.declared.will.Stage.{Stage}
use Rattle.sng_wills.specs.declared.will.Stage.TheVariants.{Closed, TopicAwaited, MessageAwaited}
use Rattle.sng_wills.specs.declared.will.StatedTopic.{StatedTopic}
use Rattle.sng_wills.specs.declared.will.Will.{Will}
use Rattle.sng_frames.specs.declared.qos.FrameQos.{FrameQos}
use Rattle.sng_frames.specs.declared.qos.FrameQos.TheVariants as qos
use Rattle.sng_frames.specs.declared.messages.will.WillTopic.{WillTopic}
use Rattle.sng_book.specs.declared.outcome.Outcome.{Outcome}
use Rattle.sng_book.specs.declared.outcome.Outcome.TheVariants.{Allowed, Denied}
use Rattle.sng_history.specs.Causes.{Statement, StatesTopic, StatesMessage, UpdatesTopic, UpdatesMessage}
use Rattle.sng_history.specs.Requests.{granted}
use Rattle.sng_history.specs.Clients.{Client, topic_stated}
use Rattle.sng_history.specs.Clients.{wills_stated, stated}
use Rattle.sng_history.specs.Verdicts.{and_then, in_turn, is_active}
use Rattle.sng_history.specs.WillAsks.{turn, awaits_topic, statement_turn}
use Rattle.sng_laws.specs.ViewsWills.{Stating, nothing_stated, stating_with}
use Rattle.sng_laws.specs.ViewsWills.{topic_kept, qos_kept}
use Rattle.sng_laws.specs.ViewsWills.{will_with, stage_shown}
use Rattle.sng_promise.proofs.LastWills.SeenWillsKept.{Willed, WilledAt}

qos_same : (q : FrameQos) → granted q ≡ qos_kept q
qos_same qos.AtMostOnce = refl
qos_same qos.AtLeastOnce = refl
qos_same qos.ExactlyOnce = refl
qos_same qos.WithoutSession = refl

topic_same : (w : WillTopic) → topic_stated w ≡ topic_kept w
topic_same w =
    ap (λ q. let t : StatedTopic = record { topic = w.topic; qos = q; retain = w.flags.retain } in t)
    (qos_same w.flags.qos)

-- a WILLTOPIC has its turn where the dialogue awaits it
topic_willed : (phase : ClientState) (stage : Stage) (will : Option Will) (now : Stating) (w : WillTopic)
    → turn (awaits_topic stage) ≡ Allowed
    → Willed phase (record { stage = stage; will = will }) now
    → Willed phase (wills_stated (StatesTopic (Some w)) (record { stage = stage; will = will }))
    (record now { awaited = Some (topic_kept w) })
topic_willed phase Closed will now w has willed = absurd cc
topic_willed phase (MessageAwaited t) will now w has willed = absurd cc
topic_willed Dialogue TopicAwaited will now w has willed =
    record { will = willed.will; stage = ap MessageAwaited (topic_same w); empty = willed.empty }
topic_willed Active TopicAwaited will now w has willed = absurd (let e = willed.stage in cc)
topic_willed Asleep TopicAwaited will now w has willed = absurd (let e = willed.stage in cc)
topic_willed Awake TopicAwaited will now w has willed = absurd (let e = willed.stage in cc)
topic_willed Disconnected TopicAwaited will now w has willed = absurd (let e = willed.stage in cc)
topic_willed Lost TopicAwaited will now w has willed = absurd (let e = willed.stage in cc)

-- the topic whose message is awaited
awaited_so : (phase : ClientState) (t : StatedTopic) (awaited : Option StatedTopic)
    → MessageAwaited t ≡ stage_shown (Some phase) awaited
    → awaited ≡ Some t
awaited_so Dialogue t None is = absurd cc
awaited_so Dialogue t (Some u) is = cc
awaited_so Active t awaited is = absurd cc
awaited_so Asleep t awaited is = absurd cc
awaited_so Awake t awaited is = absurd cc
awaited_so Disconnected t awaited is = absurd cc
awaited_so Lost t awaited is = absurd cc

message_willed : (phase : ClientState) (stage : Stage) (will : Option Will) (now : Stating) (message : List ℕ)
    → turn (is_some (awaited_topic stage)) ≡ Allowed
    → Willed phase (record { stage = stage; will = will }) now
    → Willed Active (wills_stated (StatesMessage message) (record { stage = stage; will = will }))
    (stating_with (Some (StatesMessage message)) now)
message_willed phase Closed will now message has willed = absurd cc
message_willed phase TopicAwaited will now message has willed = absurd cc
message_willed phase (MessageAwaited t) will now message has willed =
    rw (awaited_so phase t now.awaited willed.stage) (record { will = refl; stage = refl; empty = refl })

-- the updates have their turn where the client is active, and no dialogue is open then
active_so : (phase : ClientState) → turn (is_active phase) ≡ Allowed → phase ≡ Active
active_so Active has = refl
active_so Dialogue has = absurd cc
active_so Asleep has = absurd cc
active_so Awake has = absurd cc
active_so Disconnected has = absurd cc
active_so Lost has = absurd cc

last_message : (will : Option Will) (topic : Option StatedTopic) (message : List ℕ)
    → will ≡ option_map (will_with message) topic
    → (if is_some topic then [] else message) ≡ []
    → (let kept : List ℕ = wills.message_of will in kept) ≡ message
last_message will None message is empty = ap wills.message_of is ∙ sym empty
last_message will (Some t) message is empty = ap wills.message_of is

update_willed : (stage : Stage) (will : Option Will) (now : Stating) (w : WillTopic)
    → Willed Active (record { stage = stage; will = will }) now
    → Willed Active (wills_stated (UpdatesTopic (Some w)) (record { stage = stage; will = will }))
    (record now { topic = Some (topic_kept w) })
update_willed stage will now w willed =
    rw (willed.stage, last_message will now.topic now.message willed.will willed.empty)
    (record { will = ap (λ t. Some (will_with now.message t)) (topic_same w); stage = refl; empty = refl })

replaced_willed : (will : Option Will) (now : Stating) (topic : Option StatedTopic) (message : List ℕ)
    → turn (is_some will) ≡ Allowed
    → now.topic ≡ topic
    → will ≡ option_map (will_with now.message) topic
    → Willed Active (wills_stated (UpdatesMessage message) (record { stage = Closed; will = will }))
    (record now { message = message })
replaced_willed will now None message has is kept =
    absurd (let e : turn (is_some will) ≡ turn false = ap (λ w. turn (is_some w)) kept in cc)
replaced_willed will now (Some t) message has is kept =
    rw (kept, is) (record { will = refl; stage = refl; empty = refl })

pub both_so : (a b : Outcome) → and_then a b ≡ Allowed → (a ≡ Allowed) × (b ≡ Allowed)
both_so Allowed b is = (refl, is)
both_so (Denied rule) b is = absurd cc

pub stated_willed : (statement : Statement) (x : Client) (now : Stating)
    → statement_turn statement x ≡ Allowed → WilledAt x now
    → WilledAt (stated statement x) (stating_with (Some statement) now)
stated_willed (StatesTopic None) x now has willed = record { will = refl; stage = refl; empty = refl }
stated_willed (StatesTopic (Some w)) x now has willed =
    topic_willed x.phase x.wills.stage x.wills.will now w has willed
stated_willed (StatesMessage message) x now has willed =
    message_willed x.phase x.wills.stage x.wills.will now message has willed
stated_willed (UpdatesTopic None) x now has willed =
    subst (λ phase. Willed phase (record { stage = Closed; will = None }) nothing_stated)
    (sym (active_so x.phase has))
    (record { will = refl; stage = refl; empty = refl })
stated_willed (UpdatesTopic (Some w)) x now has willed =
    let active = active_so x.phase has in
    subst (λ phase. Willed phase (wills_stated (UpdatesTopic (Some w)) x.wills)
    (record now { topic = Some (topic_kept w) })) (sym active)
    (update_willed x.wills.stage x.wills.will now w (subst (λ phase. Willed phase x.wills now) active willed))
stated_willed (UpdatesMessage message) x now has willed =
    let both = both_so (in_turn x) (turn (is_some x.wills.will)) has in
    let active = active_so x.phase both.0 in
    let closed : x.wills.stage ≡ Closed = (subst (λ phase. Willed phase x.wills now) active willed).stage in
    subst (λ phase. Willed phase (wills_stated (UpdatesMessage message) x.wills)
    (record now { message = message })) (sym active)
    (subst
    (λ stage. Willed Active (wills_stated (UpdatesMessage message)
    (record { stage = stage; will = x.wills.will }))
    (record now { message = message }))
    (sym closed)
    (replaced_willed x.wills.will now now.topic message both.1 refl willed.will))
