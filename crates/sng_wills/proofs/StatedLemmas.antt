-- The will after actions is what they stated last, action by action.
use Rattle.std.proofs.Common.{◌≡◌, ℕ, Bool, true, false, List, [], ◌∷◌, Option, Some, None, is_some, ◌&&◌}
use Rattle.std.proofs.Common.{unwrap_or, cond, refl, ap, ◌∙◌, true≢false}
use Rattle.std.specs.Option.{option_map}
use Rattle.sng_wills.specs.declared.will.Will.{Will}
use Rattle.sng_wills.specs.declared.will.StatedTopic.{StatedTopic}
use Rattle.sng_wills.specs.declared.will.Stage.{Stage}
use Rattle.sng_wills.specs.declared.will.Stage.TheVariants.{Closed, TopicAwaited, MessageAwaited}
use Rattle.sng_wills.specs.Wills.{Wills, will_of, is_closed, after_topic, after_message, after_topic_update}
use Rattle.sng_wills.specs.Wills.{after_message_update}
use Rattle.sng_wills.specs.Stated.{Action, after, after_all, later, awaited_topic, last_topic, last_message}
use Rattle.sng_wills.specs.Stated.{Start, Stop, Clear, Topic, Message, UpdateTopic, UpdateMessage}
use Rattle.sng_wills.specs.Laws.{WillsAreWhatWasStatedLast}

-- the will of a topic, where there is one, and a message
abbrev pub stated_will : Option StatedTopic → List ℕ → Option Will
stated_will topic message = option_map (λ stated. will_of stated message) topic

-- a WILLTOPIC leaves the will
pub after_topic-will : (stated : StatedTopic) (stage : Stage) (will : Option Will)
    → let wills : Wills = record { stage = stage; will = will } in
    (unwrap_or (after_topic stated wills) wills).will ≡ will
after_topic-will stated Closed will = refl
after_topic-will stated TopicAwaited will = refl
after_topic-will stated (MessageAwaited topic) will = refl

-- a WILLMSG makes the will of the topic that was stated for it
pub after_message-will : (said : List ℕ) (stage : Stage) (topic : Option StatedTopic) (message : List ℕ)
    → let wills : Wills = record { stage = stage; will = stated_will topic message } in
    (unwrap_or (after_message said wills) wills).will
    ≡ stated_will (later (awaited_topic stage) topic) (cond (is_some (awaited_topic stage)) said message)
after_message-will said Closed topic message = refl
after_message-will said TopicAwaited topic message = refl
after_message-will said (MessageAwaited stated) topic message = refl

-- a WILLTOPICUPD replaces the topic, and leaves the message, which is empty before any
pub after_topic_update-will : (stated : StatedTopic) (stage : Stage) (topic : Option StatedTopic)
    (message : List ℕ)
    → (topic ≡ None → message ≡ [])
    → let wills : Wills = record { stage = stage; will = stated_will topic message } in
    (unwrap_or (after_topic_update stated wills) wills).will
    ≡ stated_will (cond (is_closed stage) (Some stated) topic) message
after_topic_update-will stated Closed None message empty = rw (empty refl) refl
after_topic_update-will stated Closed (Some topic) message empty = refl
after_topic_update-will stated TopicAwaited topic message empty = refl
after_topic_update-will stated (MessageAwaited other) topic message empty = refl

-- a WILLMSGUPD replaces the message of a will that is there
pub after_message_update-will : (said : List ℕ) (stage : Stage) (topic : Option StatedTopic)
    (message : List ℕ)
    → let wills : Wills = record { stage = stage; will = stated_will topic message } in
    (unwrap_or (after_message_update said wills) wills).will
    ≡ stated_will topic (cond (is_closed stage && is_some topic) said message)
after_message_update-will said Closed None message = refl
after_message_update-will said Closed (Some topic) message = refl
after_message_update-will said TopicAwaited topic message = refl
after_message_update-will said (MessageAwaited other) topic message = refl

-- without a topic there is no message
pub last_message-without : (actions : List Action) → last_topic actions ≡ None → last_message actions ≡ []
last_message-without [] none = refl
last_message-without (Start ∷ earlier) none = last_message-without earlier none
last_message-without (Stop ∷ earlier) none = last_message-without earlier none
last_message-without (Clear ∷ earlier) none = refl
last_message-without (Topic stated ∷ earlier) none = last_message-without earlier none
last_message-without (Message message ∷ earlier) none =
    by (awaited_topic (after_all earlier).stage) none (last_message-without earlier)
  where
    by : (awaited : Option StatedTopic) → later awaited (last_topic earlier) ≡ None
        → (last_topic earlier ≡ None → last_message earlier ≡ [])
        → cond (is_some awaited) message (last_message earlier) ≡ []
    by None none rest = rest none
    by (Some stated) none rest = absurd (true≢false (ap is_some none))
last_message-without (UpdateTopic stated ∷ earlier) none =
    by (is_closed (after_all earlier).stage) none (last_message-without earlier)
  where
    by : (closed : Bool) → cond closed (Some stated) (last_topic earlier) ≡ None
        → (last_topic earlier ≡ None → last_message earlier ≡ []) → last_message earlier ≡ []
    by true none rest = absurd (true≢false (ap is_some none))
    by false none rest = rest none
last_message-without (UpdateMessage message ∷ earlier) none =
    by (is_closed (after_all earlier).stage) (last_message-without earlier none)
  where
    by : (closed : Bool) → last_message earlier ≡ []
        → cond (closed && is_some (last_topic earlier)) message (last_message earlier) ≡ []
    by true rest = rw none rest
    by false rest = rest

-- a dialogue is its stage and its will
pub with_will : (wills : Wills) (will : Option Will)
    → wills.will ≡ will → wills ≡ record { stage = wills.stage; will = will }
with_will wills will e = λ i. record { stage = wills.stage; will = e i }

-- the will is the last topic with the last message
pub will-stated : WillsAreWhatWasStatedLast
will-stated [] = refl
will-stated (Start ∷ earlier) = will-stated earlier
will-stated (Stop ∷ earlier) = will-stated earlier
will-stated (Clear ∷ earlier) = refl
will-stated (Topic stated ∷ earlier) =
    let wills = after_all earlier in
    ap (λ w. (after (Topic stated) w).will) (with_will wills _ (will-stated earlier))
    ∙ after_topic-will stated wills.stage _
will-stated (Message message ∷ earlier) =
    let wills = after_all earlier in
    ap (λ w. (after (Message message) w).will) (with_will wills _ (will-stated earlier))
    ∙ after_message-will message wills.stage (last_topic earlier) (last_message earlier)
will-stated (UpdateTopic stated ∷ earlier) =
    let wills = after_all earlier in
    ap (λ w. (after (UpdateTopic stated) w).will) (with_will wills _ (will-stated earlier))
    ∙ after_topic_update-will stated wills.stage (last_topic earlier) (last_message earlier)
    (last_message-without earlier)
will-stated (UpdateMessage message ∷ earlier) =
    let wills = after_all earlier in
    ap (λ w. (after (UpdateMessage message) w).will) (with_will wills _ (will-stated earlier))
    ∙ after_message_update-will message wills.stage (last_topic earlier) (last_message earlier)
