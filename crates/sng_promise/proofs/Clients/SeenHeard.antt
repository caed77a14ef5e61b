-- One client that is heard: what is kept of it moves as what the rows show of it.
use Rattle.std.proofs.Common.{◌≡◌, ℕ, Bool, true, false, List, [], ◌∷◌, ◌++◌, refl, sym, ◌∙◌, if◌then◌else◌}
use Rattle.std.proofs.Common.{subst}
use Rattle.std.specs.Prelude.{◌==◌, Option, Some, None}
use Rattle.sng_grants.specs.declared.policy.Policy.{Policy}
use Rattle.sng_frames.specs.declared.messages.publish.Publish.{Publish}
use Rattle.sng_ids.specs.Ids.{confirmed}
use Rattle.sng_frames.specs.declared.messages.subscribe.TopicRequest.{TopicRequest}
use Rattle.sng_frames.specs.declared.messages.acks.TopicAck.{TopicAck}
use Rattle.sng_book.specs.declared.address.Address.{Address}
use Rattle.sng_book.specs.declared.decision.Decision.{Decision}
use Rattle.sng_book.specs.declared.decision.Decision.TheVariants as note
use Rattle.sng_book.specs.declared.decision.Who.TheVariants as who
use Rattle.sng_book.specs.declared.outcome.Outcome.{Outcome}
use Rattle.sng_book.specs.declared.outcome.Outcome.TheVariants.{Allowed, Denied}
use Rattle.sng_history.specs.Causes.{ByMessage, ToPing}
use Rattle.sng_history.specs.Clients.{Client, Around, is_confirming, is_acknowledging, closed, confirmed_with}
use Rattle.sng_history.specs.Clients.{subscribed, id_opened_of, publish_released, received}
use Rattle.sng_history.specs.Clients.{unsubscribed, subscribe_of, note_by, notes_by, awake, asleep, is_waking}
use Rattle.sng_history.specs.Clients.{is_here}
use Rattle.sng_history.specs.Outgoing.{out_of_turn, handed_over}
use Rattle.sng_history.specs.State.{State}
use Rattle.sng_history.specs.Verdicts.{register_ask, publish_ask, subscribe_ask, unsubscribe_ask, is_active}
use Rattle.sng_history.specs.Verdicts.{ping_verdict, publish_once_ask}
use Rattle.sng_history.specs.Lawful.{confirmations, denial_of, woken_notes}
use Rattle.sng_laws.specs.ViewsMessages.{Message as Spoken}
use Rattle.sng_history.proofs.Asks.{of_register, of_publish, of_subscribe, of_unsubscribe, of_publish_once}
use Rattle.sng_history.proofs.Hands.{Every, every_append, every_handed, every_confirmation}
use Rattle.sng_history.proofs.Hands.{every_woken}
use Rattle.sng_states.specs.States.{is_due_messages}
use Rattle.sng_promise.proofs.Clients.SeenClients.{Shows, kept_of, moved_to, heard_if}
use Rattle.sng_promise.proofs.Clients.SeenUnmoved.{Alike, alike_received}
use Rattle.sng_promise.proofs.Clients.SeenUnmoved.{shows_alike, alike_self}
use Rattle.sng_promise.proofs.Clients.SeenUnmoved.{alike_on, alike_subscribed, alike_unsubscribed, alike_if}
use Rattle.sng_promise.proofs.Clients.SeenUnmoved.{Ends}
use Rattle.sng_promise.proofs.Clients.SeenUnmoved.{Unseen, ends_each}
use Rattle.sng_promise.proofs.Clients.SeenUnmoved.{unseen_messages}

heard_shows : (a : Around) (x y : Client) (m : Option Spoken) (from : Option Address) (n : List Decision)
    → Alike (heard_if true a.clock x) y → Ends x.id a y n
    → Shows x.id (kept_of x m from None a.clock true) n (notes_by a n y)
heard_shows a x y m from n same ends =
    shows_alike x.id (kept_of x m from None a.clock true) n (heard_if true a.clock x) (notes_by a n y)
    (alike_on (heard_if true a.clock x) y (notes_by a n y) same ends.alike)
    (rw (ends.phase m (Some x.phase), ends.admits) (refl, refl, refl, refl))

alike_closed : (x : Client) → Alike x (closed x)
alike_closed x = record { phase = refl; address = refl; duration = refl; heard = refl }

alike_confirmed : (r : TopicAck) (x : Client) → Alike x (confirmed_with r x)
alike_confirmed r x =
    let y : Client = record (closed x) { ids = confirmed r.topic_id x.ids } in
    alike_if (r.code.0 == 0) x y x (record { phase = refl; address = refl; duration = refl; heard = refl })
    (alike_self x)

-- a REGACK or PUBACK that has its turn, or not
answered_ends : (a : Around) (x y : Client) (notes : List Decision) (b : Bool) → Every (Unseen a) notes
    → Ends x.id a y (if b then notes else out_of_turn x.id)
answered_ends a x y notes true every = ends_each x.id a notes y every
answered_ends a x y notes false every =
    record { phase = λ m before. refl; admits = refl; alike = alike_self y }

pub confirm_shows : (a : Around) (policy : Policy) (x : Client) (m : Option Spoken) (from : Option Address)
    (r : TopicAck) (here : Bool)
    → let n =
    if here then (if is_confirming r x then confirmations policy r x else out_of_turn x.id) else [] in
    let y : Client = record x { heard = a.clock } in
    Shows x.id (kept_of x m from None a.clock here) n
    (notes_by a n (if here then (if is_confirming r x then confirmed_with r y else y) else x))
confirm_shows a policy x m from r true =
    let y : Client = record x { heard = a.clock } in
    let z : Client = if is_confirming r x then confirmed_with r y else y in
    heard_shows a x z m from (if is_confirming r x then confirmations policy r x else out_of_turn x.id)
    (alike_if (is_confirming r x) y (confirmed_with r y) y (alike_confirmed r y) (alike_self y))
    (answered_ends a x z (confirmations policy r x) (is_confirming r x)
    (every_confirmation (Unseen a) policy r x (unseen_messages a x.id)))
confirm_shows a policy x m from r false = (refl, refl, refl, refl)

pub acknowledge_shows : (a : Around) (policy : Policy) (x : Client) (m : Option Spoken)
    (from : Option Address) (r : TopicAck) (here : Bool)
    → let n =
    if here then (if is_acknowledging r x then handed_over policy (closed x) else out_of_turn x.id)
    else [] in
    let y : Client = record x { heard = a.clock } in
    Shows x.id (kept_of x m from None a.clock here) n
    (notes_by a n (if here then (if is_acknowledging r x then closed y else y) else x))
acknowledge_shows a policy x m from r true =
    let y : Client = record x { heard = a.clock } in
    let z : Client = if is_acknowledging r x then closed y else y in
    heard_shows a x z m from (if is_acknowledging r x then handed_over policy (closed x)
    else out_of_turn x.id)
    (alike_if (is_acknowledging r x) y (closed y) y (alike_closed y) (alike_self y))
    (answered_ends a x z (handed_over policy (closed x)) (is_acknowledging r x)
    (every_handed (Unseen a) policy (closed x) (unseen_messages a x.id)))
acknowledge_shows a policy x m from r false = (refl, refl, refl, refl)

-- a PINGREQ may wake the client
denial_unseen : (a : Around) (id : List ℕ) (o : Outcome) → Every (Unseen a) (denial_of id o)
denial_unseen a id Allowed = tt
denial_unseen a id (Denied rule) =
    (record { phase = λ m id before. refl; admits = λ id. refl; alike = λ x. alike_self x }, tt)

abbrev pub woken_if : Option (List ℕ) → Client → Client
woken_if client x = if is_waking client x then awake x else x

woken_alike : (clock : ℕ) (x : Client) (b : Bool)
    → Alike (heard_if true clock (if b then awake x else x))
    (let y : Client = if b then awake (record x { heard = clock }) else record x { heard = clock } in y)
woken_alike clock x true = record { phase = refl; address = refl; duration = refl; heard = refl }
woken_alike clock x false = record { phase = refl; address = refl; duration = refl; heard = refl }

woken_id : (x : Client) (b : Bool) → (let y : Client = if b then awake x else x in y).id ≡ x.id
woken_id x true = refl
woken_id x false = refl

pub ping_shows : (a : Around) (policy : Policy) (x : Client) (m : Option Spoken) (from : Option Address)
    (client : Option (List ℕ))
    (here : Bool)
    → let n = if here then denial_of x.id (ping_verdict client x) ++ woken_notes policy client x else [] in
    let y : Client = record x { heard = a.clock } in
    Shows x.id (kept_of (if here then woken_if client x else x) m from None a.clock here) n
    (notes_by a n (if here then (if is_waking client x then awake y else y) else x))
ping_shows a policy x m from client true =
    let z = woken_if client x in
    let y : Client =
    if is_waking client x then awake (record x { heard = a.clock }) else record x { heard = a.clock } in
    let n = denial_of x.id (ping_verdict client x) ++ woken_notes policy client x in
    let ends = ends_each x.id a n y
    (every_append (Unseen a) (denial_of x.id (ping_verdict client x)) (woken_notes policy client x)
    (denial_unseen a x.id (ping_verdict client x))
    (every_woken (Unseen a) policy client x (unseen_messages a x.id))) in
    subst (λ id. Shows id (kept_of z m from None a.clock true) n (notes_by a n y))
    (woken_id x (is_waking client x))
    (heard_shows a z y m from n (woken_alike a.clock x (is_waking client x))
    (subst (λ id. Ends id a y n) (sym (woken_id x (is_waking client x))) ends))
ping_shows a policy x m from client false = (refl, refl, refl, refl)

-- nothing behind it moves its state
pub ping_phase : (s : State) (from : Address) (client : Option (List ℕ)) (x : Client) (here : Bool)
    → is_here x from ≡ here
    → (moved_to s (ByMessage from (ToPing client)) x).phase
    ≡ (let y : Client = if here then woken_if client x else x in y).phase
ping_phase s from client x true is =
    let a : Around = record { policy = s.policy; clock = s.clock; cause = ByMessage from (ToPing client) } in
    let y : Client =
    if is_waking client x then awake (record x { heard = s.clock }) else record x { heard = s.clock } in
    let n = denial_of x.id (ping_verdict client x) ++ woken_notes s.policy client x in
    rw is
    ((ends_each x.id a n y
    (every_append (Unseen a) (denial_of x.id (ping_verdict client x)) (woken_notes s.policy client x)
    (denial_unseen a x.id (ping_verdict client x))
    (every_woken (Unseen a) s.policy client x (unseen_messages a x.id)))).alike.phase
    ∙ by_waking (is_waking client x))
  where
    by_waking : (b : Bool)
        → (let y : Client = if b then awake (record x { heard = s.clock })
        else record x { heard = s.clock } in y).phase ≡
        (let z : Client = if b then awake x else x in z).phase
    by_waking true = refl
    by_waking false = refl
ping_phase s from client x false is = rw is refl

-- by a DISCONNECT with Duration it falls asleep
abbrev pub asleep_if : ℕ → Client → Client
asleep_if duration x = if is_due_messages x.phase then asleep duration x else x

sleeps_by : (a : Around) (x : Client) (m : Option Spoken) (from : Option Address) (duration : ℕ) (b : Bool)
    → let n = if b then [] else out_of_turn x.id in
    let y : Client = record x { heard = a.clock } in
    Shows x.id (kept_of (if b then asleep duration x else x) m from None a.clock true) n
    (notes_by a n (if b then asleep duration y else y))
sleeps_by a x m from duration true = (refl, refl, refl, refl)
sleeps_by a x m from duration false = (refl, refl, refl, refl)

pub sleep_shows : (a : Around) (x : Client) (m : Option Spoken) (from : Option Address) (duration : ℕ)
    (here : Bool)
    → let n = if here then (if is_due_messages x.phase then [] else out_of_turn x.id) else [] in
    let y : Client = record x { heard = a.clock } in
    Shows x.id (kept_of (if here then asleep_if duration x else x) m from None a.clock here) n
    (notes_by a n (if here then (if is_due_messages x.phase then asleep duration y else y) else x))
sleep_shows a x m from duration true = sleeps_by a x m from duration (is_due_messages x.phase)
sleep_shows a x m from duration false = (refl, refl, refl, refl)

-- what it asks for is noted, and moves nothing of this
pub subscribe_shows : (a : Around) (s : State) (x : Client) (m : Option Spoken) (from : Option Address)
    (r : TopicRequest) (here : Bool)
    → let n = if here then subscribe_ask s x r ∷ [] else [] in
    Shows x.id (kept_of x m from None a.clock here) n (notes_by a n (heard_if here a.clock x))
subscribe_shows a s x m from r true =
    of_subscribe (λ said. Shows x.id (kept_of x m from None a.clock true) (said ∷ [])
    (note_by a said (heard_if true a.clock x))) s x r
    (λ filter o. let y = heard_if true a.clock x in shows_alike x.id (kept_of x m from None a.clock true)
    (note.Subscribe (who.Client x.id) filter o ∷ []) y (subscribed (subscribe_of a.cause) filter o y)
    (alike_subscribed (subscribe_of a.cause) filter o y) (refl, refl, refl, refl))
subscribe_shows a s x m from r false = (refl, refl, refl, refl)

pub unsubscribe_shows : (a : Around) (policy : Policy) (x : Client) (m : Option Spoken)
    (from : Option Address) (r : TopicRequest)
    (here : Bool)
    → let n = if here then unsubscribe_ask policy x r ∷ [] else [] in
    Shows x.id (kept_of x m from None a.clock here) n (notes_by a n (heard_if here a.clock x))
unsubscribe_shows a policy x m from r true =
    of_unsubscribe
    (λ said. Shows x.id (kept_of x m from None a.clock true) (said ∷ [])
    (note_by a said (heard_if true a.clock x))) policy x r
    (λ filter o. let y = heard_if true a.clock x in shows_alike x.id (kept_of x m from None a.clock true)
    (note.Unsubscribe (who.Client x.id) filter o ∷ []) y (unsubscribed filter o y)
    (alike_unsubscribed filter o y) (refl, refl, refl, refl))
unsubscribe_shows a policy x m from r false = (refl, refl, refl, refl)

pub register_shows : (a : Around) (policy : Policy) (x : Client) (m : Option Spoken) (from : Option Address)
    (text : List ℕ) (here : Bool)
    → let n = if here then register_ask policy x text ∷ [] else [] in
    Shows x.id (kept_of x m from None a.clock here) n (notes_by a n (heard_if here a.clock x))
register_shows a policy x m from text true =
    of_register
    (λ said. Shows x.id (kept_of x m from None a.clock true) (said ∷ [])
    (note_by a said (heard_if true a.clock x))) policy x text
    (λ name o. (refl, refl, refl, refl))
register_shows a policy x m from text false = (refl, refl, refl, refl)

received_shows : (a : Around) (x : Client) (m : Option Spoken) (from : Option Address)
    (name : Option (List ℕ)) (o : Outcome)
    → Shows x.id (kept_of x m from None a.clock true) (note.Publish (who.Client x.id) name o ∷ [])
    (note_by a (note.Publish (who.Client x.id) name o) (heard_if true a.clock x))
received_shows a x m from name o =
    let y = heard_if true a.clock x in
    shows_alike x.id (kept_of x m from None a.clock true) (note.Publish (who.Client x.id) name o ∷ []) y
    (received (id_opened_of a.cause) o y)
    (alike_received (id_opened_of a.cause) o y) (refl, refl, refl, refl)

pub asked_shows : (a : Around) (s : State) (x : Client) (m : Option Spoken) (from : Option Address)
    (p : Publish) (here : Bool)
    → let n = if here then publish_ask s x p ∷ [] else [] in
    Shows x.id (kept_of x m from None a.clock here) n (notes_by a n (heard_if here a.clock x))
asked_shows a s x m from p true =
    of_publish (λ said. Shows x.id (kept_of x m from None a.clock true) (said ∷ [])
    (note_by a said (heard_if true a.clock x))) s x p
    (λ name o. received_shows a x m from name o)
asked_shows a s x m from p false = (refl, refl, refl, refl)

-- a PUBLISH at QoS 2, which is noted where it is no repeat
pub once_shows : (a : Around) (s : State) (x : Client) (m : Option Spoken) (from : Option Address)
    (p : Publish) (here first : Bool)
    → let n = if here then (if first then publish_once_ask s x p ∷ [] else []) else [] in
    Shows x.id (kept_of x m from None a.clock here) n (notes_by a n (heard_if here a.clock x))
once_shows a s x m from p true true =
    of_publish_once (λ said. Shows x.id (kept_of x m from None a.clock true) (said ∷ [])
    (note_by a said (heard_if true a.clock x))) s x p
    (λ name o. received_shows a x m from name o)
once_shows a s x m from p true false = (refl, refl, refl, refl)
once_shows a s x m from p false first = (refl, refl, refl, refl)

-- a PUBREL
released_by : (a : Around) (x : Client) (m : Option Spoken) (from : Option Address) (number : ℕ) (active : Bool)
    → let n = if active then [] else out_of_turn x.id in
    let y : Client = record x { heard = a.clock } in
    Shows x.id (kept_of x m from None a.clock true) n
    (notes_by a n (if active then publish_released number y else y))
released_by a x m from number true = (refl, refl, refl, refl)
released_by a x m from number false = (refl, refl, refl, refl)

pub release_shows : (a : Around) (x : Client) (m : Option Spoken) (from : Option Address) (number : ℕ)
    (here : Bool)
    → let n = if here then (if is_active x.phase then [] else out_of_turn x.id) else [] in
    let y : Client = record x { heard = a.clock } in
    Shows x.id (kept_of x m from None a.clock here) n
    (notes_by a n (if here then (if is_active x.phase then publish_released number y else y) else x))
release_shows a x m from number true = released_by a x m from number (is_active x.phase)
release_shows a x m from number false = (refl, refl, refl, refl)
