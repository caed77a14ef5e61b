-- No request but UNSUBSCRIBE ends a subscription.
use Rattle.std.proofs.Common.{◌≡◌, ℕ, Bool, true, false, List, [], ◌∷◌, ◌++◌, refl, ap, ◌∙◌}
use Rattle.std.specs.Prelude.{if◌then◌else◌, ◌||◌, not, filter, Option, Some, None}
use Rattle.std.specs.Str.{bytes_eq}
use Rattle.sng_states.specs.States.{is_due_messages, is_active}
use Rattle.sng_fan.specs.Subscriptions.{stands, with_filter}
use Rattle.sng_frames.specs.declared.messages.publish.Publish.{Publish}
use Rattle.sng_frames.specs.declared.messages.subscribe.TopicRequest.{TopicRequest}
use Rattle.sng_frames.specs.declared.frame.SnFrame.{SnFrame}
use Rattle.sng_frames.specs.declared.frame.SnFrame.TheVariants as frame
use Rattle.sng_book.specs.declared.address.Address.{Address}
use Rattle.sng_book.specs.declared.decision.Decision.{Decision}
use Rattle.sng_book.specs.declared.decision.Who.TheVariants as who
use Rattle.sng_book.specs.declared.outcome.Denial.TheVariants.{Form}
use Rattle.sng_book.specs.declared.outcome.FormDenial.TheVariants.{NotSupported}
use Rattle.sng_book.specs.declared.outcome.Outcome.{Outcome}
use Rattle.sng_book.specs.declared.outcome.Outcome.TheVariants.{Allowed, Denied}
use Rattle.sng_history.specs.Causes.{Request, ToPing, ToLeave, ToSleep, ToRegister, ToPublish, ToSubscribe}
use Rattle.sng_history.specs.Causes.{ToUnsubscribe, ToConfirm, ToAcknowledge}
use Rattle.sng_history.specs.Causes.{ToState, Untaken}
use Rattle.sng_history.specs.Causes.{ByMessage}
use Rattle.sng_history.specs.Causes.{ToPublishOnce, ToRelease}
use Rattle.sng_history.specs.Requests.{granted}
use Rattle.sng_history.specs.Clients.{Around, Client, is_here, closed, gone, is_confirming, is_acknowledging}
use Rattle.sng_history.specs.Clients.{start_by, subscribed}
use Rattle.sng_history.specs.Clients.{subscribe_of, statement_of, note_by, notes_by, received}
use Rattle.sng_history.specs.Clients.{id_opened_of}
use Rattle.sng_history.specs.State.{State, around}
use Rattle.sng_history.specs.Verdicts.{ping_verdict, subscribe_ask, is_repeat, publish_once_ask}
use Rattle.sng_history.specs.WillAsks.{statement_notes}
use Rattle.sng_history.specs.Answers.{denied_note}
use Rattle.sng_history.specs.Outgoing.{all_gone, out_of_turn, handed_over}
use Rattle.sng_history.specs.Lawful.{denial_of, confirmations, woken_notes, fixed_to, fixed_for}
use Rattle.sng_history.specs.Steps.{client_next}
use Rattle.sng_history.proofs.Steady.{steady_self, start_filters, client_filters, received_steady}
use Rattle.sng_history.proofs.Steady.{denied_received}
use Rattle.sng_history.proofs.Hands.{Every, every_append, every_handed, every_gone, every_woken}
use Rattle.sng_history.proofs.Hands.{every_confirmation, Calm, messages_calm, notes_calm}
use Rattle.sng_history.proofs.Statements.{denied_stated, statement_placid, placid_filters}
use Rattle.sng_history.proofs.Asks.{of_register, of_publish, of_publish_once}
use Rattle.sng_history.proofs.FiltersKept.{subscribe_verdict, ask_cases}
use Rattle.sng_history.proofs.Holding.{with_stands}
use Rattle.sng_history.proofs.Endless.{Keeps, Endless}

-- ---- each request but UNSUBSCRIBE

same_keeps : (x y : Client) → y.filters ≡ x.filters → Keeps x y
same_keeps x y same text is = ap (λ held. stands held text) same ∙ is

none_subscribed : (r : Option TopicRequest) (o : Outcome) (x : Client) → subscribed r None o x ≡ x
none_subscribed None o x = refl
none_subscribed (Some r) o x = refl

-- a message that is denied moves nothing
pub denied_stays : (a : Around) (x : Client) (id : List ℕ) (message : SnFrame)
    → note_by a (denied_note message (who.Client id) (Form NotSupported)) x ≡ x
denied_stays a x id (frame.Connect connect) = refl
denied_stays a x id (frame.ConnectAck code) = refl
denied_stays a x id frame.WillTopicRequest = refl
denied_stays a x id (frame.WillTopic topic) = denied_stated (statement_of a.cause) (Form NotSupported) x
denied_stays a x id frame.WillMessageRequest = refl
denied_stays a x id (frame.WillMessage message) = denied_stated (statement_of a.cause) (Form NotSupported) x
denied_stays a x id (frame.Register register) = refl
denied_stays a x id (frame.RegisterAck answer) = refl
denied_stays a x id (frame.Publish p) = denied_received (id_opened_of a.cause) (Form NotSupported) x
denied_stays a x id (frame.PublishAck answer) = refl
denied_stays a x id (frame.PublishComplete packet) = refl
denied_stays a x id (frame.PublishReceived packet) = refl
denied_stays a x id (frame.PublishRelease packet) = refl
denied_stays a x id (frame.Subscribe request) =
    none_subscribed (subscribe_of a.cause) (Denied (Form NotSupported)) x
denied_stays a x id (frame.SubscribeAck answer) = refl
denied_stays a x id (frame.Unsubscribe request) = refl
denied_stays a x id (frame.UnsubscribeAck packet) = refl
denied_stays a x id (frame.PingRequest client) = refl
denied_stays a x id frame.PingResponse = refl
denied_stays a x id (frame.Disconnect duration) = refl
denied_stays a x id (frame.WillTopicUpdate topic) = denied_stated (statement_of a.cause) (Form NotSupported) x
denied_stays a x id (frame.WillTopicResponse code) = refl
denied_stays a x id (frame.WillMessageUpdate message) =
    denied_stated (statement_of a.cause) (Form NotSupported) x
denied_stays a x id (frame.WillMessageResponse code) = refl

-- one note of a client that was heard
abbrev Still : Around → Client → Decision → Type 0
Still a x said = (note_by a said (start_by a x)).filters ≡ x.filters

denial_calm : (a : Around) (id : List ℕ) (o : Outcome) → Every (Calm a) (denial_of id o)
denial_calm a id Allowed = tt
denial_calm a id (Denied rule) = (λ x. steady_self x, tt)

-- the request leaves the filters of its client as they are
abbrev pub is_still : Request → Bool
is_still (ToSubscribe r) = false
is_still (ToUnsubscribe r) = false
is_still (ToPing client) = true
is_still (ToSleep duration) = true
is_still ToLeave = true
is_still (ToRegister r) = true
is_still (ToConfirm r) = true
is_still (ToAcknowledge r) = true
is_still (ToPublish p) = true
is_still (ToPublishOnce p) = true
is_still (ToRelease id) = true
is_still (ToState statement) = true
is_still (Untaken message) = true

-- notes of messages move no filters
calm_still : (a : Around) (x : Client) (notes : List Decision) → Every (Calm a) notes
    → (notes_by a notes x).filters ≡ x.filters
calm_still a x notes every = (notes_calm a notes x every).filters

turn_still : (a : Around) (turn : Bool) (x : Client) (notes : List Decision) → Every (Calm a) notes
    → (notes_by a (if turn then notes else out_of_turn x.id) (start_by a x)).filters ≡ x.filters
turn_still a true x notes every = calm_still a (start_by a x) notes every ∙ start_filters a x
turn_still a false x notes every = start_filters a x

publish_still : (a : Around) (x : Client) (o : Outcome)
    → (received (id_opened_of a.cause) o (start_by a x)).filters ≡ x.filters
publish_still a x o = (received_steady (id_opened_of a.cause) o (start_by a x)).filters ∙ start_filters a x

once_still : (a : Around) (s : State) (p : Publish) (x : Client) (first : Bool)
    → (notes_by a (if first then publish_once_ask s x p ∷ [] else []) (start_by a x)).filters ≡ x.filters
once_still a s p x true = of_publish_once (Still a x) s x p (λ name o. publish_still a x o)
once_still a s p x false = start_filters a x

still_to : (a : Around) (s : State) (request : Request) (x : Client) → is_still request ≡ true
    → (notes_by a (fixed_to s request x) (start_by a x)).filters ≡ x.filters
still_to a s (ToPing client) x is =
    let denial = denial_of x.id (ping_verdict client x) in
    let woken = woken_notes s.policy client x in
    calm_still a (start_by a x) (denial ++ woken)
    (every_append (Calm a) denial woken (denial_calm a x.id (ping_verdict client x))
    (every_woken (Calm a) s.policy client x (messages_calm a x.id)))
    ∙ start_filters a x
still_to a s (ToSleep duration) x is = turn_still a (is_due_messages x.phase) x [] tt
still_to a s ToLeave x is =
    calm_still a (gone (start_by a x)) (all_gone x.id x.buffer.waiting)
    (every_gone (Calm a) x.id x.buffer.waiting (messages_calm a x.id)) ∙ start_filters a x
still_to a s (ToRegister r) x is = of_register (Still a x) s.policy x r.name (λ name o. start_filters a x)
still_to a s (ToPublish p) x is = of_publish (Still a x) s x p (λ name o. publish_still a x o)
still_to a s (ToPublishOnce p) x is = once_still a s p x (not (is_repeat p x))
still_to a s (ToRelease id) x is = turn_still a (is_active x.phase) x [] tt
still_to a s (ToSubscribe r) x is = absurd cc
still_to a s (ToUnsubscribe r) x is = absurd cc
still_to a s (ToConfirm r) x is =
    turn_still a (is_confirming r x) x (confirmations s.policy r x)
    (every_confirmation (Calm a) s.policy r x (messages_calm a x.id))
still_to a s (ToAcknowledge r) x is =
    turn_still a (is_acknowledging r x) x (handed_over s.policy (closed x))
    (every_handed (Calm a) s.policy (closed x) (messages_calm a x.id))
still_to a s (ToState statement) x is =
    placid_filters a (statement_notes s.policy statement x) (start_by a x)
    (statement_placid a s.policy statement x) ∙ start_filters a x
still_to a s (Untaken message) x is =
    ap (λ y. y.filters) (denied_stays a (start_by a x) x.id message) ∙ start_filters a x

still_if : (a : Around) (s : State) (request : Request) (x : Client) (here : Bool) → is_still request ≡ true
    → (notes_by a (if here then fixed_to s request x else []) (start_by a x)).filters ≡ x.filters
still_if a s request x true is = still_to a s request x is
still_if a s request x false is = start_filters a x

pub still_next : (s : State) (from : Address) (request : Request) (x : Client) → is_still request ≡ true
    → (client_next s (ByMessage from request) x).filters ≡ x.filters
still_next s from request x is =
    let c = ByMessage from request in
    client_filters (around s c) (fixed_for s c x) x ∙ still_if (around s c) s request x (is_here x from) is

pub still_endless : (s : State) (from : Address) (request : Request) → is_still request ≡ true
    → Endless s (ByMessage from request)
still_endless s from request is =
    (refl, λ x. same_keeps x (client_next s (ByMessage from request) x) (still_next s from request x is))

-- ---- a SUBSCRIBE lets what stood stand, too

then_stands : (x y : Client) (r : TopicRequest) (filter : List ℕ) (o : Outcome) → y.filters ≡ x.filters
    → Keeps x (subscribed (Some r) (Some filter) o y)
then_stands x y r filter Allowed same text is =
    ap (λ held. stands (with_filter held filter (granted r.flags.qos)) text) same
    ∙ (with_stands x.filters filter text (granted r.flags.qos) ∙ ap (λ b. b || bytes_eq text filter) is)
then_stands x y r filter (Denied rule) same text is = ap (λ held. stands held text) same ∙ is

subscribe_keeps : (s : State) (from : Address) (r : TopicRequest) (x : Client) (here : Bool)
    → (let a = around s (ByMessage from (ToSubscribe r)) in
    Keeps x (notes_by a (if here then subscribe_ask s x r ∷ [] else []) (start_by a x)))
subscribe_keeps s from r x true =
    let a = around s (ByMessage from (ToSubscribe r)) in
    let y = start_by a x in
    ask_cases (λ said. Keeps x (note_by a said y)) s x r
    (λ filter is. then_stands x y r filter (subscribe_verdict s x r filter) (start_filters a x))
    (λ rule. same_keeps x y (start_filters a x))
subscribe_keeps s from r x false =
    let a = around s (ByMessage from (ToSubscribe r)) in same_keeps x (start_by a x) (start_filters a x)

pub subscribe_endless : (s : State) (from : Address) (r : TopicRequest)
    → Endless s (ByMessage from (ToSubscribe r))
subscribe_endless s from r =
    let c = ByMessage from (ToSubscribe r) in (
      refl,
      λ x text is.
          ap (λ held. stands held text) (client_filters (around s c) (fixed_for s c x) x)
          ∙ subscribe_keeps s from r x (is_here x from) text is,
    )
