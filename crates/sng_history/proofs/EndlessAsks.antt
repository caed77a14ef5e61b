-- What a request asks of the broker, and the link after one that ends nothing.
use Rattle.std.proofs.Common.{◌≡◌, ℕ, Bool, true, false, List, [], ◌∷◌, ◌++◌, refl, ap, ◌∙◌}
use Rattle.std.specs.Prelude.{if◌then◌else◌, Option, None}
use Rattle.std.specs.List.{flat_map}
use Rattle.std.proofs.lemmas.List.{append-nil}
use Rattle.sng_frames.specs.declared.messages.publish.Publish.{Publish}
use Rattle.sng_outbox.specs.declared.item.Item.{Item}
use Rattle.sng_states.specs.States.{is_due_messages, is_active}
use Rattle.sng_frames.specs.declared.frame.SnFrame.{SnFrame}
use Rattle.sng_frames.specs.declared.frame.SnFrame.TheVariants as frame
use Rattle.sng_book.specs.declared.address.Address.{Address}
use Rattle.sng_book.specs.declared.decision.Decision.{Decision}
use Rattle.sng_book.specs.declared.decision.Who.TheVariants as who
use Rattle.sng_book.specs.declared.outcome.Denial.TheVariants.{Form}
use Rattle.sng_book.specs.declared.outcome.FormDenial.TheVariants.{NotSupported}
use Rattle.sng_book.specs.declared.outcome.Outcome.{Outcome}
use Rattle.sng_book.specs.declared.outcome.Outcome.TheVariants.{Allowed, Denied}
use Rattle.sng_history.specs.Causes.{Request, ToPing, ToLeave, ToSleep, ToRegister, ToPublish, ToSubscribe}
use Rattle.sng_history.specs.Causes.{ToUnsubscribe, ToConfirm, ToAcknowledge}
use Rattle.sng_history.specs.Causes.{ToState, Untaken, publish_asked}
use Rattle.sng_history.specs.Causes.{ByMessage}
use Rattle.sng_history.specs.Causes.{ToPublishOnce, ToRelease}
use Rattle.sng_history.specs.Clients.{Client, is_here, closed, is_confirming, is_acknowledging}
use Rattle.sng_history.specs.State.{State, asked_by, joined}
use Rattle.sng_history.specs.Verdicts.{ping_verdict}
use Rattle.sng_history.specs.WillAsks.{statement_notes}
use Rattle.sng_history.specs.Answers.{denied_note}
use Rattle.sng_history.specs.Outgoing.{all_gone, out_of_turn, handed_over}
use Rattle.sng_history.specs.Lawful.{denial_of, confirmations, woken_notes, fixed_to, fixed_for}
use Rattle.sng_history.specs.Steps.{asked_by_all, asked_for}
use Rattle.sng_history.specs.Steps.{next_by}
use Rattle.sng_history.specs.Good.{Good}
use Rattle.sng_history.proofs.Hands.{Every, OfMessages, every_append, every_handed, every_gone, every_woken}
use Rattle.sng_history.proofs.Hands.{every_confirmation}
use Rattle.sng_history.proofs.Statements.{every_statement}
use Rattle.sng_history.proofs.Asks.{of_register, of_unsubscribe}
use Rattle.sng_history.proofs.Endless.{Endless, endless_unsubscribes, endless_wanted}

-- ---- what a request asks for

-- only a PUBLISH and a SUBSCRIBE ask for something
abbrev pub is_quiet : Request → Bool
is_quiet (ToPublish p) = false
is_quiet (ToPublishOnce p) = false
is_quiet (ToRelease id) = true
is_quiet (ToSubscribe r) = false
is_quiet (ToPing client) = true
is_quiet (ToSleep duration) = true
is_quiet ToLeave = true
is_quiet (ToRegister r) = true
is_quiet (ToConfirm r) = true
is_quiet (ToAcknowledge r) = true
is_quiet (ToUnsubscribe r) = true
is_quiet (ToState statement) = true
is_quiet (Untaken message) = true

denied_asks : (message : SnFrame) (client : List ℕ)
    → asked_by None (denied_note message (who.Client client) (Form NotSupported)) ≡ []
denied_asks (frame.Connect connect) client = refl
denied_asks (frame.ConnectAck code) client = refl
denied_asks frame.WillTopicRequest client = refl
denied_asks (frame.WillTopic topic) client = refl
denied_asks frame.WillMessageRequest client = refl
denied_asks (frame.WillMessage message) client = refl
denied_asks (frame.Register register) client = refl
denied_asks (frame.RegisterAck answer) client = refl
denied_asks (frame.Publish p) client = refl
denied_asks (frame.PublishAck answer) client = refl
denied_asks (frame.PublishComplete id) client = refl
denied_asks (frame.PublishReceived id) client = refl
denied_asks (frame.PublishRelease id) client = refl
denied_asks (frame.Subscribe request) client = refl
denied_asks (frame.SubscribeAck answer) client = refl
denied_asks (frame.Unsubscribe request) client = refl
denied_asks (frame.UnsubscribeAck id) client = refl
denied_asks (frame.PingRequest named) client = refl
denied_asks frame.PingResponse client = refl
denied_asks (frame.Disconnect duration) client = refl
denied_asks (frame.WillTopicUpdate topic) client = refl
denied_asks (frame.WillTopicResponse code) client = refl
denied_asks (frame.WillMessageUpdate message) client = refl
denied_asks (frame.WillMessageResponse code) client = refl

-- notes of messages ask for nothing
abbrev Quiet : Decision → Type 0
Quiet said = asked_by None said ≡ []

denial_quiet : (id : List ℕ) (o : Outcome) → Every Quiet (denial_of id o)
denial_quiet id Allowed = tt
denial_quiet id (Denied rule) = (refl, tt)

messages_quiet : (client : List ℕ) → OfMessages Quiet client
messages_quiet client = record { announces = λ name. refl; hands = λ name o. refl }

all_quiet : (notes : List Decision) → Every Quiet notes → asked_by_all None notes ≡ []
all_quiet [] every = refl
all_quiet (said ∷ notes) every = rw (every.0, all_quiet notes every.1) refl

turn_asks : (turn : Bool) (id : List ℕ) (notes : List Decision) → Every Quiet notes
    → asked_by_all None (if turn then notes else out_of_turn id) ≡ []
turn_asks true id notes every = all_quiet notes every
turn_asks false id notes every = refl

request_asks : (s : State) (request : Request) (x : Client) → is_quiet request ≡ true
    → asked_by_all (publish_asked request) (fixed_to s request x) ≡ []
request_asks s (ToPing client) x is =
    let denial = denial_of x.id (ping_verdict client x) in
    let woken = woken_notes s.policy client x in
    all_quiet (denial ++ woken)
    (every_append Quiet denial woken (denial_quiet x.id (ping_verdict client x))
    (every_woken Quiet s.policy client x (messages_quiet x.id)))
request_asks s (ToSleep duration) x is = turn_asks (is_due_messages x.phase) x.id [] tt
request_asks s ToLeave x is =
    all_quiet (all_gone x.id x.buffer.waiting) (every_gone Quiet x.id x.buffer.waiting (messages_quiet x.id))
request_asks s (ToRegister r) x is =
    of_register (λ said. asked_by_all None (said ∷ []) ≡ []) s.policy x r.name (λ name o. refl)
request_asks s (ToPublish p) x is = absurd cc
request_asks s (ToPublishOnce p) x is = absurd cc
request_asks s (ToRelease id) x is = turn_asks (is_active x.phase) x.id [] tt
request_asks s (ToSubscribe r) x is = absurd cc
request_asks s (ToUnsubscribe r) x is =
    of_unsubscribe (λ said. asked_by_all None (said ∷ []) ≡ []) s.policy x r (λ filter o. refl)
request_asks s (ToConfirm r) x is =
    turn_asks (is_confirming r x) x.id (confirmations s.policy r x)
    (every_confirmation Quiet s.policy r x (messages_quiet x.id))
request_asks s (ToAcknowledge r) x is =
    turn_asks (is_acknowledging r x) x.id (handed_over s.policy (closed x))
    (every_handed Quiet s.policy (closed x) (messages_quiet x.id))
request_asks s (ToState statement) x is =
    all_quiet (statement_notes s.policy statement x)
    (every_statement Quiet s.policy statement x
    (record { states = λ name o. refl; leaves = refl; messages = messages_quiet x.id }))
request_asks s (Untaken message) x is = ap (λ items. items ++ []) (denied_asks message x.id)

asks_if : (p : Option Publish) (b : Bool) (notes : List Decision) → asked_by_all p notes ≡ []
    → asked_by_all p (if b then notes else []) ≡ []
asks_if p true notes none = none
asks_if p false notes none = refl

flat_none : (f : Client → List Item) (xs : List Client) → ((x : Client) → f x ≡ []) → flat_map f xs ≡ []
flat_none f [] none = refl
flat_none f (x ∷ xs) none = rw (none x, flat_none f xs none) refl

pub asks_nothing : (s : State) (from : Address) (request : Request) → is_quiet request ≡ true
    → asked_for s (ByMessage from request) ≡ []
asks_nothing s from request is =
    let c = ByMessage from request in
    flat_none (λ x. asked_by_all (publish_asked request) (fixed_for s c x)) s.clients
    (λ x. asks_if (publish_asked request) (is_here x from) (fixed_to s request x)
    (request_asks s request x is))

-- ---- the state after a message

-- where nothing ends, what is asked for joins what waits, and its filters are wanted
pub endless_link : (s : State) (from : Address) (request : Request) → Good s
    → Endless s (ByMessage from request)
    → (let c = ByMessage from request in
    (next_by s c).link ≡ record s.link
    { waiting = s.link.waiting ++ asked_for s c; wanted = joined s.link.wanted (asked_for s c) })
endless_link s from request good e =
    let c = ByMessage from request in
    rw (endless_unsubscribes s c s.policy.limits e, endless_wanted s c good e, append-nil (asked_for s c)) refl

-- and where nothing is asked for either, the link stays
pub still_link : (s : State) (from : Address) (request : Request) → Good s
    → Endless s (ByMessage from request) → is_quiet request ≡ true
    → (next_by s (ByMessage from request)).link ≡ s.link
still_link s from request good e is =
    endless_link s from request good e ∙ (rw (asks_nothing s from request is, append-nil s.link.waiting) refl)
