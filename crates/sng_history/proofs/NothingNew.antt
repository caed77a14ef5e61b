-- No row but that of a SUBSCRIBE lets a filter stand anew, or asks the broker for one.
use Rattle.std.proofs.Common.{◌≡◌, ℕ, Bool, true, false, List, [], ◌∷◌, ◌++◌, map, refl, ap, sym, ◌∙◌}
use Rattle.std.specs.Prelude.{if◌then◌else◌, ◌&&◌, ◌||◌, not, Option, Some, None}
use Rattle.std.specs.List.{flat_map}
use Rattle.sng_states.specs.States.{is_due_messages, is_active}
use Rattle.sng_fan.specs.declared.held.Held.{Held}
use Rattle.sng_fan.specs.Subscriptions.{has_text, stands, without_filter}
use Rattle.sng_frames.specs.declared.messages.publish.Publish.{Publish}
use Rattle.sng_frames.specs.declared.frame.SnFrame.{SnFrame}
use Rattle.sng_frames.specs.declared.frame.SnFrame.TheVariants as frame
use Rattle.sng_outbox.specs.declared.item.Item.{Item}
use Rattle.sng_outbox.specs.declared.origin.Origin.TheVariants as origin
use Rattle.sng_book.specs.Denials.{is_allowed}
use Rattle.sng_book.specs.declared.address.Address.{Address}
use Rattle.sng_book.specs.declared.decision.Decision.{Decision}
use Rattle.sng_book.specs.declared.decision.Who.TheVariants as who
use Rattle.sng_book.specs.declared.outcome.Denial.TheVariants.{Form}
use Rattle.sng_book.specs.declared.outcome.FormDenial.TheVariants.{NotSupported}
use Rattle.sng_book.specs.declared.outcome.Outcome.{Outcome}
use Rattle.sng_book.specs.declared.outcome.Outcome.TheVariants.{Allowed, Denied}
use Rattle.sng_history.specs.Causes.{Request, ToPing, ToLeave, ToSleep, ToRegister, ToPublish, ToSubscribe}
use Rattle.sng_history.specs.Causes.{ToUnsubscribe, ToConfirm, ToAcknowledge}
use Rattle.sng_history.specs.Causes.{ToState, Untaken, Cause, publish_asked}
use Rattle.sng_history.specs.Causes.{ByMessage}
use Rattle.sng_history.specs.Causes.{ToPublishOnce, ToRelease}
use Rattle.sng_history.specs.Clients.{Client, is_here, closed, is_confirming, is_acknowledging}
use Rattle.sng_history.specs.Clients.{subscribe_of}
use Rattle.sng_history.specs.Links.{Wanted, wants}
use Rattle.sng_history.specs.Standing.{holds, is_held, still_wanted}
use Rattle.sng_history.specs.State.{State, item_for, item_asked, asked_by}
use Rattle.sng_history.specs.State.{qos_of}
use Rattle.sng_history.specs.Verdicts.{ping_verdict, is_repeat, publish_once_ask}
use Rattle.sng_history.specs.Answers.{denied_note}
use Rattle.sng_history.specs.Outgoing.{out_of_turn, handed_over}
use Rattle.sng_history.specs.Lawful.{denial_of, confirmations, woken_notes, fixed_to, fixed_for}
use Rattle.sng_history.specs.Steps.{newcomers_for, client_next, clients_next, asked_by_all, asked_for}
use Rattle.sng_history.specs.Good.{Each}
use Rattle.sng_history.proofs.Asks.{of_publish_once}
use Rattle.sng_history.proofs.Asks.{of_register, of_publish, of_unsubscribe}
use Rattle.sng_history.proofs.Hands.{Every, OfMessages, every_handed, every_append, every_gone, every_woken}
use Rattle.sng_history.proofs.Hands.{every_if, every_confirmation}
use Rattle.sng_history.proofs.Statements.{every_statement}
use Rattle.sng_history.proofs.FiltersKept.{Lasting, kept_next}
use Rattle.sng_history.proofs.Filters.{Unheld}
use Rattle.sng_history.proofs.Filters.{newcomers_unheld}
use Rattle.sng_history.proofs.WantedKept.{or_no, or_back, implied, wants_kept}
use Rattle.sng_history.proofs.Wanted.{subscribes, subscribes_both}

-- ---- among clients

pub held_both : (xs ys : List Client) (text : List ℕ)
    → is_held (xs ++ ys) text ≡ (is_held xs text || is_held ys text)
held_both [] ys text = refl
held_both (x ∷ xs) ys text =
    ap (λ b. holds text x || b) (held_both xs ys text)
    ∙ or_back (holds text x) (is_held xs text) (is_held ys text)

unheld_none : (xs : List Client) (text : List ℕ) → Each Unheld xs → is_held xs text ≡ false
unheld_none [] text none = refl
unheld_none (x ∷ xs) text none = rw (none.0) (unheld_none xs text none.1)

pub present_held : (s : State) (c : Cause) (text : List ℕ)
    → is_held (s.clients ++ newcomers_for s c) text ≡ is_held s.clients text
present_held s c text =
    held_both s.clients (newcomers_for s c) text
    ∙ (ap (λ b. is_held s.clients text || b) (unheld_none (newcomers_for s c) text (newcomers_unheld s c))
    ∙ or_no (is_held s.clients text))

pub held_same : (f : Client → Client) (xs : List Client) (text : List ℕ)
    → ((x : Client) → (f x).filters ≡ x.filters) → is_held (map f xs) text ≡ is_held xs text
held_same f [] text same = refl
held_same f (x ∷ xs) text same = rw (same x, held_same f xs text same) refl

pub or_follows : (a b c d : Bool) → (a ≡ true → c ≡ true) → (b ≡ true → d ≡ true) → (a || b) ≡ true
    → (c || d) ≡ true
or_follows true b c d one two is = ap (λ t. t || d) (one refl)
or_follows false b true d one two is = refl
or_follows false b false d one two is = two is

held_less : (f : Client → Client) (xs : List Client) (text : List ℕ)
    → ((x : Client) → holds text (f x) ≡ true → holds text x ≡ true) → is_held (map f xs) text ≡ true
    → is_held xs text ≡ true
held_less f [] text less is = is
held_less f (x ∷ xs) text less is =
    or_follows (holds text (f x)) (is_held (map f xs) text) (holds text x) (is_held xs text) (less x)
    (held_less f xs text less) is

-- ---- a row that is no SUBSCRIBE lets nothing stand anew

stands_less_by : (h : Held) (held : List Held) (gone text : List ℕ) (keep : Bool)
    → (stands (without_filter held gone) text ≡ true → stands held text ≡ true)
    → stands (if keep then h ∷ without_filter held gone else without_filter held gone) text ≡ true
    → (has_text text h || stands held text) ≡ true
stands_less_by h held gone text true less is =
    or_follows (has_text text h) (stands (without_filter held gone) text) (has_text text h) (stands held text)
    (λ e. e) less is
stands_less_by h held gone text false less is =
    or_follows false true (has_text text h) (stands held text) (λ e. absurd cc) (λ e. less is) refl

stands_less : (held : List Held) (gone text : List ℕ) → stands (without_filter held gone) text ≡ true
    → stands held text ≡ true
stands_less [] gone text is = is
stands_less (h ∷ held) gone text is =
    stands_less_by h held gone text (not (has_text gone h)) (stands_less held gone text) is

stood : (x : Client) (text : List ℕ) → Lasting (λ held. stands held text ≡ true → holds text x ≡ true)
stood x text =
    record { less = λ held gone before is. before (stands_less held gone text is); none = λ is. absurd cc }

pub nothing_new : (s : State) (c : Cause) (x : Client) (text : List ℕ) → subscribe_of c ≡ None
    → holds text (client_next s c x) ≡ true → holds text x ≡ true
nothing_new s c x text quiet is =
    kept_next (λ held. stands held text ≡ true → holds text x ≡ true) (stood x text) s c x quiet (λ e. e) is

pub fewer_held : (s : State) (c : Cause) (text : List ℕ) → subscribe_of c ≡ None
    → is_held (clients_next s c) text ≡ true → is_held s.clients text ≡ true
fewer_held s c text quiet is =
    sym (present_held s c text) ∙ held_less (client_next s c) (s.clients ++ newcomers_for s c) text
    (λ x. nothing_new s c x text quiet) is

-- the wanted filters are those that stand then
pub still_held : (s : State) (c : Cause) (wanted : List Wanted) (text : List ℕ) → subscribe_of c ≡ None
    → wants wanted text ≡ is_held s.clients text
    → wants (still_wanted (clients_next s c) wanted) text ≡ is_held (clients_next s c) text
still_held s c wanted text quiet held =
    wants_kept (is_held (clients_next s c)) wanted text
    ∙ (ap (λ b. b && is_held (clients_next s c) text) held
    ∙ implied (is_held s.clients text) (is_held (clients_next s c) text) (fewer_held s c text quiet))

-- ---- nor does it ask for a SUBSCRIBE

-- the request is no SUBSCRIBE
abbrev pub is_other : Request → Bool
is_other (ToSubscribe r) = false
is_other (ToPing client) = true
is_other (ToSleep duration) = true
is_other ToLeave = true
is_other (ToRegister r) = true
is_other (ToPublish p) = true
is_other (ToPublishOnce p) = true
is_other (ToRelease id) = true
is_other (ToUnsubscribe r) = true
is_other (ToConfirm r) = true
is_other (ToAcknowledge r) = true
is_other (ToState statement) = true
is_other (Untaken message) = true

abbrev Unsubscribing : Option Publish → Decision → Type 0
Unsubscribing p said = (text : List ℕ) → subscribes (asked_by p said) text ≡ false

publish_item_none : (client : List ℕ) (name : Option (List ℕ)) (o : Outcome) (p : Publish) (text : List ℕ)
    → subscribes (item_asked (who.Client client) name o p) text ≡ false
publish_item_none client None o p text = refl
publish_item_none client (Some name) o p text =
    if_none (is_allowed o) (item_for (origin.Client client) name (qos_of p.flags.qos) p) refl
  where
    if_none : (b : Bool) (i : Item) → subscribes (i ∷ []) text ≡ false
        → subscribes (if b then i ∷ [] else []) text ≡ false
    if_none true i none = none
    if_none false i none = refl

denied_none : (message : SnFrame) (client : List ℕ)
    → Unsubscribing None (denied_note message (who.Client client) (Form NotSupported))
denied_none (frame.Connect connect) client text = refl
denied_none (frame.ConnectAck code) client text = refl
denied_none frame.WillTopicRequest client text = refl
denied_none (frame.WillTopic topic) client text = refl
denied_none frame.WillMessageRequest client text = refl
denied_none (frame.WillMessage message) client text = refl
denied_none (frame.Register register) client text = refl
denied_none (frame.RegisterAck answer) client text = refl
denied_none (frame.Publish p) client text = refl
denied_none (frame.PublishAck answer) client text = refl
denied_none (frame.PublishComplete id) client text = refl
denied_none (frame.PublishReceived id) client text = refl
denied_none (frame.PublishRelease id) client text = refl
denied_none (frame.Subscribe request) client text = refl
denied_none (frame.SubscribeAck answer) client text = refl
denied_none (frame.Unsubscribe request) client text = refl
denied_none (frame.UnsubscribeAck id) client text = refl
denied_none (frame.PingRequest named) client text = refl
denied_none frame.PingResponse client text = refl
denied_none (frame.Disconnect duration) client text = refl
denied_none (frame.WillTopicUpdate topic) client text = refl
denied_none (frame.WillTopicResponse code) client text = refl
denied_none (frame.WillMessageUpdate message) client text = refl
denied_none (frame.WillMessageResponse code) client text = refl

abbrev AllUnsubscribing : Option Publish → List Decision → Type 0
AllUnsubscribing p notes = Every (Unsubscribing p) notes

unasked : (p : Option Publish) (notes : List Decision) (text : List ℕ) → AllUnsubscribing p notes
    → subscribes (asked_by_all p notes) text ≡ false
unasked p [] text all = refl
unasked p (said ∷ notes) text all =
    subscribes_both (asked_by p said) (asked_by_all p notes) text
    ∙ (ap (λ b. b || subscribes (asked_by_all p notes) text) (all.0 text) ∙ unasked p notes text all.1)

denial_none : (id : List ℕ) (o : Outcome) → AllUnsubscribing None (denial_of id o)
denial_none id Allowed = tt
denial_none id (Denied rule) = (λ text. refl, tt)

messages_none : (client : List ℕ) → OfMessages (Unsubscribing None) client
messages_none client = record { announces = λ name text. refl; hands = λ name o text. refl }

turn_none : (turn : Bool) (id : List ℕ) (notes : List Decision) → AllUnsubscribing None notes
    → AllUnsubscribing None (if turn then notes else out_of_turn id)
turn_none true id notes all = all
turn_none false id notes all = (λ text. refl, tt)

request_none : (s : State) (request : Request) (x : Client) → is_other request ≡ true
    → AllUnsubscribing (publish_asked request) (fixed_to s request x)
request_none s (ToPing client) x is =
    let verdict = ping_verdict client x in
    every_append (Unsubscribing None) (denial_of x.id verdict) (woken_notes s.policy client x)
    (denial_none x.id verdict) (every_woken (Unsubscribing None) s.policy client x (messages_none x.id))
request_none s (ToSleep duration) x is = turn_none (is_due_messages x.phase) x.id [] tt
request_none s ToLeave x is =
    (λ text. refl, every_gone (Unsubscribing None) x.id x.buffer.waiting (messages_none x.id))
request_none s (ToRegister r) x is =
    (of_register (Unsubscribing None) s.policy x r.name (λ name o text. refl), tt)
request_none s (ToPublish p) x is =
    (of_publish (Unsubscribing (Some p)) s x p (λ name o text. publish_item_none x.id name o p text), tt)
request_none s (ToPublishOnce p) x is =
    every_if (Unsubscribing (Some p)) (not (is_repeat p x)) (publish_once_ask s x p ∷ []) (
      of_publish_once (Unsubscribing (Some p)) s x p
          (λ name o text. publish_item_none x.id name o p text),
      tt,
    )
request_none s (ToRelease id) x is = turn_none (is_active x.phase) x.id [] tt
request_none s (ToSubscribe r) x is = absurd cc
request_none s (ToUnsubscribe r) x is =
    (of_unsubscribe (Unsubscribing None) s.policy x r (λ filter o text. refl), tt)
request_none s (ToConfirm r) x is =
    turn_none (is_confirming r x) x.id (confirmations s.policy r x)
    (every_confirmation (Unsubscribing None) s.policy r x (messages_none x.id))
request_none s (ToAcknowledge r) x is =
    turn_none (is_acknowledging r x) x.id (handed_over s.policy (closed x))
    (every_handed (Unsubscribing None) s.policy (closed x) (messages_none x.id))
request_none s (ToState statement) x is =
    every_statement (Unsubscribing None) s.policy statement x
    (record { states = λ name o text. refl; leaves = λ text. refl; messages = messages_none x.id })
request_none s (Untaken message) x is = (denied_none message x.id, tt)

all_none : (f : Client → List Item) (xs : List Client) (text : List ℕ)
    → ((x : Client) → subscribes (f x) text ≡ false) → subscribes (flat_map f xs) text ≡ false
all_none f [] text none = refl
all_none f (x ∷ xs) text none =
    subscribes_both (f x) (flat_map f xs) text
    ∙ (ap (λ b. b || subscribes (flat_map f xs) text) (none x) ∙ all_none f xs text none)

none_if : (p : Option Publish) (b : Bool) (notes : List Decision) → AllUnsubscribing p notes
    → AllUnsubscribing p (if b then notes else [])
none_if p true notes all = all
none_if p false notes all = tt

pub asks_none : (s : State) (from : Address) (request : Request) (text : List ℕ) → is_other request ≡ true
    → subscribes (asked_for s (ByMessage from request)) text ≡ false
asks_none s from request text is =
    let c = ByMessage from request in
    all_none (λ x. asked_by_all (publish_asked request) (fixed_for s c x)) s.clients text
    (λ x. unasked (publish_asked request) (fixed_for s c x) text
    (none_if (publish_asked request) (is_here x from) (fixed_to s request x)
    (request_none s request x is)))
