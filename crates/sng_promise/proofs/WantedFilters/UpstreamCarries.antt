-- Where what waits makes the broker keep just the wanted filters, it does so after a row that sends it
-- nothing and notes no drop.
use Rattle.std.proofs.Common.{◌≡◌, ℕ, Bool, true, false, List, [], ◌∷◌, ◌++◌, map, refl, ap, sym, ◌∙◌}
use Rattle.std.proofs.Common.{if◌then◌else◌, Ok, Err}
use Rattle.std.specs.Prelude.{◌&&◌, ◌||◌, Option, Some, None}
use Rattle.std.specs.List.{flat_map}
use Rattle.std.specs.Str.{bytes_eq}
use Rattle.std.specs.declared.result.Result.{Result}
use Rattle.std.proofs.lemmas.List.{append-nil}
use Rattle.sng_frames.specs.declared.fault.FrameFault.{FrameFault}
use Rattle.sng_frames.specs.declared.qos.FrameQos.{FrameQos}
use Rattle.sng_frames.specs.declared.qos.FrameQos.TheVariants as qos
use Rattle.sng_frames.specs.declared.messages.connect.Connect.{Connect}
use Rattle.sng_frames.specs.declared.messages.publish.Publish.{Publish}
use Rattle.sng_frames.specs.declared.frame.SnFrame.{SnFrame}
use Rattle.sng_frames.specs.declared.frame.SnFrame.TheVariants as frame
use Rattle.sng_grants.specs.declared.policy.Policy.{Policy}
use Rattle.sng_outbox.specs.declared.item.Item.{Item}
use Rattle.sng_book.specs.declared.address.Address.{Address}
use Rattle.sng_book.specs.declared.outcome.Denial.{Denial}
use Rattle.sng_book.specs.declared.outcome.Outcome.{Outcome}
use Rattle.sng_book.specs.declared.outcome.Outcome.TheVariants.{Allowed, Denied}
use Rattle.sng_history.specs.Causes.{Request, ToPing, ToLeave, ToSleep, ToRegister, ToPublish, ToSubscribe}
use Rattle.sng_history.specs.Causes.{ToUnsubscribe, ToConfirm, ToAcknowledge, ToState, Untaken, Cause}
use Rattle.sng_history.specs.Causes.{datagram_cause, publish_cause}
use Rattle.sng_history.specs.Causes.{StatesTopic, StatesMessage, UpdatesTopic, UpdatesMessage}
use Rattle.sng_history.specs.Causes.{ByConnect, ByMessage, BySource, ByReplace}
use Rattle.sng_history.specs.Causes.{ToPublishOnce, ToRelease}
use Rattle.sng_history.specs.Clients.{Client, is_here, is_from}
use Rattle.sng_history.specs.Links.{wants}
use Rattle.sng_history.specs.Standing.{is_held, released, still_wanted, unsubscribes as lets_go_of}
use Rattle.sng_history.specs.State.{State, around, asked_by}
use Rattle.sng_history.specs.Verdicts.{entry, source_ask}
use Rattle.sng_history.specs.Whole.{any_from, stranger_to}
use Rattle.sng_history.specs.Lawful.{fixed_to, fixed_for}
use Rattle.sng_history.specs.Steps.{outs_by, newcomers_for, client_next, clients_next, asked_for}
use Rattle.sng_history.specs.Steps.{next_by}
use Rattle.sng_history.specs.Good.{Each, Good}
use Rattle.sng_laws.specs.ViewsLink.{is_outbox_noted}
use Rattle.sng_history.proofs.Steady.{start_filters, client_filters}
use Rattle.sng_history.proofs.WantedKept.{wants_kept}
use Rattle.sng_history.proofs.Wanted.{subscribes, subscribes_both, joined_wants}
use Rattle.sng_history.proofs.NothingNew.{present_held, held_same, fewer_held}
use Rattle.sng_history.proofs.Holding.{unmoved, wanted_held_next}
use Rattle.sng_history.proofs.SaysParts.{none_from, part_for, drops_for}
use Rattle.sng_promise.proofs.WantedFilters.UpstreamSpeaks.{unsubscribes, settled}
use Rattle.sng_promise.proofs.WantedFilters.UpstreamReleased.{lets}
use Rattle.sng_promise.proofs.WantedFilters.UpstreamDropped.{rows_dropped, entry_dropped}
use Rattle.sng_promise.proofs.WantedFilters.UpstreamSettled.{Owes, unsubscribes_both, settled_moved}
use Rattle.sng_promise.proofs.WantedFilters.UpstreamSettled.{settled_more}
use Rattle.sng_history.proofs.Booleans.{or_right}

-- it carries what is owed over
abbrev pub Carries : State → Cause → Type 0
Carries s c =
    is_outbox_noted (outs_by s c) ≡ false → (text : List ℕ) (u : Bool) → Owes s text u
    → Owes (next_by s c) text u

-- by the filters that stand, before and after
held_carries : (s : State) (c : Cause) (more : List Item) (text : List ℕ) (u : Bool) → Good s
    → (next_by s c).link.waiting ≡ s.link.waiting ++ more
    → (is_held s.clients text ≡ true → is_held (clients_next s c) text ≡ false
    → unsubscribes more text ≡ true)
    → (is_held s.clients text ≡ false → is_held (clients_next s c) text ≡ true → subscribes more text ≡ true)
    → Owes s text u
    → Owes (next_by s c) text u
held_carries s c more text u good waits ends begins was =
    ap (λ items. settled (wants (next_by s c).link.wanted text) items text u) waits
    ∙ settled_moved (wants s.link.wanted text)
    (wants (next_by s c).link.wanted text) s.link.waiting more text u was
    (λ is is_not. ends (sym (good.wanted_held text) ∙ is) (sym (wanted_held_next s c good text) ∙ is_not))
    (λ is_not is. begins (sym (good.wanted_held text) ∙ is_not) (sym (wanted_held_next s c good text) ∙ is))

pub never : (a : Bool) → a ≡ true → a ≡ false → ⊥
never a is is_not = absurd (let bad : true ≡ false = sym is ∙ is_not in cc)

-- no filter moves
pub same_held : (s : State) (c : Cause) (text : List ℕ)
    → ((x : Client) → (client_next s c x).filters ≡ x.filters)
    → is_held (clients_next s c) text ≡ is_held s.clients text
same_held s c text same =
    held_same (client_next s c) (s.clients ++ newcomers_for s c) text same ∙ present_held s c text

denied_by : (s : State) (from : Address) (connect : Connect) (rule : Denial) (x : Client) (own : Bool)
    → bytes_eq connect.client_id x.id ≡ own → entry s connect ≡ Denied rule
    → (client_next s (ByConnect from connect) x).filters ≡ x.filters
denied_by s from connect rule x true own is =
    let c = ByConnect from connect in
    client_filters (around s c) (fixed_for s c x) x
    ∙ rw (own, is) (start_filters (around s (ByConnect from connect)) x)
denied_by s from connect rule x false own is =
    let c = ByConnect from connect in
    client_filters (around s c) (fixed_for s c x) x
    ∙ rw (own, is) (start_filters (around s (ByConnect from connect)) x)

connect_ends : (s : State) (from : Address) (connect : Connect) (text : List ℕ) (o : Outcome)
    → entry s connect ≡ o
    → is_outbox_noted (outs_by s (ByConnect from connect)) ≡ false
    → is_held s.clients text ≡ true → is_held (clients_next s (ByConnect from connect)) text ≡ false
    → unsubscribes (lets_go_of s.policy.limits s.link
    (released s.clients (clients_next s (ByConnect from connect)))) text
    ≡ true
connect_ends s from connect text Allowed is quiet stood gone =
    lets s (ByConnect from connect) text (entry_dropped s from connect is quiet) stood gone
connect_ends s from connect text (Denied rule) is quiet stood gone =
    let c = ByConnect from connect in
    absurd (never (is_held s.clients text) stood
    (sym (same_held s c text (λ x. denied_by s from connect rule x (bytes_eq connect.client_id x.id) refl is))
    ∙ gone))

connect_carries : (s : State) (from : Address) (connect : Connect) → Good s
    → Carries s (ByConnect from connect)
connect_carries s from connect good quiet text u was =
    let c = ByConnect from connect in
    held_carries s c (lets_go_of s.policy.limits s.link (released s.clients (clients_next s c))) text u good refl
    (connect_ends s from connect text (entry s connect) refl quiet)
    (λ is_not is. absurd (never (is_held s.clients text) (fewer_held s c text refl is) is_not)) was

pub replace_carries : (s : State) (policy : Policy) → Good s → Carries s (ByReplace policy)
replace_carries s policy good quiet text u was =
    let c = ByReplace policy in
    held_carries s c (lets_go_of policy.limits s.link (released s.clients (clients_next s c))) text u good refl
    (lets s c text (rows_dropped s c (λ x. refl) quiet))
    (λ is_not is. absurd (never (is_held s.clients text) (fewer_held s c text refl is) is_not)) was

-- a message of one client, or of nobody
held_each : (f : Client → Client) (xs : List Client) (text : List ℕ)
    → Each (λ x. (f x).filters ≡ x.filters) xs
    → is_held (map f xs) text ≡ is_held xs text
held_each f [] text same = refl
held_each f (x ∷ xs) text same = rw (same.0, held_each f xs text same.1) refl

away_unmoved : (s : State) (from : Address) (request : Request) (xs : List Client)
    → Each (λ x. is_from (ByMessage from request) x ≡ false) xs
    → Each (λ x. (client_next s (ByMessage from request) x).filters ≡ x.filters) xs
away_unmoved s from request [] away = tt
away_unmoved s from request (x ∷ xs) away = (
  unmoved s (ByMessage from request) x (none (is_here x from) away.0),
  away_unmoved s from request xs away.1,
)
  where
    none : (here : Bool) → here ≡ false → (if here then fixed_to s request x else []) ≡ []
    none true is = absurd cc
    none false is = refl

message_ends : (s : State) (from : Address) (request : Request) (text : List ℕ) (b : Bool)
    → any_from (ByMessage from request) s.clients ≡ b
    → is_outbox_noted (outs_by s (ByMessage from request)) ≡ false
    → is_held s.clients text ≡ true → is_held (clients_next s (ByMessage from request)) text ≡ false
    → unsubscribes (lets_go_of s.policy.limits s.link
    (released s.clients (clients_next s (ByMessage from request)))) text
    ≡ true
message_ends s from request text true is quiet stood gone =
    let c = ByMessage from request in
    let rows : is_outbox_noted (flat_map (part_for s c (drops_for s c)) s.clients) ≡ false =
    sym (ap (λ b. is_outbox_noted
    (if b then flat_map (part_for s c (drops_for s c)) s.clients else stranger_to from request)) is)
    ∙ quiet in
    lets s c text (rows_dropped s c (λ x. refl) rows) stood gone
message_ends s from request text false is quiet stood gone =
    let c = ByMessage from request in
    let f = client_next s c in
    let same : is_held (clients_next s c) text ≡ is_held s.clients text =
    ap (λ xs. is_held (map f xs) text) (append-nil s.clients)
    ∙ held_each f s.clients text (away_unmoved s from request s.clients (none_from c s.clients is)) in
    absurd (never (is_held s.clients text) stood (sym same ∙ gone))

message_begins : (s : State) (from : Address) (request : Request) (text : List ℕ) → Good s
    → is_held s.clients text ≡ false
    → is_held (clients_next s (ByMessage from request)) text ≡ true
    → subscribes (asked_for s (ByMessage from request)) text ≡ true
message_begins s from request text good is_not is =
    let c = ByMessage from request in
    let joined_is = joined_wants (still_wanted (clients_next s c) s.link.wanted) (asked_for s c) text in
    let still : wants (still_wanted (clients_next s c) s.link.wanted) text ≡ false =
    wants_kept (is_held (clients_next s c)) s.link.wanted text
    ∙ ap (λ b. b && is_held (clients_next s c) text) (good.wanted_held text ∙ is_not) in
    sym (ap (λ b. b || subscribes (asked_for s c) text) still)
    ∙ (sym joined_is ∙ (wanted_held_next s c good text ∙ is))

or_first : (a b : Bool) → a ≡ true → (a || b) ≡ true
or_first true b is = refl
or_first false b is = absurd cc

message_carries : (s : State) (from : Address) (request : Request) → Good s
    → Carries s (ByMessage from request)
message_carries s from request good quiet text u was =
    let c = ByMessage from request in
    let asked = asked_for s c in
    let gone = lets_go_of s.policy.limits s.link (released s.clients (clients_next s c)) in
    held_carries s c (asked ++ gone) text u good refl
    (λ stood ends. unsubscribes_both asked gone text
    ∙ or_right (unsubscribes asked text) (unsubscribes gone text)
    (message_ends s from request text (any_from c s.clients) refl quiet stood ends))
    (λ is_not is. subscribes_both asked gone text
    ∙ or_first (subscribes asked text) (subscribes gone text)
    (message_begins s from request text good is_not is)) was

source_carries : (s : State) (from : Address) (p : Publish) → Carries s (BySource from p)
source_carries s from p quiet text u was =
    settled_more (wants s.link.wanted text) s.link.waiting
    (asked_by (Some p) (source_ask s from.ip p)) text u was

publish_carries : (s : State) (from : Address) (p : Publish) (q : FrameQos) → Good s
    → Carries s (publish_cause from p q)
publish_carries s from p qos.WithoutSession good = source_carries s from p
publish_carries s from p qos.AtMostOnce good = message_carries s from (ToPublish p) good
publish_carries s from p qos.AtLeastOnce good = message_carries s from (ToPublish p) good
publish_carries s from p qos.ExactlyOnce good = message_carries s from (ToPublishOnce p) good

disconnect_carries : (s : State) (from : Address) (duration : Option ℕ) → Good s
    → Carries s (datagram_cause from (Ok (frame.Disconnect duration)))
disconnect_carries s from None good = message_carries s from ToLeave good
disconnect_carries s from (Some duration) good = message_carries s from (ToSleep duration) good

pub datagram_carries : (s : State) (from : Address) (read : Result SnFrame FrameFault) → Good s
    → Carries s (datagram_cause from read)
datagram_carries s from (Ok (frame.Connect connect)) good = connect_carries s from connect good
datagram_carries s from (Ok (frame.Register r)) good = message_carries s from (ToRegister r) good
datagram_carries s from (Ok (frame.Publish p)) good = publish_carries s from p p.flags.qos good
datagram_carries s from (Ok (frame.Subscribe r)) good = message_carries s from (ToSubscribe r) good
datagram_carries s from (Ok (frame.Unsubscribe r)) good = message_carries s from (ToUnsubscribe r) good
datagram_carries s from (Ok (frame.PingRequest client)) good = message_carries s from (ToPing client) good
datagram_carries s from (Ok (frame.RegisterAck r)) good = message_carries s from (ToConfirm r) good
datagram_carries s from (Ok (frame.PublishAck r)) good = message_carries s from (ToAcknowledge r) good
datagram_carries s from (Ok (frame.PublishRelease n)) good = message_carries s from (ToRelease n) good
datagram_carries s from (Ok (frame.Disconnect duration)) good = disconnect_carries s from duration good
datagram_carries s from (Ok (frame.WillTopic topic)) good =
    message_carries s from (ToState (StatesTopic topic)) good
datagram_carries s from (Ok (frame.WillMessage message)) good =
    message_carries s from (ToState (StatesMessage message)) good
datagram_carries s from (Ok (frame.WillTopicUpdate topic)) good =
    message_carries s from (ToState (UpdatesTopic topic)) good
datagram_carries s from (Ok (frame.WillMessageUpdate message)) good =
    message_carries s from (ToState (UpdatesMessage message)) good
datagram_carries s from (Ok message) good = message_carries s from (Untaken message) good
datagram_carries s from (Err broke) good = λ quiet text u was. was
