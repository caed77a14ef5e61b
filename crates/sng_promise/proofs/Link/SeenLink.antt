-- What waits for the broker moves as what the rows show of it.
use Rattle.std.proofs.Common.{◌≡◌, ℕ, ◌-◌, Bool, true, false, List, [], ◌++◌, map, length}
use Rattle.std.proofs.Common.{refl, ap, sym, ◌∙◌}
use Rattle.std.proofs.Common.{if◌then◌else◌, Ok, Err}
use Rattle.std.proofs.Common.{subst}
use Rattle.std.specs.Prelude.{not, take, Option, Some, None, ◌&&◌}
use Rattle.std.specs.declared.result.Result.{Result}
use Rattle.std.proofs.lemmas.List.{append-nil}
use Rattle.sng_frames.specs.Reading.{frame_of}
use Rattle.sng_frames.specs.declared.fault.FrameFault.{FrameFault}
use Rattle.sng_frames.specs.declared.qos.FrameQos.{FrameQos}
use Rattle.sng_frames.specs.declared.qos.FrameQos.TheVariants as qos
use Rattle.sng_frames.specs.declared.messages.publish.Publish.{Publish}
use Rattle.sng_frames.specs.declared.frame.SnFrame.{SnFrame}
use Rattle.sng_frames.specs.declared.frame.SnFrame.TheVariants as frame
use Rattle.sng_outbox.specs.Sending.{publishes}
use Rattle.sng_outbox.specs.declared.item.Item.{Item}
use Rattle.sng_outbox.specs.declared.item.Item.TheVariants as item
use Rattle.sng_book.specs.declared.address.Address.{Address}
use Rattle.sng_book.specs.declared.event.Event.{Event}
use Rattle.sng_book.specs.declared.event.Event.TheVariants.{Datagram, Broker, Up, Down, Take, Replace, Tick}
use Rattle.sng_book.specs.declared.row.Row.{Row}
use Rattle.sng_history.specs.Causes.{Request, ToPing, ToLeave, ToRegister, ToPublish, ToSubscribe}
use Rattle.sng_history.specs.Causes.{ToUnsubscribe, ToConfirm, ToAcknowledge}
use Rattle.sng_history.specs.Causes.{Untaken, Cause, ByMessage, publish_asked, datagram_cause, publish_cause}
use Rattle.sng_history.specs.Causes.{cause_of, ToState}
use Rattle.sng_history.specs.Causes.{StatesTopic, StatesMessage, UpdatesTopic, UpdatesMessage, ByTick}
use Rattle.sng_history.specs.Causes.{ToSleep}
use Rattle.sng_history.specs.Causes.{ToPublishOnce, ToRelease}
use Rattle.sng_history.specs.Clients.{Client}
use Rattle.sng_history.specs.Notes.{notes_of}
use Rattle.sng_history.specs.Standing.{released}
use Rattle.sng_history.specs.Standing.{unsubscribes}
use Rattle.sng_history.specs.State.{State}
use Rattle.sng_history.specs.State.{policy_by}
use Rattle.sng_history.specs.Verdicts.{source_ask}
use Rattle.sng_history.specs.Lawful.{fixed_for}
use Rattle.sng_history.specs.Steps.{outs_by, outs_of, clients_next}
use Rattle.sng_history.specs.Good.{Each, Distinct}
use Rattle.sng_laws.specs.ViewsMessages.{message_in, is_without_session}
use Rattle.sng_laws.specs.ViewsClients.{is_spoken, accepted}
use Rattle.sng_laws.specs.ViewsWills as views
use Rattle.sng_laws.specs.ViewsLink.{items_by}
use Rattle.sng_laws.specs.ViewsLink.{items_in, items_for}
use Rattle.sng_laws.specs.ViewsLink.{released_among, added, kept, waiting}
use Rattle.sng_laws.specs.ViewsLink.{is_outbox_noted, message_id}
use Rattle.sng_history.proofs.Own.{each_with}
use Rattle.sng_history.proofs.Says.{message_asks}
use Rattle.sng_history.proofs.WaitingItems.{waiting_next}
use Rattle.sng_promise.proofs.Link.SeenOwed.{packet_waits}
use Rattle.sng_promise.proofs.Link.SeenTicks.{Said}
use Rattle.sng_promise.proofs.Link.SeenPings.{Connected, tick_waits}
use Rattle.sng_promise.proofs.Link.SeenReleases.{note_shown, outs_shown, ids_of, FiltersShown}
use Rattle.sng_promise.proofs.Link.SeenReleases.{unsubscribes_are}
use Rattle.sng_grants.specs.declared.policy.Policy.{Policy}
use Rattle.sng_laws.specs.Views.{last_policy, policy_after}

-- ---- what waits after a datagram, given of which filters the broker would be told

abbrev Waits : State → Cause → List Item → Bool → List (List ℕ) → Type 0
Waits s c items told gone =
    waiting_next s c ≡ s.link.waiting ++ (items ++ (map item.Unsubscribe (if told then gone else []) ++ []))

-- a message of a session
message_waits : (s : State) (from : Address) (request : Request) (gone : List (List ℕ))
    → unsubscribes s.policy.limits s.link (released s.clients (clients_next s (ByMessage from request)))
    ≡ map item.Unsubscribe gone
    → Waits s (ByMessage from request)
    (items_in (publish_asked request) (outs_by s (ByMessage from request))) true gone
message_waits s from request gone is =
    let outs = outs_by s (ByMessage from request) in
    ap (λ items. s.link.waiting ++ (items
    ++ unsubscribes s.policy.limits s.link (released s.clients (clients_next s (ByMessage from request)))))
    (sym (message_asks s from request) ∙ outs_shown (publish_asked request) outs)
    ∙ ap (λ more. s.link.waiting ++ (items_in (publish_asked request) outs ++ more))
    (is ∙ sym (append-nil (map item.Unsubscribe gone)))

publish_waits : (s : State) (from : Address) (p : Publish) (q : FrameQos) (gone : List (List ℕ))
    → let c = publish_cause from p q in
    unsubscribes (policy_by c s.policy).limits s.link (released s.clients (clients_next s c))
    ≡ map item.Unsubscribe gone
    → Waits s c (items_in (Some p) (outs_by s c)) (not (is_without_session q)) gone
publish_waits s from p qos.WithoutSession gone is =
    let said = source_ask s from.ip p in
    ap (λ items. s.link.waiting ++ items)
    (note_shown (Some p) said ∙ (sym (append-nil (items_by (Some p) said))
    ∙ sym (append-nil (items_by (Some p) said ++ []))))
publish_waits s from p qos.AtMostOnce gone is = message_waits s from (ToPublish p) gone is
publish_waits s from p qos.AtLeastOnce gone is = message_waits s from (ToPublish p) gone is
publish_waits s from p qos.ExactlyOnce gone is = message_waits s from (ToPublishOnce p) gone is

disconnect_waits : (s : State) (from : Address) (duration : Option ℕ) (gone : List (List ℕ))
    → let c = datagram_cause from (Ok (frame.Disconnect duration)) in
    unsubscribes (policy_by c s.policy).limits s.link (released s.clients (clients_next s c))
    ≡ map item.Unsubscribe gone
    → Waits s c (items_for (message_in (Ok (frame.Disconnect duration))) (outs_by s c)) true gone
disconnect_waits s from None gone is = message_waits s from ToLeave gone is
disconnect_waits s from (Some duration) gone is = message_waits s from (ToSleep duration) gone is

datagram_waits : (s : State) (from : Address) (read : Result SnFrame FrameFault) (gone : List (List ℕ))
    → let c = datagram_cause from read in
    unsubscribes (policy_by c s.policy).limits s.link (released s.clients (clients_next s c))
    ≡ map item.Unsubscribe gone
    → Waits s c (items_for (message_in read) (outs_by s c)) (is_spoken (message_in read)) gone
datagram_waits s from (Ok (frame.Connect connect)) gone is =
    ap (λ more. s.link.waiting ++ more) (is ∙ sym (append-nil (map item.Unsubscribe gone)))
datagram_waits s from (Ok (frame.Publish p)) gone is = publish_waits s from p p.flags.qos gone is
datagram_waits s from (Ok (frame.Disconnect None)) gone is = disconnect_waits s from None gone is
datagram_waits s from (Ok (frame.Disconnect (Some duration))) gone is =
    disconnect_waits s from (Some duration) gone is
datagram_waits s from (Ok (frame.Register r)) gone is = message_waits s from (ToRegister r) gone is
datagram_waits s from (Ok (frame.Subscribe r)) gone is = message_waits s from (ToSubscribe r) gone is
datagram_waits s from (Ok (frame.Unsubscribe r)) gone is = message_waits s from (ToUnsubscribe r) gone is
datagram_waits s from (Ok (frame.PingRequest client)) gone is = message_waits s from (ToPing client) gone is
datagram_waits s from (Ok (frame.RegisterAck r)) gone is = message_waits s from (ToConfirm r) gone is
datagram_waits s from (Ok (frame.PublishAck r)) gone is = message_waits s from (ToAcknowledge r) gone is
datagram_waits s from (Ok (frame.PublishRelease n)) gone is = message_waits s from (ToRelease n) gone is
datagram_waits s from (Ok (frame.WillTopic topic)) gone is =
    message_waits s from (ToState (StatesTopic topic)) gone is
datagram_waits s from (Ok (frame.WillMessage message)) gone is =
    message_waits s from (ToState (StatesMessage message)) gone is
datagram_waits s from (Ok (frame.WillTopicUpdate topic)) gone is =
    message_waits s from (ToState (UpdatesTopic topic)) gone is
datagram_waits s from (Ok (frame.WillMessageUpdate message)) gone is =
    message_waits s from (ToState (UpdatesMessage message)) gone is
datagram_waits s from (Ok message) gone is = message_waits s from (Untaken message) gone is
datagram_waits s from (Err broke) gone is = sym (append-nil s.link.waiting)

-- ---- any row

up_waits : (up : Bool) (items : List Item)
    → (if up then publishes items else items) ≡ (if up then publishes items else items) ++ []
up_waits true items = sym (append-nil (publishes items))
up_waits false items = sym (append-nil items)

take_waits : (up : Bool) (items : List Item) → (if up then [] else items) ≡ (if up then [] else items) ++ []
take_waits true items = refl
take_waits false items = sym (append-nil items)

abbrev WillShown : List Row → Client → Type 0
WillShown h x = x.wills.will ≡ views.will_of x.id h

-- what waits after a row, given what was shown before it
pub waits_row : (s : State) (e : Event) (h : List Row) → Connected h s → s.link.waiting ≡ waiting h
    → Distinct s.clients
    → ids_of s.clients ≡ accepted h
    → Each (FiltersShown h) s.clients → Each (WillShown h) s.clients
    → Each (λ x. notes_of x.id (outs_of s e) ≡ fixed_for s (cause_of e) x) s.clients
    → policy_by (cause_of e) s.policy ≡ policy_after e (last_policy h)
    → waiting_next s (cause_of e) ≡ kept e h (waiting h) ++ added e h (waiting h) (outs_of s e)
waits_row s (Datagram from datagram) h is items apart order shown wills own same =
    let e = Datagram from datagram in
    let outs = outs_of s e in
    let gone = released_among e h outs [] (accepted h) in
    rw (sym items)
    (subst (λ (p : Policy). Waits s (cause_of e) (items_for (message_in (frame_of datagram)) outs)
    (is_spoken (message_in (frame_of datagram))) (take (p.limits.waiting - length s.link.waiting) gone)) same
    (datagram_waits s from (frame_of datagram)
    (take ((policy_by (cause_of e) s.policy).limits.waiting - length s.link.waiting) gone)
    (unsubscribes_are h s e shown own order)))
waits_row s (Broker sent) h is items apart order shown wills own same =
    let owed =
    map item.Acknowledge (if s.up && not (is_outbox_noted (outs_of s (Broker sent))) then message_id sent
    else []) in
    rw (sym is.up, sym items) (ap (λ more. s.link.waiting ++ more)
    (packet_waits s sent ∙ sym (append-nil owed)))
waits_row s Up h is items apart order shown wills own same =
    rw (sym is.up, sym items) (up_waits s.up s.link.waiting)
waits_row s Down h is items apart order shown wills own same =
    rw (sym items) (sym (append-nil (publishes s.link.waiting)))
waits_row s Take h is items apart order shown wills own same =
    rw (sym is.up, sym items) (take_waits s.up s.link.waiting)
waits_row s (Replace policy) h is items apart order shown wills own same =
    let e = Replace policy in
    let gone =
    take (policy.limits.waiting - length s.link.waiting) (released_among e h (outs_of s e) [] (accepted h)) in
    rw (sym items)
    (ap (λ more. s.link.waiting ++ more)
    (unsubscribes_are h s e shown own order ∙ sym (append-nil (map item.Unsubscribe gone))))
waits_row s (Tick clock) h is items apart order shown wills own same =
    let e = Tick clock in
    let said =
    each_with (WillShown h) (λ x. notes_of x.id (outs_of s e) ≡ fixed_for s (ByTick clock) x)
    (Said s clock h (outs_of s e)) s.clients
    (λ x one two. record { own = two; will = one }) wills own in
    rw (sym items) (tick_waits h s clock is apart said)
