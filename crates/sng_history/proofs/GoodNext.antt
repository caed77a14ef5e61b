-- A good state leads to a good one.
use Rattle.std.proofs.Common.{◌≡◌, ◌≤◌, ◌+◌, ℕ, Bool, true, false, List, [], ◌∷◌, ◌++◌, length, refl}
use Rattle.std.proofs.Common.{◌∙◌, subst, arith}
use Rattle.std.specs.Prelude.{if◌then◌else◌, ◌&&◌, ◌||◌, not, nat_lt, Option, Some, None}
use Rattle.sng_grants.specs.declared.policy.Policy.{Policy}
use Rattle.sng_fan.specs.declared.held.Held.{Held}
use Rattle.std.proofs.lemmas.List.{append-nil, length-append, length-map}
use Rattle.std.proofs.lemmas.Bool.Decides.{nat_tests}
use Rattle.mqtt_frames.specs.declared.packet.Packet.{Packet}
use Rattle.sng_frames.specs.declared.messages.connect.Connect.{Connect}
use Rattle.sng_book.specs.declared.address.Address.{Address}
use Rattle.sng_book.specs.declared.decision.Decision.TheVariants as note
use Rattle.sng_book.specs.declared.decision.Who.TheVariants as who
use Rattle.sng_book.specs.declared.outcome.Denial.{Denial}
use Rattle.sng_book.specs.declared.outcome.Denial.TheVariants.{Room, Peer}
use Rattle.sng_book.specs.declared.outcome.RoomDenial.TheVariants.{Full}
use Rattle.sng_book.specs.declared.outcome.PeerDenial.TheVariants.{BrokerRefused}
use Rattle.sng_book.specs.declared.outcome.Place.TheVariants as place
use Rattle.sng_book.specs.declared.outcome.Outcome.{Outcome}
use Rattle.sng_book.specs.declared.outcome.Outcome.TheVariants.{Allowed, Denied}
use Rattle.sng_book.specs.Denials.{is_allowed}
use Rattle.sng_states.specs.States.{has_session, is_due_messages, is_active}
use Rattle.sng_history.specs.Causes.{Statement, statement_asked}
use Rattle.sng_history.specs.Causes.{Request, ToPing, ToLeave, ToSleep, ToRegister, ToPublish, ToSubscribe}
use Rattle.sng_history.specs.Causes.{ToUnsubscribe}
use Rattle.sng_history.specs.Causes.{ToConfirm, ToAcknowledge, ToState, Untaken, Cause}
use Rattle.sng_history.specs.Causes.{ByConnect, ByMessage, BySource, ByBroken, ByPacket, ByUp, ByDown, ByTake}
use Rattle.sng_history.specs.Causes.{ByReplace, ByTick}
use Rattle.sng_history.specs.Causes.{ToPublishOnce, ToRelease}
use Rattle.sng_history.specs.Clients.{Around, Client, blank, same_address, is_here, closed, is_confirming}
use Rattle.sng_history.specs.Clients.{is_acknowledging, message_due}
use Rattle.sng_history.specs.Clients.{start_by}
use Rattle.sng_history.specs.Clients.{repeated, drained}
use Rattle.sng_history.specs.Clients.{notes_by, client_by}
use Rattle.sng_history.specs.State.{State, opening, around, later, is_known}
use Rattle.sng_history.specs.WillAsks.{statement_notes}
use Rattle.sng_history.specs.Packets.{answer_of, refused_filter}
use Rattle.sng_history.specs.Standing.{holds}
use Rattle.sng_history.specs.Verdicts.{ping_verdict, coverage, entry, entry_form, client_scope, entry_room}
use Rattle.sng_history.specs.Verdicts.{and_then, is_repeat, publish_once_ask}
use Rattle.sng_history.specs.Lawful.{confirmations, fixed_to, fixed_for, denial_of, woken_notes}
use Rattle.sng_history.specs.Lawful.{ends_under, refused_end}
use Rattle.sng_history.specs.Steps.{newcomers_for, client_next, clients_next, next_by}
use Rattle.sng_history.specs.Outgoing.{handed_over, delivered_notes}
use Rattle.sng_history.specs.Good.{Each, Distinct, OnePlace, AtRest, Good}
use Rattle.sng_history.proofs.Steady.{start_lasts}
use Rattle.sng_history.proofs.Steady.{repeated_steady}
use Rattle.sng_history.proofs.Steady.{drained_lasts}
use Rattle.sng_history.proofs.Hands.{Every, every_append, every_if, every_handed, every_gone}
use Rattle.sng_history.proofs.Hands.{every_woken}
use Rattle.sng_history.proofs.Hands.{every_delivered, every_confirmation}
use Rattle.sng_history.proofs.Statements.{every_tick, statement_placid, placid_address}
use Rattle.sng_history.proofs.Rests.{rest_next}
use Rattle.sng_history.proofs.Asks.{of_register, of_publish, of_publish_once, of_subscribe}
use Rattle.sng_history.proofs.Asks.{of_unsubscribe}
use Rattle.sng_history.proofs.WaitingAcks.{allowed_second}
use Rattle.sng_history.proofs.Waiting.{few_next}
use Rattle.sng_history.proofs.FewOpen.{few_subscribes_next}
use Rattle.sng_history.proofs.Kept.{client_id, map_distinct, present_distinct}
use Rattle.sng_history.proofs.Filters.{once_next, covered_next}
use Rattle.sng_history.proofs.Wanted.{wanted_once_next}
use Rattle.sng_history.proofs.Holding.{wanted_held_next}
use Rattle.sng_history.proofs.Places.{Stays}
use Rattle.sng_history.proofs.AddressesKept.{steady_stays, Settled, left_settled, messages_settled}
use Rattle.sng_history.proofs.AddressesKept.{client_stays, settled_denial, settled_end, subscribe_settled}
use Rattle.sng_history.proofs.AddressesKept.{unsubscribe_settled, settled_message, settled_turn, settled_for}
use Rattle.sng_history.proofs.AddressesKept.{stay_each, stay_all, entry_places, publish_settled}
use Rattle.sng_history.proofs.OpenKept.{few_open_next}
use Rattle.sng_history.proofs.Booleans.{left_holds, right_holds}

pub settled_ends : (a : Around) (policy : Policy) (client : List ℕ) (held : List Held)
    → Every (Settled a) (ends_under policy client held)
settled_ends a policy client [] = tt
settled_ends a policy client (h ∷ held) =
    settled_end a client h.filter (coverage policy client h.filter) (ends_under policy client held)
    (settled_ends a policy client held)

settled_refused : (a : Around) (x : Client) (filter : Option (List ℕ))
    → Every (Settled a) (refused_end x filter)
settled_refused a x None = tt
settled_refused a x (Some filter) =
    every_if (Settled a) (holds filter x) (note.End x.id filter (Denied (Peer BrokerRefused)) ∷ [])
    (λ y at here. here, tt)

-- what holds of the notes of each message but a statement of a will
settled_to : (a : Around) (s : State) (request : Request) (x : Client) → statement_asked request ≡ None
    → Every (Settled a) (fixed_to s request x)
settled_to a s (ToPing client) x quiet =
    every_append (Settled a) (denial_of x.id (ping_verdict client x)) (woken_notes s.policy client x)
    (settled_denial a x.id (ping_verdict client x))
    (every_woken (Settled a) s.policy client x (messages_settled a x.id))
settled_to a s (ToSleep duration) x quiet = settled_turn a (is_due_messages x.phase) x.id [] tt
settled_to a s ToLeave x quiet =
    (left_settled a x.id, every_gone (Settled a) x.id x.buffer.waiting (messages_settled a x.id))
settled_to a s (ToRegister r) x quiet =
    (of_register (Settled a) s.policy x r.name (λ name o y at here. here), tt)
settled_to a s (ToPublish p) x quiet =
    (of_publish (Settled a) s x p (λ name o. publish_settled a (who.Client x.id) name o), tt)
settled_to a s (ToPublishOnce p) x quiet =
    every_if (Settled a) (not (is_repeat p x)) (publish_once_ask s x p ∷ [])
    (of_publish_once (Settled a) s x p (λ name o. publish_settled a (who.Client x.id) name o), tt)
settled_to a s (ToRelease id) x quiet = settled_turn a (is_active x.phase) x.id [] tt
settled_to a s (ToSubscribe r) x quiet =
    (of_subscribe (Settled a) s x r (λ filter o. subscribe_settled a (who.Client x.id) filter o), tt)
settled_to a s (ToUnsubscribe r) x quiet = (
  of_unsubscribe (Settled a) s.policy x r (λ filter o. unsubscribe_settled a (who.Client x.id) filter o),
  tt,
)
settled_to a s (ToConfirm r) x quiet =
    settled_turn a (is_confirming r x) x.id (confirmations s.policy r x)
    (every_confirmation (Settled a) s.policy r x (messages_settled a x.id))
settled_to a s (ToAcknowledge r) x quiet =
    settled_turn a (is_acknowledging r x) x.id (handed_over s.policy (closed x))
    (every_handed (Settled a) s.policy (closed x) (messages_settled a x.id))
settled_to a s (ToState statement) x quiet = absurd cc
settled_to a s (Untaken message) x quiet = (settled_message a message x.id, tt)

-- a client that has a session and is at the same address stays
there_stays : (x y : Client) → has_session x.phase ≡ true → y.address ≡ x.address → Stays x y
there_stays x y here same at is =
    let at_y : same_address y.address at ≡ true =
    right_holds (has_session y.phase) (same_address y.address at) is in
    let there : same_address x.address at ≡ true = subst (λ a. same_address a at ≡ true) same at_y in
    rw (here, there) refl

-- what a statement ends or begins it does where the client was
state_stays : (s : State) (from : Address) (statement : Statement) (x : Client) (here : Bool)
    → is_here x from ≡ here
    → (let a = around s (ByMessage from (ToState statement)) in
    Stays x (client_by a (if here then statement_notes s.policy statement x else []) x))
state_stays s from statement x true is =
    let a = around s (ByMessage from (ToState statement)) in
    let y = start_by a x in
    let notes = statement_notes s.policy statement x in
    let z = notes_by a notes y in
    there_stays x (drained z) (left_holds (has_session x.phase) (same_address x.address from) is)
    ((drained_lasts z).address ∙ (placid_address a notes y (statement_placid a s.policy statement x)
    ∙ (start_lasts a x).address))
state_stays s from statement x false is = client_stays (around s (ByMessage from (ToState statement))) [] x tt

other_stays : (s : State) (from : Address) (request : Request) (x : Client) → statement_asked request ≡ None
    → Stays x (client_next s (ByMessage from request) x)
other_stays s from request x quiet =
    let a = around s (ByMessage from request) in
    settled_for s (ByMessage from request) x refl
    (every_if (Settled a) (is_here x from) (fixed_to s request x) (settled_to a s request x quiet))

pub message_stays : (s : State) (from : Address) (request : Request) (x : Client)
    → Stays x (client_next s (ByMessage from request) x)
message_stays s from (ToState statement) x = state_stays s from statement x (is_here x from) refl
message_stays s from (ToPing client) x = other_stays s from (ToPing client) x refl
message_stays s from ToLeave x = other_stays s from ToLeave x refl
message_stays s from (ToSleep duration) x = other_stays s from (ToSleep duration) x refl
message_stays s from (ToRegister r) x = other_stays s from (ToRegister r) x refl
message_stays s from (ToPublish p) x = other_stays s from (ToPublish p) x refl
message_stays s from (ToPublishOnce p) x = other_stays s from (ToPublishOnce p) x refl
message_stays s from (ToRelease id) x = other_stays s from (ToRelease id) x refl
message_stays s from (ToSubscribe r) x = other_stays s from (ToSubscribe r) x refl
message_stays s from (ToUnsubscribe r) x = other_stays s from (ToUnsubscribe r) x refl
message_stays s from (ToConfirm r) x = other_stays s from (ToConfirm r) x refl
message_stays s from (ToAcknowledge r) x = other_stays s from (ToAcknowledge r) x refl
message_stays s from (Untaken message) x = other_stays s from (Untaken message) x refl

pub settled_tick : (s : State) (clock : ℕ) (x : Client)
    → Every (Settled (around s (ByTick clock))) (fixed_for s (ByTick clock) x)
settled_tick s clock x =
    let a = around s (ByTick clock) in
    every_tick (Settled a) s.policy s.link (later s.clock clock) s.clients x
    (record {
      loses = λ y at here. absurd cc;
      drops = λ name rule y at here. here;
      messages = messages_settled a x.id;
    })
    (λ name o y. steady_stays y (repeated a.clock o y) (repeated_steady a.clock o y))

pub settled_packet : (a : Around) (s : State) (p : Packet) (x : Client)
    → Every (Settled a) (fixed_for s (ByPacket p) x)
settled_packet a s p x =
    let due = message_due (answer_of p) x in
    every_append (Settled a) (refused_end x (refused_filter s.link (answer_of p)))
    (delivered_notes s.policy due x) (settled_refused a x (refused_filter s.link (answer_of p)))
    (every_delivered (Settled a) s.policy due x (messages_settled a x.id))

places_next : (s : State) (c : Cause) → Distinct s.clients → OnePlace s.clients → Each AtRest s.clients
    → OnePlace (clients_next s c)
places_next s (ByConnect from connect) apart places rest =
    entry_places s from connect (entry s connect) refl apart places rest
places_next s (ByMessage from request) apart places rest =
    stay_each s (ByMessage from request) refl (λ x. message_stays s from request x) places
places_next s (BySource from p) apart places rest = stay_all s (BySource from p) refl (λ x. tt) places
places_next s (ByBroken from rule) apart places rest =
    stay_all s (ByBroken from rule) refl
    (λ x. every_if (Settled (around s (ByBroken from rule))) (is_here x from)
    (note.Frame (who.Client x.id) (Denied rule) ∷ []) (λ y at here. here, tt)) places
places_next s (ByPacket p) apart places rest =
    stay_all s (ByPacket p) refl (λ x. settled_packet (around s (ByPacket p)) s p x) places
places_next s ByUp apart places rest = stay_all s ByUp refl (λ x. tt) places
places_next s ByDown apart places rest = stay_all s ByDown refl (λ x. tt) places
places_next s ByTake apart places rest = stay_all s ByTake refl (λ x. tt) places
places_next s (ByReplace policy) apart places rest =
    stay_all s (ByReplace policy) refl
    (λ x. settled_ends (around s (ByReplace policy)) policy x.id x.filters) places
places_next s (ByTick clock) apart places rest =
    stay_all s (ByTick clock) refl (λ x. settled_tick s clock x) places

pub good_next : (s : State) (c : Cause) → Good s → Good (next_by s c)
good_next s c good = record {
  apart =
      map_distinct (client_next s c) (s.clients ++ newcomers_for s c)
      (λ x. client_id (around s c) (fixed_for s c x) x) (present_distinct s c good.apart);
  places = places_next s c good.apart good.places good.rest;
  rest = rest_next s c good.rest;
  few = few_next s c good.places good.few;
  few_subscribes = few_subscribes_next s c good;
  once = once_next s c good;
  few_open = few_open_next s c good.few_open;
  covered = covered_next s c good;
  wanted_once = wanted_once_next s c good;
  wanted_held = wanted_held_next s c good;
}

pub good_opening : Good opening
good_opening = record {
  apart = tt;
  places = tt;
  rest = tt;
  few = omega arith;
  few_subscribes = omega arith;
  once = tt;
  few_open = tt;
  covered = tt;
  wanted_once = tt;
  wanted_held = λ filter. refl;
}
