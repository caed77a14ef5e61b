-- No row of a datagram, of a packet of the broker, of a replacement or of a tick lets a packet out for the
-- broker.
use Rattle.std.proofs.Common.{◌≡◌, ℕ, Bool, true, false, List, [], ◌∷◌, ◌++◌, refl, ◌∙◌, if◌then◌else◌, Ok}
use Rattle.std.proofs.Common.{Err}
use Rattle.std.specs.Prelude.{◌&&◌, not, drop, Option, Some, None}
use Rattle.std.specs.List.{flat_map}
use Rattle.std.specs.Str.{bytes_eq}
use Rattle.std.specs.declared.result.Result.{Result}
use Rattle.mqtt_frames.specs.declared.packet.Packet.{Packet}
use Rattle.sng_grants.specs.Limits.{Limits}
use Rattle.sng_grants.specs.declared.policy.Policy.{Policy}
use Rattle.sng_states.specs.States.{has_session}
use Rattle.sng_text.specs.Texts.{is_name}
use Rattle.sng_frames.specs.declared.fault.FrameFault.{FrameFault}
use Rattle.sng_frames.specs.declared.messages.connect.Connect.{Connect}
use Rattle.sng_frames.specs.declared.messages.publish.Publish.{Publish}
use Rattle.sng_frames.specs.declared.qos.FrameQos.{FrameQos}
use Rattle.sng_frames.specs.declared.qos.FrameQos.TheVariants as qos
use Rattle.sng_frames.specs.declared.frame.SnFrame.{SnFrame}
use Rattle.sng_frames.specs.declared.frame.SnFrame.TheVariants as frame
use Rattle.sng_book.specs.declared.address.Address.{Address}
use Rattle.sng_book.specs.declared.decision.Decision.TheVariants as note
use Rattle.sng_book.specs.declared.decision.Who.TheVariants as who
use Rattle.sng_book.specs.declared.outcome.Denial.TheVariants.{Form}
use Rattle.sng_book.specs.declared.outcome.FormDenial.TheVariants.{BadName}
use Rattle.sng_book.specs.declared.outcome.Outcome.{Outcome}
use Rattle.sng_book.specs.declared.outcome.Outcome.TheVariants.{Allowed, Denied}
use Rattle.sng_book.specs.declared.out.Out.{Out}
use Rattle.sng_book.specs.declared.out.Out.TheVariants.{Send, Wire, Note}
use Rattle.sng_history.specs.Causes.{Request, ToPing, ToLeave, ToRegister, ToPublish, ToSubscribe}
use Rattle.sng_history.specs.Causes.{ToUnsubscribe, ToConfirm, ToAcknowledge, ToState, Untaken, Cause}
use Rattle.sng_history.specs.Causes.{datagram_cause, publish_cause, rule_of, ToSleep}
use Rattle.sng_history.specs.Causes.{ByConnect, ByMessage, ByBroken, ByPacket, ByReplace, ByTick}
use Rattle.sng_history.specs.Causes.{StatesTopic, StatesMessage, UpdatesTopic, UpdatesMessage}
use Rattle.sng_history.specs.Causes.{ToPublishOnce, ToRelease}
use Rattle.sng_history.specs.Clients.{Around, Client, same_address, let_in}
use Rattle.sng_history.specs.State.{State, around, later}
use Rattle.sng_history.specs.Ticking.{is_ping_due, with_wills, ping_dropped}
use Rattle.sng_history.specs.Links.{Link}
use Rattle.sng_history.specs.Packets.{Answer, Delivers, Acknowledges, Grants, Refuses, Confirms, Strange}
use Rattle.sng_history.specs.Packets.{answer_of, answer_outs, owed, has_place, dropped}
use Rattle.sng_history.specs.Verdicts.{entry}
use Rattle.sng_history.specs.Answers.{dismissed, welcome}
use Rattle.sng_history.specs.Whole.{Notes, spell, part, any_from, stranger_to, drops, client_rows, frame_row}
use Rattle.sng_history.specs.Whole.{moved, beside, entering_part, around_welcome, entry_outs}
use Rattle.sng_history.specs.Standing.{Release, drop_notes}
use Rattle.sng_history.specs.Lawful.{exits_for}
use Rattle.sng_history.specs.Steps.{outs_by, notes_for}
use Rattle.sng_laws.specs.ViewsLink.{wires_in}
use Rattle.sng_history.proofs.Sent.{drops_sent}
use Rattle.sng_promise.proofs.Link.SentWires.{sent_wires, spell_wires, part_wires}

wires_append : (xs ys : List Out) → wires_in xs ≡ [] → wires_in ys ≡ [] → wires_in (xs ++ ys) ≡ []
wires_append [] ys one two = two
wires_append (Note said ∷ xs) ys one two = wires_append xs ys one two
wires_append (Send to datagram ∷ xs) ys one two = wires_append xs ys one two
wires_append (Wire sent ∷ xs) ys one two = absurd (let e = one in cc)

wires_flat : (f : Client → List Out) (xs : List Client) → ((x : Client) → wires_in (f x) ≡ [])
    → wires_in (flat_map f xs) ≡ []
wires_flat f [] none = refl
wires_flat f (x ∷ xs) none = wires_append (f x) (flat_map f xs) (none x) (wires_flat f xs none)

-- ---- the row

stranger_wires : (from : Address) (request : Request) → wires_in (stranger_to from request) ≡ []
stranger_wires from (ToPing client) = refl
stranger_wires from ToLeave = refl
stranger_wires from (ToRegister r) = refl
stranger_wires from (ToPublish p) = refl
stranger_wires from (ToPublishOnce p) = refl
stranger_wires from (ToRelease n) = refl
stranger_wires from (ToSubscribe r) = refl
stranger_wires from (ToUnsubscribe r) = refl
stranger_wires from (ToConfirm r) = refl
stranger_wires from (ToAcknowledge r) = refl
stranger_wires from (ToState statement) = refl
stranger_wires from (ToSleep duration) = refl
stranger_wires from (Untaken message) = refl

either_wires : (stranger outs : List Out) (b : Bool) → wires_in stranger ≡ [] → wires_in outs ≡ []
    → wires_in (if b then outs else stranger) ≡ []
either_wires stranger outs true one none = none
either_wires stranger outs false one none = one

pub rows_wires : (s : State) (c : Cause) (dropped : List Release) (n : Notes)
    → wires_in (client_rows s c dropped n) ≡ []
rows_wires s c dropped n =
    wires_flat (λ x. part (around s c) dropped (n.of x) x) s.clients
    (λ x. part_wires (around s c) dropped (n.of x) x)

frame_wires : (s : State) (c : Cause) (stranger : List Out) (n : Notes) → wires_in stranger ≡ []
    → wires_in (frame_row s c stranger n) ≡ []
frame_wires s c stranger n none =
    either_wires stranger (client_rows s c (drops s c n) n) (any_from c s.clients) none
    (rows_wires s c (drops s c n) n)

moved_if : (x : Client) (own away : Bool)
    → wires_in (if own then (if away then dismissed x.address ∷ [] else []) else []) ≡ []
moved_if x true true = refl
moved_if x true false = refl
moved_if x false away = refl

moved_wires : (from : Address) (id : List ℕ) (x : Client) → wires_in (moved from id x) ≡ []
moved_wires from id x =
    moved_if x (bytes_eq id x.id) (has_session x.phase && not (same_address x.address from))

beside_if : (a : Around) (n : Notes) (x : Client) (own : Bool)
    → wires_in (if own then [] else part a [] (n.of x) x) ≡ []
beside_if a n x true = refl
beside_if a n x false = part_wires a [] (n.of x) x

entering_if : (a : Around) (n : Notes) (from : Address) (connect : Connect) (x : Client) (own : Bool)
    → wires_in (if own then spell a [] (let_in a.clock from connect x) (drop 1 (n.of x)) else []) ≡ []
entering_if a n from connect x true = spell_wires a [] (let_in a.clock from connect x) (drop 1 (n.of x))
entering_if a n from connect x false = refl

around_wires : (from : Address) (connect : Connect) (clean will : Bool) (own : List Out)
    → connect.flags.will ≡ will → wires_in own ≡ []
    → wires_in (around_welcome clean own (welcome connect from)) ≡ []
around_wires from connect true true own is none =
    wires_append own (welcome connect from ∷ []) none (rw is refl)
around_wires from connect true false own is none =
    wires_append own (welcome connect from ∷ []) none (rw is refl)
around_wires from connect false true own is none = rw is none
around_wires from connect false false own is none = rw is none

entry_wires : (s : State) (from : Address) (connect : Connect) (n : Notes) (o : Outcome)
    → wires_in (entry_outs s from connect n o) ≡ []
entry_wires s from connect n Allowed =
    let a = around s (ByConnect from connect) in
    let id = connect.client_id in
    let others = flat_map (beside a n id) s.clients in
    let noted = drop_notes (drops s (ByConnect from connect) n) in
    let entering = flat_map (entering_part a n from connect) s.clients in
    let last = around_welcome connect.flags.clean entering (welcome connect from) in
    wires_append (flat_map (moved from id) s.clients) (others ++ (noted ++ last))
    (wires_flat (moved from id) s.clients (moved_wires from id))
    (wires_append others (noted ++ last)
    (wires_flat (beside a n id) s.clients (λ x. beside_if a n x (bytes_eq id x.id)))
    (sent_wires noted last (drops_sent (drops s (ByConnect from connect) n))
    ∙ around_wires from connect connect.flags.clean connect.flags.will entering refl
    (wires_flat (entering_part a n from connect) s.clients
    (λ x. entering_if a n from connect x (bytes_eq id x.id)))))
entry_wires s from connect n (Denied rule) = refl

-- ---- a datagram

-- nothing leaves for the broker
pub record Still (s : State) (c : Cause) : Type 0 where
  pub exits : exits_for s c ≡ []
  pub wires : wires_in (outs_by s c) ≡ []

message_still : (s : State) (from : Address) (request : Request) → Still s (ByMessage from request)
message_still s from request =
    let c = ByMessage from request in
    record {
      exits = refl;
      wires =
          frame_wires s c (stranger_to from request) (notes_for s c) (stranger_wires from request);
    }

publish_still : (s : State) (from : Address) (p : Publish) (q : FrameQos) → Still s (publish_cause from p q)
publish_still s from p qos.WithoutSession = record { exits = refl; wires = refl }
publish_still s from p qos.AtMostOnce = message_still s from (ToPublish p)
publish_still s from p qos.AtLeastOnce = message_still s from (ToPublish p)
publish_still s from p qos.ExactlyOnce = message_still s from (ToPublishOnce p)

disconnect_still : (s : State) (from : Address) (duration : Option ℕ)
    → Still s (datagram_cause from (Ok (frame.Disconnect duration)))
disconnect_still s from None = message_still s from ToLeave
disconnect_still s from (Some duration) = message_still s from (ToSleep duration)

pub datagram_still : (s : State) (from : Address) (read : Result SnFrame FrameFault)
    → Still s (datagram_cause from read)
datagram_still s from (Ok (frame.Connect connect)) =
    record {
      exits = refl;
      wires =
          entry_wires s from connect (notes_for s (ByConnect from connect)) (entry s connect);
    }
datagram_still s from (Ok (frame.Register r)) = message_still s from (ToRegister r)
datagram_still s from (Ok (frame.Publish p)) = publish_still s from p p.flags.qos
datagram_still s from (Ok (frame.Subscribe r)) = message_still s from (ToSubscribe r)
datagram_still s from (Ok (frame.Unsubscribe r)) = message_still s from (ToUnsubscribe r)
datagram_still s from (Ok (frame.PingRequest client)) = message_still s from (ToPing client)
datagram_still s from (Ok (frame.RegisterAck r)) = message_still s from (ToConfirm r)
datagram_still s from (Ok (frame.PublishAck r)) = message_still s from (ToAcknowledge r)
datagram_still s from (Ok (frame.PublishRelease n)) = message_still s from (ToRelease n)
datagram_still s from (Ok (frame.WillTopic topic)) = message_still s from (ToState (StatesTopic topic))
datagram_still s from (Ok (frame.WillMessage message)) =
    message_still s from (ToState (StatesMessage message))
datagram_still s from (Ok (frame.WillTopicUpdate topic)) = message_still s from (ToState (UpdatesTopic topic))
datagram_still s from (Ok (frame.WillMessageUpdate message)) =
    message_still s from (ToState (UpdatesMessage message))
datagram_still s from (Ok (frame.Disconnect duration)) = disconnect_still s from duration
datagram_still s from (Ok message) = message_still s from (Untaken message)
datagram_still s from (Err broke) =
    let c = ByBroken from (rule_of broke) in
    record {
      exits = refl;
      wires =
          frame_wires s c (Note (note.Frame (who.Address from) (Denied (rule_of broke))) ∷ [])
          (notes_for s c) refl;
    }

-- ---- a packet of the broker

misnamed_wires : (good : Bool) (outs : List Out) → wires_in outs ≡ []
    → wires_in ((if good then [] else Note (note.Frame who.Broker (Denied (Form BadName))) ∷ []) ++ outs) ≡ []
misnamed_wires true outs none = none
misnamed_wires false outs none = none

dropped_wires : (place : Bool) (packet_id : Option ℕ) → wires_in (dropped place packet_id) ≡ []
dropped_wires place None = refl
dropped_wires true (Some packet_id) = refl
dropped_wires false (Some packet_id) = refl

pub packet_wires : (limits : Limits) (up : Bool) (link : Link) (a : Answer)
    → wires_in (answer_outs limits up link a) ≡ []
packet_wires limits up link (Delivers p) =
    misnamed_wires (is_name p.name) (dropped (has_place limits link) (owed up p))
    (dropped_wires (has_place limits link) (owed up p))
packet_wires limits up link (Acknowledges packet_id) = refl
packet_wires limits up link (Grants packet_id) = refl
packet_wires limits up link (Refuses packet_id) = refl
packet_wires limits up link Confirms = refl
packet_wires limits up link Strange = refl

-- the whole row of a packet
pub broker_wires : (s : State) (sent : Packet) → wires_in (outs_by s (ByPacket sent)) ≡ []
broker_wires s sent =
    let c = ByPacket sent in
    wires_append (client_rows s c [] (notes_for s c)) (answer_outs s.policy.limits s.up s.link (answer_of sent))
    (rows_wires s c [] (notes_for s c)) (packet_wires s.policy.limits s.up s.link (answer_of sent))

-- and that of a replacement
pub replace_wires : (s : State) (policy : Policy) → wires_in (outs_by s (ByReplace policy)) ≡ []
replace_wires s policy =
    let c = ByReplace policy in rows_wires s c (drops s c (notes_for s c)) (notes_for s c)

-- and that of a tick
ping_wires : (limits : Limits) (up : Bool) (link : Link) (clock : ℕ)
    → wires_in (ping_dropped limits up link clock) ≡ []
ping_wires limits up link clock = by_due (is_ping_due up link clock) (has_place limits link)
  where
    by_due : (due place : Bool) → wires_in (if due then (if place then [] else Note note.Outbox ∷ []) else [])
        ≡ []
    by_due true true = refl
    by_due true false = refl
    by_due false place = refl

pub tick_wires : (s : State) (clock : ℕ) → wires_in (outs_by s (ByTick clock)) ≡ []
tick_wires s clock =
    let c = ByTick clock in
    let now = later s.clock clock in
    let link = with_wills s.policy.limits s.link now s.clients in
    wires_append (client_rows s c [] (notes_for s c)) (ping_dropped s.policy.limits s.up link now)
    (rows_wires s c [] (notes_for s c)) (ping_wires s.policy.limits s.up link now)
