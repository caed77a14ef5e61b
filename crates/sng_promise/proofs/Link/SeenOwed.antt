-- What is owed to the broker, as a packet of it comes.
use Rattle.std.proofs.Common.{◌≡◌, ℕ, Bool, true, false, List, [], ◌∷◌, ◌++◌, map, refl, sym, ◌∙◌, ap}
use Rattle.std.proofs.Common.{if◌then◌else◌}
use Rattle.std.specs.Prelude.{◌&&◌, ◌||◌, not, Option, Some, None, slice_get}
use Rattle.std.specs.List.{flat_map}
use Rattle.std.proofs.lemmas.List.{append_assoc}
use Rattle.sng_grants.specs.Limits.{Limits}
use Rattle.sng_text.specs.Texts.{is_name}
use Rattle.mqtt_frames.specs.declared.packet.SubscribeCode.{SubscribeCode}
use Rattle.mqtt_frames.specs.declared.packet.SubscribeCode.TheVariants as code
use Rattle.mqtt_frames.specs.declared.packet.Packet.{Packet}
use Rattle.mqtt_frames.specs.declared.packet.Packet.TheVariants as packet
use Rattle.sng_queue.specs.Messages.{Message}
use Rattle.sng_outbox.specs.declared.item.Item.TheVariants as item
use Rattle.sng_book.specs.declared.address.Address.{Address}
use Rattle.sng_book.specs.declared.decision.Decision.{Decision}
use Rattle.sng_book.specs.declared.decision.Decision.TheVariants as note
use Rattle.sng_book.specs.declared.decision.Who.TheVariants as who
use Rattle.sng_book.specs.declared.outcome.Denial.TheVariants.{Form, Peer}
use Rattle.sng_book.specs.declared.outcome.FormDenial.TheVariants.{BadName}
use Rattle.sng_book.specs.declared.outcome.PeerDenial.TheVariants.{BrokerRefused}
use Rattle.sng_book.specs.declared.outcome.Outcome.{Outcome}
use Rattle.sng_book.specs.declared.outcome.Outcome.TheVariants.{Allowed, Denied}
use Rattle.sng_book.specs.declared.out.Out.{Out}
use Rattle.sng_book.specs.declared.out.Out.TheVariants.{Note}
use Rattle.sng_history.specs.Causes.{ByPacket}
use Rattle.sng_history.specs.Handing.{Known, known_as, front, handed_outs, announced_again, repeated_outs}
use Rattle.sng_history.specs.Outgoing.{delivered_notes}
use Rattle.sng_history.specs.Clients.{Client, Around, message_due, start_by, note_by, is_drained, notes_by}
use Rattle.sng_history.specs.Standing.{holds}
use Rattle.sng_history.specs.State.{State, around}
use Rattle.sng_history.specs.Whole.{frames_of, spell, part, drained_outs}
use Rattle.sng_history.specs.Lawful.{refused_end, fixed_for}
use Rattle.sng_history.specs.Steps.{outs_by}
use Rattle.sng_history.specs.Links.{Link}
use Rattle.sng_history.specs.Packets.{subscribe_answer, answer_of, answer_outs, owed, has_place}
use Rattle.sng_history.specs.Packets.{acknowledgement, acknowledgements, dropped}
use Rattle.sng_history.specs.Packets.{refused_filter}
use Rattle.sng_laws.specs.ViewsLink.{is_outbox, is_outbox_noted, listed, message_id}
use Rattle.sng_history.proofs.Hands.{Every, OfMessages, every_append, every_if, every_delivered}
use Rattle.sng_history.specs.Answers.{pong}
use Rattle.sng_queue.specs.declared.exchange.Exchange.{Exchange}
use Rattle.sng_queue.specs.declared.exchange.Exchange.TheVariants.{Announcing, Acknowledging}
use Rattle.sng_queue.specs.declared.exchange.Sending.{Sending}
use Rattle.sng_queue.specs.Buffers.{Buffer}

-- an acknowledgement that is owed waits where there is place
owed_waits : (up place : Bool) (packet_id : Option ℕ)
    → acknowledgement place (if up then packet_id else None)
    ≡ map item.Acknowledge (if up && not (is_outbox_noted (dropped place (if up then packet_id else None)))
    then listed packet_id else [])
owed_waits true true None = refl
owed_waits true true (Some packet_id) = refl
owed_waits true false None = refl
owed_waits true false (Some packet_id) = refl
owed_waits false place packet_id = refl

-- whether the name is one or not
named_waits : (good : Bool) (outs : List Out)
    → is_outbox_noted ((if good then [] else Note (note.Frame who.Broker (Denied (Form BadName))) ∷ [])
    ++ outs)
    ≡ is_outbox_noted outs
named_waits true outs = refl
named_waits false outs = refl

nothing_owed : (up noted : Bool) → [] ≡ map item.Acknowledge (if up && not noted then [] else [])
nothing_owed true true = refl
nothing_owed true false = refl
nothing_owed false noted = refl

answer_waits : (limits : Limits) (up : Bool) (link : Link) (packet_id : ℕ) (codes : List SubscribeCode)
    → let a = subscribe_answer packet_id codes in
    acknowledgements limits up link a ≡ map item.Acknowledge
    (if up && not (is_outbox_noted (answer_outs limits up link a)) then [] else [])
answer_waits limits up link packet_id [] = nothing_owed up false
answer_waits limits up link packet_id (code.Refused ∷ codes) = nothing_owed up false
answer_waits limits up link packet_id (code.Granted qos ∷ codes) = nothing_owed up false

answered_waits : (limits : Limits) (up : Bool) (link : Link) (sent : Packet)
    → acknowledgements limits up link (answer_of sent)
    ≡ map item.Acknowledge (if up && not (is_outbox_noted (answer_outs limits up link (answer_of sent)))
    then message_id sent else [])
answered_waits limits up link (packet.Publish p) =
    owed_waits up (has_place limits link) p.packet_id
    ∙ ap (λ noted. map item.Acknowledge (if up && not noted then listed p.packet_id else []))
    (sym (named_waits (is_name p.name) (dropped (has_place limits link) (owed up p))))
answered_waits limits up link (packet.PublishAck packet_id) = nothing_owed up false
answered_waits limits up link (packet.Connect connect) =
    nothing_owed up (is_outbox_noted (answer_outs limits up link (answer_of (packet.Connect connect))))
answered_waits limits up link (packet.ConnectAck answer) =
    nothing_owed up (is_outbox_noted (answer_outs limits up link (answer_of (packet.ConnectAck answer))))
answered_waits limits up link (packet.Subscribe request) =
    nothing_owed up (is_outbox_noted (answer_outs limits up link (answer_of (packet.Subscribe request))))
answered_waits limits up link (packet.SubscribeAck answer) =
    answer_waits limits up link answer.packet_id answer.codes
answered_waits limits up link (packet.Unsubscribe request) =
    nothing_owed up (is_outbox_noted (answer_outs limits up link (answer_of (packet.Unsubscribe request))))
answered_waits limits up link (packet.UnsubscribeAck packet_id) = nothing_owed up false
answered_waits limits up link packet.PingRequest = nothing_owed up false
answered_waits limits up link packet.PingResponse = nothing_owed up false
answered_waits limits up link packet.Disconnect = nothing_owed up false

-- a note of a client is none of a place in the outbox, nor is anything behind it, where no UNSUBSCRIBE is
-- dropped
pub record Unnoted (a : Around) (said : Decision) : Type 0 where
  pub itself : is_outbox said ≡ false
  pub behind : (x : Client) (rest : List Out)
      → is_outbox_noted (frames_of a [] x said ++ rest) ≡ is_outbox_noted rest

pub handed_unnoted : (to : Address) (number : ℕ) (m : Option Message) (known : Option Known) (rest : List Out)
    → is_outbox_noted (handed_outs to number m known ++ rest) ≡ is_outbox_noted rest
handed_unnoted to number None known rest = refl
handed_unnoted to number (Some m) None rest = refl
handed_unnoted to number (Some m) (Some known) rest = refl

hand_unnoted : (a : Around) (client name : List ℕ) (o : Outcome) → Unnoted a (note.Hand client name o)
hand_unnoted a client name Allowed =
    record {
      itself = refl;
      behind =
          λ x rest. handed_unnoted x.address x.number (front x.buffer) (known_as a.policy x.ids name) rest;
    }
hand_unnoted a client name (Denied rule) = record { itself = refl; behind = λ x rest. refl }

pub messages_unnoted : (a : Around) (client : List ℕ) → OfMessages (Unnoted a) client
messages_unnoted a client =
    record {
      announces = λ name. record { itself = refl; behind = λ x rest. refl };
      hands = hand_unnoted a client;
    }

refused_unnoted : (a : Around) (x : Client) (text : Option (List ℕ)) → Every (Unnoted a) (refused_end x text)
refused_unnoted a x None = tt
refused_unnoted a x (Some text) =
    every_if (Unnoted a) (holds text x) (note.End x.id text (Denied (Peer BrokerRefused)) ∷ [])
    (record { itself = refl; behind = λ y rest. refl }, tt)

pub spell_unnoted : (a : Around) (x : Client) (notes : List Decision) (rest : List Out)
    → Every (Unnoted a) notes
    → is_outbox_noted (spell a [] x notes ++ rest) ≡ is_outbox_noted rest
spell_unnoted a x [] rest every = refl
spell_unnoted a x (said ∷ notes) rest every =
    let y = note_by a said x in
    ap (λ b. b || is_outbox_noted ((frames_of a [] x said ++ spell a [] y notes) ++ rest)) every.0.itself
    ∙ (ap is_outbox_noted (append_assoc (frames_of a [] x said) (spell a [] y notes) rest)
    ∙ (every.0.behind x (spell a [] y notes ++ rest) ∙ spell_unnoted a y notes rest every.1))

drained_unnoted : (z : Client) (rest : List Out)
    → is_outbox_noted (drained_outs z ++ rest) ≡ is_outbox_noted rest
drained_unnoted z rest = by_drained (is_drained z)
  where
    by_drained : (b : Bool) → is_outbox_noted ((if b then pong z.address ∷ [] else []) ++ rest)
        ≡ is_outbox_noted rest
    by_drained true = refl
    by_drained false = refl

pub part_unnoted : (a : Around) (x z : Client) (notes : List Decision) (rest : List Out)
    → Every (Unnoted a) notes
    → is_outbox_noted ((spell a [] x notes ++ drained_outs z) ++ rest) ≡ is_outbox_noted rest
part_unnoted a x z notes rest every =
    ap is_outbox_noted (append_assoc (spell a [] x notes) (drained_outs z) rest)
    ∙ (spell_unnoted a x notes (drained_outs z ++ rest) every ∙ drained_unnoted z rest)

-- what is open is sent again
announced_unnoted : (to : Address) (sent : Sending) (m : Option Message) (rest : List Out)
    → is_outbox_noted (announced_again to sent m ++ rest) ≡ is_outbox_noted rest
announced_unnoted to sent None rest = refl
announced_unnoted to sent (Some m) rest = refl

repeated_unnoted : (to : Address) (b : Buffer) (open_one : Option Exchange) (rest : List Out)
    → is_outbox_noted (repeated_outs to b open_one ++ rest) ≡ is_outbox_noted rest
repeated_unnoted to b None rest = refl
repeated_unnoted to b (Some (Announcing sent)) rest = announced_unnoted to sent (slice_get b.waiting 0) rest
repeated_unnoted to b (Some (Acknowledging sent k m)) rest = refl

pub again_unnoted : (a : Around) (client name : List ℕ) (o : Outcome) → Unnoted a (note.Retry client name o)
again_unnoted a client name Allowed =
    record { itself = refl; behind = λ x rest. repeated_unnoted x.address x.buffer x.buffer.exchange rest }
again_unnoted a client name (Denied rule) = record { itself = refl; behind = λ x rest. refl }

rows_unnoted : (s : State) (packet : Packet) (xs : List Client) (outs : List Out)
    → is_outbox_noted (flat_map (λ x. part (around s (ByPacket packet)) []
    (fixed_for s (ByPacket packet) x) x) xs ++ outs)
    ≡ is_outbox_noted outs
rows_unnoted s packet [] outs = refl
rows_unnoted s packet (x ∷ xs) outs =
    let c = ByPacket packet in
    let a = around s c in
    let f : Client → List Out = λ y. part a [] (fixed_for s c y) y in
    let due = message_due (answer_of packet) x in
    let one = refused_end x (refused_filter s.link (answer_of packet)) in
    let two = delivered_notes s.policy due x in
    let every =
    every_append (Unnoted a) one two (refused_unnoted a x (refused_filter s.link (answer_of packet)))
    (every_delivered (Unnoted a) s.policy due x (messages_unnoted a x.id)) in
    ap is_outbox_noted (append_assoc (f x) (flat_map f xs) outs)
    ∙ (part_unnoted a (start_by a x) (notes_by a (one ++ two) (start_by a x)) (one ++ two)
    (flat_map f xs ++ outs) every
    ∙ rows_unnoted s packet xs outs)

pub packet_waits : (s : State) (sent : Packet)
    → acknowledgements s.policy.limits s.up s.link (answer_of sent)
    ≡ map item.Acknowledge (if s.up && not (is_outbox_noted (outs_by s (ByPacket sent))) then message_id sent
    else [])
packet_waits s sent =
    answered_waits s.policy.limits s.up s.link sent
    ∙ ap (λ noted. map item.Acknowledge (if s.up && not noted then message_id sent else []))
    (sym (rows_unnoted s sent s.clients (answer_outs s.policy.limits s.up s.link (answer_of sent))))
