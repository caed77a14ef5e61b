-- Which of the messages that were due to a client are refused in their own row, as the rows show it.
use Rattle.std.proofs.Common.{◌≡◌, ℕ, Bool, true, false, List, [], ◌∷◌, ◌++◌, refl, ap, sym, ◌∙◌}
use Rattle.std.proofs.Common.{if◌then◌else◌, Ok, Err}
use Rattle.std.specs.Prelude.{◌||◌, is_some, Option, Some, None}
use Rattle.std.specs.List.{list_any}
use Rattle.std.specs.Option.{option_to_list}
use Rattle.std.specs.declared.result.Result.{Result}
use Rattle.std.proofs.lemmas.List.{append-nil}
use Rattle.std.proofs.lemmas.List.Folds.{list_any-append}
use Rattle.sng_text.specs.declared.qos.Qos.{Qos}
use Rattle.sng_text.specs.declared.qos.Qos.TheVariants.{AtMostOnce, AtLeastOnce}
use Rattle.sng_grants.specs.declared.policy.Policy.{Policy}
use Rattle.mqtt_frames.specs.declared.packet.SubscribeCode.{SubscribeCode}
use Rattle.mqtt_frames.specs.declared.packet.SubscribeCode.TheVariants as code
use Rattle.mqtt_frames.specs.declared.packet.Packet.{Packet}
use Rattle.mqtt_frames.specs.declared.packet.Packet.TheVariants as packet
use Rattle.sng_ids.specs.Ids.{Ids, is_full_for}
use Rattle.sng_queue.specs.Messages.{Message, message}
use Rattle.sng_queue.specs.Buffers.{Buffer}
use Rattle.sng_frames.specs.Reading.{frame_of}
use Rattle.sng_frames.specs.declared.fault.FrameFault.{FrameFault}
use Rattle.sng_frames.specs.declared.qos.FrameQos.{FrameQos}
use Rattle.sng_frames.specs.declared.qos.FrameQos.TheVariants as qos
use Rattle.sng_frames.specs.declared.messages.publish.Publish.{Publish as Published}
use Rattle.sng_frames.specs.declared.frame.SnFrame.{SnFrame}
use Rattle.sng_frames.specs.declared.frame.SnFrame.TheVariants as frame
use Rattle.sng_book.specs.declared.address.Address.{Address}
use Rattle.sng_book.specs.declared.decision.Decision.{Decision}
use Rattle.sng_book.specs.declared.decision.Decision.TheVariants as note
use Rattle.sng_book.specs.declared.outcome.Place.TheVariants as place
use Rattle.sng_book.specs.declared.outcome.Denial.TheVariants.{Room, Peer}
use Rattle.sng_book.specs.declared.outcome.RoomDenial.TheVariants.{Full}
use Rattle.sng_book.specs.declared.outcome.PeerDenial.TheVariants.{BrokerRefused}
use Rattle.sng_book.specs.declared.outcome.Outcome.{Outcome}
use Rattle.sng_book.specs.declared.outcome.Outcome.TheVariants.{Allowed, Denied}
use Rattle.sng_book.specs.declared.event.Event.{Event}
use Rattle.sng_book.specs.declared.event.Event.TheVariants.{Datagram, Broker, Up, Down, Take, Replace, Tick}
use Rattle.sng_book.specs.declared.out.Out.{Out}
use Rattle.sng_book.specs.declared.out.Out.TheVariants.{Send, Wire, Note}
use Rattle.sng_book.specs.declared.row.Row.{Row}
use Rattle.sng_history.specs.Causes.{publish_cause, datagram_cause, cause_of}
use Rattle.sng_history.specs.Arriving.{arrival, joins, turned_away_by, turned_away}
use Rattle.sng_history.specs.Handing.{known_as}
use Rattle.sng_history.specs.Packets.{subscribe_answer, answer_of, refused_filter}
use Rattle.sng_history.specs.Standing.{holds}
use Rattle.sng_history.specs.Clients.{Client, message_due}
use Rattle.sng_history.specs.Notes.{notes_of, is_of}
use Rattle.sng_history.specs.State.{State}
use Rattle.sng_history.specs.Outgoing.{receive, behind, offered, judged_turn, turns, is_free, handed_over}
use Rattle.sng_history.specs.Outgoing.{delivered_notes}
use Rattle.sng_history.specs.Lawful.{refused_end, fixed_for}
use Rattle.sng_laws.specs.ViewsClients.{phase_of}
use Rattle.sng_laws.specs.ViewsStanding.{standing_of}
use Rattle.sng_laws.specs.ViewsHanding.{message_sent}
use Rattle.sng_laws.specs.ViewsHanding.{meant_in}
use Rattle.sng_laws.specs.ViewsHanding.{is_refused_at_once, hand_of, hands_in, is_turned_back, due_of}
use Rattle.sng_history.proofs.Own.{same_self}
use Rattle.sng_promise.proofs.Handing.SeenHanding.{never_refused}
use Rattle.sng_promise.proofs.Handing.SeenProgress.{refused_rule, due_by, due_with, due_after}
use Rattle.sng_promise.proofs.Handing.SeenGrants.{due_meant}

-- ---- which is refused in its own row

-- how the client's notes say that a message never waited
abbrev note_back : List ℕ → Decision → Bool
note_back id said = list_any (λ hand. is_refused_at_once hand.1) (hand_of id said)

abbrev is_back : List ℕ → List Decision → Bool
is_back id [] = false
is_back id (said ∷ notes) = note_back id said || is_back id notes

other_back : (id : List ℕ) (said : Decision) → is_of id said ≡ false → note_back id said ≡ false
other_back id (note.Hand client name outcome) other = rw other refl
other_back id _ other = refl

note_backs : (id : List ℕ) (said : Decision) (notes : List Decision) (b : Bool) → is_of id said ≡ b
    → (note_back id said || is_back id notes) ≡ is_back id ((if b then said ∷ [] else []) ++ notes)
note_backs id said notes true own = refl
note_backs id said notes false other = ap (λ b. b || is_back id notes) (other_back id said other)

outs_back : (id : List ℕ) (outs : List Out) → is_turned_back id outs ≡ is_back id (notes_of id outs)
outs_back id [] = refl
outs_back id (Note said ∷ outs) =
    list_any-append (λ hand. is_refused_at_once hand.1) (hand_of id said) (hands_in id outs)
    ∙ (ap (λ b. note_back id said || b) (outs_back id outs)
    ∙ note_backs id said (notes_of id outs) (is_of id said) refl)
outs_back id (Send to datagram ∷ outs) = outs_back id outs
outs_back id (Wire packet ∷ outs) = outs_back id outs

back_append : (id : List ℕ) (xs ys : List Decision) → is_back id (xs ++ ys) ≡ (is_back id xs || is_back id ys)
back_append id [] ys = refl
back_append id (said ∷ xs) ys =
    ap (λ b. note_back id said || b) (back_append id xs ys)
    ∙ or_first (note_back id said) (is_back id xs) (is_back id ys)
  where
    or_first : (a b c : Bool) → (a || (b || c)) ≡ ((a || b) || c)
    or_first true b c = refl
    or_first false b c = refl

-- what is judged as its turn comes waited
hand_waits : (id name : List ℕ) (o : Outcome) (notes : List Decision) → is_refused_at_once o ≡ false
    → is_back id notes ≡ false
    → is_back id (note.Hand id name o ∷ notes) ≡ false
hand_waits id name o notes waits rest = rw (same_self id, waits) rest

behind_waits : (id : List ℕ) (q : Qos) (more : List Decision) → is_back id more ≡ false
    → is_back id (behind q more) ≡ false
behind_waits id AtMostOnce more rest = rest
behind_waits id AtLeastOnce more rest = refl

offered_waits : (id : List ℕ) (m : Message) (known full : Bool) (more : List Decision)
    → is_back id more ≡ false
    → is_back id (offered id m known full more) ≡ false
offered_waits id m true full more rest =
    hand_waits id m.name Allowed (behind m.qos more) refl (behind_waits id m.qos more rest)
offered_waits id m false true more rest = hand_waits id m.name (Denied (Room (Full place.Ids))) more refl rest
offered_waits id m false false more rest = refl

judged_waits : (policy : Policy) (id : List ℕ) (ids : Ids) (m : Message) (o : Outcome) (more : List Decision)
    → is_refused_at_once o ≡ false
    → is_back id more ≡ false
    → is_back id (judged_turn policy id ids m o more) ≡ false
judged_waits policy id ids m Allowed more waits rest =
    offered_waits id m (is_some (known_as policy ids m.name)) (is_full_for m.name ids) more rest
judged_waits policy id ids m (Denied rule) more waits rest =
    hand_waits id m.name (Denied rule) more waits rest

turns_wait : (policy : Policy) (id : List ℕ) (ids : Ids) (waiting : List Message)
    → is_back id (turns policy id ids waiting) ≡ false
turns_wait policy id ids [] = refl
turns_wait policy id ids (m ∷ more) =
    judged_waits policy id ids m (receive policy id m.name) (turns policy id ids more)
    (never_refused policy id m.name)
    (turns_wait policy id ids more)

handed_wait : (policy : Policy) (x : Client) → is_back x.id (handed_over policy x) ≡ false
handed_wait policy x = by_free (is_free x)
  where
    by_free : (b : Bool) → is_back x.id (if b then turns policy x.id x.ids x.buffer.waiting else []) ≡ false
    by_free true = turns_wait policy x.id x.ids x.buffer.waiting
    by_free false = refl

end_back : (x : Client) (f : Option (List ℕ)) → is_back x.id (refused_end x f) ≡ false
end_back x None = refl
end_back x (Some text) = by_holding (holds text x)
  where
    by_holding : (b : Bool)
        → is_back x.id (if b then note.End x.id text (Denied (Peer BrokerRefused)) ∷ [] else [])
        ≡ false
    by_holding true = refl
    by_holding false = refl

abbrev is_denied : Outcome → Bool
is_denied Allowed = false
is_denied (Denied rule) = true

away_back : (id : List ℕ) (b : Buffer) (m : Message) (o : Outcome) → arrival b m ≡ o
    → is_back id (turned_away_by id m.name o) ≡ is_denied o
away_back id b m Allowed is = refl
away_back id b m (Denied rule) is = rw (same_self id, refused_rule b m rule is) refl

abbrev is_away : Option Message → Buffer → Bool
is_away None b = false
is_away (Some m) b = is_denied (arrival b m)

turned_back : (id : List ℕ) (m : Option Message) (b : Buffer) → is_back id (turned_away id m b) ≡ is_away m b
turned_back id None b = refl
turned_back id (Some m) b = away_back id b m (arrival b m) refl

or_none : (a : Bool) → (a || false) ≡ a
or_none true = refl
or_none false = refl

packet_back : (policy : Policy) (x : Client) (f : Option (List ℕ)) (m : Option Message)
    → is_back x.id (refused_end x f ++ delivered_notes policy m x) ≡ is_away m x.buffer
packet_back policy x f m =
    let y : Client = record x { buffer = joins m x.buffer } in
    back_append x.id (refused_end x f) (delivered_notes policy m x)
    ∙ (ap (λ b. b || is_back x.id (delivered_notes policy m x)) (end_back x f)
    ∙ (back_append x.id (turned_away x.id m x.buffer) (handed_over policy y)
    ∙ (ap (λ b. is_back x.id (turned_away x.id m x.buffer) || b) (handed_wait policy y)
    ∙ (or_none (is_back x.id (turned_away x.id m x.buffer)) ∙ turned_back x.id m x.buffer))))

-- ---- the messages that were due

if_none : (b : Bool) → (let all : List Message = if b then [] else [] in all) ≡ []
if_none true = refl
if_none false = refl

due_more : (due : List Message) (m : Message) (o : Outcome)
    → due ++ (if is_denied o then [] else m ∷ []) ≡ due_by o m due
due_more due m Allowed = refl
due_more due m (Denied rule) = append-nil due

due_all : (due : List Message) (m : Option Message) (b : Buffer)
    → due ++ (if is_away m b then [] else option_to_list m) ≡ due_with m b due
due_all due None b = append-nil due
due_all due (Some m) b = due_more due m (arrival b m)

-- an event that brings no message
none_due : (due : List Message) (back : Bool) → due ++ (if back then [] else []) ≡ due
none_due due back = ap (λ more. due ++ more) (if_none back) ∙ append-nil due

publish_due : (from : Address) (p : Published) (q : FrameQos) (x : Client) (due : List Message)
    → due_after (publish_cause from p q) x due ≡ due
publish_due from p qos.WithoutSession x due = refl
publish_due from p qos.AtMostOnce x due = refl
publish_due from p qos.AtLeastOnce x due = refl
publish_due from p qos.ExactlyOnce x due = refl

disconnect_due : (from : Address) (duration : Option ℕ) (x : Client) (due : List Message)
    → due_after (datagram_cause from (Ok (frame.Disconnect duration))) x due ≡ due
disconnect_due from None x due = refl
disconnect_due from (Some duration) x due = refl

datagram_due : (from : Address) (read : Result SnFrame FrameFault) (x : Client) (due : List Message)
    → due_after (datagram_cause from read) x due ≡ due
datagram_due from (Ok (frame.Publish p)) x due = publish_due from p p.flags.qos x due
datagram_due from (Ok (frame.Disconnect duration)) x due = disconnect_due from duration x due
datagram_due from (Ok message) x due = refl
datagram_due from (Err broke) x due = refl

codes_due : (packet_id : ℕ) (codes : List SubscribeCode) (x : Client)
    → message_due (subscribe_answer packet_id codes) x ≡ None
codes_due packet_id [] x = refl
codes_due packet_id (code.Refused ∷ codes) x = refl
codes_due packet_id (code.Granted qos ∷ codes) x = refl

-- what a packet brings is the message that is due
brought_due : (h : List Row) (x : Client) (packet : Packet) → phase_of x.id h ≡ Some x.phase
    → x.filters ≡ standing_of x.id h
    → meant_in x.id (message_sent packet) h ≡ option_to_list (message_due (answer_of packet) x)
brought_due h x (packet.Publish p) phase filters = ap (λ m. option_to_list m) (due_meant h x p phase filters)
brought_due h x (packet.SubscribeAck answer) phase filters =
    ap (λ m. option_to_list m) (sym (codes_due answer.packet_id answer.codes x))
brought_due h x (packet.PublishAck packet_id) phase filters = refl
brought_due h x (packet.UnsubscribeAck packet_id) phase filters = refl
brought_due h x packet.PingResponse phase filters = refl
brought_due h x (packet.Connect connect) phase filters = refl
brought_due h x (packet.ConnectAck answer) phase filters = refl
brought_due h x (packet.Subscribe request) phase filters = refl
brought_due h x (packet.Unsubscribe request) phase filters = refl
brought_due h x packet.PingRequest phase filters = refl
brought_due h x packet.Disconnect phase filters = refl

-- a datagram brings none
pub datagram_brings : (by : ℕ) (h : List Row) (from : Address) (datagram : List ℕ) (outs : List Out)
    (id : List ℕ)
    → due_of id (record { by = by; event = Datagram from datagram; outs = outs } ∷ h) ≡ due_of id h
datagram_brings by h from datagram outs id = none_due (due_of id h) (is_turned_back id outs)

pub due_row : (by : ℕ) (h : List Row) (s : State) (e : Event) (outs : List Out) (x : Client)
    → phase_of x.id h ≡ Some x.phase
    → x.filters ≡ standing_of x.id h
    → notes_of x.id outs ≡ fixed_for s (cause_of e) x
    → due_of x.id (record { by = by; event = e; outs = outs } ∷ h) ≡ due_after (cause_of e) x (due_of x.id h)
due_row by h s (Datagram from datagram) outs x phase filters own =
    none_due (due_of x.id h) (is_turned_back x.id outs)
    ∙ sym (datagram_due from (frame_of datagram) x (due_of x.id h))
due_row by h s (Broker packet) outs x phase filters own =
    let m = message_due (answer_of packet) x in
    let back : is_turned_back x.id outs ≡ is_away m x.buffer =
    outs_back x.id outs ∙ (ap (is_back x.id) own
    ∙ packet_back s.policy x (refused_filter s.link (answer_of packet)) m) in
    ap (λ b. due_of x.id h ++ (if b then [] else meant_in x.id (message_sent packet) h)) back
    ∙ (ap (λ more. due_of x.id h ++ (if is_away m x.buffer then [] else more))
    (brought_due h x packet phase filters)
    ∙ due_all (due_of x.id h) m x.buffer)
due_row by h s Up outs x phase filters own = none_due (due_of x.id h) (is_turned_back x.id outs)
due_row by h s Down outs x phase filters own = none_due (due_of x.id h) (is_turned_back x.id outs)
due_row by h s Take outs x phase filters own = none_due (due_of x.id h) (is_turned_back x.id outs)
due_row by h s (Replace policy) outs x phase filters own = none_due (due_of x.id h) (is_turned_back x.id outs)
due_row by h s (Tick clock) outs x phase filters own = none_due (due_of x.id h) (is_turned_back x.id outs)
