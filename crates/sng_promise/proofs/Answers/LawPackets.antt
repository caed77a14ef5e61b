-- What a packet of the broker lets out: a message for each client that it concerns, the ends of a filter that
-- is refused, and what is nobody's.
use Rattle.std.proofs.Common.{◌≡◌, ℕ, Bool, true, false, List, [], ◌∷◌, ◌++◌, length, refl, ap, sym, ◌∙◌}
use Rattle.std.proofs.Common.{if◌then◌else◌}
use Rattle.std.specs.Prelude.{◌&&◌, not, nat_lt, Option, Some, None, is_some}
use Rattle.std.specs.List.{find, flat_map}
use Rattle.std.specs.Option.{option_map}
use Rattle.std.proofs.lemmas.List.{append-nil, append_assoc}
use Rattle.sng_text.specs.Texts.{is_name}
use Rattle.mqtt_frames.specs.declared.packet.Publish.{Publish}
use Rattle.mqtt_frames.specs.declared.packet.SubscribeAck.{SubscribeAck}
use Rattle.mqtt_frames.specs.declared.packet.SubscribeCode.{SubscribeCode}
use Rattle.mqtt_frames.specs.declared.packet.SubscribeCode.TheVariants as code
use Rattle.mqtt_frames.specs.declared.packet.Packet.{Packet}
use Rattle.mqtt_frames.specs.declared.packet.Packet.TheVariants as packet
use Rattle.sng_fan.specs.Subscriptions.{stands}
use Rattle.sng_book.specs.declared.decision.Decision.TheVariants as note
use Rattle.sng_book.specs.declared.decision.Who.TheVariants as who
use Rattle.sng_book.specs.declared.outcome.Denial.TheVariants.{Form, Peer}
use Rattle.sng_book.specs.declared.outcome.FormDenial.TheVariants.{BadName}
use Rattle.sng_book.specs.declared.outcome.PeerDenial.TheVariants.{BrokerRefused}
use Rattle.sng_book.specs.declared.outcome.Outcome.TheVariants.{Denied}
use Rattle.sng_book.specs.declared.out.Out.{Out}
use Rattle.sng_book.specs.declared.out.Out.TheVariants.{Note}
use Rattle.sng_book.specs.declared.row.Row.{Row}
use Rattle.sng_history.specs.Causes.{ByPacket}
use Rattle.sng_history.specs.Clients.{Around, Client, message_due, notes_by, is_drained}
use Rattle.sng_history.specs.Packets.{Answer, subscribe_answer, answer_of, misnamed, dropped, filter_open}
use Rattle.sng_history.specs.Packets.{refused_filter, answer_outs}
use Rattle.sng_history.specs.Links.{Wanted, has_id, is_open}
use Rattle.sng_history.specs.Outgoing.{handed_over}
use Rattle.sng_history.specs.Lawful.{refused_end, fixed_for}
use Rattle.sng_history.specs.State.{State, around}
use Rattle.sng_history.specs.Standing.{holds}
use Rattle.sng_history.specs.Whole.{spell, part, drained_outs}
use Rattle.sng_history.specs.Steps.{outs_by}
use Rattle.sng_history.specs.Good.{Each, AtRest}
use Rattle.sng_laws.specs.ViewsClients.{address_of, accepted}
use Rattle.sng_laws.specs.ViewsStanding.{standing_of}
use Rattle.sng_laws.specs.ViewsWanted.{is_its, is_answered, is_refusal, filter_with, wanted}
use Rattle.sng_laws.specs.ViewsHanding.{meant_for}
use Rattle.sng_laws.specs.LawsState.{ClientShown}
use Rattle.sng_laws.specs.LawsHanding.{arrivals}
use Rattle.sng_laws.specs.LawsAsks.{message_answer, suback_answer, packet_answer}
use Rattle.sng_history.proofs.Own.{each_map, each_with, flat_same}
use Rattle.sng_promise.proofs.Clients.SeenOrder.{StateShown}
use Rattle.sng_promise.proofs.Clients.SeenState.{Stands}
use Rattle.sng_promise.proofs.Clients.LawHere.{settled}
use Rattle.sng_promise.proofs.Standing.LawEnds.{flat_ids}
use Rattle.sng_promise.proofs.Handing.LawArrivals.{none_leaves, arrived}
use Rattle.sng_grants.specs.declared.policy.Policy.{Policy}
use Rattle.sng_laws.specs.Views.{last_limits}

-- ---- a message

message_by : (name : List ℕ) (owes : Option ℕ) (u r : Bool)
    → misnamed name ++ dropped r (if u then owes else None)
    ≡ (if is_name name then [] else Note (note.Frame who.Broker (Denied (Form BadName))) ∷ []) ++
    (if is_some owes && (u && not r) then Note note.Outbox ∷ [] else [])
message_by name None true r = refl
message_by name None false r = refl
message_by name (Some packet_id) false r = refl
message_by name (Some packet_id) true true = refl
message_by name (Some packet_id) true false = refl

message_out : (h : List Row) (s : State) (p : Publish) → Stands h s
    → outs_by s (ByPacket (packet.Publish p)) ≡ message_answer h p
message_out h s p st =
    let limits : s.policy.limits ≡ last_limits h = ap (λ (policy : Policy). policy.limits) st.shown.policy in
    let c = ByPacket (packet.Publish p) in
    let g : Client → List Out = λ x. part (around s c) [] (fixed_for s c x) x in
    let f : List ℕ → List Out = λ id. arrivals h id (address_of id h) (meant_for id p h) in
    let each =
    each_with (ClientShown h) AtRest (λ x. g x ≡ f x.id) s.clients
    (λ x is rest. arrived h s p x st.shown is rest) st.shown.clients st.good.rest in
    ap (λ outs. outs ++ answer_outs s.policy.limits s.up s.link (answer_of (packet.Publish p)))
    (flat_ids g f s.clients each ∙ ap (flat_map f) st.shown.order)
    ∙ (rw (sym st.shown.up, sym st.shown.waits, limits)
    (ap (λ outs. flat_map f (accepted h) ++ outs)
    (message_by p.name p.packet_id s.up (nat_lt (length s.link.waiting) (last_limits h).waiting))
    ∙ sym (append_assoc (flat_map f (accepted h)) (misnamed p.name)
    (if is_some p.packet_id && (s.up && not (nat_lt (length s.link.waiting) (last_limits h).waiting))
    then Note note.Outbox ∷ [] else []))))

-- ---- any other packet

-- what it lets out for a client that is at rest, as the broker refuses a filter or none
abbrev ends_out : State → Packet → Option (List ℕ) → Client → List Out
ends_out s sent text x = spell (around s (ByPacket sent)) [] x (refused_end x text)

abbrev part_out : State → Packet → Client → List Out
part_out s sent x = part (around s (ByPacket sent)) [] (fixed_for s (ByPacket sent) x) x

-- that moves no more than its filters
refused_busy : (a : Around) (text : Option (List ℕ)) (x : Client) → is_drained x ≡ false
    → is_drained (notes_by a (refused_end x text) x) ≡ false
refused_busy a None x busy = busy
refused_busy a (Some text) x busy = by_held (holds text x)
  where
    by_held : (b : Bool) → is_drained
        (notes_by a (if b then note.End x.id text (Denied (Peer BrokerRefused)) ∷ [] else []) x) ≡ false
    by_held true = busy
    by_held false = busy

end_part : (s : State) (sent : Packet) (text : Option (List ℕ)) (x : Client) → AtRest x
    → let a = around s (ByPacket sent) in
    let notes = refused_end x text ++ handed_over s.policy x in
    spell a [] x notes ++ drained_outs (notes_by a notes x) ≡ ends_out s sent text x
end_part s sent text x rest =
    let a = around s (ByPacket sent) in
    ap (λ notes. spell a [] x notes ++ drained_outs (notes_by a notes x))
    (ap (λ notes. refused_end x text ++ notes) (none_leaves s.policy x rest)
    ∙ append-nil (refused_end x text))
    ∙ settled (spell a [] x (refused_end x text)) (notes_by a (refused_end x text) x)
    (refused_busy a text x rest.busy)

none_out : (s : State) (sent : Packet) (xs : List Client) → flat_map (ends_out s sent None) xs ≡ []
none_out s sent [] = refl
none_out s sent (x ∷ xs) = none_out s sent xs

end_if : (s : State) (sent : Packet) (x : Client) (text : List ℕ) (b : Bool)
    → spell (around s (ByPacket sent)) [] x (if b then note.End x.id text (Denied (Peer BrokerRefused))
    ∷ [] else [])
    ≡ (if b then Note (note.End x.id text (Denied (Peer BrokerRefused))) ∷ [] else [])
end_if s sent x text true = refl
end_if s sent x text false = refl

end_out : (h : List Row) (s : State) (sent : Packet) (text : List ℕ) (x : Client) → ClientShown h x
    → ends_out s sent (Some text) x
    ≡ (if stands (standing_of x.id h) text then Note (note.End x.id text (Denied (Peer BrokerRefused)))
    ∷ [] else [])
end_out h s sent text x shown =
    end_if s sent x text (holds text x)
    ∙ ap (λ held. if stands held text then Note (note.End x.id text (Denied (Peer BrokerRefused))) ∷ []
    else [])
    shown.filters

refused_out : (h : List Row) (s : State) (sent : Packet) (text : Option (List ℕ)) → StateShown h s
    → flat_map (ends_out s sent text) s.clients ≡ suback_answer h text
refused_out h s sent None shown = none_out s sent s.clients
refused_out h s sent (Some text) shown =
    let f : List ℕ → List Out =
    λ id. if stands (standing_of id h) text then Note (note.End id text (Denied (Peer BrokerRefused))) ∷ []
    else [] in
    flat_ids (ends_out s sent (Some text)) f s.clients
    (each_map (ClientShown h) (λ x. ends_out s sent (Some text) x ≡ f x.id) s.clients
    (λ x is. end_out h s sent text x is) shown.clients)
    ∙ ap (flat_map f) shown.order

-- the filter whose open SUBSCRIBE has the packet id
its_same : (packet_id : ℕ) (last : Option ℕ) → has_id packet_id last ≡ is_its packet_id last
its_same packet_id None = refl
its_same packet_id (Some used) = refl

open_same : (wanted : List Wanted) (packet_id : ℕ)
    → filter_open wanted packet_id ≡ filter_with packet_id wanted
open_same [] packet_id = refl
open_same (w ∷ wanted) packet_id =
    by_first w (is_open packet_id w) (is_answered packet_id w) (its_same packet_id w.open_id)
    (open_same wanted packet_id)
  where
    by_first : (w : Wanted) (a b : Bool) → a ≡ b → filter_open wanted packet_id ≡ filter_with packet_id wanted
        → option_map (λ v. v.filter) (if a then Some w else find (is_open packet_id) wanted)
        ≡ option_map (λ v. v.filter) (if b then Some w else find (is_answered packet_id) wanted)
    by_first w true true same rest = refl
    by_first w false false same rest = rest
    by_first w true false same rest = absurd (let e = same in cc)
    by_first w false true same rest = absurd (let e = same in cc)

-- no message is due by it
abbrev Bare : Answer → Type 0
Bare answer = (x : Client) → message_due answer x ≡ None

parts_out : (s : State) (sent : Packet) (text : Option (List ℕ))
    → refused_filter s.link (answer_of sent) ≡ text → Bare (answer_of sent)
    → Each AtRest s.clients
    → flat_map (part_out s sent) s.clients ≡ flat_map (ends_out s sent text) s.clients
parts_out s sent text is bare rest =
    flat_same (part_out s sent) (ends_out s sent text) s.clients
    (each_map AtRest (λ x. part_out s sent x ≡ ends_out s sent text x) s.clients
    (λ x at. rw (bare x, is) (end_part s sent text x at)) rest)

bare_suback : (packet_id : ℕ) (codes : List SubscribeCode) → Bare (subscribe_answer packet_id codes)
bare_suback packet_id [] x = refl
bare_suback packet_id (code.Refused ∷ codes) x = refl
bare_suback packet_id (code.Granted q ∷ codes) x = refl

suback_by : (h : List Row) (s : State) (sent : Packet) (packet_id : ℕ) (codes : List SubscribeCode)
    → StateShown h s
    → s.link.wanted ≡ wanted h
    → flat_map (ends_out s sent (refused_filter s.link (subscribe_answer packet_id codes))) s.clients
    ++ answer_outs s.policy.limits s.up s.link (subscribe_answer packet_id codes)
    ≡ (if is_refusal codes then suback_answer h (filter_with packet_id (wanted h)) else [])
suback_by h s sent packet_id [] shown is =
    append-nil (flat_map (ends_out s sent None) s.clients) ∙ none_out s sent s.clients
suback_by h s sent packet_id (code.Granted q ∷ codes) shown is =
    append-nil (flat_map (ends_out s sent None) s.clients) ∙ none_out s sent s.clients
suback_by h s sent packet_id (code.Refused ∷ codes) shown is =
    let text = filter_open s.link.wanted packet_id in
    append-nil (flat_map (ends_out s sent text) s.clients)
    ∙ (refused_out h s sent text shown
    ∙ ap (suback_answer h) (ap (λ all. filter_open all packet_id) is ∙ open_same (wanted h) packet_id))

suback_out : (h : List Row) (s : State) (answer : SubscribeAck) → Stands h s → s.link.wanted ≡ wanted h
    → outs_by s (ByPacket (packet.SubscribeAck answer)) ≡ packet_answer h (packet.SubscribeAck answer)
suback_out h s answer st is =
    let sent = packet.SubscribeAck answer in
    let says = subscribe_answer answer.packet_id answer.codes in
    ap (λ outs. outs ++ answer_outs s.policy.limits s.up s.link says)
    (parts_out s sent (refused_filter s.link says) refl
    (bare_suback answer.packet_id answer.codes) st.good.rest)
    ∙ suback_by h s sent answer.packet_id answer.codes st.shown is

-- a packet that ends nothing
other_out : (h : List Row) (s : State) (sent : Packet) → Stands h s
    → refused_filter s.link (answer_of sent) ≡ None → Bare (answer_of sent)
    → answer_outs s.policy.limits s.up s.link (answer_of sent) ≡ packet_answer h sent
    → outs_by s (ByPacket sent) ≡ packet_answer h sent
other_out h s sent st none bare judged =
    ap (λ outs. outs ++ answer_outs s.policy.limits s.up s.link (answer_of sent))
    (parts_out s sent None none bare st.good.rest ∙ none_out s sent s.clients)
    ∙ judged

pub packet_judged : (h : List Row) (s : State) (sent : Packet) → Stands h s → s.link.wanted ≡ wanted h
    → outs_by s (ByPacket sent) ≡ packet_answer h sent
packet_judged h s (packet.Publish p) st is = message_out h s p st
packet_judged h s (packet.SubscribeAck answer) st is = suback_out h s answer st is
packet_judged h s (packet.PublishAck packet_id) st is =
    other_out h s (packet.PublishAck packet_id) st refl (λ x. refl) refl
packet_judged h s (packet.UnsubscribeAck packet_id) st is =
    other_out h s (packet.UnsubscribeAck packet_id) st refl (λ x. refl) refl
packet_judged h s packet.PingResponse st is = other_out h s packet.PingResponse st refl (λ x. refl) refl
packet_judged h s (packet.Connect connect) st is =
    other_out h s (packet.Connect connect) st refl (λ x. refl) refl
packet_judged h s (packet.ConnectAck answer) st is =
    other_out h s (packet.ConnectAck answer) st refl (λ x. refl) refl
packet_judged h s (packet.Subscribe request) st is =
    other_out h s (packet.Subscribe request) st refl (λ x. refl) refl
packet_judged h s (packet.Unsubscribe request) st is =
    other_out h s (packet.Unsubscribe request) st refl (λ x. refl) refl
packet_judged h s packet.PingRequest st is = other_out h s packet.PingRequest st refl (λ x. refl) refl
packet_judged h s packet.Disconnect st is = other_out h s packet.Disconnect st refl (λ x. refl) refl
