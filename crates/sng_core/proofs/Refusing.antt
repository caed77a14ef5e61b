-- What a packet of the broker lets out and leads to, as code makes it.
use Rattle.std.proofs.Common.{◌≡◌, ℕ, Bool, true, false, List, [], ◌∷◌, ◌++◌, map}
use Rattle.std.proofs.Common.{refl, ap, sym, ◌∙◌, subst}
use Rattle.std.specs.Prelude.{if◌then◌else◌, Option, Some, None}
use Rattle.std.specs.List.{flat_map}
use Rattle.std.proofs.lemmas.List.{append-nil}
use Rattle.mqtt_frames.specs.declared.packet.Packet.{Packet}
use Rattle.mqtt_frames.specs.declared.packet.Packet.TheVariants as packet
use Rattle.mqtt_frames.specs.declared.packet.SubscribeCode.{SubscribeCode}
use Rattle.mqtt_frames.specs.declared.packet.SubscribeCode.TheVariants as code
use Rattle.sng_book.specs.declared.decision.Decision.TheVariants as note
use Rattle.sng_book.specs.declared.outcome.Denial.TheVariants.{Peer}
use Rattle.sng_book.specs.declared.outcome.PeerDenial.TheVariants.{BrokerRefused}
use Rattle.sng_book.specs.declared.outcome.Outcome.TheVariants.{Denied}
use Rattle.sng_book.specs.declared.out.Out.{Out}
use Rattle.sng_history.specs.Causes.{ByPacket}
use Rattle.sng_history.specs.Arriving.{joins}
use Rattle.sng_history.specs.Clients.{Around, Client, message_due, start_by, notes_by, without}
use Rattle.sng_history.specs.Links.{Wanted, wants}
use Rattle.sng_history.specs.Outgoing.{delivered_notes}
use Rattle.sng_history.specs.Packets.{Answer, Delivers, Acknowledges, Grants, Refuses, Confirms, Strange}
use Rattle.sng_history.specs.Packets.{subscribe_answer, answer_of, answered, answer_outs}
use Rattle.sng_history.specs.Packets.{refused_filter}
use Rattle.sng_history.specs.Standing.{holds, is_held, still_wanted}
use Rattle.sng_history.specs.State.{State, around}
use Rattle.sng_history.specs.Whole.{spell}
use Rattle.sng_history.specs.Lawful.{refused_end, fixed_for}
use Rattle.sng_history.specs.Steps.{client_next, clients_next}
use Rattle.sng_history.specs.Good.{Each, AtRest, Good}
use Rattle.sng_history.proofs.SaysParts.{part_for}
use Rattle.sng_history.proofs.WantedKept.{same_wants, moved_wanted}
use Rattle.sng_core.specs.Refusing.{end_note, refused_notes, refused_clients}
use Rattle.sng_core.specs.Refusing.{delivered_outs, delivered_clients, packet_outs, packet_link, packet_next}
use Rattle.sng_core.proofs.Plain.{Busy, plain_next, plain_moves, plain_row}
use Rattle.sng_core.proofs.DeliveringClient.{none_handed}
use Rattle.sng_core.proofs.DeliveringRows.{publish_outs, publish_next}
use Rattle.sng_core.proofs.Rows.{Makes, makes}
use Rattle.sng_core.proofs.RefusedFilters.{without_none, refused_still}

-- ---- a packet that brings no message

abbrev brings_none : Answer → Bool
brings_none (Delivers p) = false
brings_none (Acknowledges packet_id) = true
brings_none (Grants packet_id) = true
brings_none (Refuses packet_id) = true
brings_none Confirms = true
brings_none Strange = true

subscribe_none : (packet_id : ℕ) (codes : List SubscribeCode)
    → brings_none (subscribe_answer packet_id codes) ≡ true
subscribe_none packet_id [] = refl
subscribe_none packet_id (code.Refused ∷ codes) = refl
subscribe_none packet_id (code.Granted qos ∷ codes) = refl

none_due : (a : Answer) (x : Client) → brings_none a ≡ true → message_due a x ≡ None
none_due (Delivers p) x none = absurd cc
none_due (Acknowledges packet_id) x none = refl
none_due (Grants packet_id) x none = refl
none_due (Refuses packet_id) x none = refl
none_due Confirms x none = refl
none_due Strange x none = refl

none_out : (s : State) (a : Answer) → brings_none a ≡ true → delivered_outs s a ≡ []
none_out s (Delivers p) none = absurd cc
none_out s (Acknowledges packet_id) none = refl
none_out s (Grants packet_id) none = refl
none_out s (Refuses packet_id) none = refl
none_out s Confirms none = refl
none_out s Strange none = refl

none_moves : (s : State) (a : Answer) (xs : List Client) → brings_none a ≡ true
    → delivered_clients s a xs ≡ xs
none_moves s (Delivers p) xs none = absurd cc
none_moves s (Acknowledges packet_id) xs none = refl
none_moves s (Grants packet_id) xs none = refl
none_moves s (Refuses packet_id) xs none = refl
none_moves s Confirms xs none = refl
none_moves s Strange xs none = refl

-- a client has no note but that a subscription ends,
ends_alone : (s : State) (p : Packet) (x : Client) → brings_none (answer_of p) ≡ true → AtRest x
    → fixed_for s (ByPacket p) x ≡ refused_end x (refused_filter s.link (answer_of p))
ends_alone s p x none rest =
    let ends = refused_end x (refused_filter s.link (answer_of p)) in
    ap (λ due. ends ++ delivered_notes s.policy due x) (none_due (answer_of p) x none)
    ∙ (ap (λ notes. ends ++ notes) (none_handed s.policy x rest) ∙ append-nil ends)

-- and nothing joins what waits for it
starts_same : (s : State) (p : Packet) (x : Client) → brings_none (answer_of p) ≡ true
    → start_by (around s (ByPacket p)) x ≡ x
starts_same s p x none =
    ap (λ due. let y : Client = record x { buffer = joins due x.buffer } in y) (none_due (answer_of p) x none)

-- it stands as it did, with what waits and is open
end_busy : (a : Around) (o : Option (List ℕ)) (x : Client) → Busy x → Busy (notes_by a (refused_end x o) x)
end_busy a None x busy = busy
end_busy a (Some text) x busy = by_held (holds text x)
  where
    by_held : (held : Bool) → Busy
        (notes_by a (if held then note.End x.id text (Denied (Peer BrokerRefused)) ∷ [] else []) x)
    by_held true = busy
    by_held false = busy

moves_alone : (s : State) (p : Packet) (x : Client) → brings_none (answer_of p) ≡ true → AtRest x
    → plain_next s (ByPacket p) x
    ≡ notes_by (around s (ByPacket p)) (refused_end x (refused_filter s.link (answer_of p))) x
moves_alone s p x none rest =
    let a = around s (ByPacket p) in
    ap (λ y. notes_by a (fixed_for s (ByPacket p) x) y) (starts_same s p x none)
    ∙ ap (λ notes. notes_by a notes x) (ends_alone s p x none rest)

busy_alone : (s : State) (p : Packet) (x : Client) → brings_none (answer_of p) ≡ true → AtRest x
    → Busy (plain_next s (ByPacket p) x)
busy_alone s p x none rest =
    subst Busy (sym (moves_alone s p x none rest))
    (end_busy (around s (ByPacket p)) (refused_filter s.link (answer_of p)) x rest.busy)

-- ---- the row

abbrev says_so : State → Packet → Option (List ℕ) → Client → List Out
says_so s p o x = spell (around s (ByPacket p)) [] x (refused_end x o)

part_alone : (s : State) (p : Packet) (x : Client) → brings_none (answer_of p) ≡ true → AtRest x
    → part_for s (ByPacket p) [] x ≡ says_so s p (refused_filter s.link (answer_of p)) x
part_alone s p x none rest =
    let a = around s (ByPacket p) in
    plain_row s (ByPacket p) [] x (busy_alone s p x none rest)
    ∙ (ap (λ y. spell a [] y (fixed_for s (ByPacket p) x)) (starts_same s p x none)
    ∙ ap (spell a [] x) (ends_alone s p x none rest))

parts_alone : (s : State) (p : Packet) (xs : List Client) → brings_none (answer_of p) ≡ true → Each AtRest xs
    → flat_map (part_for s (ByPacket p) []) xs
    ≡ flat_map (says_so s p (refused_filter s.link (answer_of p))) xs
parts_alone s p [] none rest = refl
parts_alone s p (x ∷ xs) none rest =
    ap (λ outs. outs ++ flat_map (part_for s (ByPacket p) []) xs) (part_alone s p x none rest.0)
    ∙ ap (λ outs. says_so s p (refused_filter s.link (answer_of p)) x ++ outs)
    (parts_alone s p xs none rest.1)

said_some : (s : State) (p : Packet) (text : List ℕ) (x : Client) (b : Bool) → holds text x ≡ b
    → says_so s p (Some text) x ≡ end_note text x
said_some s p text x true is = rw is refl
said_some s p text x false is = rw is refl

nobody_says : (f : Client → List Out) (xs : List Client) → ((x : Client) → f x ≡ []) → flat_map f xs ≡ []
nobody_says f [] none = refl
nobody_says f (x ∷ xs) none = rw (none x) (nobody_says f xs none)

each_says : (f g : Client → List Out) (xs : List Client) → ((x : Client) → f x ≡ g x)
    → flat_map f xs ≡ flat_map g xs
each_says f g [] same = refl
each_says f g (x ∷ xs) same = rw (same x, each_says f g xs same) refl

rows_are : (s : State) (p : Packet) (o : Option (List ℕ))
    → flat_map (says_so s p o) s.clients ≡ refused_notes o s.clients
rows_are s p None = nobody_says (says_so s p None) s.clients (λ x. refl)
rows_are s p (Some text) =
    each_says (says_so s p (Some text)) (end_note text) s.clients
    (λ x. said_some s p text x (holds text x) refl)

abbrev moved_so : State → Packet → Option (List ℕ) → Client → Client
moved_so s p o x = notes_by (around s (ByPacket p)) (refused_end x o) x

moved_alone : (s : State) (p : Packet) (x : Client) → brings_none (answer_of p) ≡ true → AtRest x
    → client_next s (ByPacket p) x ≡ moved_so s p (refused_filter s.link (answer_of p)) x
moved_alone s p x none rest =
    plain_moves s (ByPacket p) x (busy_alone s p x none rest) ∙ moves_alone s p x none rest

all_alone : (s : State) (p : Packet) (xs : List Client) → brings_none (answer_of p) ≡ true → Each AtRest xs
    → map (client_next s (ByPacket p)) xs ≡ map (moved_so s p (refused_filter s.link (answer_of p))) xs
all_alone s p [] none rest = refl
all_alone s p (x ∷ xs) none rest =
    ap (λ y. y ∷ map (client_next s (ByPacket p)) xs) (moved_alone s p x none rest.0)
    ∙ ap (λ ys. moved_so s p (refused_filter s.link (answer_of p)) x ∷ ys) (all_alone s p xs none rest.1)

without_so : (s : State) (p : Packet) (text : List ℕ) (x : Client) (b : Bool) → holds text x ≡ b
    → moved_so s p (Some text) x ≡ without text x
without_so s p text x true is = rw is refl
without_so s p text x false is =
    rw is (sym (ap (λ held. record x { filters = held }) (without_none x.filters text is)))

each_moves : (f g : Client → Client) (xs : List Client) → ((x : Client) → f x ≡ g x) → map f xs ≡ map g xs
each_moves f g [] same = refl
each_moves f g (x ∷ xs) same = rw (same x, each_moves f g xs same) refl

no_moves : (f : Client → Client) (xs : List Client) → ((x : Client) → f x ≡ x) → map f xs ≡ xs
no_moves f [] same = refl
no_moves f (x ∷ xs) same = rw (same x, no_moves f xs same) refl

clients_are : (s : State) (p : Packet) (o : Option (List ℕ))
    → map (moved_so s p o) s.clients ≡ refused_clients o s.clients
clients_are s p None = no_moves (moved_so s p None) s.clients (λ x. refl)
clients_are s p (Some text) =
    each_moves (moved_so s p (Some text)) (without text) s.clients
    (λ x. without_so s p text x (holds text x) refl)

all_clients : (s : State) (p : Packet) → brings_none (answer_of p) ≡ true → Each AtRest s.clients
    → clients_next s (ByPacket p) ≡ refused_clients (refused_filter s.link (answer_of p)) s.clients
all_clients s p none rest =
    ap (map (client_next s (ByPacket p))) (append-nil s.clients)
    ∙ (all_alone s p s.clients none rest ∙ clients_are s p (refused_filter s.link (answer_of p)))

abbrev with_clients : State → Answer → List Client → State
with_clients s a xs =
    record s {
      link = record (packet_link s a) { wanted = still_wanted xs (answered s.link a).wanted };
      clients = xs;
    }

abbrev with_wanted : State → Answer → List Wanted → State
with_wanted s a wanted =
    record s {
      link = record (packet_link s a) { wanted = wanted };
      clients = refused_clients (refused_filter s.link a) s.clients;
    }

wanted_are_held : (s : State) (p : Packet) → Good s → (text : List ℕ)
    → wants (answered s.link (answer_of p)).wanted text ≡ true → is_held s.clients text ≡ true
wanted_are_held s p good text is =
    sym (good.wanted_held text) ∙ (sym
    (same_wants (answered s.link (answer_of p)).wanted s.link.wanted (moved_wanted s (ByPacket p)) text)
    ∙ is)

other_row : (s : State) (p : Packet) → brings_none (answer_of p) ≡ true → Good s
    → Makes s (ByPacket p) (packet_outs s (answer_of p)) (packet_next s (answer_of p))
other_row s p none good =
    let a = answer_of p in
    let o = refused_filter s.link a in
    makes s (ByPacket p) (packet_outs s a) (packet_next s a) good
    (ap (λ outs. refused_notes o s.clients ++ (outs ++ answer_outs s.policy.limits s.up s.link a))
    (none_out s a none)
    ∙ sym (ap (λ outs. outs ++ answer_outs s.policy.limits s.up s.link a)
    (parts_alone s p s.clients none good.rest ∙ rows_are s p o)))
    (ap (λ xs. record (packet_next s a) { clients = xs }) (none_moves s a (refused_clients o s.clients) none)
    ∙ sym (ap (with_clients s a) (all_clients s p none good.rest)
    ∙ ap (with_wanted s a) (refused_still s a o (wanted_are_held s p good))))

pub packet_row : (s : State) (p : Packet) → Good s
    → Makes s (ByPacket p) (packet_outs s (answer_of p)) (packet_next s (answer_of p))
packet_row s (packet.Publish p) good =
    makes s (ByPacket (packet.Publish p)) (packet_outs s (Delivers p)) (packet_next s (Delivers p)) good
    (publish_outs s p good) (publish_next s p good)
packet_row s (packet.PublishAck packet_id) good = other_row s (packet.PublishAck packet_id) refl good
packet_row s (packet.SubscribeAck answer) good =
    other_row s (packet.SubscribeAck answer) (subscribe_none answer.packet_id answer.codes) good
packet_row s (packet.UnsubscribeAck packet_id) good = other_row s (packet.UnsubscribeAck packet_id) refl good
packet_row s packet.PingResponse good = other_row s packet.PingResponse refl good
packet_row s (packet.Connect connect) good = other_row s (packet.Connect connect) refl good
packet_row s (packet.ConnectAck answer) good = other_row s (packet.ConnectAck answer) refl good
packet_row s (packet.Subscribe request) good = other_row s (packet.Subscribe request) refl good
packet_row s (packet.Unsubscribe request) good = other_row s (packet.Unsubscribe request) refl good
packet_row s packet.PingRequest good = other_row s packet.PingRequest refl good
packet_row s packet.Disconnect good = other_row s packet.Disconnect refl good
