-- What a message of the broker lets out for each client to whom it is due, and what is kept of it, with no
-- notes.
use Rattle.std.specs.Prelude.{ℕ, suc, ◌<◌, nat_le, List, [], ◌∷◌, ◌++◌, length, if◌then◌else◌, Option, Some}
use Rattle.std.specs.Prelude.{None}
use Rattle.std.specs.Option.{option_map}
use Rattle.sng_text.specs.declared.qos.Qos.{Qos}
use Rattle.sng_grants.specs.declared.policy.Policy.{Policy}
use Rattle.sng_states.specs.States.{is_due_messages}
use Rattle.sng_fan.specs.Greatest.{greatest_qos}
use Rattle.sng_queue.specs.Messages.{Message, content, message_of, is_sendable}
use Rattle.sng_queue.specs.declared.limits.TheConstants.{MAX_QUEUED}
use Rattle.mqtt_frames.specs.declared.packet.Publish.{Publish}
use Rattle.sng_book.specs.declared.decision.Decision.TheVariants as note
use Rattle.sng_book.specs.declared.outcome.Place.TheVariants as place
use Rattle.sng_book.specs.declared.outcome.Denial.TheVariants.{Room}
use Rattle.sng_book.specs.declared.outcome.RoomDenial.TheVariants.{Full, TooLong}
use Rattle.sng_book.specs.declared.outcome.Outcome.TheVariants.{Denied}
use Rattle.sng_book.specs.declared.out.Out.{Out}
use Rattle.sng_book.specs.declared.out.Out.TheVariants.{Note}
use Rattle.sng_history.specs.Arriving.{lesser, sent_at}
use Rattle.sng_history.specs.Clients.{Client}
use Rattle.sng_history.specs.Outgoing.{is_free}
use Rattle.sng_sessions.specs.Moving.{moved_at}
use Rattle.sng_sessions.specs.Standing.{client_at}
use Rattle.sng_standing.specs.declared.holder.Holder.{Holder}
use Rattle.sng_sessions.specs.Handed.{delivered}
use Rattle.sng_sessions.specs.declared.handing.Opens.{Opens}
use Rattle.sng_sessions.specs.declared.handing.Opens.TheVariants.{Nothing}
use Rattle.sng_turns.specs.declared.deliver.Arrival.{Arrival}
use Rattle.sng_turns.specs.declared.deliver.Incoming.{Incoming}
use Rattle.sng_turns.specs.declared.deliver.Kept.{Kept}
use Rattle.sng_turns.specs.HandingOver.{fixed_id, is_open, message_outs, message_opens}

-- the message of a PUBLISH
abbrev pub incoming : Policy → Publish → Incoming
incoming policy p =
    record {
      content = content p.name p.payload p.retain;
      qos = sent_at p.packet_id;
      fixed = fixed_id policy p.name;
    }

-- the QoS at which it is due to a client
abbrev pub due_at : Incoming → Client → Option Qos
due_at i x =
    if is_due_messages x.phase then option_map (lesser i.qos) (greatest_qos x.filters i.content.name) else None

abbrev pub message_at : Incoming → Qos → Message
message_at i qos = message_of i.content qos

-- as it is due to a client
abbrev pub arrived : Arrival → Message
arrived a = message_at a.message.now a.qos

-- what is let out as it comes
abbrev pub arrive_outs : Policy → Message → Client → List Out
arrive_outs policy m x =
    if is_sendable m.name m.payload
    then (if nat_le MAX_QUEUED (length x.buffer.waiting)
    then Note (note.Hand x.id m.name (Denied (Room (Full place.Queue)))) ∷ []
    else (if is_free x then message_outs policy x.id x.address x.ids 0 x.number m else []))
    else Note (note.Hand x.id m.name (Denied (Room TooLong))) ∷ []

-- what is kept where it took its turn, and where it waits
abbrev pub kept_opened : ℕ → Message → Opens → List Kept
kept_opened place m opens =
    if is_open opens then record { place = place; message = m; opens = opens } ∷ [] else []

abbrev pub arrive_kept : Policy → ℕ → Message → Client → List Kept
arrive_kept policy place m x =
    if is_sendable m.name m.payload
    then (if nat_le MAX_QUEUED (length x.buffer.waiting)
    then []
    else (if is_free x
    then kept_opened place m (message_opens policy x.id x.ids 0 m)
    else record { place = place; message = m; opens = Nothing } ∷ []))
    else []

abbrev pub due_outs : Policy → Incoming → Client → Option Qos → List Out
due_outs policy i x None = []
due_outs policy i x (Some qos) = arrive_outs policy (message_at i qos) x

abbrev pub due_kept : Policy → ℕ → Incoming → Client → Option Qos → List Kept
due_kept policy place i x None = []
due_kept policy place i x (Some qos) = arrive_kept policy place (message_at i qos) x

-- what is let out for a client, and kept for it at its place
abbrev pub deliver_outs : Policy → Incoming → Client → List Out
deliver_outs policy i x = due_outs policy i x (due_at i x)

abbrev pub deliver_kept : Policy → Incoming → ℕ → Client → List Kept
deliver_kept policy i place x = due_kept policy place i x (due_at i x)

-- the same for all clients, the first of which stands at this place
abbrev pub all_outs : Policy → Incoming → List Client → List Out
all_outs policy i [] = []
all_outs policy i (x ∷ xs) = deliver_outs policy i x ++ all_outs policy i xs

abbrev pub all_kept : Policy → Incoming → ℕ → List Client → List Kept
all_kept policy i place [] = []
all_kept policy i place (x ∷ xs) = deliver_kept policy i place x ++ all_kept policy i (suc place) xs

-- the same for a client whose greatest QoS among its filters that match is this
abbrev pub held_outs : Policy → Incoming → Client → Qos → List Out
held_outs policy i x qos =
    if is_due_messages x.phase then arrive_outs policy (message_at i (lesser i.qos qos)) x else []

abbrev pub held_kept : Policy → ℕ → Incoming → Client → Qos → List Kept
held_kept policy place i x qos =
    if is_due_messages x.phase then arrive_kept policy place (message_at i (lesser i.qos qos)) x else []

-- and for such clients in order, each at its place among all
abbrev pub holders_outs : Policy → Incoming → List Client → List Holder → List Out
holders_outs policy i xs [] = []
holders_outs policy i xs (h ∷ holders) =
    held_outs policy i (client_at xs h.client) h.qos ++ holders_outs policy i xs holders

abbrev pub holders_kept : Policy → Incoming → List Client → List Holder → List Kept
holders_kept policy i xs [] = []
holders_kept policy i xs (h ∷ holders) =
    held_kept policy h.client i (client_at xs h.client) h.qos ++ holders_kept policy i xs holders

-- each is one of the clients
abbrev pub AreWithin : List Client → List Holder → Type 0
AreWithin xs [] = Unit {0}
AreWithin xs (h ∷ holders) = (h.client < length xs) × AreWithin xs holders

-- what is kept joins what waits for its client, one after another
abbrev pub keep_all : ℕ → List Kept → List Client → List Client
keep_all clock [] xs = xs
keep_all clock (k ∷ kept) xs = keep_all clock kept (moved_at k.place (delivered clock k.message k.opens) xs)
