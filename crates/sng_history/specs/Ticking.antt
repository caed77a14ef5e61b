-- What a tick of the clock makes wait for the broker: the wills of clients that were silent for too long, or
-- did not answer (MQTT-SN 1.2, 5.4.4, 6.3 and 6.13), and the PINGREQ that keeps the connection alive (MQTT
-- 3.1.1, 3.1.2.10 and 3.12).
use Rattle.std.specs.Prelude.{ℕ, ◌-◌, Bool, false, ◌&&◌, ◌||◌, nat_le, List, [], ◌∷◌, ◌++◌, if◌then◌else◌}
use Rattle.std.specs.Prelude.{Option, Some, None}
use Rattle.std.specs.List.{flat_map}
use Rattle.sng_queue.specs.Exchanges.{sending_of}
use Rattle.sng_queue.specs.declared.exchange.Exchange.{Exchange}
use Rattle.sng_queue.specs.declared.limits.TheConstants.{MAX_TRIES}
use Rattle.sng_states.specs.States.{has_session, takes_messages}
use Rattle.sng_states.specs.Silence.{overdue}
use Rattle.sng_wills.specs.declared.will.Will.{Will}
use Rattle.sng_grants.specs.Limits.{Limits}
use Rattle.sng_outbox.specs.declared.item.Item.{Item}
use Rattle.sng_outbox.specs.declared.item.Item.TheVariants as item
use Rattle.sng_outbox.specs.declared.item.Publication.{Publication}
use Rattle.sng_outbox.specs.declared.origin.Origin.TheVariants as origin
use Rattle.sng_book.specs.Denials.{is_allowed}
use Rattle.sng_book.specs.declared.decision.Decision.TheVariants as note
use Rattle.sng_book.specs.declared.out.Out.{Out}
use Rattle.sng_book.specs.declared.out.Out.TheVariants.{Note}
use Rattle.sng_history.specs.Clients.{Client}
use Rattle.sng_history.specs.Links.{Link}
use Rattle.sng_history.specs.Packets.{has_place}
use Rattle.sng_history.specs.Room.{room_in}
use Rattle.sng_history.specs.declared.limits.TheConstants.{PING_MS, RETRY_MS}

-- ---- the clients

-- the client has a session, and was silent for longer than its Duration allows
abbrev pub is_overdue : ℕ → Client → Bool
is_overdue clock x = has_session x.phase && overdue x.duration x.heard clock

-- what is open with the client was sent last as long ago as the answer may take (MQTT-SN 1.2, 6.13: T_retry)
abbrev pub is_unanswered : ℕ → Option Exchange → Bool
is_unanswered clock None = false
is_unanswered clock (Some open_one) = nat_le RETRY_MS (clock - (sending_of open_one).sent)

abbrev pub is_repeating : ℕ → Client → Bool
is_repeating clock x = takes_messages x.phase && is_unanswered clock x.buffer.exchange

-- it was sent again as often as it may be (6.13: N_retry)
abbrev pub is_tried_out : Option Exchange → Bool
is_tried_out None = false
is_tried_out (Some open_one) = nat_le MAX_TRIES (sending_of open_one).tries

-- the client is lost then
abbrev pub is_lost_at : ℕ → Client → Bool
is_lost_at clock x = is_overdue clock x || (is_repeating clock x && is_tried_out x.buffer.exchange)

-- its will, as a publish of it
abbrev pub will_of : List ℕ → Option Will → List Publication
will_of id None = []
will_of id (Some will) =
    record {
      origin = origin.Client id;
      name = will.topic;
      payload = will.payload;
      qos = will.qos;
      retain = will.retain;
    } ∷ []

-- what is published for a client that is lost as the clock is at this
abbrev pub testament : ℕ → Client → List Publication
testament clock x = if is_lost_at clock x then will_of x.id x.wills.will else []

abbrev pub testaments : ℕ → List Client → List Publication
testaments clock xs = flat_map (testament clock) xs

-- the link once the item waits
abbrev pub with_item : Link → Item → Link
with_item link one = record link { waiting = link.waiting ++ one ∷ [] }

-- a publish waits where there is place for it
abbrev pub placed : Limits → Link → Publication → Link
placed limits link p = if is_allowed (room_in limits link p.qos) then with_item link (item.Publish p) else link

abbrev pub all_placed : Limits → Link → List Publication → Link
all_placed limits link [] = link
all_placed limits link (p ∷ ps) = all_placed limits (placed limits link p) ps

-- ---- the link

-- the link once the wills of the clients wait that are lost
abbrev pub with_wills : Limits → Link → ℕ → List Client → Link
with_wills limits link clock xs = all_placed limits link (testaments clock xs)

-- a PINGREQ is due as long after the connection began, or the last one, as the keep alive of the connection
-- allows
abbrev pub is_ping_due : Bool → Link → ℕ → Bool
is_ping_due up link clock = up && nat_le PING_MS (clock - link.pinged)

-- it waits where there is place, and else it is dropped and noted
abbrev pub pinged : Limits → Bool → Link → ℕ → Link
pinged limits up link clock =
    if is_ping_due up link clock && has_place limits link then record (with_item link item.Ping) { pinged = clock }
    else link

abbrev pub ping_dropped : Limits → Bool → Link → ℕ → List Out
ping_dropped limits up link clock =
    if is_ping_due up link clock then (if has_place limits link then [] else Note note.Outbox ∷ []) else []

-- the link after the tick
abbrev pub ticked : Limits → Bool → Link → ℕ → List Client → Link
ticked limits up link clock xs = pinged limits up (with_wills limits link clock xs) clock
