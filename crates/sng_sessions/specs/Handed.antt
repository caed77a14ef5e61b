-- What a hand-over does to its client, and what answers to announcements and messages do (MQTT-SN 1.2, 6.5,
-- 6.6 and 6.10).
use Rattle.std.specs.Prelude.{ℕ, zero, suc, ◌++◌, nat_le, [], ◌∷◌, length, if◌then◌else◌}
use Rattle.sng_ids.specs.Ids.{is_full_for, confirmed}
use Rattle.sng_queue.specs.Messages.{Message}
use Rattle.sng_queue.specs.Buffers.{Buffer, settle, await_ack}
use Rattle.sng_queue.specs.declared.limits.TheConstants.{MAX_QUEUED}
use Rattle.sng_history.specs.Handing.{number_after}
use Rattle.sng_history.specs.Clients.{Client, announced, closed}
use Rattle.sng_history.specs.Entering.{heard_at}
use Rattle.sng_sessions.specs.declared.handing.Opens.{Opens}
use Rattle.sng_sessions.specs.declared.handing.Opens.TheVariants.{Nothing, Announcing, Awaiting}
use Rattle.sng_sessions.specs.declared.handing.Handed.{Handed}

-- an exchange begins with the front; an id is announced only where there is one
abbrev pub opened : ℕ → Opens → Client → Client
opened clock Nothing x = x
opened clock (Announcing name) x = if is_full_for name x.ids then x else announced clock name x
opened clock (Awaiting kind id) x =
    record x {
      number = number_after x.number;
      buffer = await_ack x.buffer kind id (number_after x.number) clock;
    }

-- so many messages are settled, the oldest first
abbrev pub settled_times : ℕ → Buffer → Buffer
settled_times zero b = b
settled_times (suc count) b = settled_times count (settle b)

-- a hand-over is carried out
abbrev pub handed_by : ℕ → Handed → Client → Client
handed_by clock h x = opened clock h.opens (record x { buffer = settled_times h.settled x.buffer })

-- a message comes to wait, where fewer wait than may
abbrev pub pushed : Message → Buffer → Buffer
pushed m b = if nat_le MAX_QUEUED (length b.waiting) then b else record b { waiting = b.waiting ++ m ∷ [] }

-- and an exchange begins
abbrev pub delivered : ℕ → Message → Opens → Client → Client
delivered clock m opens x = opened clock opens (record x { buffer = pushed m x.buffer })

-- the client is heard, knows the id, and has no exchange open any more
abbrev pub answered : ℕ → ℕ → Client → Client
answered clock id x = record (closed (heard_at clock x)) { ids = confirmed id x.ids }
