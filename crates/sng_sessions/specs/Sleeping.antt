-- What happens to a client beside its messages: sleep, wake-up, what is sent again (MQTT-SN 1.2, 6.13 and
-- 6.14), and which of its own publishes are open (6.6).
use Rattle.std.specs.Prelude.{ℕ, if◌then◌else◌}
use Rattle.sng_states.specs.States.{is_active, is_asleep, is_due_messages}
use Rattle.sng_states.specs.OpenIds.{admitted}
use Rattle.sng_queue.specs.Exchanges.{repeat}
use Rattle.sng_queue.specs.Buffers.{Buffer}
use Rattle.sng_history.specs.Clients.{Client, asleep, awake, closed, drained, publish_released}
use Rattle.sng_history.specs.Entering.{heard_at}
use Rattle.sng_history.specs.Ticking.{is_tried_out}
use Rattle.sng_sessions.specs.declared.sleeping.Change.{Change}
use Rattle.sng_sessions.specs.declared.sleeping.Change.TheVariants.{Sleeps, Wakes, Drains, Closes, Repeats}
use Rattle.sng_sessions.specs.declared.sleeping.Change.TheVariants.{Receives, Releases}

-- it is heard, and where it is due messages it falls asleep
abbrev pub slept : ℕ → ℕ → Client → Client
slept clock duration x =
    if is_due_messages x.phase then asleep duration (heard_at clock x) else heard_at clock x

-- it is heard, and where it sleeps it is awake
abbrev pub woken : ℕ → Client → Client
woken clock x = if is_asleep x.phase then awake (heard_at clock x) else heard_at clock x

-- what is open was sent once more, where it may be
abbrev pub sent_more : ℕ → Buffer → Buffer
sent_more clock b = if is_tried_out b.exchange then b else record b { exchange = repeat b.exchange clock }

-- it is heard, and its publish at QoS 2 with this MsgId is open from now on
abbrev pub received_at : ℕ → ℕ → Client → Client
received_at clock msg_id x = record (heard_at clock x) { unreleased = admitted msg_id x.unreleased }

-- it is heard, and where it is active its publish with this MsgId is open no more
abbrev pub released_at : ℕ → ℕ → Client → Client
released_at clock msg_id x =
    if is_active x.phase then publish_released msg_id (heard_at clock x) else heard_at clock x

abbrev pub changed : ℕ → Change → Client → Client
changed clock (Sleeps duration) x = slept clock duration x
changed clock Wakes x = woken clock x
changed clock Drains x = drained x
changed clock Closes x = closed x
changed clock Repeats x = record x { buffer = sent_more clock x.buffer }
changed clock (Receives msg_id) x = received_at clock msg_id x
changed clock (Releases msg_id) x = released_at clock msg_id x
