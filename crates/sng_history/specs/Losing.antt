-- The notes of a client at a tick: that it is lost, or that what is open with it is sent again (MQTT-SN 1.2,
-- 5.4.4, 6.3 and 6.13).
use Rattle.std.specs.Prelude.{ℕ, List, [], ◌∷◌, ◌++◌, if◌then◌else◌, Option, Some, None}
use Rattle.std.specs.Str.{bytes_eq}
use Rattle.sng_grants.specs.Limits.{Limits}
use Rattle.sng_grants.specs.declared.policy.Policy.{Policy}
use Rattle.sng_queue.specs.Messages.{Message}
use Rattle.sng_queue.specs.Buffers.{Buffer, settle}
use Rattle.sng_queue.specs.declared.exchange.Exchange.{Exchange}
use Rattle.sng_queue.specs.declared.exchange.Exchange.TheVariants.{Announcing, Acknowledging}
use Rattle.sng_outbox.specs.declared.item.Publication.{Publication}
use Rattle.sng_book.specs.declared.decision.Decision.{Decision}
use Rattle.sng_book.specs.declared.decision.Decision.TheVariants as note
use Rattle.sng_book.specs.declared.decision.Who.TheVariants as who
use Rattle.sng_book.specs.declared.outcome.Outcome.{Outcome}
use Rattle.sng_book.specs.declared.outcome.Outcome.TheVariants.{Allowed, Denied}
use Rattle.sng_history.specs.Clients.{Client, closed}
use Rattle.sng_history.specs.Handing.{front}
use Rattle.sng_history.specs.Links.{Link}
use Rattle.sng_history.specs.Outgoing.{all_gone, receive, handed_over}
use Rattle.sng_history.specs.Room.{room_in}
use Rattle.sng_history.specs.Ticking.{is_lost_at, is_repeating, will_of, testaments, all_placed}

-- the clients before the one with this id
abbrev pub before : List ℕ → List Client → List Client
before id [] = []
before id (x ∷ xs) = if bytes_eq id x.id then [] else x ∷ before id xs

-- a publish for which there is no place is noted
abbrev pub unplaced : List ℕ → Publication → Outcome → List Decision
unplaced id p Allowed = []
unplaced id p (Denied rule) = note.Will (who.Client id) (Some p.name) (Denied rule) ∷ []

abbrev pub will_dropped : Limits → Link → List ℕ → List Publication → List Decision
will_dropped limits link id [] = []
will_dropped limits link id (p ∷ ps) = unplaced id p (room_in limits link p.qos)

-- the notes of a client that is lost: so, what waited for it, and that its will found no place in the link as
-- those of the clients before it left it
abbrev pub lost_notes : Limits → Link → Client → List Decision
lost_notes limits link x =
    note.Lost x.id
    ∷ (all_gone x.id x.buffer.waiting ++ will_dropped limits link x.id (will_of x.id x.wills.will))

-- the message that an exchange is about: it announced the front, or handed another one over
abbrev pub message_open : Buffer → Exchange → Option Message
message_open b (Announcing sent) = front b
message_open b (Acknowledging sent k m) = Some m

-- it is judged again. Allowed, it is sent again; denied, the exchange is over, with which an announced front
-- is settled, and what may leave then leaves
abbrev pub judged_again : Policy → Client → Exchange → Message → Outcome → List Decision
judged_again policy x open_one m Allowed = note.Retry x.id m.name Allowed ∷ []
judged_again policy x (Announcing sent) m (Denied rule) =
    note.Hand x.id m.name (Denied rule) ∷ handed_over policy (record x { buffer = settle x.buffer })
judged_again policy x (Acknowledging sent k one) m (Denied rule) =
    note.Retry x.id m.name (Denied rule) ∷ handed_over policy (closed x)

abbrev pub message_again : Policy → Client → Exchange → Option Message → List Decision
message_again policy x open_one None = []
message_again policy x open_one (Some m) = judged_again policy x open_one m (receive policy x.id m.name)

abbrev pub exchange_again : Policy → Client → Option Exchange → List Decision
exchange_again policy x None = []
exchange_again policy x (Some open_one) = message_again policy x open_one (message_open x.buffer open_one)

-- what is open and was not answered in time is sent again
abbrev pub again_notes : Policy → ℕ → Client → List Decision
again_notes policy clock x = if is_repeating clock x then exchange_again policy x x.buffer.exchange else []

-- the notes that a tick makes of a client of these
abbrev pub tick_notes : Policy → Link → ℕ → List Client → Client → List Decision
tick_notes policy link clock xs x =
    if is_lost_at clock x
    then lost_notes policy.limits (all_placed policy.limits link (testaments clock (before x.id xs))) x
    else again_notes policy clock x
