-- What the rows show of the frame that is open with a client: by which topic id a message was handed over
-- first, when it was sent last, and how often it was sent again (MQTT-SN 1.2, 6.12 and 6.13).
use Rattle.std.specs.Prelude.{ℕ, ◌+◌, ◌==◌, ◌&&◌, List, [], ◌∷◌, length, if◌then◌else◌, Option, Some, None}
use Rattle.std.specs.Str.{bytes_eq}
use Rattle.sng_grants.specs.declared.policy.Policy.{Policy}
use Rattle.sng_grants.specs.Topics.{id_of}
use Rattle.sng_queue.specs.declared.kind.TopicIdKind.{TopicIdKind}
use Rattle.sng_queue.specs.declared.kind.TopicIdKind.TheVariants.{Normal, Predefined, Short}
use Rattle.sng_book.specs.Denials.{is_allowed}
use Rattle.sng_book.specs.declared.decision.Decision.{Decision}
use Rattle.sng_book.specs.declared.decision.Decision.TheVariants as note
use Rattle.sng_book.specs.declared.out.Out.{Out}
use Rattle.sng_book.specs.declared.out.Out.TheVariants.{Send, Wire, Note}
use Rattle.sng_book.specs.declared.row.Row.{Row}
use Rattle.sng_history.specs.Requests.{id_in}
use Rattle.sng_laws.specs.Views.{last_policy, clock_at}
use Rattle.sng_laws.specs.ViewsMessages.{Message, message_at, subscribe_in}
use Rattle.sng_laws.specs.ViewsClients.{names_by, names_told, id_told}

-- the frame that was sent last to a client and may be sent again: the clock of its last sending, how often it
-- was sent again, and of a message the topic id by which it was handed over
pub record Last : Type 0 where
  pub at : ℕ
  pub tries : ℕ
  pub kind : TopicIdKind
  pub topic_id : ℕ

abbrev pub never : Last
never = record { at = 0; tries = 0; kind = Normal; topic_id = 0 }

-- the topic id by which a message under the name is handed over to a client that was told ids of these: its
-- short name where it has two octets, else the least predefined id, else the one that the client was told
abbrev pub predefined_or : Option ℕ → ℕ → TopicIdKind × ℕ
predefined_or (Some id) told = (Predefined, id)
predefined_or None told = (Normal, told)

abbrev pub topic_by : Policy → List (List ℕ) → List ℕ → TopicIdKind × ℕ
topic_by policy told name =
    if length name == 2 then (Short, id_in name)
    else predefined_or (id_of policy.topics name) (id_told name told)

abbrev pub sent_first : ℕ → TopicIdKind × ℕ → Last
sent_first clock topic = record { at = clock; tries = 0; kind = topic.0; topic_id = topic.1 }

-- a message that is handed over, and an announcement, is sent for the first time, and by a `retry` that is
-- allowed what is open is sent again
abbrev pub last_by : Policy → ℕ → List (List ℕ) → List ℕ → Decision → Last → Last
last_by policy clock told id (note.Announce client name) now =
    if bytes_eq id client then sent_first clock (Normal, 0) else now
last_by policy clock told id (note.Hand client name outcome) now =
    if bytes_eq id client && is_allowed outcome then sent_first clock (topic_by policy told name) else now
last_by policy clock told id (note.Retry client name outcome) now =
    if bytes_eq id client && is_allowed outcome then record now { at = clock; tries = now.tries + 1 } else now
last_by policy clock told id other now = now

-- along the outs of a row, with the names that the client was told ids of at each place
abbrev pub last_after : Policy → ℕ → Option Message → List ℕ → List Out → List (List ℕ) → Last → Last
last_after policy clock m id [] told now = now
last_after policy clock m id (Note said ∷ outs) told now =
    last_after policy clock m id outs (names_by (subscribe_in m) id said told)
    (last_by policy clock told id said now)
last_after policy clock m id (Send to datagram ∷ outs) told now = last_after policy clock m id outs told now
last_after policy clock m id (Wire packet ∷ outs) told now = last_after policy clock m id outs told now

abbrev pub last_of : List ℕ → List Row → Last
last_of id [] = never
last_of id (row ∷ earlier) =
    let rows = row ∷ earlier in
    last_after (last_policy rows) (clock_at rows) (message_at row.event) id row.outs
    (names_told id earlier) (last_of id earlier)
