-- How a client is lost, with no notes (MQTT-SN 1.2, 5.4.4, 6.3 and 6.13): what is let out, and where its will
-- finds its place.
use Rattle.std.specs.Prelude.{ℕ, List, [], ◌∷◌, ◌++◌, Option, Some, None}
use Rattle.sng_grants.specs.Limits.{Limits}
use Rattle.sng_wills.specs.declared.will.Will.{Will}
use Rattle.sng_outbox.specs.declared.item.Publication.{Publication}
use Rattle.sng_outbox.specs.declared.origin.Origin.TheVariants as origin
use Rattle.sng_book.specs.declared.decision.Decision.TheVariants as note
use Rattle.sng_book.specs.declared.decision.Who.TheVariants as who
use Rattle.sng_book.specs.declared.outcome.Outcome.{Outcome}
use Rattle.sng_book.specs.declared.outcome.Outcome.TheVariants.{Allowed, Denied}
use Rattle.sng_book.specs.declared.out.Out.{Out}
use Rattle.sng_book.specs.declared.out.Out.TheVariants.{Note}
use Rattle.sng_history.specs.Clients.{Client, lost}
use Rattle.sng_history.specs.Links.{Link}
use Rattle.sng_history.specs.Ticking.{placed}
use Rattle.sng_sessions.specs.Moving.{moved_at}
use Rattle.sng_link.specs.Rooms.{room_by, room_past}
use Rattle.sng_link.specs.declared.room.Room.{Room}
use Rattle.sng_turns.specs.HandingOver.{gone_outs}
use Rattle.sng_core.specs.declared.tick.LostClient.{LostClient}

-- ---- one client

-- the will, as a publish of its client
abbrev pub publication_of : List ℕ → Will → Publication
publication_of id will =
    record {
      origin = origin.Client id;
      name = will.topic;
      payload = will.payload;
      qos = will.qos;
      retain = will.retain;
    }

-- where there is no room for the will, that is noted
abbrev pub turned_down : List ℕ → List ℕ → Outcome → List Out
turned_down id name Allowed = []
turned_down id name (Denied rule) = Note (note.Will (who.Client id) (Some name) (Denied rule)) ∷ []

abbrev pub will_outs : Room → List ℕ → Option Will → List Out
will_outs room id None = []
will_outs room id (Some will) = turned_down id will.topic (room_by room will.qos)

-- and else it waits
abbrev pub kept_by : List ℕ → Will → Outcome → Option Publication
kept_by id will Allowed = Some (publication_of id will)
kept_by id will (Denied rule) = None

abbrev pub kept_will : Room → List ℕ → Option Will → Option Publication
kept_will room id None = None
kept_will room id (Some will) = kept_by id will (room_by room will.qos)

-- the room that is left then
abbrev pub room_behind : Room → Option Will → Room
room_behind room None = room
room_behind room (Some will) = room_past room will.qos

abbrev pub lost_outs : Room → Client → List Out
lost_outs room x =
    Note (note.Lost x.id) ∷ (gone_outs x.id x.buffer.waiting ++ will_outs room x.id x.wills.will)

abbrev pub loss_of : Room → ℕ → Client → LostClient
loss_of room place x = record { place = place; will = kept_will room x.id x.wills.will }

-- ---- what is planned is carried out

abbrev pub placed_if : Limits → Link → Option Publication → Link
placed_if limits link None = link
placed_if limits link (Some p) = placed limits link p

abbrev pub lost_clients : List Client → LostClient → List Client
lost_clients xs l = moved_at l.place lost xs

abbrev pub lost_link : Limits → Link → LostClient → Link
lost_link limits link l = placed_if limits link l.will
