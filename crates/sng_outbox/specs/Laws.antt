-- What the calls of the outbox mean, stated without the way in which they are computed.
use Rattle.std.specs.Prelude.{ℕ, zero, suc, ◌≡◌, ◌<◌, ◌≤◌, true, false, List, [], ◌∷◌, ◌++◌, length, filter}
use Rattle.std.specs.Prelude.{map, not, Bool}
use Rattle.std.specs.Bool.{MatchBool}
use Rattle.sng_outbox.specs.declared.in_flight.InFlight.{InFlight}
use Rattle.sng_outbox.specs.declared.item.Item.{Item}
use Rattle.sng_outbox.specs.declared.item.Item.TheVariants.{Publish, Subscribe, Unsubscribe, Acknowledge}
use Rattle.sng_outbox.specs.declared.item.Item.TheVariants.{Ping}
use Rattle.sng_outbox.specs.declared.item.Publication.{Publication}
use Rattle.sng_outbox.specs.PacketIds.{is_id, is_used, successor, next_id, Numbering, AreInUse, with_mark}
use Rattle.sng_outbox.specs.Sending.{publishes, is_in_flight, without_first}

-- the packet id that is reached after so many more
abbrev pub after : ℕ → ℕ → ℕ
after zero packet_id = packet_id
after (suc count) packet_id = after count (successor packet_id)

-- counted past any ids in use, as long as one is left, the next id is a packet id that is not in use, and the
-- ids from the last one on that were counted past are all in use: as many turns as there are ids in use are
-- enough
abbrev pub NextIdIsFree : Type 0
NextIdIsFree = (ids : List ℕ) (last : ℕ) → length ids ≤ 65534 → last ≤ 65535
    → (1 ≤ next_id ids last) × (next_id ids last ≤ 65535) × (is_used ids (next_id ids last) ≡ false)
    × ((passed : ℕ) × (passed ≤ length ids) × (next_id ids last ≡ after passed (successor last))
    × ((k : ℕ) → k < passed → is_used ids (after k (successor last)) ≡ true))

-- the marks follow the ids in use, as one is taken into use and as one is free again
abbrev pub MarksFollowUse : Type 0
MarksFollowUse = (ids : List ℕ) (n : Numbering) (packet_id : ℕ) → packet_id ≤ 65535 → AreInUse ids n.marks
    → AreInUse (packet_id ∷ ids) (with_mark n packet_id true).marks
    × AreInUse (filter (λ used. not (is_id packet_id used)) ids) (with_mark n packet_id false).marks

-- what a plan that is given up undoes is as if it had not been
abbrev pub UndoneIsUnused : Type 0
UndoneIsUnused =
    (ids : List ℕ) (n : Numbering) (packet_id : ℕ) (mark : Bool) → AreInUse ids n.marks
    → is_used ids packet_id ≡ not mark
    → with_mark (with_mark n packet_id mark) packet_id (not mark) ≡ n

-- the one that left stood behind others of other ids, and all others stay in order; where none had the id all
-- stay
abbrev pub OneIsAcknowledged : Type 0
OneIsAcknowledged = (in_flight : List InFlight) (packet_id : ℕ) → MatchBool (is_in_flight in_flight packet_id)
    ((before : List InFlight) × (sent : InFlight) × (later : List InFlight)
    × (in_flight ≡ before ++ sent ∷ later) × (sent.packet_id ≡ packet_id)
    × (is_in_flight before packet_id ≡ false) × (without_first in_flight packet_id ≡ before ++ later))
    (without_first in_flight packet_id ≡ in_flight)

-- the publications among items, in order
abbrev pub publications : List Item → List Publication
publications [] = []
publications (Publish publication ∷ items) = publication ∷ publications items
publications (Subscribe text ∷ items) = publications items
publications (Unsubscribe text ∷ items) = publications items
publications (Acknowledge packet_id ∷ items) = publications items
publications (Ping ∷ items) = publications items

-- what is kept is just the publications, in order
abbrev pub PublishesAreKept : Type 0
PublishesAreKept = (items : List Item) → publishes items ≡ map Publish (publications items)
