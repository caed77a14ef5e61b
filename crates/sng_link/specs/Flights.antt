-- The publishes in flight and the filters that are wanted, and the marks of their packet ids (MQTT 3.1.1,
-- 2.3.1).
pub use Rattle.sng_wanted.specs.Filters.{without_wanted}
use Rattle.std.specs.Prelude.{ℕ, ◌≡◌, Bool, true, false, List, [], ◌∷◌, ◌++◌, map, None}
use Rattle.sng_outbox.specs.PacketIds.{Numbering, AreInUse, is_used}
use Rattle.sng_outbox.specs.Sending.{Sending}
use Rattle.sng_outbox.specs.declared.in_flight.InFlight.{InFlight}
use Rattle.sng_history.specs.Links.{Link, Wanted, open_ids}

-- the link by its parts: what waits and is in flight, the packet ids, the filters that are wanted, and when
-- the connection began
abbrev pub link_of : Sending → Numbering → List Wanted → ℕ → Link
link_of s n wanted pinged = record {
  waiting = s.waiting;
  in_flight = s.in_flight;
  last = n.last;
  wanted = wanted;
  pinged = pinged;
}

-- the packet ids of publishes in flight, in the order of their sending
abbrev pub ids_of : List InFlight → List ℕ
ids_of in_flight = map (λ sent. sent.packet_id) in_flight

-- the packet ids in use: those of publishes in flight, and those of open SUBSCRIBEs
abbrev pub ids_in_use : List InFlight → List Wanted → List ℕ
ids_in_use in_flight wanted = ids_of in_flight ++ open_ids wanted

-- no id stands there twice
abbrev pub AreDistinct : List ℕ → Type 0
AreDistinct [] = Unit {0}
AreDistinct (packet_id ∷ ids) = (is_used ids packet_id ≡ false) × AreDistinct ids

-- just these packet ids are marked, and no two are the same
pub record AreMarked (ids : List ℕ) (marks : List Bool) : Type 0 where
  pub marked : AreInUse ids marks
  pub distinct : AreDistinct ids

-- a filter of which a SUBSCRIBE is owed has none that is open
abbrev pub OwedAreClosed : List Wanted → Type 0
OwedAreClosed [] = Unit {0}
OwedAreClosed (w ∷ wanted) = (w.owed ≡ true → w.open_id ≡ None) × OwedAreClosed wanted
