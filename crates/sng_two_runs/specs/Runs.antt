-- The histories of a list of events, and whether a client gets the same in two of them.
use Rattle.std.specs.Prelude.{ℕ, ◌≡◌, List, map, reverse}
use Rattle.std.specs.List.{flat_map}
use Rattle.sng_book.specs.declared.address.Address.{Address}
use Rattle.sng_book.specs.declared.event.Event.{Event}
use Rattle.sng_book.specs.declared.row.Row.{Row}
use Rattle.sng_history.specs.Books.{LawfulBook}
use Rattle.sng_history.specs.State.{opening}
use Rattle.sng_isolation.specs.Own.{named_from, own_of}
use Rattle.sng_isolation.specs.Trace.{trace}

-- a lawful book of just these events, the newest row first
pub record IsHistory (events : List Event) (h : List Row) : Type 0 where
  pub told : map (λ row. row.event) h ≡ reverse events
  pub lawful : LawfulBook opening h

-- the client has the same trace in two books, for its addresses in either
abbrev pub TracesAgree : List ℕ → List Row → List Row → Type 0
TracesAgree id h k = trace id (own_of id h k) h ≡ trace id (own_of id h k) k

-- where the CONNECTs of these events come from that name the client
abbrev pub named_by : List ℕ → List Event → List Address
named_by id events = flat_map (named_from id) events
