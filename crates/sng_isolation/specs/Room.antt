-- Places that all clients share: a client that fills one changes what others get. So the law of two runs asks
-- that the client never found one of them full.
use Rattle.std.specs.Prelude.{ℕ, ◌≡◌, Bool, true, false, ◌&&◌, List, [], ◌∷◌}
use Rattle.std.specs.List.{list_any}
use Rattle.sng_book.specs.declared.decision.Decision.{Decision}
use Rattle.sng_book.specs.declared.decision.Decision.TheVariants as note
use Rattle.sng_book.specs.declared.outcome.Place.{Place}
use Rattle.sng_book.specs.declared.outcome.Place.TheVariants as place
use Rattle.sng_book.specs.declared.outcome.Denial.{Denial}
use Rattle.sng_book.specs.declared.outcome.Denial.TheVariants.{Form, Grant, Room, Peer}
use Rattle.sng_book.specs.declared.outcome.RoomDenial.{RoomDenial}
use Rattle.sng_book.specs.declared.outcome.RoomDenial.TheVariants.{UpstreamDown, Full, TooLong}
use Rattle.sng_book.specs.declared.outcome.Outcome.{Outcome}
use Rattle.sng_book.specs.declared.outcome.Outcome.TheVariants.{Allowed, Denied}
use Rattle.sng_book.specs.declared.out.Out.{Out}
use Rattle.sng_book.specs.declared.out.Out.TheVariants.{Send, Wire, Note}
use Rattle.sng_book.specs.declared.row.Row.{Row}
use Rattle.sng_history.specs.Notes.{is_of}

-- all clients share the place; the others are each client's own
abbrev pub is_shared : Place → Bool
is_shared place.Clients = true
is_shared place.InFlight = true
is_shared place.Outbox = true
is_shared place.Ids = false
is_shared place.Subscriptions = false
is_shared place.Exchanges = false
is_shared place.Queue = false

abbrev pub fills_room : RoomDenial → Bool
fills_room (Full place) = is_shared place
fills_room UpstreamDown = false
fills_room TooLong = false

abbrev pub fills_denial : Denial → Bool
fills_denial (Room rule) = fills_room rule
fills_denial (Form rule) = false
fills_denial (Grant rule) = false
fills_denial (Peer rule) = false

-- it says that such a place is full
abbrev pub is_crowded : Outcome → Bool
is_crowded Allowed = false
is_crowded (Denied rule) = fills_denial rule

-- the note says so: that of a CONNECT, a PUBLISH, a SUBSCRIBE, or the will of a client that is lost
abbrev pub tells_crowd : Decision → Bool
tells_crowd (note.Connect client outcome) = is_crowded outcome
tells_crowd (note.Publish who name outcome) = is_crowded outcome
tells_crowd (note.Subscribe who filter outcome) = is_crowded outcome
tells_crowd (note.Will who name outcome) = is_crowded outcome
tells_crowd (note.Register who name outcome) = false
tells_crowd (note.Unsubscribe who filter outcome) = false
tells_crowd (note.Announce client name) = false
tells_crowd (note.Hand client name outcome) = false
tells_crowd (note.Retry client name outcome) = false
tells_crowd (note.Forward who name outcome) = false
tells_crowd (note.Again who name outcome) = false
tells_crowd (note.End client filter outcome) = false
tells_crowd (note.Lost client) = false
tells_crowd (note.Left client) = false
tells_crowd note.Outbox = false
tells_crowd (note.Frame who outcome) = false

abbrev pub crowds : List ℕ → Out → Bool
crowds id (Note said) = is_of id said && tells_crowd said
crowds id (Send to datagram) = false
crowds id (Wire packet) = false

-- the client is not told in a row that a place is full which all share
abbrev pub HasRoom : List ℕ → List Out → Type 0
HasRoom id outs = list_any (crowds id) outs ≡ false

-- and in no row of a book
abbrev pub EachHasRoom : List ℕ → List Row → Type 0
EachHasRoom id [] = Unit {0}
EachHasRoom id (row ∷ earlier) = EachHasRoom id earlier × HasRoom id row.outs

-- ---- histories in which nobody is told of any want

-- it says that there is no connection to the broker, no place, or no datagram that is long enough
abbrev pub is_wanting : Outcome → Bool
is_wanting Allowed = false
is_wanting (Denied (Room rule)) = true
is_wanting (Denied (Form rule)) = false
is_wanting (Denied (Grant rule)) = false
is_wanting (Denied (Peer rule)) = false

abbrev pub tells_want : Decision → Bool
tells_want (note.Connect client outcome) = is_wanting outcome
tells_want (note.Register who name outcome) = is_wanting outcome
tells_want (note.Publish who name outcome) = is_wanting outcome
tells_want (note.Subscribe who filter outcome) = is_wanting outcome
tells_want (note.Unsubscribe who filter outcome) = is_wanting outcome
tells_want (note.Will who name outcome) = is_wanting outcome
tells_want (note.Announce client name) = false
tells_want (note.Hand client name outcome) = is_wanting outcome
tells_want (note.Retry client name outcome) = is_wanting outcome
tells_want (note.Forward who name outcome) = is_wanting outcome
tells_want (note.Again who name outcome) = is_wanting outcome
tells_want (note.End client filter outcome) = is_wanting outcome
tells_want (note.Lost client) = false
tells_want (note.Left client) = false
tells_want note.Outbox = true
tells_want (note.Frame who outcome) = is_wanting outcome

abbrev pub is_want : Out → Bool
is_want (Note said) = tells_want said
is_want (Send to datagram) = false
is_want (Wire packet) = false

-- no note of a book says so, whomever it speaks of
abbrev pub IsFree : List Row → Type 0
IsFree [] = Unit {0}
IsFree (row ∷ earlier) = IsFree earlier × (list_any is_want row.outs ≡ false)
