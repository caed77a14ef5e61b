-- The addresses of a client: where a CONNECT that names it comes from (MQTT-SN 1.2, 5.4.4), whether that is
-- accepted or not.
use Rattle.std.specs.Prelude.{ℕ, Bool, false, List, [], ◌∷◌, ◌++◌, if◌then◌else◌}
use Rattle.std.specs.List.{flat_map}
use Rattle.std.specs.Str.{bytes_eq}
use Rattle.sng_book.specs.declared.address.Address.{Address}
use Rattle.sng_book.specs.declared.event.Event.{Event}
use Rattle.sng_book.specs.declared.event.Event.TheVariants as event
use Rattle.sng_book.specs.declared.row.Row.{Row}
use Rattle.sng_history.specs.Causes.{Cause, cause_of, ByConnect, ByMessage, BySource, ByBroken, ByPacket, ByUp}
use Rattle.sng_history.specs.Causes.{ByDown, ByTake, ByReplace, ByTick}

-- it is a CONNECT that names the client
abbrev pub names : List ℕ → Cause → Bool
names id (ByConnect from connect) = bytes_eq connect.client_id id
names id (ByMessage from request) = false
names id (BySource from p) = false
names id (ByBroken from rule) = false
names id (ByPacket p) = false
names id ByUp = false
names id ByDown = false
names id ByTake = false
names id (ByReplace policy) = false
names id (ByTick clock) = false

-- where such a CONNECT came from, where the event is one
abbrev pub named_from : List ℕ → Event → List Address
named_from id (event.Datagram from bytes) =
    if names id (cause_of (event.Datagram from bytes)) then from ∷ [] else []
named_from id (event.Broker packet) = []
named_from id event.Up = []
named_from id event.Down = []
named_from id event.Take = []
named_from id (event.Replace policy) = []
named_from id (event.Tick clock) = []

-- where the CONNECTs of these rows come from that name the client
abbrev pub named_in : List ℕ → List Row → List Address
named_in id rows = flat_map (λ row. named_from id row.event) rows

-- the client's own addresses: those of either of two books
abbrev pub own_of : List ℕ → List Row → List Row → List Address
own_of id h k = named_in id h ++ named_in id k
