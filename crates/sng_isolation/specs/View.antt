-- What a client sees of the events: all but datagrams from elsewhere, and of each policy its own scope, with
-- its end, and the predefined topic ids. It sees no limits: it is to find room, whatever they are.
use Rattle.std.specs.Prelude.{ℕ, List, [], ◌∷◌, if◌then◌else◌}
use Rattle.std.specs.List.{filter, flat_map}
use Rattle.std.specs.BTreeMap.{is_at}
use Rattle.std.specs.Cmp.Lexicographic.{slice_cmp}
use Rattle.std.specs.Ordering.{nat_cmp}
use Rattle.sng_grants.specs.declared.grant.Grant.{Grant}
use Rattle.sng_grants.specs.declared.policy.Policy.{Policy}
use Rattle.sng_book.specs.declared.address.Address.{Address}
use Rattle.sng_book.specs.declared.event.Event.{Event}
use Rattle.sng_book.specs.declared.event.Event.TheVariants as event
use Rattle.sng_book.specs.declared.row.Row.{Row}
use Rattle.sng_book.specs.Traces.{is_own}
use Rattle.sng_grants.specs.Policies.{no_policy}

-- of those who are listed the client alone
abbrev pub grants_to : List ℕ → List (List ℕ × Grant) → List (List ℕ × Grant)
grants_to id listed = filter (λ entry. is_at (slice_cmp nat_cmp id) entry.0) listed

-- what a policy says to the client, as a policy that sets no limits
abbrev pub part_of : List ℕ → Policy → Policy
part_of id policy =
    record no_policy { clients = grants_to id policy.clients; topics = policy.topics }

-- what the client sees of an event, if anything
abbrev pub seen : List ℕ → List Address → Event → List Event
seen id own (event.Datagram from bytes) = if is_own own from then event.Datagram from bytes ∷ [] else []
seen id own (event.Replace policy) = event.Replace (part_of id policy) ∷ []
seen id own (event.Broker packet) = event.Broker packet ∷ []
seen id own event.Up = event.Up ∷ []
seen id own event.Down = event.Down ∷ []
seen id own event.Take = event.Take ∷ []
seen id own (event.Tick clock) = event.Tick clock ∷ []

-- what it sees of the events of these rows
abbrev pub view : List ℕ → List Address → List Row → List Event
view id own rows = flat_map (λ row. seen id own row.event) rows
