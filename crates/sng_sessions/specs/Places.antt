-- Clients by where they stand among the clients, and the index from addresses to these places.
use Rattle.std.specs.Prelude.{ℕ, zero, suc, ◌≡◌, ◌&&◌, Bool, true, false, List, [], ◌∷◌, ◌++◌, map, Option}
use Rattle.std.specs.Prelude.{Some, None, if◌then◌else◌}
use Rattle.std.specs.Str.{bytes_eq}
use Rattle.sng_book.specs.declared.address.Address.{Address}
use Rattle.sng_states.specs.States.{has_session}
use Rattle.sng_history.specs.Clients.{Client, blank, is_here, same_address}
use Rattle.sng_history.specs.State.{is_known}
use Rattle.sng_history.specs.Entering.{left_at}
pub use Rattle.sng_sessions.specs.Moving.{moved_at}
use Rattle.sng_sessions.specs.declared.session.Presence.{Presence}
use Rattle.sng_sessions.specs.declared.session.Session.{Session}

-- a client as it is kept: what nothing moves yet is as it was at first
abbrev pub client_of : List ℕ × Session → Client
client_of entry =
    let at = entry.1.presence in
    record (blank entry.0) {
      address = at.address;
      phase = at.phase;
      duration = at.duration;
      heard = at.heard;
      ids = entry.1.ids;
      number = entry.1.number;
      buffer = entry.1.queue;
      filters = entry.1.filters;
      wills = entry.1.wills;
      unreleased = entry.1.unreleased;
    }

abbrev pub clients_of : List (List ℕ × Session) → List Client
clients_of entries = map client_of entries

-- there is a client at this place, and it passes the test
abbrev pub holds_at : (Client → Bool) → List Client → ℕ → Bool
holds_at test [] place = false
holds_at test (x ∷ xs) zero = test x
holds_at test (x ∷ xs) (suc place) = holds_at test xs place

-- the client at this place is at the address
abbrev pub stands_at : Address → List Client → ℕ → Bool
stands_at from xs place = holds_at (λ x. is_here x from) xs place

-- two places are one
abbrev pub is_place : ℕ → ℕ → Bool
is_place zero zero = true
is_place zero (suc place) = false
is_place (suc found) zero = false
is_place (suc found) (suc place) = is_place found place

-- what was looked up is this place
abbrev pub points_at : ℕ → Option ℕ → Bool
points_at place None = false
points_at place (Some found) = is_place found place

-- the look-up of an address gives the place of the client that is there, and of no other: so no two are at
-- one address
abbrev pub Indexed : (Address → Option ℕ) → List Client → Type 0
Indexed look xs = (from : Address) (place : ℕ) → points_at place (look from) ≡ stands_at from xs place

-- where the client of a session is, if there is one
abbrev pub presence_in : Option Session → Option Presence
presence_in None = None
presence_in (Some session) = Some session.presence

-- the address at which a client was before
abbrev pub was_at : Option Presence → Address → Bool
was_at None from = false
was_at (Some presence) from = has_session presence.phase && same_address presence.address from

-- whoever else is at the address where the client with this id comes leaves
abbrev pub vacated : ℕ → Address → List ℕ → Client → Client
vacated clock from id x = if bytes_eq id x.id then x else (if is_here x from then left_at clock x else x)

-- the client with this id is as it is kept from now on; one that was not known comes last
abbrev pub settled : List ℕ → Session → List Client → List Client
settled id session xs =
    map (λ x. if bytes_eq id x.id then client_of (x.id, session) else x) xs
    ++ (if is_known id xs then [] else client_of (id, session) ∷ [])
