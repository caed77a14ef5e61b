-- What of a row the courier sends, and what the worker sends itself.
use Rattle.std.specs.Prelude.{ℕ, ◌+◌, ◌%◌, ◌==◌, Bool, true, false, not, List, slice_index}
use Rattle.std.specs.List.{filter}
use Rattle.sng_book.specs.declared.address.Address.{Address}

-- the courier sends to the address: its last octet and its port add up to an odd number, as those of about half of
-- all do, and each address is told by itself, so all that goes to it has one sender
abbrev pub is_couriers : Address → Bool
is_couriers to = (slice_index to.ip 3 + to.port) % 2 == 1

-- those of some datagrams that the courier sends, where it has its part
abbrev pub couriers : List (Address × List ℕ) → List (Address × List ℕ)
couriers datagrams = filter (λ datagram. is_couriers datagram.0) datagrams

-- those of some datagrams that the worker sends itself, given whether the courier has its part
abbrev pub own : Bool → List (Address × List ℕ) → List (Address × List ℕ)
own false datagrams = datagrams
own true datagrams = filter (λ datagram. not (is_couriers datagram.0)) datagrams
