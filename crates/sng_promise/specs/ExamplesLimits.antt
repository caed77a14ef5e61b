-- Worked rows of the limits that a policy sets: who is let in is asked of the policy in force, and who was
-- let in stays.
use Rattle.std.specs.Prelude.{ℕ, List, [], ◌∷◌}
use Rattle.sng_grants.specs.Limits.{default_limits}
use Rattle.sng_grants.specs.Policies.{no_policy}
use Rattle.sng_grants.specs.Sources.{endless}
use Rattle.sng_grants.specs.declared.policy.Policy.{Policy}
use Rattle.sng_book.specs.declared.address.Address.{Address}
use Rattle.sng_book.specs.declared.decision.Decision.TheVariants.{Connect}
use Rattle.sng_book.specs.declared.outcome.Denial.TheVariants.{Room}
use Rattle.sng_book.specs.declared.outcome.Outcome.TheVariants.{Denied}
use Rattle.sng_book.specs.declared.outcome.Place.TheVariants.{Clients}
use Rattle.sng_book.specs.declared.outcome.RoomDenial.TheVariants.{Full}
use Rattle.sng_book.specs.declared.event.Event.TheVariants.{Datagram, Replace}
use Rattle.sng_book.specs.declared.out.Out.{Out}
use Rattle.sng_book.specs.declared.out.Out.TheVariants.{Send, Note}
use Rattle.sng_book.specs.declared.row.Row.{Row}
use Rattle.sng_history.specs.State.{State, opening, state_of}
use Rattle.sng_promise.specs.Examples.{row}
use Rattle.sng_promise.specs.ExamplesClients.{home, away, s1, s2, connect_s2, ping, both_listed, s1_home}
use Rattle.sng_promise.specs.ExamplesClients.{lets_in, welcome, pong}

-- two clients may be let in; `s1` alone; and `s2` alone
abbrev pub lets_two : Policy
lets_two = record both_listed { limits = record default_limits { clients = 2 } }

abbrev pub lets_one : List ℕ → Policy
lets_one id = record no_policy { clients = (id, endless []) ∷ []; limits = record default_limits { clients = 1 } }

-- a CONNECT finds no place, and its CONNACK
abbrev pub finds_full : List ℕ → Out
finds_full id = Note (Connect id (Denied (Room (Full Clients))))

abbrev pub no_place : Address → Out
no_place to = Send to (0x03 ∷ 0x05 ∷ 0x01 ∷ [])

-- the policy before has a place for `s2`, and the one in force has none
abbrev pub less_room : List Row
less_room = row (Replace (lets_one s2)) [] ∷ s1_home lets_two

abbrev pub refused_since : List Row
refused_since = row (Datagram away connect_s2) (finds_full s2 ∷ no_place away ∷ []) ∷ less_room

-- the policy before has none, and the one in force has one
abbrev pub more_room : List Row
more_room = row (Replace lets_two) [] ∷ s1_home (lets_one s1)

abbrev pub let_in_since : List Row
let_in_since = row (Datagram away connect_s2) (lets_in s2 ∷ welcome away ∷ []) ∷ more_room

-- two were let in as a policy comes that lets in one
abbrev pub two_home : List Row
two_home = row (Datagram away connect_s2) (lets_in s2 ∷ welcome away ∷ []) ∷ s1_home lets_two

abbrev pub two_stay : List Row
two_stay = row (Replace (lets_one s2)) [] ∷ two_home

-- nobody is put out: `s1` is answered, and `s2` may come again
abbrev pub answered : List Row
answered = row (Datagram home ping) (pong home ∷ []) ∷ two_stay

abbrev pub comes_again : List Row
comes_again = row (Datagram away connect_s2) (lets_in s2 ∷ welcome away ∷ []) ∷ two_stay

-- the states in which there is no place and in which there is one, and that in which two were let in
abbrev pub at_less : State
at_less = state_of opening less_room

abbrev pub at_more : State
at_more = state_of opening more_room

abbrev pub at_both : State
at_both = state_of opening two_home
