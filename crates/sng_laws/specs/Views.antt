-- What a reader of the book sees who looks back through its rows: the policy in force, the clock, and the
-- broker's connection. A history is the list of its rows, the newest first.
use Rattle.std.specs.Prelude.{ℕ, nat_le, Bool, true, false, List, [], ◌∷◌, ◌++◌, if◌then◌else◌}
use Rattle.sng_grants.specs.Ends.{in_force}
use Rattle.sng_grants.specs.Limits.{Limits}
use Rattle.sng_grants.specs.Policies.{no_policy}
use Rattle.sng_grants.specs.declared.policy.Policy.{Policy}
use Rattle.sng_book.specs.declared.event.Event.{Event}
use Rattle.sng_book.specs.declared.event.Event.TheVariants.{Up, Down, Replace, Tick}
use Rattle.sng_book.specs.declared.out.Out.{Out}
use Rattle.sng_book.specs.declared.out.Out.TheVariants.{Send, Wire, Note}
use Rattle.sng_book.specs.declared.row.Row.{Row}

-- the policy of the last replacement; before any, nothing is granted and no limit is set
abbrev pub policy_after : Event → Policy → Policy
policy_after (Replace policy) before = policy
policy_after other before = before

abbrev pub last_policy : List Row → Policy
last_policy [] = no_policy
last_policy (row ∷ earlier) = policy_after row.event (last_policy earlier)

-- the limits that it sets
abbrev pub last_limits : List Row → Limits
last_limits h = (last_policy h).limits

-- the limits in force at a row with this event: a replacement puts its own in force
abbrev pub limits_at : Event → List Row → Limits
limits_at e earlier = (policy_after e (last_policy earlier)).limits

-- the clocks that were told, the newest first
abbrev pub ticks_of : Event → List ℕ
ticks_of (Tick clock) = clock ∷ []
ticks_of other = []

abbrev pub ticks : List Row → List ℕ
ticks [] = []
ticks (row ∷ earlier) = ticks_of row.event ++ ticks earlier

-- the greatest of all ticks, 0 before any
abbrev pub greatest : List ℕ → ℕ
greatest [] = 0
greatest (n ∷ ns) = if nat_le (greatest ns) n then n else greatest ns

abbrev pub clock_at : List Row → ℕ
clock_at h = greatest (ticks h)

-- the policy in force: that of the last replacement without the grants whose end the clock has reached. The
-- plain rows of a book know no ends: in force in them is just the policy of the last replacement
abbrev pub policy_in_force : List Row → Policy
policy_in_force h = in_force (clock_at h) (last_policy h)

-- what became of the broker's connection: the last Up or Down so far is an Up
abbrev pub is_up_after : Event → Bool → Bool
is_up_after Up before = true
is_up_after Down before = false
is_up_after other before = before

abbrev pub is_up : List Row → Bool
is_up [] = false
is_up (row ∷ earlier) = is_up_after row.event (is_up earlier)

-- the packets that a row sends to the broker
abbrev pub wires_in : List Out → List (List ℕ)
wires_in [] = []
wires_in (Wire packet ∷ outs) = packet ∷ wires_in outs
wires_in (Send to datagram ∷ outs) = wires_in outs
wires_in (Note said ∷ outs) = wires_in outs
