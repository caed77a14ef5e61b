-- Worked books whose scopes end: some that are lawful, and some that are not.
use Rattle.std.specs.Prelude.{true, false, codes, List, [], ◌∷◌, Some}
use Rattle.sng_grants.specs.Policies.{no_policy}
use Rattle.sng_grants.specs.declared.policy.Policy.{Policy}
use Rattle.sng_book.specs.declared.decision.Decision.TheVariants.{End}
use Rattle.sng_book.specs.declared.outcome.Denial.TheVariants.{Grant}
use Rattle.sng_book.specs.declared.outcome.GrantDenial.TheVariants.{NoScope, UnknownSource}
use Rattle.sng_book.specs.declared.outcome.Outcome.TheVariants.{Allowed, Denied}
use Rattle.sng_book.specs.declared.event.Event.TheVariants.{Datagram, Up, Take, Replace, Tick}
use Rattle.sng_book.specs.declared.out.Out.{Out}
use Rattle.sng_book.specs.declared.out.Out.TheVariants.{Note}
use Rattle.sng_book.specs.declared.row.Row.{Row}
use Rattle.sng_promise.specs.Examples.{source, at, publish_ab, row, asked_ab, forward_ab, packet_ab}
use Rattle.sng_promise.specs.ExamplesClients.{s1, home, s1_home, ab, subscribe_ab, subscribed_ab, subscribes_ab}

-- ---- a publish that waits

-- the source may publish under `ab` until the clock reaches 5,000 ms
abbrev pub lends_ab : Policy
lends_ab =
    record no_policy {
      sources = (
        source,
        record {
          scope = record { filter = codes "ab"; publishes = true; subscribes = false } ∷ [];
          until = Some 5000;
        },
      ) ∷ [];
    }

-- it publishes while it may
abbrev pub asked_in_time : List Row
asked_in_time =
    row (Datagram (at source) publish_ab) (asked_ab source Allowed ∷ []) ∷ row Up [] ∷ row (Tick 4999) []
    ∷ row (Replace lends_ab) [] ∷ []

-- and the clock reaches the end while the publish waits
abbrev pub ends_while_waiting : List Row
ends_while_waiting = row (Tick 5000) [] ∷ asked_in_time

-- it is denied as it leaves
abbrev pub denied_at_its_end : List Row
denied_at_its_end = row Take (forward_ab (Denied (Grant UnknownSource)) ∷ []) ∷ ends_while_waiting

-- it leaves all the same
abbrev pub let_out_at_its_end : List Row
let_out_at_its_end = row Take (forward_ab Allowed ∷ packet_ab ∷ []) ∷ ends_while_waiting

-- ---- a subscription

-- `s1` may subscribe under `a` until the clock reaches 5,000 ms
abbrev pub lends_under_a : Policy
lends_under_a =
    record no_policy {
      clients = (
        s1,
        record {
          scope = record { filter = codes "a/#"; publishes = false; subscribes = true } ∷ [];
          until = Some 5000;
        },
      ) ∷ [];
    }

-- it subscribes by `a/b`
abbrev pub subscribed_in_time : List Row
subscribed_in_time =
    row (Datagram home subscribe_ab) (subscribes_ab Allowed ∷ subscribed_ab ∷ []) ∷ s1_home lends_under_a

abbrev pub ends_unlisted : Out
ends_unlisted = Note (End s1 ab (Denied (Grant (NoScope s1))))

-- the subscription ends with its grant
abbrev pub ended_at_its_end : List Row
ended_at_its_end = row (Tick 5000) (ends_unlisted ∷ []) ∷ subscribed_in_time

-- it stands on
abbrev pub kept_at_its_end : List Row
kept_at_its_end = row (Tick 5000) [] ∷ subscribed_in_time
