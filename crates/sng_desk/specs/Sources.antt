-- The events of what three kinds of sources give.
use Rattle.std.specs.Prelude.{ℕ, List, map}
use Rattle.sng_book.specs.declared.address.Address.{Address}
use Rattle.sng_book.specs.declared.event.Event.{Event}
use Rattle.sng_book.specs.declared.event.Event.TheVariants.{Datagram, Tick, Replace}
use Rattle.sng_grants.specs.declared.policy.Policy.{Policy}

abbrev pub datagram_events : List (Address × List ℕ) → List Event
datagram_events came = map (λ d. Datagram d.0 d.1) came

abbrev pub tick_events : List ℕ → List Event
tick_events clocks = map (λ clock. Tick clock) clocks

abbrev pub replace_events : List Policy → List Event
replace_events policies = map (λ policy. Replace policy) policies
