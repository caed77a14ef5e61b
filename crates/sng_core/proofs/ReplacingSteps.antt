-- One ending after another as it moves the whole state: the clients and the link, and nothing else.
use Rattle.std.specs.Prelude.{List}
use Rattle.sng_grants.specs.Limits.{Limits}
use Rattle.sng_book.specs.declared.out.Out.{Out}
use Rattle.sng_history.specs.State.{State}
use Rattle.sng_endings.specs.Replacing as apart
use Rattle.sng_endings.specs.Replacing.{Moved, moved}
use Rattle.sng_endings.specs.declared.replacing.SubscriptionEnd.{SubscriptionEnd}

-- what endings move of a state
abbrev pub moved_of : State → Moved
moved_of s = moved s.link s.clients

-- the state with that moved
abbrev pub with_moved : State → Moved → State
with_moved s m = record s { clients = m.clients; link = m.link }

abbrev pub ended_next : Limits → State → SubscriptionEnd → State
ended_next limits s e = with_moved s (apart.ended_next limits (moved_of s) e)

abbrev pub ended_outs : Limits → State → SubscriptionEnd → List Out
ended_outs limits s e = apart.ended_outs limits (moved_of s) e

abbrev pub all_next : Limits → State → List SubscriptionEnd → State
all_next limits s endings = with_moved s (apart.all_next limits (moved_of s) endings)

abbrev pub all_outs : Limits → State → List SubscriptionEnd → List Out
all_outs limits s endings = apart.all_outs limits (moved_of s) endings
