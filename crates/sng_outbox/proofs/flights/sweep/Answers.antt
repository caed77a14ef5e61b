use Rattle.std.proofs.Common.{List, Option, is_some, sym, ap, ◌∙◌, subst, length}
use Rattle.sng_outbox.specs.declared.in_flight.InFlight.{InFlight}
use Rattle.sng_outbox.specs.Flights.{sent_in, IsOnce}
use Rattle.sng_outbox.proofs.SlotLemmas.{once, once_kept, sent_swept, many_swept}
use Rattle.sng_outbox.proofs.flights.sweep.Goals as goal

pub find_places-requires-clause-once : goal.find_places-requires-clause-once
find_places-requires-clause-once c =
    subst (λ (slots : List (Option InFlight)). IsOnce slots)
    (sym (c.deref.ensures.value ∙ c.drop_gaps.ensures.items))
    (once_kept is_some c.args.slots.now.items
    (once c.args.slots.now.items c.args.places.now.items c.requires))

pub returns-clause-sent : goal.returns-clause-sent
returns-clause-sent c = ap sent_in c.drop_gaps.ensures.items ∙ sent_swept c.args.slots.now.items

pub returns-clause-len : goal.returns-clause-len
returns-clause-len c = ap length c.drop_gaps.ensures.items ∙ many_swept c.args.slots.now.items
