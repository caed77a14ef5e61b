use Rattle.sng_outbox.proofs.IdLemmas.{Counted}
use Rattle.sng_outbox.proofs.packet_ids.next_id.Given as goal

abbrev pub invariant-loop-turn : goal.invariant-loop-turn
invariant-loop-turn l = Counted l.marks l.last l._turn l.packet_id
