use Rattle.sng_gateway.specs.Standings.{standing}
use Rattle.sng_gateway.proofs.PlayLemmas.{GoesOn}
use Rattle.sng_gateway.proofs.play.play_on.Given as goal

abbrev pub invariant-loop-number : goal.invariant-loop-number
invariant-loop-number g l =
    GoesOn (g.R.Read.remaining l.fn.reader) (g.R.Read.remaining l.reader) (g.W.Write.contents l.fn.output)
    (g.W.Write.contents l.output) l.number (standing l.player)
