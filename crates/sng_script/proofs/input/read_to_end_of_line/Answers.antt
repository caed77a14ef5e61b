use Rattle.std.proofs.Common.{◌≡◌, Err, rules}
use Rattle.sng_script.specs.declared.obstacle.Obstacle.TheVariants.{Unreadable}
use Rattle.sng_script.proofs.InputLemmas.{is_too_long, last_line, whole_line}
use Rattle.sng_script.proofs.input.read_to_end_of_line.Goals as goal

pub returns-in_err-read_piece-clause-long : goal.returns-in_err-read_piece-clause-long
returns-in_err-read_piece-clause-long g c = λ is.
    let stopped : c.read_piece.result ≡ Err Unreadable = search rules in
    is_too_long _ _ _ c.loop.invariant.within c.loop.invariant.taken (c.read_piece.ensures.long stopped)

pub returns-in-Whole-clause-ok : goal.returns-in-Whole-clause-ok
returns-in-Whole-clause-ok g c =
    whole_line _ _ _ _ _ c.loop.invariant.within c.loop.invariant.taken
    (rw c.in-Whole.is at c.in_ok-read_piece.ensures.ok)

pub returns-in-End-clause-ok : goal.returns-in-End-clause-ok
returns-in-End-clause-ok g c =
    last_line _ _ _ _ _ c.loop.invariant.within c.loop.invariant.taken
    (rw c.in-End.is at c.in_ok-read_piece.ensures.ok)
