use Rattle.sng_check.proofs.Checked.{told_answer}
use Rattle.sng_check.proofs.checking.print_check.Goals as goal

pub returns-in-Ok : goal.returns-in-Ok
returns-in-Ok g c =
    told_answer _ _ _ _ _ _ _ c.in-Ok.ensures (rw c.as_slice.ensures.value at c.tell.ensures)
