use Rattle.sng_check.proofs.Checked.{told_failure, told_memory, told_unreadable}
use Rattle.sng_check.proofs.checking.tell_obstacle.Goals as goal

pub returns-in-Unreadable : goal.returns-in-Unreadable
returns-in-Unreadable g c = told_unreadable _ _ _ c.tell.ensures

pub returns-in-OutOfMemory : goal.returns-in-OutOfMemory
returns-in-OutOfMemory g c = told_memory _ _ _ c.tell-in-OutOfMemory.ensures

pub returns-in-Failed : goal.returns-in-Failed
returns-in-Failed g c = told_failure _ _ _ _ c.tell-in-Failed.ensures
