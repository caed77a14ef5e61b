-- The exit status of `sng serve`.
use Rattle.std.specs.Prelude.{ℕ}
use Rattle.sng_script.specs.Statuses.{code_of}
use Rattle.sng_operator.specs.declared.ends.End.{End}
use Rattle.sng_operator.specs.declared.ends.End.TheVariants.{Command, Halted}
use Rattle.sng_operator.specs.declared.ends.Halt.TheVariants.{FullBook, LostWorker, WrongBook}

abbrev pub exit_code : End → ℕ
exit_code (Command status) = code_of status
exit_code (Halted FullBook) = 5
exit_code (Halted LostWorker) = 6
exit_code (Halted WrongBook) = 7
