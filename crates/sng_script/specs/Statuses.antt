-- The exit status of a command, and what ends one.
use Rattle.std.specs.Prelude.{ℕ, Bool, true, false}
use Rattle.sng_script.specs.declared.status.Status.{Status}
use Rattle.sng_script.specs.declared.status.Status.TheVariants.{Done, Uncovered, Denied, Unlawful, Unreadable}
use Rattle.sng_script.specs.declared.status.Status.TheVariants.{BadCommandLine, OutOfMemory, Failed}

abbrev pub code_of : Status → ℕ
code_of Done = 0
code_of Uncovered = 1
code_of Denied = 1
code_of Unlawful = 1
code_of Unreadable = 1
code_of BadCommandLine = 2
code_of OutOfMemory = 3
code_of Failed = 4

-- how a command comes out whose text was lost: as a failure, unless its command line was at fault already,
-- whose text is for standard error
abbrev pub lost : Status → Status
lost Done = Failed
lost Uncovered = Failed
lost Denied = Failed
lost Unlawful = Failed
lost Unreadable = Failed
lost BadCommandLine = BadCommandLine
lost OutOfMemory = Failed
lost Failed = Failed

-- how a command ends that came to this, where all of its text was printed, or not
abbrev pub ended : Status → Bool → Status
ended status true = status
ended status false = lost status
