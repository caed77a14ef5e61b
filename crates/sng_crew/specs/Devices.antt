-- What a connection answers.
use Rattle.std.specs.Prelude.{ℕ, ◌≤◌, List, length, take}
use Rattle.sng_crew.specs.declared.connection.Call.{Call}
use Rattle.sng_crew.specs.declared.connection.Call.TheVariants.{Read, Wrote, NotWritten}
use Rattle.sng_crew.specs.declared.connection.ReadAnswer.{ReadAnswer}
use Rattle.sng_crew.specs.declared.connection.ReadAnswer.TheVariants.{Nothing, Piece, Gone}
use Rattle.sng_crew.specs.declared.connection.Written.{Written}
use Rattle.sng_crew.specs.declared.connection.Written.TheVariants.{Took, Failed}

abbrev pub written_call : List ℕ → Written → Call
written_call bytes (Took n) = Wrote (take n bytes)
written_call bytes Failed = NotWritten

-- a piece has no more bytes than this
abbrev pub IsShort : ℕ → ReadAnswer → Type 0
IsShort most (Piece bytes) = length bytes ≤ most
IsShort most Nothing = Unit {0}
IsShort most Gone = Unit {0}

-- of so many bytes at least one was taken
abbrev pub IsTaken : Written → ℕ → Type 0
IsTaken (Took n) len = (1 ≤ n) × (n ≤ len)
IsTaken Failed len = Unit {0}

abbrev pub read_call : List ℕ → Call
read_call bytes = Read bytes

abbrev pub wrote_call : List ℕ → Call
wrote_call bytes = Wrote bytes
