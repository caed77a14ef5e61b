-- What a whole script comes to: the rows that its lines make, and the text that is written of them.
use Rattle.std.specs.Prelude.{ℕ, ◌≡◌, ◌⊎◌, ◌+◌, ◌<◌, ◌≤◌, List, [], ◌∷◌, ◌++◌, length, codes, Option, Some}
use Rattle.std.specs.Prelude.{None, Result, Ok, Err, ⊤}
use Rattle.std.specs.Fmt.{decimal}
use Rattle.std.specs.Io.KnownBytes.{Appends, Keeps}
use Rattle.mqtt_frames.specs.Streams.{State, Reading}
use Rattle.sng_book.specs.Events.{kind_of}
use Rattle.sng_book.specs.Printing.{row_text}
use Rattle.sng_book.specs.declared.event.Event.{Event}
use Rattle.sng_book.specs.declared.out.Out.{Out}
use Rattle.sng_book.specs.declared.row.Row.{Row}
use Rattle.sng_history.specs.Books.{LawfulBook}
use Rattle.sng_history.specs.State.{opening}
use Rattle.sng_script.specs.declared.limits.TheConstants.{MAX_LINE}
use Rattle.sng_gateway.specs.Deeds.{Deed, Step, Tell, deeds_of, stream_by}
use Rattle.sng_script.specs.Lines.{line_of}
use Rattle.sng_script.specs.declared.script.Line.{Line}
use Rattle.sng_script.specs.declared.obstacle.Obstacle.{Obstacle}
use Rattle.sng_script.specs.declared.obstacle.Obstacle.TheVariants as obstacles
use Rattle.sng_script.specs.declared.status.Status.{Status}
use Rattle.sng_script.specs.declared.status.Status.TheVariants as statuses

-- the event, after the rows before it, the newest first, makes one row more, brought by worker 0, and writes
-- that row, printed under its number from 1
abbrev pub WritesRow : List Row → Event → List ℕ → List Row → Type 0
WritesRow before event text rows =
    (outs : List Out)
    × (rows ≡ record { by = 0; event = event; outs = outs } ∷ before)
    × (text ≡ row_text (length rows) 0 (kind_of event) outs)

-- the deeds write the text in turn, after the rows before them, and these are the rows then: each step makes
-- a row, and what is told makes none
abbrev pub Writes : List Row → List Deed → List ℕ → List Row → Type 0
Writes before [] text rows = (text ≡ []) × (rows ≡ before)
Writes before (Step event ∷ deeds) text rows =
    (between : List Row) × (row : List ℕ) × (rest : List ℕ)
    × WritesRow before event row between × (text ≡ row ++ rest) × Writes between deeds rest rows
Writes before (Tell told ∷ deeds) text rows =
    (rest : List ℕ) × (text ≡ told ++ rest) × Writes before deeds rest rows

-- the lines, each of which can be read and is not too long, write the text in turn: after the rows before
-- them, and where the stream of the broker's bytes stands so; with the rows and the stream then
abbrev pub AllWrite : List Row → State → List (List ℕ) → List ℕ → List Row → State → Type 0
AllWrite before stream [] text rows last = (text ≡ []) × (rows ≡ before) × (last ≡ stream)
AllWrite before stream (bytes ∷ rest) text rows last =
    (line : Line) × (first : List ℕ) × (between : List Row) × (more : List ℕ)
    × (length bytes ≤ MAX_LINE) × (line_of bytes ≡ Some line)
    × Writes before (deeds_of stream line) first between
    × AllWrite between (stream_by stream line) rest more rows last × (text ≡ first ++ more)

-- the lines are played from the opening state and a stream of which nothing has come: their text, and the
-- rows, the newest first, which are lawful
pub record ArePlayed (lines : List (List ℕ)) (text : List ℕ) : Type 0 where
  pub rows : List Row
  pub stream : State
  pub lawful : LawfulBook opening rows
  pub written : AllWrite [] (Reading []) lines text rows stream

-- a line that cannot be read, or is too long
abbrev pub IsUnreadable : List ℕ → Type 0
IsUnreadable bytes = (line_of bytes ≡ None) ⊎ (MAX_LINE < length bytes)

-- the lines before are played, and the one behind them cannot be read
pub record StopsAt (script before : List (List ℕ)) (text : List ℕ) : Type 0 where
  pub line : List ℕ
  pub rest : List (List ℕ)
  pub split : script ≡ before ++ line ∷ rest
  pub unreadable : IsUnreadable line
  pub played : ArePlayed before text

-- the lines before are played, and are a beginning of the script
pub record BreaksOff (script before : List (List ℕ)) (text : List ℕ) : Type 0 where
  pub rest : List (List ℕ)
  pub split : script ≡ before ++ rest
  pub played : ArePlayed before text

-- what is told of a line that cannot be read, by its number from 1
abbrev pub unreadable_text : ℕ → List ℕ
unreadable_text number = codes "line " ++ (decimal number ++ codes ": unreadable\n")

-- how the lines come to an end, by `Ok` or why they are not played on, with the number of the last that was
-- begun
abbrev pub IsHalt : Result (Unit {0}) Obstacle → ℕ → List (List ℕ) → (held holds : Option (List ℕ)) → Type 0
IsHalt (Ok done) number script held holds = (text : List ℕ) × ArePlayed script text × Appends held holds text
IsHalt (Err obstacles.Unreadable) number script held holds =
    (before : List (List ℕ)) × (text : List ℕ) × StopsAt script before text × Appends held holds text
    × (number ≡ length before + 1)
IsHalt (Err obstacles.OutOfMemory) number script held holds =
    (before : List (List ℕ)) × (text : List ℕ) × BreaksOff script before text × Appends held holds text
IsHalt (Err obstacles.Failed) number script held holds = ⊤

-- what is written last, behind what the writer held, and how the command comes out: as the lines came to an
-- end, with why they are not played on; or as a failure, of which nothing is known
abbrev pub Finishes : Status → Result (Unit {0}) Obstacle → ℕ → (held holds : Option (List ℕ)) → Type 0
Finishes statuses.Done played number held holds = (played ≡ Ok tt) × Keeps held holds
Finishes statuses.Unreadable played number held holds =
    (played ≡ Err obstacles.Unreadable) × Appends held holds (unreadable_text number)
Finishes statuses.OutOfMemory played number held holds =
    (played ≡ Err obstacles.OutOfMemory) × Appends held holds (codes "out of memory\n")
Finishes statuses.Failed played number held holds = ⊤
Finishes statuses.Uncovered played number held holds = ⊥
Finishes statuses.Denied played number held holds = ⊥
Finishes statuses.Unlawful played number held holds = ⊥
Finishes statuses.BadCommandLine played number held holds = ⊥

-- what is written of a script that comes out so, behind what the writer held: the text of its lines; or of
-- those before the first that cannot be read, with the number of that one; or of those that there was memory
-- for; of a failure of input or output nothing is known
abbrev pub IsOutcome : Status → List (List ℕ) → (held holds : Option (List ℕ)) → Type 0
IsOutcome statuses.Done script held holds =
    (text : List ℕ) × ArePlayed script text × Appends held holds text
IsOutcome statuses.Unreadable script held holds =
    (before : List (List ℕ)) × (text : List ℕ) × StopsAt script before text
    × Appends held holds (text ++ unreadable_text (length before + 1))
IsOutcome statuses.OutOfMemory script held holds =
    (before : List (List ℕ)) × (text : List ℕ) × BreaksOff script before text
    × Appends held holds (text ++ codes "out of memory\n")
IsOutcome statuses.Failed script held holds = ⊤
IsOutcome statuses.Uncovered script held holds = ⊥
IsOutcome statuses.Denied script held holds = ⊥
IsOutcome statuses.Unlawful script held holds = ⊥
IsOutcome statuses.BadCommandLine script held holds = ⊥
