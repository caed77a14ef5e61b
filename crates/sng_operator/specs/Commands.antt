-- What a line of standard input asks a running gateway for: words parted by one space, or the text of a
-- policy.
use Rattle.std.specs.Prelude.{ℕ, ◌-◌, ◌==◌, codes, List, [], ◌∷◌, ◌++◌, length, min, take, drop}
use Rattle.std.specs.Prelude.{if◌then◌else◌, Bool, Option, Some, None}
use Rattle.std.specs.Str.{bytes_eq}
use Rattle.sng_book.specs.Printing.{name_text}
use Rattle.sng_script.specs.Lines.{parted}
use Rattle.sng_questions.specs.declared.limits.TheConstants.{MAX_SHOWN}
use Rattle.sng_operator.specs.declared.commands.Command.{Command}
use Rattle.sng_operator.specs.declared.commands.Command.TheVariants as command
use Rattle.sng_operator.specs.declared.verbosity.Verbosity.{Verbosity}
use Rattle.sng_operator.specs.declared.verbosity.Verbosity.TheVariants.{Off, Denials, On}

pub data Request : Type 0 where
  -- nothing is asked for
  ForNothing : Request
  -- the policy of this text
  ForPolicy : List ℕ → Request
  -- the policy of the file, as it is now
  ForReload : Request
  -- how the gateway stands
  ForStatus : Request
  -- these rows
  ForRows : Verbosity → Request
  -- what a line can ask for
  ForHelp : Request
  -- that the gateway stops
  ForEnd : Request
  -- this line stands for nothing that can be asked for
  NotKnown : List ℕ → Request

-- what a command stands for
abbrev pub request_of : Command → Request
request_of command.Nothing = ForNothing
request_of (command.Policy text) = ForPolicy text.now
request_of command.Reload = ForReload
request_of command.Status = ForStatus
request_of (command.Verbose verbosity) = ForRows verbosity
request_of command.Help = ForHelp
request_of command.Quit = ForEnd
request_of (command.Unknown line) = NotKnown line.now

-- whether the last byte is a carriage return, 13
abbrev pub ends_with_return : List ℕ → Bool
ends_with_return line = bytes_eq (drop (length line - 1) line) (13 ∷ [])

-- the line without the carriage return at its end
abbrev pub without_return : List ℕ → List ℕ
without_return line = if ends_with_return line then take (length line - 1) line else line

abbrev pub verbosity_named : List ℕ → Option Verbosity
verbosity_named word =
    if bytes_eq word (codes "on") then Some On
    else (if bytes_eq word (codes "denials") then Some Denials
    else (if bytes_eq word (codes "off") then Some Off
    else None))

-- a line of one word, or of none
abbrev pub word_request : List ℕ → Request
word_request word =
    if bytes_eq word [] then ForNothing
    else (if bytes_eq word (codes "reload") then ForReload
    else (if bytes_eq word (codes "status") then ForStatus
    else (if bytes_eq word (codes "help") then ForHelp
    else (if bytes_eq word (codes "quit") then ForEnd
    else NotKnown word))))

-- `verbose NAME`
abbrev pub rows_request : List ℕ → Option Verbosity → Request
rows_request line (Some verbosity) = ForRows verbosity
rows_request line None = NotKnown line

-- a line with this word before its first space, and this behind it
abbrev pub words_request : List ℕ → List ℕ → List ℕ → Request
words_request line word rest =
    if bytes_eq word (codes "policy") then ForPolicy rest
    else (if bytes_eq word (codes "verbose") then rows_request line (verbosity_named rest)
    else NotKnown line)

abbrev pub parts_request : List ℕ → Option (List ℕ × List ℕ) → Request
parts_request line None = word_request line
parts_request line (Some parts) = words_request line parts.0 parts.1

-- a line that begins with a brace, 123, is the text of a policy
abbrev pub text_request : List ℕ → Request
text_request [] = ForNothing
text_request (b ∷ rest) =
    if b == 123 then ForPolicy (b ∷ rest) else parts_request (b ∷ rest) (parted 32 (b ∷ rest))

-- a line without its line feed
abbrev pub asked_by : List ℕ → Request
asked_by line = text_request (without_return line)

-- what of a line is shown
abbrev pub front_of : List ℕ → List ℕ
front_of line = take (min (length line) MAX_SHOWN) line

-- what is told of a line that asks for nothing that is known
abbrev pub unknown_text : List ℕ → List ℕ
unknown_text line = codes "unknown command: " ++ (name_text (front_of line) ++ codes " ('help' lists them)")
