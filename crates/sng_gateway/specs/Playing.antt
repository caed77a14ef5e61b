-- What a line of a script comes to.
use Rattle.std.specs.Prelude.{ℕ, ◌≡◌, ◌+◌, List, [], ◌∷◌, ◌++◌, Option, Some}
use Rattle.std.specs.Io.KnownBytes.{Appends}
use Rattle.mqtt_frames.specs.Streams as streams
use Rattle.sng_book.specs.Events.{kind_of}
use Rattle.sng_book.specs.Printing.{row_text}
use Rattle.sng_book.specs.declared.event.Event.{Event}
use Rattle.sng_book.specs.declared.out.Out.{Out}
use Rattle.sng_history.specs.Books.{KeepsBook}
use Rattle.sng_history.specs.State.{State}
use Rattle.sng_gateway.specs.Deeds.{Deed, Step, Tell, deeds_of, stream_by}
use Rattle.sng_script.specs.Lines.{line_of}
use Rattle.sng_script.specs.declared.script.Line.{Line}

-- a gateway that is played a script: its state, how many rows it has made, and the stream of the broker's
-- bytes
pub record Standing : Type 0 where
  pub state : State
  pub rows : ℕ
  pub stream : streams.State

-- the event is one step, whose outs keep every book lawful; its row has the next number, and the text is
-- that row printed, with the tag 0; the stream stays as it is
pub record IsStep (before : Standing) (event : Event) (text : List ℕ) (after : Standing) : Type 0 where
  pub outs : List Out
  pub kept : KeepsBook before.state event outs after.state
  pub counted : after.rows ≡ before.rows + 1
  pub printed : text ≡ row_text after.rows 0 (kind_of event) outs
  pub same : after.stream ≡ before.stream

-- the deeds are done in turn, each from where the one before it led, and their texts stand one behind the
-- other
abbrev pub Does : Standing → List Deed → List ℕ → Standing → Type 0
Does before [] text after = (text ≡ []) × (after ≡ before)
Does before (Step event ∷ deeds) text after =
    (between : Standing) × (row : List ℕ) × (rest : List ℕ)
    × IsStep before event row between × (text ≡ row ++ rest) × Does between deeds rest after
Does before (Tell told ∷ deeds) text after =
    (rest : List ℕ) × (text ≡ told ++ rest) × Does before deeds rest after

-- the line writes the text: the stream takes what the line brings, and the deeds of the line are done
abbrev pub Comes : Standing → Line → List ℕ → Standing → Type 0
Comes before line text after =
    let taken : Standing = record before { stream = stream_by before.stream line } in
    Does taken (deeds_of before.stream line) text after

-- the bytes are a line that can be read, and what it writes goes behind what the writer holds
pub record IsPlayed (before : Standing) (bytes : List ℕ) (held holds : Option (List ℕ)) (after : Standing)
    : Type 0 where
  pub line : Line
  pub text : List ℕ
  pub read : line_of bytes ≡ Some line
  pub comes : Comes before line text after
  pub written : Appends held holds text

-- the deeds are done, and their text goes behind what is held
pub record Adds (before : Standing) (deeds : List Deed) (held holds : List ℕ) (after : Standing)
    : Type 0 where
  pub text : List ℕ
  pub does : Does before deeds text after
  pub grown : holds ≡ held ++ text
