-- The line of an event is played as just this event.
use Rattle.std.specs.Prelude.{ℕ, ◌≡◌, List, [], ◌∷◌, Some}
use Rattle.mqtt_frames.specs.Streams.{Reading}
use Rattle.sng_book.specs.declared.event.Event.{Event}
use Rattle.sng_gateway.specs.Deeds.{Step, deeds_of, stream_by}
use Rattle.sng_script.specs.EventTexts.{Says}
use Rattle.sng_script.specs.Lines.{line_of}
use Rattle.sng_script.specs.declared.script.Line.{Line}

-- the line can be read, and where nothing has come of a connection to the broker the one thing that is done of
-- it is a step with the event
pub record MakesJust (line : List ℕ) (event : Event) : Type 0 where
  pub said : Line
  pub read : line_of line ≡ Some said
  pub done : deeds_of (Reading []) said ≡ Step event ∷ []
  pub stream : stream_by (Reading []) said ≡ Reading []

abbrev pub EventsArePlayed : Type 0
EventsArePlayed = (line : List ℕ) (event : Event) → Says line event → MakesJust line event
