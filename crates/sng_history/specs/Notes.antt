-- What the notes of a row say: which are a client's, and how the items came out that left.
use Rattle.std.specs.Prelude.{ℕ, List, [], ◌∷◌, ◌++◌, if◌then◌else◌}
use Rattle.sng_book.specs.declared.decision.Decision.{Decision}
use Rattle.sng_book.specs.declared.decision.Decision.TheVariants as note
use Rattle.sng_book.specs.declared.outcome.Outcome.{Outcome}
use Rattle.sng_book.specs.declared.out.Out.{Out}
use Rattle.sng_book.specs.declared.out.Out.TheVariants.{Send, Wire, Note}
pub use Rattle.sng_book.specs.Traces.{is_client, is_of}

abbrev pub said_of : List ℕ → Out → List Decision
said_of id (Note said) = if is_of id said then said ∷ [] else []
said_of id (Send to datagram) = []
said_of id (Wire packet) = []

-- the client's notes in a row, in order
abbrev pub notes_of : List ℕ → List Out → List Decision
notes_of id [] = []
notes_of id (out ∷ outs) = said_of id out ++ notes_of id outs

-- the note is of a publish that leaves, or that leaves again
abbrev pub exit_of : Decision → List Outcome
exit_of (note.Forward who name outcome) = outcome ∷ []
exit_of (note.Connect client outcome) = []
exit_of (note.Register who name outcome) = []
exit_of (note.Publish who name outcome) = []
exit_of (note.Subscribe who filter outcome) = []
exit_of (note.Unsubscribe who filter outcome) = []
exit_of (note.Will who name outcome) = []
exit_of (note.Announce client name) = []
exit_of (note.Hand client name outcome) = []
exit_of (note.Retry client name outcome) = []
exit_of (note.Again who name outcome) = outcome ∷ []
exit_of (note.End client filter outcome) = []
exit_of (note.Lost client) = []
exit_of (note.Left client) = []
exit_of note.Outbox = []
exit_of (note.Frame who outcome) = []

abbrev pub exits_of_out : Out → List Outcome
exits_of_out (Note said) = exit_of said
exits_of_out (Send to datagram) = []
exits_of_out (Wire packet) = []

-- the outcomes of the publishes that leave in a row, in order
abbrev pub exits_in : List Out → List Outcome
exits_in [] = []
exits_in (out ∷ outs) = exits_of_out out ++ exits_in outs
