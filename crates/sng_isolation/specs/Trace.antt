-- What a client gets of a book, and the notes of it of whatever kind.
use Rattle.std.specs.Prelude.{ℕ, Bool, false, ◌||◌, List, [], ◌∷◌, ◌++◌}
use Rattle.sng_book.specs.declared.address.Address.{Address}
use Rattle.sng_book.specs.declared.decision.Decision.{Decision}
use Rattle.sng_book.specs.declared.decision.Decision.TheVariants as note
use Rattle.sng_book.specs.declared.out.Out.{Out}
use Rattle.sng_book.specs.declared.out.Out.TheVariants.{Send, Wire, Note}
use Rattle.sng_book.specs.declared.row.Row.{Row}
use Rattle.sng_book.specs.Traces.{is_client, speaks_of, trace_of}

-- one is sent again, over a new connection
abbrev pub returns : List ℕ → Decision → Bool
returns id (note.Again who name outcome) = is_client id who
returns id (note.Forward who name outcome) = false
returns id (note.Connect client outcome) = false
returns id (note.Register who name outcome) = false
returns id (note.Publish who name outcome) = false
returns id (note.Subscribe who filter outcome) = false
returns id (note.Unsubscribe who filter outcome) = false
returns id (note.Will who name outcome) = false
returns id (note.Announce client name) = false
returns id (note.Hand client name outcome) = false
returns id (note.Retry client name outcome) = false
returns id (note.End client filter outcome) = false
returns id (note.Lost client) = false
returns id (note.Left client) = false
returns id note.Outbox = false
returns id (note.Frame who outcome) = false

-- it is a note of the client, of whatever kind
abbrev pub tells : List ℕ → Out → Bool
tells id (Note said) = speaks_of id said || returns id said
tells id (Send to datagram) = false
tells id (Wire packet) = false

-- what a book does, of which the newest row stands first
abbrev pub trace : List ℕ → List Address → List Row → List Out
trace id own [] = []
trace id own (row ∷ earlier) = trace id own earlier ++ trace_of id own row.outs
