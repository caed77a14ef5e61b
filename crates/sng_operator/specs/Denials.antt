-- Which decisions deny something.
use Rattle.std.specs.List.{list_any}
use Rattle.std.specs.Prelude.{ℕ, Bool, true, false, not, ◌&&◌, List, [], ◌-◌, length, take, drop}
use Rattle.sng_book.specs.declared.outcome.Outcome.{Outcome}
use Rattle.sng_book.specs.declared.outcome.Outcome.TheVariants.{Allowed, Denied}
use Rattle.sng_book.specs.declared.decision.Decision.{Decision}
use Rattle.sng_book.specs.declared.decision.Decision.TheVariants.{Connect, Register, Publish, Subscribe}
use Rattle.sng_book.specs.declared.decision.Decision.TheVariants.{Unsubscribe, Will, Announce, Hand, Retry}
use Rattle.sng_book.specs.declared.decision.Decision.TheVariants.{Forward, Again, End, Lost, Left, Outbox}
use Rattle.sng_book.specs.declared.decision.Decision.TheVariants.{Frame}
use Rattle.sng_book.specs.declared.out.Out.{Out}
use Rattle.sng_book.specs.declared.out.Out.TheVariants.{Send, Wire, Note}
use Rattle.sng_book.specs.Printing.{decision_text}

abbrev pub denies : Outcome → Bool
denies Allowed = false
denies (Denied denial) = true

abbrev pub is_denied : Decision → Bool
is_denied (Connect client outcome) = denies outcome
is_denied (Register who name outcome) = denies outcome
is_denied (Publish who name outcome) = denies outcome
is_denied (Subscribe who filter outcome) = denies outcome
is_denied (Unsubscribe who filter outcome) = denies outcome
is_denied (Will who name outcome) = denies outcome
is_denied (Announce client name) = false
is_denied (Hand client name outcome) = denies outcome
is_denied (Retry client name outcome) = denies outcome
is_denied (Forward who name outcome) = denies outcome
is_denied (Again who name outcome) = denies outcome
is_denied (End client filter outcome) = denies outcome
is_denied (Lost client) = false
is_denied (Left client) = false
is_denied Outbox = true
is_denied (Frame who outcome) = denies outcome

abbrev pub is_denial : Out → Bool
is_denial (Send to datagram) = false
is_denial (Wire packet) = false
is_denial (Note decision) = is_denied decision

abbrev pub is_other_note : Out → Bool
is_other_note (Send to datagram) = false
is_other_note (Wire packet) = false
is_other_note (Note decision) = not (is_denied decision)

-- a note of a denial is among them, and none of anything else
abbrev pub denies_all : List Out → Bool
denies_all outs = list_any is_denial outs && not (list_any is_other_note outs)

-- the words of a note
abbrev pub words_of : Out → List ℕ
words_of (Send to datagram) = []
words_of (Wire packet) = []
words_of (Note decision) = decision_text decision

-- the words of the note that is the one out of a row `0` of worker `0` on an event `up`: behind the 16 bytes
-- of `row 0 0 up`, a line feed and `note `, without the line feed at the end
abbrev pub words_in : List ℕ → List ℕ
words_in row = take (length row - 1 - 16) (drop 16 row)
