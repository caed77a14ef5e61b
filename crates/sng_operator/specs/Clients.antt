-- What is told of a client that was let in or lost.
use Rattle.std.specs.Prelude.{ℕ, Bool, true, false, List, ◌++◌, codes, Option, Some, None}
use Rattle.sng_book.specs.declared.outcome.Outcome.TheVariants.{Allowed, Denied}
use Rattle.sng_book.specs.declared.decision.Decision.{Decision}
use Rattle.sng_book.specs.declared.decision.Decision.TheVariants.{Connect, Register, Publish, Subscribe}
use Rattle.sng_book.specs.declared.decision.Decision.TheVariants.{Unsubscribe, Will, Announce, Hand, Retry}
use Rattle.sng_book.specs.declared.decision.Decision.TheVariants.{Forward, Again, End, Lost, Left, Outbox}
use Rattle.sng_book.specs.declared.decision.Decision.TheVariants.{Frame}
use Rattle.sng_book.specs.declared.out.Out.{Out}
use Rattle.sng_book.specs.declared.out.Out.TheVariants.{Send, Wire, Note}
use Rattle.sng_book.specs.Printing.{name_text}

abbrev pub words_of_client : Decision → Option (List ℕ)
words_of_client (Connect client Allowed) = Some (codes "client " ++ name_text client ++ codes " let in")
words_of_client (Connect client (Denied denial)) = None
words_of_client (Lost client) = Some (codes "client " ++ name_text client ++ codes " lost")
words_of_client (Register who name outcome) = None
words_of_client (Publish who name outcome) = None
words_of_client (Subscribe who filter outcome) = None
words_of_client (Unsubscribe who filter outcome) = None
words_of_client (Will who name outcome) = None
words_of_client (Announce client name) = None
words_of_client (Hand client name outcome) = None
words_of_client (Retry client name outcome) = None
words_of_client (Forward who name outcome) = None
words_of_client (Again who name outcome) = None
words_of_client (End client filter outcome) = None
words_of_client (Left client) = None
words_of_client Outbox = None
words_of_client (Frame who outcome) = None

abbrev pub client_words : Out → Option (List ℕ)
client_words (Send to datagram) = None
client_words (Wire packet) = None
client_words (Note decision) = words_of_client decision

-- the decision lets a client in, refuses it, or says that it is lost
abbrev pub is_fate : Decision → Bool
is_fate (Connect client outcome) = true
is_fate (Lost client) = true
is_fate (Register who name outcome) = false
is_fate (Publish who name outcome) = false
is_fate (Subscribe who filter outcome) = false
is_fate (Unsubscribe who filter outcome) = false
is_fate (Will who name outcome) = false
is_fate (Announce client name) = false
is_fate (Hand client name outcome) = false
is_fate (Retry client name outcome) = false
is_fate (Forward who name outcome) = false
is_fate (Again who name outcome) = false
is_fate (End client filter outcome) = false
is_fate (Left client) = false
is_fate Outbox = false
is_fate (Frame who outcome) = false

abbrev pub is_of_client : Out → Bool
is_of_client (Send to datagram) = false
is_of_client (Wire packet) = false
is_of_client (Note decision) = is_fate decision
