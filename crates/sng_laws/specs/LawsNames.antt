-- Which topic ids a client is told in announcements, in the views' words (MQTT-SN 1.2, 5.4.10 and 6.10).
use Rattle.std.specs.Prelude.{ℕ, ◌≡◌, List, [], ◌∷◌, Some}
use Rattle.sng_frames.specs.Writing.{written}
use Rattle.sng_frames.specs.declared.frame.SnFrame.TheVariants as frame
use Rattle.sng_book.specs.declared.decision.Decision.{Decision}
use Rattle.sng_book.specs.declared.decision.Decision.TheVariants as note
use Rattle.sng_book.specs.declared.out.Out.{Out}
use Rattle.sng_book.specs.declared.out.Out.TheVariants.{Send, Wire, Note}
use Rattle.sng_book.specs.declared.row.Row.{Row}
use Rattle.sng_laws.specs.ViewsClients.{names_told}
use Rattle.sng_laws.specs.LawsAsks.{told_as}

-- the datagram is a REGISTER of the name, with an id that stands for it where these names were told
pub record TellsName (names : List (List ℕ)) (name datagram : List ℕ) : Type 0 where
  pub topic_id : ℕ
  pub msg_id : ℕ
  pub register : datagram
      ≡ written (frame.Register (record { topic_id = topic_id; msg_id = msg_id; name = name }))
  pub stands : told_as topic_id names ≡ Some name

-- such a REGISTER comes next
abbrev pub IsNext : List (List ℕ) → List ℕ → List Out → Type 0
IsNext names name [] = ⊥
IsNext names name (Send to datagram ∷ outs) = TellsName names name datagram
IsNext names name (Note said ∷ outs) = ⊥
IsNext names name (Wire packet ∷ outs) = ⊥

-- a note that announces a name is followed so, where each client was told such names
abbrev pub TellsSo : (List ℕ → List (List ℕ)) → Decision → List Out → Type 0
TellsSo told (note.Announce client name) outs = IsNext (told client) name outs
TellsSo told other outs = Unit {0}

abbrev pub AllTell : (List ℕ → List (List ℕ)) → List Out → Type 0
AllTell told [] = Unit {0}
AllTell told (Note said ∷ outs) = TellsSo told said outs × AllTell told outs
AllTell told (Send to datagram ∷ outs) = AllTell told outs
AllTell told (Wire packet ∷ outs) = AllTell told outs

-- at once behind each note that announces a name to a client its REGISTER goes out, and the id in it stands
-- for the name from that row on
abbrev pub EachTells : List Row → Type 0
EachTells [] = Unit {0}
EachTells (row ∷ earlier) = EachTells earlier × AllTell (λ client. names_told client (row ∷ earlier)) row.outs
