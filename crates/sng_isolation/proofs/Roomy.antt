-- Where a row does not tell a client that a shared place is full, none of its notes does.
use Rattle.std.proofs.Common.{◌≡◌, ℕ, Bool, true, false, List, [], ◌∷◌, ◌++◌, if◌then◌else◌}
use Rattle.std.specs.Prelude.{◌&&◌}
use Rattle.std.specs.List.{list_any}
use Rattle.sng_book.specs.declared.decision.Decision.{Decision}
use Rattle.sng_book.specs.declared.out.Out.{Out}
use Rattle.sng_book.specs.declared.out.Out.TheVariants.{Send, Wire, Note}
use Rattle.sng_history.specs.Notes.{is_of, notes_of}
use Rattle.sng_history.proofs.Booleans.{or_neither}
use Rattle.sng_history.proofs.Hands.{Every}
use Rattle.sng_isolation.specs.Room.{tells_crowd, crowds, HasRoom}

-- the note says of no shared place that it is full
abbrev pub Roomy : Decision → Type 0
Roomy said = tells_crowd said ≡ false

pub roomy_notes : (id : List ℕ) (outs : List Out) → HasRoom id outs → Every Roomy (notes_of id outs)
roomy_notes id [] room = tt
roomy_notes id (Note said ∷ outs) room =
    let both = or_neither (crowds id (Note said)) (list_any (crowds id) outs) room in
    by_own (is_of id said) both.0 (roomy_notes id outs both.1)
  where
    by_own : (b : Bool) → (b && tells_crowd said) ≡ false → Every Roomy (notes_of id outs)
        → Every Roomy ((if b then said ∷ [] else []) ++ notes_of id outs)
    by_own true free rest = (free, rest)
    by_own false free rest = rest
roomy_notes id (Send to datagram ∷ outs) room = roomy_notes id outs room
roomy_notes id (Wire packet ∷ outs) room = roomy_notes id outs room

pub every_right : (P : Decision → Type 0) (xs ys : List Decision) → Every P (xs ++ ys) → Every P ys
every_right P [] ys every = every
every_right P (said ∷ xs) ys every = every_right P xs ys every.1
