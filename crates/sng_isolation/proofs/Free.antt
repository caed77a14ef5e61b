-- Where nobody is told of any want, each client has room.
use Rattle.std.proofs.Common.{◌≡◌, ℕ, false, List, [], ◌∷◌, refl, ap, ◌∙◌}
use Rattle.std.specs.Prelude.{◌&&◌, ◌||◌}
use Rattle.std.specs.List.{list_any}
use Rattle.sng_book.specs.declared.decision.Decision.{Decision}
use Rattle.sng_book.specs.declared.decision.Decision.TheVariants as note
use Rattle.sng_book.specs.declared.outcome.Denial.TheVariants.{Form, Grant, Room, Peer}
use Rattle.sng_book.specs.declared.outcome.Outcome.{Outcome}
use Rattle.sng_book.specs.declared.outcome.Outcome.TheVariants.{Allowed, Denied}
use Rattle.sng_book.specs.declared.out.Out.{Out}
use Rattle.sng_book.specs.declared.out.Out.TheVariants.{Send, Wire, Note}
use Rattle.sng_book.specs.declared.row.Row.{Row}
use Rattle.sng_history.specs.Notes.{is_of}
use Rattle.sng_history.proofs.Booleans.{and_no, or_neither}
use Rattle.sng_isolation.specs.Room.{is_crowded, tells_crowd, crowds, HasRoom, EachHasRoom, is_wanting, tells_want}
use Rattle.sng_isolation.specs.Room.{is_want, IsFree}

uncrowded : (o : Outcome) → is_wanting o ≡ false → is_crowded o ≡ false
uncrowded Allowed free = refl
uncrowded (Denied (Form rule)) free = refl
uncrowded (Denied (Grant rule)) free = refl
uncrowded (Denied (Room rule)) free = absurd cc
uncrowded (Denied (Peer rule)) free = refl

untold : (said : Decision) → tells_want said ≡ false → tells_crowd said ≡ false
untold (note.Connect client o) free = uncrowded o free
untold (note.Publish whom name o) free = uncrowded o free
untold (note.Subscribe whom filter o) free = uncrowded o free
untold (note.Will whom name o) free = uncrowded o free
untold (note.Register whom name o) free = refl
untold (note.Unsubscribe whom filter o) free = refl
untold (note.Announce client name) free = refl
untold (note.Hand client name o) free = refl
untold (note.Retry client name o) free = refl
untold (note.Forward whom name o) free = refl
untold (note.Again whom name o) free = refl
untold (note.End client filter o) free = refl
untold (note.Lost client) free = refl
untold (note.Left client) free = refl
untold note.Outbox free = absurd cc
untold (note.Frame whom o) free = refl

row_room : (id : List ℕ) (outs : List Out) → list_any is_want outs ≡ false → HasRoom id outs
row_room id [] free = refl
row_room id (Note said ∷ outs) free =
    let both = or_neither (tells_want said) (list_any is_want outs) free in
    ap (λ b. b || list_any (crowds id) outs)
    (ap (λ b. is_of id said && b) (untold said both.0) ∙ and_no (is_of id said))
    ∙ row_room id outs both.1
row_room id (Send to datagram ∷ outs) free = row_room id outs free
row_room id (Wire packet ∷ outs) free = row_room id outs free

pub free_room : (h : List Row) (id : List ℕ) → IsFree h → EachHasRoom id h
free_room [] id free = tt
free_room (row ∷ earlier) id free = (free_room earlier id free.0, row_room id row.outs free.1)
