-- What a worker did and handed off, from its beginning to its end.
use Rattle.std.proofs.Common.{ℕ, Bool, ◌≤◌, ◌≡◌, List, refl, sym, arith}
use Rattle.std.specs.Prelude.{Option, Some, None}
use Rattle.sng_book.specs.declared.address.Address.{Address}
use Rattle.sng_book.specs.declared.event.Event.{Event}
use Rattle.sng_desk.specs.Sights.{Share}
use Rattle.sng_desk.specs.declared.trail.Trail.{Trail}
use Rattle.sng_desk.specs.declared.piece.Piece.{Piece}
use Rattle.sng_desk.specs.declared.ending.WorkerFault.{WorkerFault}
use Rattle.sng_desk.specs.declared.ending.WorkerFault.TheVariants.{Device, GaveUp, Refused, BookFull}
use Rattle.sng_desk.specs.Acts.{Moves, no_trail}
use Rattle.sng_desk.specs.Pieces.{Handed, HandsOff, IsLeft, piece_of}
use Rattle.sng_desk.specs.Working.{EndsFor, Going, HasEnded, Worked}
use Rattle.sng_desk.proofs.Going.{still, worked_none, worked_on}
use Rattle.sng_desk.proofs.Handing.{handed_none, handed_off, handed_on, refused_last}

-- a worker that begins
pub going_none : {S F : Type 0} (tells : S → Bool) (gave : S → List Event) (failed : S → ℕ) (told : S
    → Bool) (passed : S → List (Address × List ℕ)) (files : F → Bool) (took : F → List Piece) (source : S)
    (share : Share) (filing : F) → Going tells gave failed told passed files took source source share filing
    source source share filing (piece_of 0 (no_trail share.tag))
going_none tells gave failed told passed files took source share filing = record {
  trail = no_trail share.tag;
  handed = handed_none files took filing share.tag;
  worked = worked_none tells gave failed told passed source source (no_trail share.tag) share source source
      (no_trail share.tag) share (still tells gave source) (still told passed source) (omega arith) refl refl;
}

-- a piece was handed off, or kept
pub going_off : {S D F : Type 0} (tells : S → Bool) (gave : S → List Event) (failed : S → ℕ) (told : D
    → Bool) (passed : D → List (Address × List ℕ)) (files : F → Bool) (took : F → List Piece) (source : S)
    (sink : D) (share : Share) (filing : F) (now : S) (emptied : D) (left : Share) (before : F) (piece :
    Piece) (after : F) (next : Piece) → HandsOff files took before piece after next
    → Going tells gave failed told passed files took source sink share filing now emptied left before piece
    → Going tells gave failed told passed files took source sink share filing now emptied left after next
going_off tells gave failed told passed files took source sink share filing now emptied left before piece
    after next off g = record {
      trail = g.trail;
      handed = handed_off files took filing share.tag before piece after next g.trail off g.handed;
      worked = g.worked;
    }

-- something happened
pub going_on : {S : Type 0} {D : Type 0} {F : Type 0} (tells : S → Bool) (gave : S → List Event)
    (failed : S → ℕ) (told : D → Bool) (passed : D → List (Address × List ℕ)) (files : F → Bool)
    (took : F → List Piece) (source : S) (sink : D) (share : Share) (filing : F) (mid : S) (half : D)
    (less : Share) (filed : F) (place : ℕ) (rest : Trail) (now : S) (emptied : D) (grown : Trail) (left :
    Share)
    → Going tells gave failed told passed files took source sink share filing mid half less filed
    (piece_of place rest) → Worked tells gave failed told passed mid half rest less now emptied grown left
    → Going tells gave failed told passed files took source sink share filing now emptied left filed
    (piece_of place grown)
going_on tells gave failed told passed files took source sink share filing mid half less filed place rest now
    emptied grown left g w =
    let further = handed_on files took filing share.tag filed place rest g.trail less w.acts grown left
    g.handed w.logs in
    record {
      trail = further.all;
      handed = further.handed;
      worked = worked_on tells gave failed told passed source sink (no_trail share.tag) share mid half g.trail
          less now emptied further.all left g.worked (record {
            acts = w.acts;
            gives = w.gives;
            sends = w.sends;
            logs = further.logs;
            failures = w.failures;
          });
    }

-- why the last turn is the last is why the worker came to its end
ends_since : {F : Type 0} (files : F → Bool) (took : F → List Piece) (filing : F) (tag : ℕ) (filed : F)
    (place : ℕ) (rest trail : Trail) (fault : Option WorkerFault) (first before now : ℕ)
    (ended stops : Bool) → first ≤ before → Handed files took filing tag filed (piece_of place rest) trail
    → EndsFor fault before now ended stops rest → EndsFor fault first now ended stops trail
ends_since files took filing tag filed place rest trail None first before now ended stops le h e = e
ends_since files took filing tag filed place rest trail (Some Device) first before now ended stops le h e =
    omega (arith, le, e)
ends_since files took filing tag filed place rest trail (Some BookFull) first before now ended stops le h e =
    refused_last files took filing tag filed place rest trail h e
ends_since files took filing tag filed place rest trail (Some GaveUp) first before now ended stops le h e = e
ends_since files took filing tag filed place rest trail (Some Refused) first before now ended stops le h e = e

-- the last turn of a worker, and what it hands off then
pub has_ended : {S D F : Type 0} (tells : S → Bool) (gave : S → List Event) (failed : S → ℕ)
    (has_ended : S → Bool) (told : D → Bool) (passed : D → List (Address × List ℕ)) (files : F → Bool)
    (took : F → List Piece) (handed_back : F → Bool) (source : S) (sink : D) (share : Share) (filing : F)
    (may_stop : Bool) (before now : S) (emptied : D) (left : Share) (filed : F) (place : ℕ) (trail : Trail)
    (after : F) (rest : Piece) (fault : Option WorkerFault)
    → Going tells gave failed told passed files took source sink share filing now emptied left filed
    (piece_of place trail) → failed source ≤ failed before
    → EndsFor fault (failed before) (failed now) (has_ended now) may_stop trail
    → HandsOff files took filed (piece_of place trail) after rest → IsLeft rest (handed_back after)
    → HasEnded tells gave failed has_ended told passed files took handed_back source sink share filing
    may_stop now emptied left after rest fault
has_ended tells gave failed ended told passed files took handed_back source sink share filing may_stop before
    now emptied left filed place trail after rest fault g le e off l = record {
      going = record {
        trail = g.trail;
        handed = handed_off files took filing share.tag filed (piece_of place trail) after rest g.trail off
            g.handed;
        worked = g.worked;
      };
      ends = ends_since files took filing share.tag filed place trail g.trail fault (failed source)
          (failed before) (failed now) (ended now) may_stop le g.handed e;
      left_over = l;
    }
