-- What the worker at the connection did and handed off, from its beginning to its end.
use Rattle.std.proofs.Common.{ℕ, Bool, ◌≡◌, ◌⊎◌, inl, inr, List, [], refl}
use Rattle.std.specs.Prelude.{Option, Some, None}
use Rattle.mqtt_frames.specs.Streams.{State, Reading}
use Rattle.sng_book.specs.declared.address.Address.{Address}
use Rattle.sng_desk.specs.Sights.{Share}
use Rattle.sng_desk.specs.declared.trail.Trail.{Trail}
use Rattle.sng_desk.specs.declared.piece.Piece.{Piece}
use Rattle.sng_desk.specs.declared.ending.WorkerEnd.{WorkerEnd}
use Rattle.sng_desk.specs.declared.ending.WorkerFault.{WorkerFault}
use Rattle.sng_desk.specs.declared.ending.WorkerFault.TheVariants.{Device, GaveUp, Refused, BookFull}
use Rattle.sng_desk.specs.Acts.{no_trail}
use Rattle.sng_desk.specs.Pieces.{Handed, HandsOff, IsLeft, piece_of}
use Rattle.sng_desk.proofs.Handing.{handed_none, handed_off, handed_on, refused_last}
use Rattle.sng_crew.specs.declared.connection.Call.{Call}
use Rattle.sng_crew.specs.declared.connection.Stage.{Stage}
use Rattle.sng_crew.specs.declared.connection.Stage.TheVariants.{Away}
use Rattle.sng_crew.specs.declared.connection.Terms.{Terms}
use Rattle.sng_crew.specs.Turning.{EndsFor, Going, HasEnded, Taken, Went, Worked, acts_of}
use Rattle.sng_crew.proofs.Turns.{worked_none, worked_on}

-- a worker that begins
pub going_none : {U D F : Type 0} (tells : U → Bool) (did : U → List Call) (told : D → Bool) (passed : D
    → List (Address × List ℕ)) (files : F → Bool) (took : F → List Piece) (terms : Terms) (up : U) (sink : D)
    (share : Share) (filing : F) → Going tells did told passed files took terms up sink share filing (Away 0)
    (Reading []) up sink share filing (piece_of 0 (no_trail share.tag))
going_none tells did told passed files took terms up sink share filing = record {
  trail = no_trail share.tag;
  handed = handed_none files took filing share.tag;
  worked = worked_none tells did told passed terms up sink share;
}

-- a piece was handed off, or kept
pub going_off : {U D F : Type 0} (tells : U → Bool) (did : U → List Call) (told : D → Bool) (passed : D
    → List (Address × List ℕ)) (files : F → Bool) (took : F → List Piece) (terms : Terms) (up : U) (sink : D)
    (share : Share) (filing : F) (stage : Stage) (rest : State) (now : U) (emptied : D) (left : Share)
    (before : F) (piece : Piece) (after : F) (next : Piece) → HandsOff files took before piece after next
    → Going tells did told passed files took terms up sink share filing stage rest now emptied left before
    piece
    → Going tells did told passed files took terms up sink share filing stage rest now emptied left after next
going_off tells did told passed files took terms up sink share filing stage rest now emptied left before piece
    after next off g = record {
      trail = g.trail;
      handed = handed_off files took filing share.tag before piece after next g.trail off g.handed;
      worked = g.worked;
    }

-- a turn, or none
pub going_on : {U : Type 0} {D : Type 0} {F : Type 0} (tells : U → Bool) (did : U → List Call) (told : D →
    Bool) (passed : D → List (Address × List ℕ)) (files : F → Bool) (took : F → List Piece) (terms : Terms)
    (up : U) (sink : D) (share : Share) (filing : F) (stage : Stage) (rest : State) (mid : U) (half : D) (less
    : Share) (filed : F) (place : ℕ) (trail : Trail) (reached : Stage) (kept : State) (now : U) (emptied : D)
    (grown : Trail) (left : Share) → Going tells did told passed files took terms up sink share filing stage
    rest mid half less filed
    (piece_of place trail)
    → Went tells did told passed terms mid half stage rest trail less now emptied reached kept grown left
    → Going tells did told passed files took terms up sink share filing reached kept now emptied left filed
    (piece_of place grown)
going_on tells did told passed files took terms up sink share filing stage rest mid half less filed place
    trail reached kept now emptied grown left g (inl t) =
    let further = handed_on files took filing share.tag filed place trail g.trail less (acts_of t.turn) grown
    left g.handed t.logs in
    record {
      trail = further.all;
      handed = further.handed;
      worked = worked_on tells did told passed terms up sink share stage rest mid half g.trail less reached
          kept now emptied further.all left g.worked (record {
            turn = t.turn;
            lawful = t.lawful;
            next = t.next;
            left = t.left;
            calls = t.calls;
            sends = t.sends;
            logs = further.logs;
          });
    }
going_on tells did told passed files took terms up sink share filing stage rest mid half less filed place
    trail reached kept now emptied grown left g (inr same) =
    rw (same.0, same.1, same.2, same.3, same.4, same.5) g

-- why the last turn is the last is why the worker came to its end
ends_since : {F : Type 0} (files : F → Bool) (took : F → List Piece) (filing : F) (tag : ℕ) (filed : F)
    (place : ℕ) (rest trail : Trail) (tries : ℕ) (fault : Option WorkerFault) (stage : Stage)
    (ended stops : Bool) → Handed files took filing tag filed (piece_of place rest) trail
    → EndsFor tries fault stage ended stops rest → EndsFor tries fault stage ended stops trail
ends_since files took filing tag filed place rest trail tries None stage ended stops h e = e
ends_since files took filing tag filed place rest trail tries (Some GaveUp) stage ended stops h e = e
ends_since files took filing tag filed place rest trail tries (Some Refused) stage ended stops h e = e
ends_since files took filing tag filed place rest trail tries (Some BookFull) stage ended stops h e =
    refused_last files took filing tag filed place rest trail h e
ends_since files took filing tag filed place rest trail tries (Some Device) stage ended stops h e = e

-- the last turn of a worker, and what it hands off then
pub has_ended : {U D F : Type 0} (tells : U → Bool) (did : U → List Call) (told : D → Bool) (passed : D → List
    (Address × List ℕ)) (has_ended : U → Bool) (files : F → Bool) (took : F → List Piece) (handed_back : F →
    Bool) (terms : Terms) (up : U) (sink : D) (share : Share) (filing : F) (may_stop : Bool) (stage : Stage)
    (rest : State) (filed : F) (place : ℕ) (trail : Trail) (end : WorkerEnd U D F)
    → Going tells did told passed files took terms up sink share filing stage rest end.source end.sender
    end.share filed (piece_of place trail)
    → EndsFor terms.tries end.fault stage (has_ended end.source) may_stop trail
    → HandsOff files took filed (piece_of place trail) end.filing end.rest
    → IsLeft end.rest (handed_back end.filing)
    → HasEnded tells did told passed has_ended files took handed_back terms up sink share filing may_stop end
has_ended tells did told passed ended files took handed_back terms up sink share filing may_stop stage rest
    filed place trail end g e off l = record {
      stage = stage;
      rest = rest;
      going = record {
        trail = g.trail;
        handed = handed_off files took filing share.tag filed (piece_of place trail) end.filing end.rest
            g.trail off g.handed;
        worked = g.worked;
      };
      fault = ends_since files took filing share.tag filed place trail g.trail terms.tries end.fault stage
          (ended end.source) may_stop g.handed e;
      left_over = l;
    }
