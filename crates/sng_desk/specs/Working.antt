-- What a worker at a source of events did, and why it came to its end.
use Rattle.std.specs.Prelude.{ℕ, ◌≡◌, ◌≤◌, ◌<◌, ◌⊎◌, Bool, true, Option, Some, None, List, [], ◌∷◌}
use Rattle.sng_book.specs.declared.address.Address.{Address}
use Rattle.sng_book.specs.declared.event.Event.{Event}
use Rattle.sng_desk.specs.Sights.{Share}
use Rattle.sng_desk.specs.Acts.{Act, EndsRefused, Logs, Moves, no_trail, events_of, receipts_of, sends_of}
use Rattle.sng_desk.specs.Pieces.{Handed, IsLeft}
use Rattle.sng_desk.specs.declared.trail.Trail.{Trail}
use Rattle.sng_desk.specs.declared.piece.Piece.{Piece}
use Rattle.sng_desk.specs.declared.source.Got.{Got}
use Rattle.sng_desk.specs.declared.source.Got.TheVariants.{Came, Nothing, Ended, Failed}
use Rattle.sng_desk.specs.declared.ending.WorkerFault.{WorkerFault}
use Rattle.sng_desk.specs.declared.ending.WorkerFault.TheVariants.{Device, GaveUp, Refused, BookFull}
use Rattle.sng_desk.specs.declared.ending.Next.{Next}
use Rattle.sng_desk.specs.declared.ending.Next.TheVariants.{On, Over}

-- what a source's answer gave
abbrev pub given_by : {X : Type 0} → Got X → List X
given_by (Came x) = x ∷ []
given_by Nothing = []
given_by Ended = []
given_by Failed = []

-- What happened between two moments of a worker with a source, a sink, a trail and a share.
pub record Worked {S D : Type 0} (tells : S → Bool) (gave : S → List Event) (failed : S → ℕ) (told : D
    → Bool) (passed : D → List (Address × List ℕ)) (source : S) (sink : D) (trail : Trail) (share : Share)
    (now : S) (emptied : D) (grown : Trail) (left : Share) : Type 0 where
  pub acts : List Act
  -- what the source gave is what the desk was asked about
  pub gives : Moves tells gave source now (events_of acts)
  -- what was passed to the sink is what the receipts let out for clients
  pub sends : Moves told passed sink emptied (sends_of (receipts_of acts))
  -- the trail and the share tell these acts
  pub logs : Logs trail share acts grown left
  pub failures : failed source ≤ failed now

-- What happened since a worker began with this source, this sink, this share and this filing: all is told by
-- its trail, which it has handed off but for the rest.
pub record Going {S D F : Type 0} (tells : S → Bool) (gave : S → List Event) (failed : S → ℕ) (told : D
    → Bool) (passed : D → List (Address × List ℕ)) (files : F → Bool) (took : F → List Piece) (source : S)
    (sink : D) (share : Share) (filing : F) (now : S) (emptied : D) (left : Share) (filed : F) (rest : Piece)
    : Type 0 where
  pub trail : Trail
  pub handed : Handed files took filing share.tag filed rest trail
  pub worked : Worked tells gave failed told passed source sink (no_trail share.tag) share now emptied trail
      left

-- Why a worker came to its end: its source failed, its last event was refused, or the source has ended or the
-- worker is to stop.
abbrev pub EndsFor : Option WorkerFault → ℕ → ℕ → Bool → Bool → Trail → Type 0
EndsFor None before now ended stops trail = (ended ≡ true) ⊎ (stops ≡ true)
EndsFor (Some Device) before now ended stops trail = before < now
EndsFor (Some BookFull) before now ended stops trail = EndsRefused trail.refused trail.receipts
EndsFor (Some GaveUp) before now ended stops trail = ⊥
EndsFor (Some Refused) before now ended stops trail = ⊥

-- what a turn says of why it is the last
abbrev pub NextFor : Next → ℕ → ℕ → Bool → Bool → Trail → Type 0
NextFor On before now ended stops trail = Unit {0}
NextFor (Over fault) before now ended stops trail = EndsFor fault before now ended stops trail

-- How a worker ended that began with this source, this sink, this share and this filing, under a gate that
-- may stop it or not.
pub record HasEnded {S D F : Type 0} (tells : S → Bool) (gave : S → List Event) (failed : S → ℕ)
    (has_ended : S → Bool) (told : D → Bool) (passed : D → List (Address × List ℕ)) (files : F → Bool)
    (took : F → List Piece) (handed_back : F → Bool) (source : S) (sink : D) (share : Share) (filing : F)
    (may_stop : Bool) (now : S) (emptied : D) (left : Share) (filed : F) (rest : Piece)
    (fault : Option WorkerFault) : Type 0 where
  pub going : Going tells gave failed told passed files took source sink share filing now emptied left filed
      rest
  pub ends : EndsFor fault (failed source) (failed now) (has_ended now) may_stop going.trail
  -- it has handed off all that it could
  pub left_over : IsLeft rest (handed_back filed)

-- the desk was asked about an event, and what came of it was passed on
pub record Served {S : Type 0} (tells : S → Bool) (gave : S → List Event) (failed : S → ℕ) (told : S
    → Bool) (passed : S → List (Address × List ℕ)) (event : Event) (before : S) (trail : Trail)
    (share : Share) (now : S) (grown : Trail) (left : Share) : Type 0 where
  pub acts : List Act
  pub events : events_of acts ≡ event ∷ []
  pub gives : Moves tells gave before now []
  pub sends : Moves told passed before now (sends_of (receipts_of acts))
  pub logs : Logs trail share acts grown left
  pub failures : failed before ≤ failed now
