-- What is done before any worker begins.
use Rattle.std.specs.Prelude.{ℕ, ◌+◌, ◌≡◌, List, [], ◌∷◌, ◌++◌, length, map, Option, Some, None}
use Rattle.sng_grants.specs.declared.policy.Policy.{Policy}
use Rattle.sng_book.specs.declared.event.Event.{Event}
use Rattle.sng_book.specs.declared.event.Event.TheVariants.{Replace, Tick}
use Rattle.sng_book.specs.declared.row.Row.{Row}
use Rattle.sng_desk.specs.Sights.{Share, Receipt}
use Rattle.sng_desk.specs.declared.trail.Trail.{Trail}

-- the row of an event, and its receipt, where so many rows were cut out before
pub record Acted (happened : Event) (before : ℕ) (rows now : List Row) (trail later : Trail) (share left : Share) :
    Type 0 where
  pub receipt : Receipt
  pub event : receipt.event ≡ happened
  pub row : now ≡ rows ++ record { by = share.tag; event = receipt.event; outs = receipt.outs } ∷ []
  pub number : receipt.number ≡ before + length now
  pub said : later ≡ record trail { receipts = trail.receipts ++ receipt ∷ [] }
  pub counted : left ≡ record { tag = share.tag; count = share.count + 1 }

-- the events of rows
abbrev pub events_in : List Row → List Event
events_in rows = map (λ row. row.event) rows

-- the clock is set, and then a policy comes into force, where there is one
abbrev pub first_events : ℕ → Option Policy → List Event
first_events now None = Tick now ∷ []
first_events now (Some policy) = Tick now ∷ Replace policy ∷ []
