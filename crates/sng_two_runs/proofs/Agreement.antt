-- What the call compares are the traces of the histories, and where these look the same they agree.
use Rattle.std.proofs.Common.{◌≡◌, ℕ, Bool, true, List, ◌++◌, map, reverse, ap, sym, ◌∙◌}
use Rattle.std.specs.Prelude.{◌↔◌, IsTrue}
use Rattle.sng_book.specs.declared.address.Address.{Address}
use Rattle.sng_book.specs.declared.event.Event.{Event}
use Rattle.sng_book.specs.declared.out.Out.{Out}
use Rattle.sng_book.specs.declared.row.Row.{Row}
use Rattle.sng_book.specs.Traces.{is_own, trace_in}
use Rattle.sng_history.specs.Books.{LawfulBook}
use Rattle.sng_history.specs.State.{opening}
use Rattle.sng_isolation.specs.Isolation.{LookAlike}
use Rattle.sng_isolation.specs.Own.{own_of}
use Rattle.sng_isolation.specs.Trace.{trace}
use Rattle.sng_isolation.proofs.TwoRunsLaw.{two_runs}
use Rattle.sng_two_runs.specs.Runs.{IsHistory, TracesAgree, named_by}
use Rattle.sng_two_runs.proofs.Addresses.{own_both}
use Rattle.sng_two_runs.proofs.Found.{trace_found}
use Rattle.sng_two_runs.proofs.Traces.{SameOwn}

-- what the call made: rows of both lists of events, the client's addresses, and what it gets in each run
pub record Compared (id : List ℕ) (first second : List Event) (rows others : List Row) (own : List Address)
    (one other : List Out) : Type 0 where
  pub told : map (λ row. row.event) rows ≡ first
  pub lawful : LawfulBook opening (reverse rows)
  pub also_told : map (λ row. row.event) others ≡ second
  pub also_lawful : LawfulBook opening (reverse others)
  pub owned : own ≡ named_by id first ++ named_by id second
  pub found : one ≡ trace_in id own rows
  pub also_found : other ≡ trace_in id own others

-- these are what the client gets in any two histories of these events
pub record BothFound (id : List ℕ) (h k : List Row) (one other : List Out) : Type 0 where
  pub first : trace id (own_of id h k) h ≡ one
  pub second : trace id (own_of id h k) k ≡ other

pub both_found : (id : List ℕ) (first second : List Event) (rows others : List Row) (own : List Address)
    (one other : List Out) → Compared id first second rows others own one other → (h k : List Row)
    → IsHistory first h → IsHistory second k → BothFound id h k one other
both_found id first second rows others own one other made h k history also =
    let same : SameOwn (own_of id h k) own =
    (λ place. own_both id first second h k history.told also.told place
    ∙ ap (λ (o : List Address). is_own o place) (sym made.owned)) in
    record {
      first =
          trace_found id own (own_of id h k) first rows h made.told made.lawful history same ∙ sym made.found;
      second =
          trace_found id own (own_of id h k) second others k made.also_told made.also_lawful also same
          ∙ sym made.also_found;
    }

pub agreed : (id : List ℕ) (h k : List Row) (one other : List Out) (same : Bool) → BothFound id h k one other
    → (IsTrue same ↔ (one ≡ other)) → IsTrue same ↔ TracesAgree id h k
agreed id h k one other same found is = (
  λ yes. found.first ∙ is.0 yes ∙ sym found.second,
  λ agree. is.1 (sym found.first ∙ agree ∙ found.second),
)

pub held_apart : (id : List ℕ) (first second : List Event) (h k : List Row) (same : Bool)
    → (IsTrue same ↔ TracesAgree id h k) → IsHistory first h → IsHistory second k → LookAlike id h k
    → same ≡ true
held_apart id first second h k same is history also look =
    is.1 (two_runs h k id history.lawful also.lawful look)
