-- The trace that is found in the rows of a run is that of each lawful history of its events.
use Rattle.std.proofs.Common.{◌≡◌, ℕ, List, [], ◌∷◌, ◌++◌, map, reverse, refl, ap, sym, ◌∙◌}
use Rattle.std.proofs.lemmas.List.{map-append, reverse-append}
use Rattle.sng_book.specs.declared.address.Address.{Address}
use Rattle.sng_book.specs.declared.event.Event.{Event}
use Rattle.sng_book.specs.declared.row.Row.{Row}
use Rattle.sng_book.specs.Traces.{trace_in}
use Rattle.sng_history.specs.Books.{LawfulBook}
use Rattle.sng_history.specs.State.{opening}
use Rattle.sng_isolation.specs.Trace.{trace}
use Rattle.sng_two_runs.specs.Runs.{IsHistory}
use Rattle.sng_two_runs.proofs.Histories.{one_history}
use Rattle.sng_two_runs.proofs.Traces.{SameOwn, trace_reverse, trace_same}

events_reverse : (rows : List Row)
    → map (λ row. row.event) (reverse rows) ≡ reverse (map (λ row. row.event) rows)
events_reverse [] = refl
events_reverse (row ∷ rows) =
    ap (map (λ (r : Row). r.event)) (reverse-append (row ∷ []) rows)
    ∙ map-append (λ (r : Row). r.event) (reverse rows) (row ∷ [])
    ∙ ap (λ (events : List Event). events ++ row.event ∷ []) (events_reverse rows)
    ∙ sym (reverse-append (row.event ∷ []) (map (λ r. r.event) rows))

pub trace_found : (id : List ℕ) (own other : List Address) (events : List Event) (rows h : List Row)
    → map (λ row. row.event) rows ≡ events → LawfulBook opening (reverse rows) → IsHistory events h
    → SameOwn other own → trace id other h ≡ trace_in id own rows
trace_found id own other events rows h told lawful history same =
    let one : map (λ (r : Row). r.event) h ≡ map (λ (r : Row). r.event) (reverse rows) =
    history.told ∙ sym (events_reverse rows ∙ ap reverse told) in
    trace_same id other own h same
    ∙ (one_history id own h (reverse rows) history.lawful.0 lawful.0 one history.lawful.1 lawful.1).1
    ∙ trace_reverse id own rows
