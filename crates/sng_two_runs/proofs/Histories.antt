-- The events of a lawful book say all that it lets out.
use Rattle.std.proofs.Common.{◌≡◌, ℕ, List, [], ◌∷◌, ◌++◌, map, refl, ap, ap₂, sym, ◌∙◌}
use Rattle.sng_book.specs.declared.address.Address.{Address}
use Rattle.sng_book.specs.declared.event.Event.{Event}
use Rattle.sng_book.specs.declared.out.Out.{Out}
use Rattle.sng_book.specs.declared.row.Row.{Row}
use Rattle.sng_book.specs.Traces.{trace_of}
use Rattle.sng_history.specs.Books.{IsBook, row_next, row_outs}
use Rattle.sng_history.specs.State.{State, opening}
use Rattle.sng_history.proofs.BookExact.{last_row, one_state}
use Rattle.sng_isolation.specs.Trace.{trace}

-- two lawful books of the same events lead to one state, and have one trace of each client
pub one_history : (id : List ℕ) (own : List Address) (h k : List Row) (s t : State)
    → map (λ row. row.event) h ≡ map (λ row. row.event) k → IsBook opening h s → IsBook opening k t
    → (s ≡ t) × (trace id own h ≡ trace id own k)
one_history id own [] [] s t same one other = (one_state [] s t one other, refl)
one_history id own [] (row ∷ k) s t same one other = absurd cc
one_history id own (row ∷ h) [] s t same one other = absurd cc
one_history id own (row ∷ h) (also ∷ k) s t same one other =
    let event : row.event ≡ also.event = cc in
    let events : map (λ row. row.event) h ≡ map (λ row. row.event) k = cc in
    let last = last_row row h s one in
    let end = last_row also k t other in
    let before = one_history id own h k last.before end.before events last.book end.book in
    let outs : row.outs ≡ also.outs =
    last.outs ∙ ap₂ (λ (b : State) (e : Event). row_outs b e) before.0 event ∙ sym end.outs in (
      last.next ∙ ap₂ (λ (b : State) (e : Event). row_next b e) before.0 event ∙ sym end.next,
      ap₂ (λ (some more : List Out). some ++ more) before.1 (ap (trace_of id own) outs),
    )
