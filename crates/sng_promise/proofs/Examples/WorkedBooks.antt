-- The worked books of a publish that waits are lawful, or not, by computation.
use Rattle.std.proofs.Common.{◌≡◌, List, [], ◌∷◌, refl, ap, ◌∙◌}
use Rattle.sng_book.specs.declared.event.Event.TheVariants.{Up, Take, Replace, Tick}
use Rattle.sng_book.specs.declared.out.Out.{Out}
use Rattle.sng_book.specs.declared.outcome.Denial.TheVariants.{Grant}
use Rattle.sng_book.specs.declared.outcome.GrantDenial.TheVariants.{UnknownSource}
use Rattle.sng_book.specs.declared.outcome.Outcome.TheVariants.{Allowed, Denied}
use Rattle.sng_book.specs.declared.row.Row.{Row}
use Rattle.sng_history.specs.Books.{IsReadAs, IsBook, LawfulBook, row_outs}
use Rattle.sng_history.specs.Lawful.{Lawful}
use Rattle.sng_history.specs.State.{State, opening, state_of}
use Rattle.sng_history.proofs.BookExact.{last_row, one_state}
use Rattle.sng_promise.specs.Examples.{row, grants_nothing, forward_ab, packet_ab}
use Rattle.sng_promise.specs.ExamplesBooks.{lends_ab, asked_in_time, ends_while_waiting, denied_at_its_end}
use Rattle.sng_promise.specs.ExamplesBooks.{let_out_at_its_end}
use Rattle.sng_promise.proofs.Examples.WorkedLemmas.{ab_utf8}

-- ---- the plain rows

-- nothing ends before the tick at 5,000 ms, which stands behind the replacement by what is left then
abbrev plain_end : List Row
plain_end = row (Tick 5000) [] ∷ row (Replace grants_nothing) [] ∷ asked_in_time

abbrev plain_denied : List Row
plain_denied = row Take (forward_ab (Denied (Grant UnknownSource)) ∷ []) ∷ plain_end

asked_lawful : Lawful opening asked_in_time
asked_lawful = (
  (
    (
      (tt, record { whole = refl; exits = refl; clients = tt }),
      record { whole = refl; exits = refl; clients = tt },
    ),
    record { whole = refl; exits = refl; clients = tt },
  ),
  record { whole = rw ab_utf8 refl; exits = refl; clients = tt },
)

end_lawful : Lawful opening plain_end
end_lawful = (
  (asked_lawful, record { whole = refl; exits = refl; clients = tt }),
  record { whole = refl; exits = refl; clients = tt },
)

denied_lawful : Lawful opening plain_denied
denied_lawful = (end_lawful, record { whole = refl; exits = refl; clients = tt })

-- ---- the book is read so

abbrev lent : List Row
lent = row (Replace lends_ab) [] ∷ []

abbrev ticked : List Row
ticked = row (Tick 4999) [] ∷ lent

abbrev connected : List Row
connected = row Up [] ∷ ticked

lent_read : IsReadAs opening lent lent
lent_read = ([], 0, (refl, refl))

ticked_read : IsReadAs opening ticked ticked
ticked_read = (lent, 0, (lent_read, refl))

connected_read : IsReadAs opening connected connected
connected_read = (ticked, 0, (ticked_read, refl))

asked_read : IsReadAs opening asked_in_time asked_in_time
asked_read = (connected, 0, (connected_read, refl))

end_read : IsReadAs opening ends_while_waiting plain_end
end_read = (asked_in_time, 0, (asked_read, refl))

end_book : IsBook opening ends_while_waiting (state_of opening plain_end)
end_book = record { plain = plain_end; reads = end_read; lawful = end_lawful; leads = refl }

-- ---- the books

pub denied : LawfulBook opening denied_at_its_end
denied = (
  state_of opening plain_denied,
  record {
    plain = plain_denied;
    reads = (plain_end, 0, (end_read, refl));
    lawful = denied_lawful;
    leads = refl;
  },
)

-- judged by the policy without its clock
pub not_let_out : LawfulBook opening let_out_at_its_end → ⊥
not_let_out book =
    let outs : List Out = forward_ab Allowed ∷ packet_ab ∷ [] in
    let waits : State = state_of opening plain_end in
    let last = last_row (row Take outs) ends_while_waiting book.0 book.1 in
    let same : last.before ≡ waits = one_state ends_while_waiting last.before waits last.book end_book in
    let is : outs ≡ row_outs waits Take = last.outs ∙ ap (λ (s : State). row_outs s Take) same in
    cc
