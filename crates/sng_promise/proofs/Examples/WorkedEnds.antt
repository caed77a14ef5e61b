-- The worked books of a subscription are lawful, or not, by computation.
use Rattle.std.proofs.Common.{◌≡◌, true, List, [], ◌∷◌, ◌++◌, refl, sym, ap, subst, ◌∙◌}
use Rattle.sng_book.specs.declared.event.Event.TheVariants.{Datagram, Up, Replace, Tick}
use Rattle.sng_book.specs.declared.outcome.Outcome.TheVariants.{Allowed}
use Rattle.sng_book.specs.declared.out.Out.{Out}
use Rattle.sng_book.specs.declared.row.Row.{Row}
use Rattle.sng_history.specs.Books.{IsReadAs, IsBook, LawfulBook, plain_rows, row_outs}
use Rattle.sng_history.specs.Causes.{ByConnect}
use Rattle.sng_history.specs.Lawful.{Lawful}
use Rattle.sng_history.specs.State.{State, opening, after, state_of}
use Rattle.sng_history.proofs.BookExact.{last_row, one_state}
use Rattle.sng_promise.specs.Examples.{row, grants_nothing}
use Rattle.sng_promise.specs.ExamplesClients.{s1, home, lets_in, welcome, s1_home, subscribe_ab, subscribed_ab}
use Rattle.sng_promise.specs.ExamplesClients.{subscribes_ab}
use Rattle.sng_promise.specs.ExamplesBooks.{lends_under_a, subscribed_in_time, ends_unlisted}
use Rattle.sng_promise.specs.ExamplesBooks.{ended_at_its_end, kept_at_its_end}
use Rattle.sng_promise.proofs.Examples.WorkedAsks.{then, came}
use Rattle.sng_history.proofs.ExampleIds.{s1_utf8, s1_chars}
use Rattle.sng_promise.proofs.Examples.WorkedClients.{hello, cause_s1}
use Rattle.sng_promise.proofs.Examples.WorkedSubscriptions.{ab_utf8}

-- ---- the states, one after the other

abbrev up_lent : State
up_lent = record opening { policy = lends_under_a; up = true }

abbrev entered : State
entered = after up_lent (ByConnect home (hello s1)) (lets_in s1 ∷ welcome home ∷ [])

entered_is : state_of opening (s1_home lends_under_a) ≡ entered
entered_is = ap (λ c. after up_lent c (lets_in s1 ∷ welcome home ∷ [])) (cause_s1 home)

abbrev subscribing : List Out
subscribing = subscribes_ab Allowed ∷ subscribed_ab ∷ []

abbrev holding : State
holding = then entered (Datagram home subscribe_ab) subscribing

holding_is : state_of opening subscribed_in_time ≡ holding
holding_is = ap (λ s. then s (Datagram home subscribe_ab) subscribing) entered_is

abbrev letting_go : State → State
letting_go s = then s (Replace grants_nothing) (ends_unlisted ∷ [])

-- ---- the plain rows

home_lent : Lawful opening (s1_home lends_under_a)
home_lent = (
  (
    (tt, record { whole = refl; exits = refl; clients = tt }),
    record { whole = refl; exits = refl; clients = tt },
  ),
  record {
    whole = rw (s1_utf8, s1_chars) refl;
    exits = rw (s1_utf8, s1_chars) refl;
    clients = rw (s1_utf8, s1_chars) (record { fixed = refl }, tt);
  },
)

subscribed_lawful : Lawful opening subscribed_in_time
subscribed_lawful = (
  home_lent,
  came (s1_home lends_under_a) entered (Datagram home subscribe_ab) subscribing entered_is
      (record {
        whole = rw ab_utf8 refl;
        exits = refl;
        clients = (record { fixed = rw (ab_utf8, ab_utf8) refl }, tt);
      }),
)

abbrev plain_end : List Row
plain_end = row (Replace grants_nothing) (ends_unlisted ∷ []) ∷ subscribed_in_time

abbrev plain_ended : List Row
plain_ended = row (Tick 5000) [] ∷ plain_end

ended_lawful : Lawful opening plain_ended
ended_lawful = (
  (
    subscribed_lawful,
    came subscribed_in_time holding (Replace grants_nothing) (ends_unlisted ∷ []) holding_is
        (record { whole = refl; exits = refl; clients = (record { fixed = refl }, tt) }),
  ),
  came plain_end (letting_go holding) (Tick 5000) [] (ap letting_go holding_is)
      (record { whole = refl; exits = refl; clients = (record { fixed = refl }, tt) }),
)

-- ---- the books are read so

abbrev lent : List Row
lent = row (Replace lends_under_a) [] ∷ []

abbrev connected : List Row
connected = row Up [] ∷ lent

lent_read : IsReadAs opening lent lent
lent_read = ([], 0, (refl, refl))

connected_read : IsReadAs opening connected connected
connected_read = (lent, 0, (lent_read, refl))

home_read : IsReadAs opening (s1_home lends_under_a) (s1_home lends_under_a)
home_read = (connected, 0, (connected_read, refl))

subscribed_read : IsReadAs opening subscribed_in_time subscribed_in_time
subscribed_read = (s1_home lends_under_a, 0, (home_read, refl))

subscribed_book : IsBook opening subscribed_in_time (state_of opening subscribed_in_time)
subscribed_book = record {
  plain = subscribed_in_time;
  reads = subscribed_read;
  lawful = subscribed_lawful;
  leads = refl;
}

abbrev ended_row : Row
ended_row = row (Tick 5000) (ends_unlisted ∷ [])

ended_read : IsReadAs opening ended_at_its_end plain_ended
ended_read = (
  subscribed_in_time,
  1,
  (
    subscribed_read,
    subst (λ (s : State). plain_ended ≡ plain_rows s 1 ended_row (Tick 5000) ++ subscribed_in_time)
        (sym holding_is) refl,
  ),
)

-- ---- the books

pub ended : LawfulBook opening ended_at_its_end
ended = (
  state_of opening plain_ended,
  record { plain = plain_ended; reads = ended_read; lawful = ended_lawful; leads = refl },
)

pub not_kept : LawfulBook opening kept_at_its_end → ⊥
not_kept book =
    let last = last_row (row (Tick 5000) []) subscribed_in_time book.0 book.1 in
    let same : last.before ≡ holding =
    one_state subscribed_in_time last.before (state_of opening subscribed_in_time) last.book subscribed_book
    ∙ holding_is in
    let outs : List Out = [] in
    let is : outs ≡ row_outs holding (Tick 5000) =
    last.outs ∙ ap (λ (s : State). row_outs s (Tick 5000)) same in
    cc
