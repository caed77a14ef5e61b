-- The laws of books, in the words of their own rows: each from that of the plain rows as which the book is read.
use Rattle.std.proofs.Common.{ℕ, ◌≡◌, Bool, true, false, List, [], ◌∷◌, ◌++◌, take, drop, refl, sym, ap, ◌∙◌}
use Rattle.std.proofs.Common.{subst}
use Rattle.std.proofs.lemmas.List.{take-append-drop}
use Rattle.sng_grants.specs.declared.policy.Policy.{Policy}
use Rattle.sng_policy.specs.Grants.{subscribe_grant}
use Rattle.sng_policy.specs.declared.grant.FilterGrant.TheVariants as on_filter
use Rattle.sng_policy.proofs.SubscriptionLemmas.{subscribing_is_receiving}
use Rattle.sng_fan.specs.Subscriptions.{stands}
use Rattle.sng_fan.specs.declared.held.Held.{Held}
use Rattle.sng_book.specs.declared.event.Event.{Event}
use Rattle.sng_book.specs.declared.event.Event.TheVariants as event
use Rattle.sng_book.specs.declared.out.Out.{Out}
use Rattle.sng_book.specs.declared.out.Out.TheVariants.{Send, Wire, Note}
use Rattle.sng_book.specs.declared.row.Row.{Row}
use Rattle.sng_history.specs.Books.{left, ends_by, plain_rows, IsReadAs, IsBook, LawfulBook}
use Rattle.sng_history.specs.Lawful.{Lawful}
use Rattle.sng_history.specs.State.{State, opening, state_of}
use Rattle.sng_laws.specs.LawsBooks.{IsShownBy}
use Rattle.sng_laws.specs.LawsPromise.{AllStand, EachStands}
use Rattle.sng_laws.specs.LawsReached.{Reaches, EachReaches, lets_go, Announced, EachAnnounced}
use Rattle.sng_laws.specs.LawsStanding.{StandingIsAllowed, StandingIsFilter, StandingIsReceived}
use Rattle.sng_laws.specs.Views.{last_policy, policy_in_force, clock_at, is_up}
use Rattle.sng_laws.specs.ViewsStanding.{standing_of}
use Rattle.sng_promise.proofs.BookShown.{made, shown_by, lawful_before}
use Rattle.sng_promise.proofs.Clients.SeenState.{stands as state_stands}
use Rattle.sng_promise.proofs.InForce.LawPromise.{EachStandsPlain, promise_law}
use Rattle.sng_promise.proofs.InForce.LawReached.{reached_law}
use Rattle.sng_promise.proofs.InForce.LawReaches.{reach_both}
use Rattle.sng_promise.proofs.Link.LawRows.{links}
use Rattle.sng_promise.proofs.Standing.StandingFilters.{standing_filter}
use Rattle.sng_promise.proofs.Standing.StandingLaws.{standing_allowed}

-- ---- what the outs of a row say

stand_both : (policy : Policy) (some more : List Out) → AllStand policy some → AllStand policy more
    → AllStand policy (some ++ more)
stand_both policy [] more one two = two
stand_both policy (Note said ∷ some) more one two = (one.0, stand_both policy some more one.1 two)
stand_both policy (Send to datagram ∷ some) more one two = stand_both policy some more one two
stand_both policy (Wire packet ∷ some) more one two = stand_both policy some more one two

-- what may come behind any out may come behind a note
behind_any : (lets : Bool) (outs : List Out) → Announced false outs → Announced lets outs
behind_any lets [] all = tt
behind_any lets (Note said ∷ outs) all = all
behind_any lets (Send to datagram ∷ outs) all = all
behind_any lets (Wire sent ∷ outs) all = ((λ is. absurd (let bad = all.0 is in cc)), all.1)

announced_both : (lets : Bool) (some more : List Out) → Announced lets some → Announced false more
    → Announced lets (some ++ more)
announced_both lets [] more one two = behind_any lets more two
announced_both lets (Note said ∷ some) more one two = announced_both (lets_go said) some more one two
announced_both lets (Send to datagram ∷ some) more one two = announced_both false some more one two
announced_both lets (Wire sent ∷ some) more one two = (one.0, announced_both false some more one.1 two)

-- each note stands under the policy, and nothing goes out but behind its note
record Told (policy : Policy) (outs : List Out) : Type 0 where
  stands : AllStand policy outs
  reaches : Reaches false outs
  announced : Announced false outs

told_parts : (policy : Policy) (count : ℕ) (outs : List Out) → Told policy (take count outs)
    → Told policy (drop count outs) → Told policy outs
told_parts policy count outs one two =
    subst (Told policy) (take-append-drop count outs)
    (record {
      stands = stand_both policy (take count outs) (drop count outs) one.stands two.stands;
      reaches = reach_both false (take count outs) (drop count outs) one.reaches two.reaches;
      announced = announced_both false (take count outs) (drop count outs) one.announced two.announced;
    })

-- ---- plain rows

abbrev EachTold : List Row → Type 0
EachTold [] = Unit {0}
EachTold (row ∷ earlier) = EachTold earlier × Told (last_policy (row ∷ earlier)) row.outs

each_told : (plain : List Row) → EachStandsPlain plain → EachReaches plain → EachAnnounced plain
    → EachTold plain
each_told [] stand reach announced = tt
each_told (row ∷ plain) stand reach announced = (
  each_told plain stand.0 reach.0 announced.0,
  record { stands = stand.1; reaches = reach.1; announced = announced.1 },
)

plain_told : (plain : List Row) → Lawful opening plain → EachTold plain
plain_told plain lawful =
    each_told plain (promise_law plain lawful) (reached_law plain lawful) (links plain lawful).announced

-- ---- a row of a book

tick_told : (s : State) (by clock count : ℕ) (outs : List Out) (before : List Row) (b : Bool)
    → ends_by s clock ≡ b
    → (let plain = plain_rows s count (made by (event.Tick clock) outs) (event.Tick clock) ++ before in
    EachTold plain → Told (last_policy plain) outs)
tick_told s by clock count outs before true is =
    rw is (λ told. told_parts (left s clock) count outs told.0.1 told.1)
tick_told s by clock count outs before false is = rw is (λ told. told.1)

row_told : (s : State) (by count : ℕ) (e : Event) (outs : List Out) (before : List Row)
    → (let plain = plain_rows s count (made by e outs) e ++ before in
    EachTold plain → Told (last_policy plain) outs)
row_told s by count (event.Tick clock) outs before =
    tick_told s by clock count outs before (ends_by s clock) refl
row_told s by count (event.Replace policy) outs before = λ told. told.1
row_told s by count (event.Datagram from bytes) outs before = λ told. told.1
row_told s by count (event.Broker packet) outs before = λ told. told.1
row_told s by count event.Up outs before = λ told. told.1
row_told s by count event.Down outs before = λ told. told.1
row_told s by count event.Take outs before = λ told. told.1

-- ---- books

pub record BookTold (h : List Row) : Type 0 where
  pub stands : EachStands h
  pub reaches : EachReaches h
  pub announced : EachAnnounced h

read_told : (h plain : List Row) → IsReadAs opening h plain → Lawful opening plain → BookTold h
read_told [] plain reads lawful = record { stands = tt; reaches = tt; announced = tt }
read_told (row ∷ h) plain reads lawful =
    let before : List Row = reads.0 in
    let count : ℕ = reads.1 in
    let s : State = state_of opening before in
    let own : List Row = plain_rows s count row row.event ++ before in
    let own_lawful : Lawful opening own = subst (Lawful opening) reads.2.1 lawful in
    let earlier : Lawful opening before = lawful_before s row.by count row.event row.outs before own_lawful in
    let rest : BookTold h = read_told h before reads.2.0 earlier in
    let told : Told (last_policy own) row.outs =
    row_told s row.by count row.event row.outs before (plain_told own own_lawful) in
    let here : Told (policy_in_force (row ∷ h)) row.outs =
    subst (λ (policy : Policy). Told policy row.outs)
    (ap last_policy (sym reads.2.1) ∙ (shown_by (row ∷ h) plain reads lawful).policy) told in
    record {
      stands = (rest.stands, here.stands);
      reaches = (rest.reaches, here.reaches);
      announced = (rest.announced, here.announced);
    }

pub book_told : (h : List Row) → LawfulBook opening h → BookTold h
book_told h book = read_told h book.1.plain book.1.reads book.1.lawful

book_shown : (h : List Row) (book : LawfulBook opening h) → IsShownBy h book.1.plain
book_shown h book = shown_by h book.1.plain book.1.reads book.1.lawful

-- what stands in the book stands in its plain rows
stands_plain : (h : List Row) (book : LawfulBook opening h) (id text : List ℕ)
    → stands (standing_of id h) text ≡ true → stands (standing_of id book.1.plain) text ≡ true
stands_plain h book id text stood =
    subst (λ (held : List Held). stands held text ≡ true) (sym ((book_shown h book).standing id)) stood

pub book_filters : (h : List Row) → LawfulBook opening h → StandingIsFilter h
book_filters h book id text stood =
    standing_filter book.1.plain book.1.lawful id text (stands_plain h book id text stood)

pub book_allowed : (h : List Row) → LawfulBook opening h → StandingIsAllowed h
book_allowed h book id text stood =
    subst (λ (policy : Policy). subscribe_grant policy id text ≡ on_filter.Allowed) (book_shown h book).policy
    (standing_allowed book.1.plain book.1.lawful id text (stands_plain h book id text stood))

pub book_received : (h : List Row) → LawfulBook opening h → StandingIsReceived h
book_received h book id text name stood has is_name matched =
    (subscribing_is_receiving (policy_in_force h) id text (book_filters h book id text stood) has).allowed
    (book_allowed h book id text stood) name is_name matched

-- ---- the state

pub record BookState (h : List Row) (s : State) : Type 0 where
  pub policy : s.policy ≡ policy_in_force h
  pub clock : s.clock ≡ clock_at h
  pub up : s.up ≡ is_up h

pub book_state : (h : List Row) (s : State) → IsBook opening h s → BookState h s
book_state h s book =
    let shown = shown_by h book.plain book.reads book.lawful in
    let state = (state_stands book.plain book.lawful).shown in
    record {
      policy = ap (λ (t : State). t.policy) book.leads ∙ (state.policy ∙ shown.policy);
      clock = ap (λ (t : State). t.clock) book.leads ∙ (state.clock ∙ shown.clock);
      up = ap (λ (t : State). t.up) book.leads ∙ (state.up ∙ shown.up);
    }
