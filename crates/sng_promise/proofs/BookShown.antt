-- What the plain rows of a lawful book show of it is what a reader of the book itself sees.
use Rattle.std.proofs.Common.{ℕ, ◌≡◌, ◌≤◌, Bool, true, false, List, [], ◌∷◌, ◌++◌, refl, sym, ap, ap₂, ◌∙◌}
use Rattle.std.proofs.Common.{subst, nat_le, if◌then◌else◌, arith, take, drop}
use Rattle.std.proofs.lemmas.List.{take-append-drop}
use Rattle.std.specs.Prelude.{Option, None}
use Rattle.sng_grants.specs.Ends.{in_force}
use Rattle.sng_grants.specs.declared.policy.Policy.{Policy}
use Rattle.sng_grants.proofs.EndLemmas.{ends_stay, nothing_ends_before}
use Rattle.sng_book.specs.declared.event.Event.{Event}
use Rattle.sng_book.specs.declared.event.Event.TheVariants as event
use Rattle.sng_book.specs.declared.out.Out.{Out}
use Rattle.sng_book.specs.declared.out.Out.TheVariants.{Send, Wire, Note}
use Rattle.sng_book.specs.declared.row.Row.{Row}
use Rattle.sng_history.specs.Books.{left, ends_by, plain_rows, IsReadAs}
use Rattle.sng_history.specs.Lawful.{Lawful}
use Rattle.sng_history.specs.State.{State, opening, state_of, later}
use Rattle.sng_laws.specs.LawsBooks.{IsShownBy}
use Rattle.sng_fan.specs.declared.held.Held.{Held}
use Rattle.sng_laws.specs.Views.{last_policy, policy_in_force, clock_at}
use Rattle.sng_laws.specs.ViewsMessages.{Message, message_at}
use Rattle.sng_laws.specs.ViewsStanding.{standing_by, standing_after, standing_of}
use Rattle.sng_promise.proofs.Clients.SeenState.{stands}

later_at_least : (a b : ℕ) (t : Bool) → nat_le a b ≡ t → a ≤ (if t then b else a)
later_at_least a b true is = grind arith
later_at_least a b false is = omega arith

-- the state behind the plain rows so far, by what the book shows
record Behind (s : State) (h : List Row) : Type 0 where
  policy : s.policy ≡ policy_in_force h
  clock : s.clock ≡ clock_at h

behind : (h before : List Row) → Lawful opening before → IsShownBy h before
    → Behind (state_of opening before) h
behind h before lawful shown =
    let state = (stands before lawful).shown in
    record { policy = state.policy ∙ shown.policy; clock = state.clock ∙ shown.clock }

-- what is left at a tick of what is in force is what is left of the whole policy
left_whole : (s : State) (h : List Row) (clock : ℕ) → Behind s h
    → left s clock ≡ in_force (later (clock_at h) clock) (last_policy h)
left_whole s h clock is =
    ap₂ (λ (now : ℕ) (policy : Policy). in_force (later now clock) policy) is.clock is.policy
    ∙ ends_stay (clock_at h) (later (clock_at h) clock) (last_policy h)
    (later_at_least (clock_at h) clock (nat_le (clock_at h) clock) refl)

-- what stands behind some outs and more
standing_both : (m : Option Message) (id : List ℕ) (some more : List Out) (held : List Held)
    → standing_after m id (some ++ more) held ≡ standing_after m id more (standing_after m id some held)
standing_both m id [] more held = refl
standing_both m id (Note said ∷ some) more held = standing_both m id some more (standing_by m id said held)
standing_both m id (Send to datagram ∷ some) more held = standing_both m id some more held
standing_both m id (Wire packet ∷ some) more held = standing_both m id some more held

standing_parts : (id : List ℕ) (count : ℕ) (outs : List Out) (held : List Held)
    → standing_after None id (drop count outs) (standing_after None id (take count outs) held)
    ≡ standing_after None id outs held
standing_parts id count outs held =
    sym (standing_both None id (take count outs) (drop count outs) held)
    ∙ ap (λ (all : List Out). standing_after None id all held) (take-append-drop count outs)

abbrev pub made : ℕ → Event → List Out → Row
made by said outs = record { by = by; event = said; outs = outs }

tick_shown : (s : State) (by clock count : ℕ) (outs : List Out) (h before : List Row) (b : Bool)
    → ends_by s clock ≡ b → Behind s h → s.policy ≡ last_policy before → IsShownBy h before
    → IsShownBy (made by (event.Tick clock) outs ∷ h)
    (plain_rows s count (made by (event.Tick clock) outs) (event.Tick clock) ++ before)
tick_shown s by clock count outs h before true is behind same shown = rw is (record {
  policy = left_whole s h clock behind;
  clock = ap (λ (was : ℕ). later was clock) shown.clock;
  up = shown.up;
  standing = λ id.
      standing_parts id count outs (standing_of id before) ∙ ap (standing_after None id outs) (shown.standing id);
})
tick_shown s by clock count outs h before false is behind same shown =
    let stays : left s clock ≡ s.policy = nothing_ends_before (later s.clock clock) s.policy is in
    rw is (record {
      policy = sym same ∙ sym stays ∙ left_whole s h clock behind;
      clock = ap (λ (was : ℕ). later was clock) shown.clock;
      up = shown.up;
      standing = λ id. ap (standing_after None id outs) (shown.standing id);
    })

row_shown : (s : State) (by count : ℕ) (e : Event) (outs : List Out) (h before : List Row) → Behind s h
    → s.policy ≡ last_policy before → IsShownBy h before
    → IsShownBy (made by e outs ∷ h) (plain_rows s count (made by e outs) e ++ before)
row_shown s by count (event.Tick clock) outs h before behind same shown =
    tick_shown s by clock count outs h before (ends_by s clock) refl behind same shown
row_shown s by count (event.Replace policy) outs h before behind same shown = record {
  policy = ap (λ (clock : ℕ). in_force clock policy) behind.clock;
  clock = shown.clock;
  up = shown.up;
  standing = λ id. ap (standing_after None id outs) (shown.standing id);
}
row_shown s by count (event.Datagram from bytes) outs h before behind same shown = record {
  policy = shown.policy;
  clock = shown.clock;
  up = shown.up;
  standing = λ id. ap (standing_after (message_at (event.Datagram from bytes)) id outs) (shown.standing id);
}
row_shown s by count (event.Broker packet) outs h before behind same shown = record {
  policy = shown.policy;
  clock = shown.clock;
  up = shown.up;
  standing = λ id. ap (standing_after None id outs) (shown.standing id);
}
row_shown s by count event.Up outs h before behind same shown = record {
  policy = shown.policy;
  clock = shown.clock;
  up = refl;
  standing = λ id. ap (standing_after None id outs) (shown.standing id);
}
row_shown s by count event.Down outs h before behind same shown = record {
  policy = shown.policy;
  clock = shown.clock;
  up = refl;
  standing = λ id. ap (standing_after None id outs) (shown.standing id);
}
row_shown s by count event.Take outs h before behind same shown = record {
  policy = shown.policy;
  clock = shown.clock;
  up = shown.up;
  standing = λ id. ap (standing_after None id outs) (shown.standing id);
}

-- the rows before are lawful, too
tick_before : (s : State) (by clock count : ℕ) (outs : List Out) (before : List Row) (b : Bool)
    → ends_by s clock ≡ b
    → Lawful opening (plain_rows s count (made by (event.Tick clock) outs) (event.Tick clock) ++ before)
    → Lawful opening before
tick_before s by clock count outs before true is lawful = (rw is at lawful).0.0
tick_before s by clock count outs before false is lawful = (rw is at lawful).0

pub lawful_before : (s : State) (by count : ℕ) (e : Event) (outs : List Out) (before : List Row)
    → Lawful opening (plain_rows s count (made by e outs) e ++ before) → Lawful opening before
lawful_before s by count (event.Tick clock) outs before lawful =
    tick_before s by clock count outs before (ends_by s clock) refl lawful
lawful_before s by count (event.Replace policy) outs before lawful = lawful.0
lawful_before s by count (event.Datagram from bytes) outs before lawful = lawful.0
lawful_before s by count (event.Broker packet) outs before lawful = lawful.0
lawful_before s by count event.Up outs before lawful = lawful.0
lawful_before s by count event.Down outs before lawful = lawful.0
lawful_before s by count event.Take outs before lawful = lawful.0

pub shown_by : (h plain : List Row) → IsReadAs opening h plain → Lawful opening plain → IsShownBy h plain
shown_by [] plain reads lawful = subst (IsShownBy []) (sym reads) (record { policy = refl; clock = refl; up = refl; standing = λ id. refl })
shown_by (row ∷ h) plain reads lawful =
    let before : List Row = reads.0 in
    let count : ℕ = reads.1 in
    let s : State = state_of opening before in
    let own : Lawful opening (plain_rows s count row row.event ++ before) =
    subst (Lawful opening) reads.2.1 lawful in
    let earlier : Lawful opening before = lawful_before s row.by count row.event row.outs before own in
    let shown : IsShownBy h before = shown_by h before reads.2.0 earlier in
    subst (IsShownBy (row ∷ h)) (sym reads.2.1)
    (row_shown s row.by count row.event row.outs h before (behind h before earlier shown)
    (stands before earlier).shown.policy shown)
