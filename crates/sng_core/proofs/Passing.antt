-- A tick passes over clients with whom nothing is due: what is let out, what is planned and the room are as
-- without them.
use Rattle.std.proofs.Common.{◌≡◌, ◌<◌, ◌≤◌, ◌+◌, ◌-◌, ℕ, zero, suc, Bool, true, false, List, [], ◌∷◌, ◌++◌, length}
use Rattle.std.proofs.Common.{drop, refl, ap, ap₂, sym, ◌∙◌, subst, arith}
use Rattle.std.specs.Prelude.{if◌then◌else◌, ◌&&◌, ◌||◌}
use Rattle.std.proofs.lemmas.List.{append_assoc}
use Rattle.sng_grants.specs.declared.policy.Policy.{Policy}
use Rattle.sng_book.specs.declared.out.Out.{Out}
use Rattle.sng_history.specs.Clients.{Client}
use Rattle.sng_history.specs.Ticking.{is_overdue, is_repeating, is_lost_at, is_tried_out}
use Rattle.sng_sessions.specs.Dues.{is_due}
use Rattle.sng_sessions.specs.Places.{holds_at}
use Rattle.sng_sessions.specs.Standing.{client_at}
use Rattle.sng_link.specs.declared.room.Room.{Room}
use Rattle.sng_turns.specs.Again.{exchange_outs, exchange_comes}
use Rattle.sng_core.specs.Dues.{due_outs, due_at, room_after, dues_outs, dues_plan, dues_room, again_outs, again_at}
use Rattle.sng_core.specs.Losing.{room_behind, lost_outs, loss_of}
use Rattle.sng_core.specs.declared.tick.Due.{Due}
use Rattle.sng_core.specs.declared.tick.Due.TheVariants.{Lost, Unanswered}

-- ---- one client with whom nothing is due

neither_by : (over late tried : Bool) → (over || late) ≡ false → (over || (late && tried)) ≡ false
neither_by true late tried quiet = absurd cc
neither_by false true tried quiet = absurd cc
neither_by false false tried quiet = refl

late_by : (over late : Bool) → (over || late) ≡ false → late ≡ false
late_by true late quiet = absurd cc
late_by false late quiet = quiet

not_lost : (clock : ℕ) (x : Client) → is_due clock x ≡ false → is_lost_at clock x ≡ false
not_lost clock x quiet = neither_by (is_overdue clock x) (is_repeating clock x) (is_tried_out x.buffer.exchange) quiet

not_late : (clock : ℕ) (x : Client) → is_due clock x ≡ false → is_repeating clock x ≡ false
not_late clock x quiet = late_by (is_overdue clock x) (is_repeating clock x) quiet

no_outs : (policy : Policy) (clock : ℕ) (room : Room) (x : Client) → is_due clock x ≡ false
    → due_outs policy clock room x ≡ []
no_outs policy clock room x quiet =
    ap (λ lost. if lost then lost_outs room x else again_outs policy clock x) (not_lost clock x quiet)
    ∙ ap (λ late. if late then exchange_outs policy x x.buffer.exchange else []) (not_late clock x quiet)

no_due : (policy : Policy) (clock : ℕ) (room : Room) (place : ℕ) (x : Client) → is_due clock x ≡ false
    → due_at policy clock room place x ≡ []
no_due policy clock room place x quiet =
    ap (λ lost. if lost then Lost (loss_of room place x) ∷ [] else again_at policy clock place x)
    (not_lost clock x quiet)
    ∙ ap (λ late. if late then Unanswered place (exchange_comes policy x x.buffer.exchange) ∷ [] else [])
    (not_late clock x quiet)

same_room : (clock : ℕ) (room : Room) (x : Client) → is_due clock x ≡ false → room_after clock room x ≡ room
same_room clock room x quiet =
    ap (λ lost. if lost then room_behind room x.wills.will else room) (not_lost clock x quiet)

-- ---- from one place on it is as from another

pub record Alike (policy : Policy) (clock : ℕ) (room : Room) (place next : ℕ) (xs : List Client) : Type 0 where
  pub outs : dues_outs policy clock room (drop place xs) ≡ dues_outs policy clock room (drop next xs)
  pub dues : dues_plan policy clock room place (drop place xs) ≡ dues_plan policy clock room next (drop next xs)
  pub left : dues_room clock room (drop place xs) ≡ dues_room clock room (drop next xs)

outs_past : (policy : Policy) (clock : ℕ) (room : Room) (xs : List Client) (place : ℕ)
    → holds_at (is_due clock) xs place ≡ false
    → dues_outs policy clock room (drop place xs) ≡ dues_outs policy clock room (drop (suc place) xs)
outs_past policy clock room [] zero quiet = refl
outs_past policy clock room [] (suc place) quiet = refl
outs_past policy clock room (x ∷ xs) zero quiet =
    ap₂ (λ (outs : List Out) (left : Room). outs ++ dues_outs policy clock left xs)
    (no_outs policy clock room x quiet) (same_room clock room x quiet)
outs_past policy clock room (x ∷ xs) (suc place) quiet = outs_past policy clock room xs place quiet

dues_past : (policy : Policy) (clock : ℕ) (room : Room) (at : ℕ) (xs : List Client) (place : ℕ)
    → holds_at (is_due clock) xs place ≡ false
    → dues_plan policy clock room at (drop place xs) ≡ dues_plan policy clock room (suc at) (drop (suc place) xs)
dues_past policy clock room at [] zero quiet = refl
dues_past policy clock room at [] (suc place) quiet = refl
dues_past policy clock room at (x ∷ xs) zero quiet =
    ap₂ (λ (dues : List Due) (left : Room). dues ++ dues_plan policy clock left (suc at) xs)
    (no_due policy clock room at x quiet) (same_room clock room x quiet)
dues_past policy clock room at (x ∷ xs) (suc place) quiet = dues_past policy clock room at xs place quiet

room_past_one : (clock : ℕ) (room : Room) (xs : List Client) (place : ℕ)
    → holds_at (is_due clock) xs place ≡ false
    → dues_room clock room (drop place xs) ≡ dues_room clock room (drop (suc place) xs)
room_past_one clock room [] zero quiet = refl
room_past_one clock room [] (suc place) quiet = refl
room_past_one clock room (x ∷ xs) zero quiet =
    ap (λ (left : Room). dues_room clock left xs) (same_room clock room x quiet)
room_past_one clock room (x ∷ xs) (suc place) quiet = room_past_one clock room xs place quiet

-- so many places further on, where nothing is due before
passed_by : (policy : Policy) (clock : ℕ) (room : Room) (count place next : ℕ) (xs : List Client)
    → place + count ≡ next
    → ((other : ℕ) → place ≤ other → other < next → holds_at (is_due clock) xs other ≡ false)
    → Alike policy clock room place next xs
passed_by policy clock room zero place next xs far quiet =
    let same : place ≡ next = omega (arith, far) in
    subst (λ n. Alike policy clock room place n xs) same (record { outs = refl; dues = refl; left = refl })
passed_by policy clock room (suc count) place next xs far quiet =
    let here : holds_at (is_due clock) xs place ≡ false =
    quiet place (omega arith) (omega (arith, far)) in
    let rest : Alike policy clock room (suc place) next xs =
    passed_by policy clock room count (suc place) next xs (omega (arith, far))
    (λ other after before. quiet other (omega (arith, after)) before) in
    record {
      outs = outs_past policy clock room xs place here ∙ rest.outs;
      dues = dues_past policy clock room place xs place here ∙ rest.dues;
      left = room_past_one clock room xs place here ∙ rest.left;
    }

pub passed : (policy : Policy) (clock : ℕ) (room : Room) (place next : ℕ) (xs : List Client) → place ≤ next
    → ((other : ℕ) → place ≤ other → other < next → holds_at (is_due clock) xs other ≡ false)
    → Alike policy clock room place next xs
passed policy clock room place next xs after quiet =
    passed_by policy clock room (next - place) place next xs (omega (arith, after)) quiet

-- ---- one client more, and then those that are passed over

pub next_one : (xs : List Client) (place : ℕ) → place < length xs
    → drop place xs ≡ client_at xs place ∷ drop (suc place) xs
next_one [] place here = absurd (omega (arith, here))
next_one (x ∷ xs) zero here = refl
next_one (x ∷ xs) (suc place) here = next_one xs place (omega (arith, here))

-- the client is let out for behind what was, and then those that are passed over
pub more_outs : (policy : Policy) (clock : ℕ) (room left : Room) (xs : List Client) (x : Client) (place next : ℕ)
    (outs made all : List Out)
    → drop place xs ≡ x ∷ drop (suc place) xs → made ≡ outs ++ due_outs policy clock room x
    → left ≡ room_after clock room x → Alike policy clock left (suc place) next xs
    → outs ++ dues_outs policy clock room (drop place xs) ≡ all
    → made ++ dues_outs policy clock left (drop next xs) ≡ all
more_outs policy clock room left xs x place next outs made all parted is behind alike before =
    ap₂ (λ (front : List Out) (rest : List Out). front ++ rest) is (sym alike.outs)
    ∙ (append_assoc outs (due_outs policy clock room x) (dues_outs policy clock left (drop (suc place) xs))
    ∙ (ap (λ (r : Room). outs ++ (due_outs policy clock room x ++ dues_outs policy clock r (drop (suc place) xs)))
    behind
    ∙ (ap (λ (ys : List Client). outs ++ dues_outs policy clock room ys) (sym parted) ∙ before)))

pub more_dues : (policy : Policy) (clock : ℕ) (room left : Room) (xs : List Client) (x : Client) (place next : ℕ)
    (dues made all : List Due)
    → drop place xs ≡ x ∷ drop (suc place) xs → made ≡ dues ++ due_at policy clock room place x
    → left ≡ room_after clock room x → Alike policy clock left (suc place) next xs
    → dues ++ dues_plan policy clock room place (drop place xs) ≡ all
    → made ++ dues_plan policy clock left next (drop next xs) ≡ all
more_dues policy clock room left xs x place next dues made all parted is behind alike before =
    ap₂ (λ (front : List Due) (rest : List Due). front ++ rest) is (sym alike.dues)
    ∙ (append_assoc dues (due_at policy clock room place x)
    (dues_plan policy clock left (suc place) (drop (suc place) xs))
    ∙ (ap (λ (r : Room). dues ++ (due_at policy clock room place x
    ++ dues_plan policy clock r (suc place) (drop (suc place) xs))) behind
    ∙ (ap (λ (ys : List Client). dues ++ dues_plan policy clock room place ys) (sym parted) ∙ before)))

pub more_room : (policy : Policy) (clock : ℕ) (room left all : Room) (xs : List Client) (x : Client) (place next : ℕ)
    → drop place xs ≡ x ∷ drop (suc place) xs → left ≡ room_after clock room x
    → Alike policy clock left (suc place) next xs → dues_room clock room (drop place xs) ≡ all
    → dues_room clock left (drop next xs) ≡ all
more_room policy clock room left all xs x place next parted behind alike before =
    sym alike.left
    ∙ (ap (λ (r : Room). dues_room clock r (drop (suc place) xs)) behind
    ∙ (ap (λ (ys : List Client). dues_room clock room ys) (sym parted) ∙ before))
