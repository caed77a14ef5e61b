-- What one mark more or less makes of the ids in kept.
use Rattle.std.proofs.Common.{◌≡◌, ℕ, zero, suc, ◌<◌, Bool, true, false, ◌==◌, ◌||◌, not, List, [], ◌∷◌}
use Rattle.std.proofs.Common.{length, set, replicate, filter, cond, refl, sym, ◌∙◌, ap, arith}
use Rattle.std.proofs.lemmas.Bool.{eqb-true, eqb-false, ne_eqb}
use Rattle.std.proofs.lemmas.List.{get_or-set_same, get_or-set_other, set-get_or}
use Rattle.std.proofs.Math.ListN.{length-set}
use Rattle.sng_outbox.specs.PacketIds.{is_id, is_used, is_marked, AreInUse}
use Rattle.sng_outbox.specs.Laws.{MarksFollowUse, UndoneIsUnused}

-- what a mark is after a write
marked_after : (marks : List Bool) (id other : ℕ) (mark same : Bool) → (id == other) ≡ same
    → id < length marks
    → is_marked (set marks id mark) other ≡ cond same mark (is_marked marks other)
marked_after marks id other mark true is within =
    let equal : id ≡ other = eqb-true id other is in
    rw (← equal) (get_or-set_same marks id mark false within)
marked_after marks id other mark false is within =
    let differs : id ≡ other → ⊥ = eqb-false id other is in
    get_or-set_other marks id other mark false (λ same. differs (sym same))

-- one id more
with_one : (id other : ℕ) (ids : List ℕ) (same : Bool) → (id == other) ≡ same
    → cond same true (is_used ids other) ≡ is_used (id ∷ ids) other
with_one id other ids true is = rw is refl
with_one id other ids false is = rw is refl

-- one id less
without_by : (used id other : ℕ) (ids : List ℕ) (here same : Bool) → (used == id) ≡ here
    → (id == other) ≡ same
    → cond same false (is_used ids other) ≡ is_used (filter (λ u. not (is_id id u)) ids) other
    → cond same false (is_id other used || is_used ids other)
    ≡ is_used (cond (not here) (used ∷ filter (λ u. not (is_id id u)) ids)
    (filter (λ u. not (is_id id u)) ids)) other
without_by used id other ids true true here_is same_is later = later
without_by used id other ids true false here_is same_is later =
    let equal : used ≡ id = eqb-true used id here_is in
    let differs : id ≡ other → ⊥ = eqb-false id other same_is in
    rw (ne_eqb used other (λ same. differs (sym equal ∙ same))) later
without_by used id other ids false true here_is same_is later =
    let equal : id ≡ other = eqb-true id other same_is in
    let differs : used ≡ id → ⊥ = eqb-false used id here_is in
    rw (ne_eqb used other (λ same. differs (same ∙ sym equal))) later
without_by used id other ids false false here_is same_is later = ap (λ rest. is_id other used || rest) later

without_one : (id other : ℕ) (ids : List ℕ) (same : Bool) → (id == other) ≡ same
    → cond same false (is_used ids other) ≡ is_used (filter (λ u. not (is_id id u)) ids) other
without_one id other [] true is = refl
without_one id other [] false is = refl
without_one id other (used ∷ ids) same is =
    without_by used id other ids (used == id) same refl is (without_one id other ids same is)

pub follow : MarksFollowUse
follow ids n id small kept =
    let within : id < length n.marks = omega (arith, kept.whole) in (
      record {
        whole = length-set n.marks id true ∙ kept.whole;
        same = λ other. marked_after n.marks id other true (id == other) refl within
            ∙ ap (λ marked. cond (id == other) true marked) (kept.same other)
            ∙ with_one id other ids (id == other) refl;
      },
      record {
        whole = length-set n.marks id false ∙ kept.whole;
        same = λ other. marked_after n.marks id other false (id == other) refl within
            ∙ ap (λ marked. cond (id == other) false marked) (kept.same other)
            ∙ without_one id other ids (id == other) refl;
      },
    )

-- the second write is the one that counts
set-set : (marks : List Bool) (id : ℕ) (a b : Bool) → set (set marks id a) id b ≡ set marks id b
set-set [] id a b = refl
set-set (m ∷ marks) zero a b = refl
set-set (m ∷ marks) (suc id) a b = ap (λ rest. m ∷ rest) (set-set marks id a b)

pub undone : UndoneIsUnused
undone ids n id mark kept before =
    let was : is_marked n.marks id ≡ not mark = kept.same id ∙ before in
    ap (λ marks. record n { marks = marks })
    (set-set n.marks id mark (not mark) ∙ ap (λ m. set n.marks id m) (sym was)
    ∙ set-get_or n.marks id false)

unmarked : (n id : ℕ) → is_marked (replicate n false) id ≡ false
unmarked zero id = refl
unmarked (suc n) zero = refl
unmarked (suc n) (suc id) = unmarked n id

-- where no mark is set no id is in use
pub none_used : (marks : List Bool) (n : ℕ) → marks ≡ replicate n false → length marks ≡ 65536
    → AreInUse [] marks
none_used marks n is whole =
    record { whole = whole; same = λ id. ap (λ m. is_marked m id) is ∙ unmarked n id }
