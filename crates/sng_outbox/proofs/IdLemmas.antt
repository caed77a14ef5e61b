-- Why the next id is free: the ids that are counted past differ, so each takes one more of the ids in use.
use Rattle.std.proofs.Common.{◌≡◌, ℕ, zero, suc, ◌+◌, ◌<◌, ◌≤◌, Bool, true, false, ◌==◌, nat_lt, ◌||◌, not}
use Rattle.std.proofs.Common.{◌⊎◌, inl, inr, List, [], ◌∷◌, length, filter, if◌then◌else◌, cond, refl, sym}
use Rattle.std.proofs.Common.{◌∙◌, ap, arith}
use Rattle.std.proofs.lemmas.Bool.{eqb-true, eqb-false, ne_eqb, ltb-true, ltb-false}
use Rattle.std.proofs.lemmas.List.Filters.{length-filter_both}
use Rattle.sng_outbox.specs.PacketIds.{is_id, is_used, is_marked, successor, counted_on, next_id, AreInUse}
use Rattle.sng_outbox.specs.Laws.{after, NextIdIsFree}

follows_by : (id : ℕ) (last : Bool) → (id == 65535) ≡ last → id ≤ 65535
    → (1 ≤ (if last then 1 else id + 1)) × ((if last then 1 else id + 1) ≤ 65535)
follows_by id true is small = (omega arith, omega arith)
follows_by id false is small =
    let other : id ≡ 65535 → ⊥ = eqb-false id 65535 is in
    (omega arith, omega arith)

-- what follows on an id is one
follows : (id : ℕ) → id ≤ 65535 → (1 ≤ successor id) × (successor id ≤ 65535)
follows id small = follows_by id (id == 65535) refl small

-- b is reached from a by so many steps, of which one may go from 65,535 to 1
abbrev Ahead : ℕ → ℕ → ℕ → Type 0
Ahead a b steps = (a + steps ≡ b) ⊎ (a + steps ≡ b + 65535)

ahead_by : (a b steps : ℕ) (last : Bool) → (b == 65535) ≡ last → a ≤ 65535 → steps ≤ 65533 → Ahead a b steps
    → Ahead a (if last then 1 else b + 1) (steps + 1)
ahead_by a b steps true is small few (inl near) =
    let top : b ≡ 65535 = eqb-true b 65535 is in
    inr (omega arith)
ahead_by a b steps true is small few (inr far) =
    let top : b ≡ 65535 = eqb-true b 65535 is in
    absurd (omega arith)
ahead_by a b steps false is small few (inl near) = inl (omega arith)
ahead_by a b steps false is small few (inr far) = inr (omega arith)

-- one step more
ahead : (a b steps : ℕ) → a ≤ 65535 → steps ≤ 65533 → Ahead a b steps → Ahead a (successor b) (steps + 1)
ahead a b steps small few reached = ahead_by a b steps (b == 65535) refl small few reached

-- no id is met again within 65,534 steps
differs : (a b steps : ℕ) → 1 ≤ steps → steps ≤ 65534 → Ahead a b steps → b ≡ a → ⊥
differs a b steps some few (inl near) same = omega arith
differs a b steps some few (inr far) same = omega arith

avoided : (xs turns : List ℕ) (a b steps : ℕ) → 1 ≤ steps → steps + length turns ≤ 65534 → a ≤ 65535
    → Ahead a b steps → counted_on xs turns b ≡ a → ⊥
avoided xs [] a b steps some few small reached = differs a b steps some (omega arith) reached
avoided xs (turn ∷ turns) a b steps some few small reached =
    elim (is_used xs b) as (λ here. (if here then counted_on xs turns (successor b) else b) ≡ a → ⊥) [
      | true ↦ avoided xs turns a (successor b) (steps + 1) (omega arith) (omega arith) small
          (ahead a b steps small (omega arith) reached)
      | false ↦ differs a b steps some (omega arith) reached
    ]

-- all but those with this id
abbrev others : ℕ → List ℕ → List ℕ
others id xs = filter (λ used. not (is_id id used)) xs

fewer : (xs : List ℕ) (id : ℕ) → is_used xs id ≡ true → length (others id xs) < length xs
fewer [] id = λ there. cc
fewer (used ∷ xs) id =
    let all = length-filter_both (λ s. not (is_id id s)) (λ s. not (not (is_id id s))) (λ _. refl) xs in
    elim (is_id id used) as (λ here. (here || is_used xs id) ≡ true
    → length (cond (not here) (used ∷ others id xs) (others id xs)) < length (used ∷ xs)) [
      | true ↦ λ _. omega arith
      | false ↦ λ there. let later = fewer xs id there in omega arith
    ]

others_by : (used : ℕ) (xs : List ℕ) (id other : ℕ) (here : Bool) → (used == id) ≡ here → (other ≡ id → ⊥)
    → is_used (others id xs) other ≡ is_used xs other
    → is_used (cond (not here) (used ∷ others id xs) (others id xs)) other ≡ is_used (used ∷ xs) other
others_by used xs id other true is unlike later =
    let equal : used ≡ id = eqb-true used id is in
    rw (ne_eqb used other (λ same. unlike (sym same ∙ equal))) later
others_by used xs id other false is unlike later = ap (λ there. is_id other used || there) later

-- another id is among them where it was
others_same : (xs : List ℕ) (id other : ℕ) → (other ≡ id → ⊥)
    → is_used (others id xs) other ≡ is_used xs other
others_same [] id other unlike = refl
others_same (used ∷ xs) id other unlike =
    others_by used xs id other (is_id id used) refl unlike (others_same xs id other unlike)

-- so an id that was passed may leave, and the count goes on alike
counted_alike : (xs turns : List ℕ) (a b steps : ℕ) → 1 ≤ steps → steps + length turns ≤ 65534 → a ≤ 65535
    → Ahead a b steps → counted_on (others a xs) turns b ≡ counted_on xs turns b
counted_alike xs [] a b steps some few small reached = refl
counted_alike xs (turn ∷ turns) a b steps some few small reached =
    let later =
    counted_alike xs turns a (successor b) (steps + 1) (omega arith) (omega arith) small
    (ahead a b steps small (omega arith) reached) in
    let alike = others_same xs a b (differs a b steps some (omega arith) reached) in
    ap (λ here. if here then counted_on (others a xs) turns (successor b) else b) alike
    ∙ ap (λ next. if is_used xs b then next else b) later

free_by : (xs turns : List ℕ) (id : ℕ) (here : Bool) → is_used xs id ≡ here → length turns ≤ 65533
    → id ≤ 65535
    → (here ≡ true → is_used (others id xs) (counted_on (others id xs) turns (successor id)) ≡ false)
    → is_used xs (if here then counted_on xs turns (successor id) else id) ≡ false
free_by xs turns id false is few small later = is
free_by xs turns id true is few small later =
    let next : Ahead id (successor id) 1 = ahead id id 0 small (omega arith) (inl (omega arith)) in
    let unlike = avoided xs turns id (successor id) 1 (omega arith) (omega arith) small next in
    let alike = counted_alike xs turns id (successor id) 1 (omega arith) (omega arith) small next in
    sym (others_same xs id (counted_on xs turns (successor id)) unlike)
    ∙ ap (λ answer. is_used (others id xs) answer) (sym alike) ∙ later refl

none_left : (xs : List ℕ) (id : ℕ) → length xs ≤ 0 → is_used xs id ≡ false
none_left [] id none = refl
none_left (used ∷ xs) id none = absurd (omega arith)

-- with as many turns as ids in use the count ends at a free id
free : (xs turns : List ℕ) (id : ℕ) → length xs ≤ length turns → length turns ≤ 65534 → id ≤ 65535
    → is_used xs (counted_on xs turns id) ≡ false
free xs [] id enough few small = none_left xs id enough
free xs (turn ∷ turns) id enough few small =
    free_by xs turns id (is_used xs id) refl (omega arith) small
    (λ there. let less = fewer xs id there in
    free (others id xs) turns (successor id) (omega arith) (omega arith) (follows id small).1)

-- the answer is a packet id
in_range : (xs turns : List ℕ) (id : ℕ) → 1 ≤ id → id ≤ 65535
    → (1 ≤ counted_on xs turns id) × (counted_on xs turns id ≤ 65535)
in_range xs [] id some small = (some, small)
in_range xs (turn ∷ turns) id some small =
    let next = follows id small in
    elim (is_used xs id) as (λ here. (1 ≤ (if here then counted_on xs turns (successor id) else id))
    × ((if here then counted_on xs turns (successor id) else id) ≤ 65535)) [
      | true ↦ in_range xs turns (successor id) next.0 next.1
      | false ↦ (some, small)
    ]

-- what was counted past to get to an answer
abbrev Passed : List ℕ → ℕ → ℕ → ℕ → Type 0
Passed xs most id answer =
    (passed : ℕ) × (passed ≤ most) × (answer ≡ after passed id)
    × ((k : ℕ) → k < passed → is_used xs (after k id) ≡ true)

one_passed : (xs : List ℕ) (id passed : ℕ) → is_used xs id ≡ true
    → ((k : ℕ) → k < passed → is_used xs (after k (successor id)) ≡ true)
    → (k : ℕ) → k < suc passed → is_used xs (after k id) ≡ true
one_passed xs id passed here later zero below = here
one_passed xs id passed here later (suc k) below = later k (omega arith)

passed_by : (xs turns : List ℕ) (turn id : ℕ) (here : Bool) → is_used xs id ≡ here
    → Passed xs (length turns) (successor id) (counted_on xs turns (successor id))
    → Passed xs (length (turn ∷ turns)) id (if here then counted_on xs turns (successor id) else id)
passed_by xs turns turn id true is later =
    let within : suc later.0 ≤ length (turn ∷ turns) = omega (arith, later.1) in
    (suc later.0, within, later.2, one_passed xs id later.0 is later.3)
passed_by xs turns turn id false is later = (0, omega arith, refl, λ k below. absurd (omega arith))

all_passed : (xs turns : List ℕ) (id : ℕ) → Passed xs (length turns) id (counted_on xs turns id)
all_passed xs [] id = (0, omega arith, refl, λ k below. absurd (omega arith))
all_passed xs (turn ∷ turns) id =
    passed_by xs turns turn id (is_used xs id) refl (all_passed xs turns (successor id))

pub next_free : NextIdIsFree
next_free xs last few small =
    let next = follows last small in
    let within = in_range xs xs (successor last) next.0 next.1 in (
      within.0,
      within.1,
      free xs xs (successor last) (omega arith) few next.1,
      all_passed xs xs (successor last),
    )

below_or_above : (a b : ℕ) (below equal : Bool) → nat_lt a b ≡ below → (a == b) ≡ equal
    → (a < b) ⊎ ((a ≡ b) ⊎ (b < a))
below_or_above a b true equal is same_is = inl (ltb-true a b is)
below_or_above a b false true is same_is = inr (inl (eqb-true a b same_is))
below_or_above a b false false is same_is =
    let low : b ≤ a = ltb-false a b is in
    let other : a ≡ b → ⊥ = eqb-false a b same_is in
    inr (inr (omega arith))

-- of two numbers one is below the other, or they are the same
trichotomy : (a b : ℕ) → (a < b) ⊎ ((a ≡ b) ⊎ (b < a))
trichotomy a b = below_or_above a b (nat_lt a b) (a == b) refl refl

-- one more on at the end
pub after-suc : (count id : ℕ) → after (suc count) id ≡ successor (after count id)
after-suc zero id = refl
after-suc (suc count) id = after-suc count (successor id)

-- a count that stops at the first free id, or takes all turns, gives the next id
pub first_free : (xs : List ℕ) (last turns answer : ℕ) → length xs ≤ 65534 → last ≤ 65535 → turns ≤ 65534
    → answer ≡ after turns (successor last)
    → ((k : ℕ) → k < turns → is_used xs (after k (successor last)) ≡ true)
    → (is_used xs answer ≡ false) ⊎ (turns ≡ 65534) → answer ≡ next_id xs last
first_free xs last turns answer few small most answer_is used ends =
    let next = next_free xs last few small in
    let free_there : is_used xs (after next.3.0 (successor last)) ≡ false = rw (← next.3.2) next.2 in
    let unlike : true ≡ false → ⊥ = λ same. cc in
    elim (trichotomy turns next.3.0) [
      | inl below ↦ elim ends [
        | inl free ↦ absurd (unlike (sym (next.3.3 turns below) ∙ (rw answer_is at free)))
        | inr all ↦ absurd (omega (arith, below, all, next.3.1))
      ]
      | inr (inl same) ↦ answer_is ∙ ap (λ k. after k (successor last)) same ∙ sym next.3.2
      | inr (inr above) ↦ absurd (unlike (sym (used next.3.0 above) ∙ free_there))
    ]

-- so many turns came to this id, past marked ids alone
pub record Counted (marks : List Bool) (last turns packet_id : ℕ) : Type 0 where
  pub reached : packet_id ≡ after turns (successor last)
  pub some : 1 ≤ packet_id
  pub small : packet_id ≤ 65535
  pub passed : (k : ℕ) → k < turns → is_marked marks (after k (successor last)) ≡ true

pub counted-first : (marks : List Bool) (last : ℕ) → last ≤ 65535 → Counted marks last 0 (successor last)
counted-first marks last small =
    let next = follows last small in
    record { reached = refl; some = next.0; small = next.1; passed = λ k below. absurd (omega arith) }

passed_more : (marks : List Bool) (last turns id k : ℕ) (before : Bool) → nat_lt k turns ≡ before
    → k < turns + 1 → Counted marks last turns id → is_marked marks id ≡ true
    → is_marked marks (after k (successor last)) ≡ true
passed_more marks last turns id k true is below counted here = counted.passed k (ltb-true k turns is)
passed_more marks last turns id k false is below counted here =
    let above : turns ≤ k = ltb-false k turns is in
    let same : k ≡ turns = omega arith in
    let there : id ≡ after k (successor last) =
    counted.reached ∙ ap (λ t. after t (successor last)) (sym same) in
    rw (← there) here

pub counted-more : (marks : List Bool) (last turns id : ℕ) → Counted marks last turns id
    → is_marked marks id ≡ true → Counted marks last (turns + 1) (successor id)
counted-more marks last turns id counted here =
    let next = follows id counted.small in
    let more : turns + 1 ≡ suc turns = omega arith in
    record {
      reached =
          ap successor counted.reached ∙ sym (after-suc turns (successor last))
          ∙ ap (λ t. after t (successor last)) (sym more);
      some = next.0;
      small = next.1;
      passed = λ k below. passed_more marks last turns id k (nat_lt k turns) refl below counted here;
    }

-- where the count ends at an id without a mark, or has taken all turns, it is the next id
pub counted-last : (marks : List Bool) (ids : List ℕ) (last turns id : ℕ) → length ids ≤ 65534 → last ≤ 65535
    → turns ≤ 65534 → AreInUse ids marks → Counted marks last turns id
    → (is_marked marks id ≡ false) ⊎ (turns ≡ 65534) → id ≡ next_id ids last
counted-last marks ids last turns id few small most kept counted (inl free) =
    first_free ids last turns id few small most counted.reached
    (λ k below. sym (kept.same (after k (successor last))) ∙ counted.passed k below)
    (inl (sym (kept.same id) ∙ free))
counted-last marks ids last turns id few small most kept counted (inr all) =
    first_free ids last turns id few small most counted.reached
    (λ k below. sym (kept.same (after k (successor last))) ∙ counted.passed k below) (inr all)
