-- What opening and closing make of a set of ids.
use Rattle.std.proofs.Common.{◌≡◌, ℕ, ◌+◌, ◌<◌, ◌≤◌, Bool, true, false, ◌||◌, ◌&&◌, not, ◌==◌, nat_lt, nat_le}
use Rattle.std.proofs.Common.{List, [], ◌∷◌, length, filter, if◌then◌else◌, cond, refl, sym, subst, ◌∙◌, ap}
use Rattle.std.proofs.Common.{arith}
use Rattle.std.specs.Prelude.{insert, remove}
use Rattle.std.specs.List.{position_or_len}
use Rattle.std.proofs.Math.Numerals.{one-add}
use Rattle.std.proofs.lemmas.Bool.Decides.{nat_tests}
use Rattle.sng_states.specs.declared.limits.TheConstants.{MAX_OPEN_IDS}
use Rattle.sng_states.specs.OpenIds.{is_id, has_id, is_full_for, is_from, with_id, admitted, without_id}
use Rattle.sng_states.specs.OpenIds.{is_below, ascends, IsOpenIds}

-- the id is put where it has its place
pub put_in_place : (id : ℕ) (ids : List ℕ) → insert ids (position_or_len (is_from id) ids) id ≡ with_id id ids
put_in_place id [] = refl
put_in_place id (one ∷ ids) =
    elim (is_from id one)
    as (λ b. insert (one ∷ ids) (cond (not b) (1 + position_or_len (is_from id) ids) 0) id
    ≡ (if b then id ∷ (one ∷ ids) else one ∷ with_id id ids)) [
      | true ↦ refl
      | false ↦ rw (one-add (position_or_len (is_from id) ids)) (ap (λ l. one ∷ l) (put_in_place id ids))
    ]

pub both_true : (a b : Bool) → (a && b) ≡ true → (a ≡ true) × (b ≡ true)
both_true true b is = (refl, is)
both_true false b is = cc

pub none_true : (a b : Bool) → (a || b) ≡ false → (a ≡ false) × (b ≡ false)
none_true true b is = cc
none_true false b is = (refl, is)

-- what is below the first of some ids that ascend is below all
below_later : (id one : ℕ) (ids : List ℕ) → id < one → is_below one ids ≡ true → is_below id ids ≡ true
below_later id one [] less below = refl
below_later id one (two ∷ ids) less below =
    let both = both_true (nat_lt one two) (is_below one ids) below in
    let here : nat_lt id two ≡ true = grind (arith, nat_tests, both.0) in
    rw here (below_later id one ids less both.1)

-- an id that is less than another is less than those with it
below_with : (least id : ℕ) (ids : List ℕ) → is_below least ids ≡ true → least < id
    → is_below least (with_id id ids) ≡ true
below_with least id [] below less =
    let here : nat_lt least id ≡ true = grind (arith, nat_tests) in rw here refl
below_with least id (one ∷ ids) below less =
    let both = both_true (nat_lt least one) (is_below least ids) below in
    let here : nat_lt least id ≡ true = grind (arith, nat_tests) in
    elim (is_from id one)
    as (λ b. is_below least (if b then id ∷ (one ∷ ids) else one ∷ with_id id ids) ≡ true) [
      | true ↦ rw here below
      | false ↦ rw both.0 (below_with least id ids both.1 less)
    ]

first_less : (id one : ℕ) → is_from id one ≡ true → is_id id one ≡ false → id < one
first_less id one from other = grind (arith, nat_tests)

first_not_less : (id one : ℕ) → is_from id one ≡ false → one < id
first_not_less id one before = grind (arith, nat_tests)

ascends_by : (id one : ℕ) (ids : List ℕ) (b : Bool) → is_from id one ≡ b → is_id id one ≡ false
    → is_below one ids ≡ true → ascends ids ≡ true
    → ascends (with_id id ids) ≡ true
    → ascends (if b then id ∷ (one ∷ ids) else one ∷ with_id id ids) ≡ true
ascends_by id one ids true from other below rest later =
    let less : id < one = first_less id one from other in
    let here : nat_lt id one ≡ true = grind (arith, nat_tests) in
    rw (here, below_later id one ids less below, below, rest) refl
ascends_by id one ids false before other below rest later =
    rw (below_with one id ids below (first_not_less id one before)) later

-- with one more that was not there they ascend still
pub ascends_with : (id : ℕ) (ids : List ℕ) → ascends ids ≡ true → has_id id ids ≡ false
    → ascends (with_id id ids) ≡ true
ascends_with id [] up absent = refl
ascends_with id (one ∷ ids) up absent =
    let both = both_true (is_below one ids) (ascends ids) up in
    let none = none_true (is_id id one) (has_id id ids) absent in
    ascends_by id one ids (is_from id one) refl none.0 both.0 both.1 (ascends_with id ids both.1 none.1)

-- and so do those that are left
below_kept : (keep : ℕ → Bool) (least : ℕ) (ids : List ℕ) → is_below least ids ≡ true
    → is_below least (filter keep ids) ≡ true
below_kept keep least [] below = refl
below_kept keep least (one ∷ ids) below =
    let both = both_true (nat_lt least one) (is_below least ids) below in
    elim (keep one) as (λ b. is_below least (cond b (one ∷ filter keep ids) (filter keep ids)) ≡ true) [
      | true ↦ rw both.0 (below_kept keep least ids both.1)
      | false ↦ below_kept keep least ids both.1
    ]

pub ascends_kept : (keep : ℕ → Bool) (ids : List ℕ) → ascends ids ≡ true → ascends (filter keep ids) ≡ true
ascends_kept keep [] up = refl
ascends_kept keep (one ∷ ids) up =
    let both = both_true (is_below one ids) (ascends ids) up in
    elim (keep one) as (λ b. ascends (cond b (one ∷ filter keep ids) (filter keep ids)) ≡ true) [
      | true ↦ rw (below_kept keep one ids both.0) (ascends_kept keep ids both.1)
      | false ↦ ascends_kept keep ids both.1
    ]

-- ---- which are open then

same_id : (k id one : ℕ) (rest : Bool) → (one == id) ≡ true
    → (not (id == k) && rest) ≡ (not (id == k) && ((one == k) || rest))
same_id k id one rest is = grind (arith, nat_tests)

other_id : (k id one : ℕ) (rest : Bool) → (one == id) ≡ false
    → ((one == k) || (not (id == k) && rest)) ≡ (not (id == k) && ((one == k) || rest))
other_id k id one rest is = grind (arith, nat_tests)

has_without_by : (k id one : ℕ) (ids : List ℕ) (b : Bool) → is_id id one ≡ b
    → has_id k (without_id id ids) ≡ (not (id == k) && has_id k ids)
    → has_id k (cond (not b) (one ∷ without_id id ids) (without_id id ids))
    ≡ (not (id == k) && (is_id k one || has_id k ids))
has_without_by k id one ids true is later = later ∙ same_id k id one (has_id k ids) is
has_without_by k id one ids false is later = rw later (other_id k id one (has_id k ids) is)

pub has_without : (k id : ℕ) (ids : List ℕ) → has_id k (without_id id ids) ≡ (not (id == k) && has_id k ids)
has_without k id [] = elim (id == k) as (λ b. false ≡ (not b && false)) [ true ↦ refl | false ↦ refl ]
has_without k id (one ∷ ids) = has_without_by k id one ids (is_id id one) refl (has_without k id ids)

swapped : (a b c : Bool) → (a || (b || c)) ≡ (b || (a || c))
swapped true true c = refl
swapped true false c = refl
swapped false true c = refl
swapped false false c = refl

pub has_with : (k id : ℕ) (ids : List ℕ) → has_id k (with_id id ids) ≡ ((id == k) || has_id k ids)
has_with k id [] = refl
has_with k id (one ∷ ids) =
    elim (is_from id one) as (λ b. has_id k (if b then id ∷ (one ∷ ids) else one ∷ with_id id ids)
    ≡ ((id == k) || (is_id k one || has_id k ids))) [
      | true ↦ refl
      | false ↦ rw (has_with k id ids) (swapped (one == k) (id == k) (has_id k ids))
    ]

same_has : (k id : ℕ) (ids : List ℕ) → (id == k) ≡ true → has_id id ids ≡ true → has_id k ids ≡ true
same_has k id ids is there = let e : id ≡ k = grind (arith, nat_tests) in rw e at there

already : (k id : ℕ) (ids : List ℕ) (b : Bool) → (id == k) ≡ b → has_id id ids ≡ true
    → has_id k ids ≡ (b || has_id k ids)
already k id ids true is there = same_has k id ids is there
already k id ids false is there = refl

has_admitted_by : (k id : ℕ) (ids : List ℕ) (there full : Bool) → has_id id ids ≡ there
    → has_id k (if there || full then ids else with_id id ids)
    ≡ (if not there && full then has_id k ids else (id == k) || has_id k ids)
has_admitted_by k id ids true full is = already k id ids (id == k) refl is
has_admitted_by k id ids false true is = refl
has_admitted_by k id ids false false is = has_with k id ids

pub has_admitted : (k id : ℕ) (ids : List ℕ) → has_id k (admitted id ids)
    ≡ (if is_full_for id ids then has_id k ids else (id == k) || has_id k ids)
has_admitted k id ids = has_admitted_by k id ids (has_id id ids) (nat_le MAX_OPEN_IDS (length ids)) refl

-- ---- how many are open

length_with : (id : ℕ) (ids : List ℕ) → length (with_id id ids) ≡ 1 + length ids
length_with id [] = refl
length_with id (one ∷ ids) =
    elim (is_from id one)
    as (λ b. length (if b then id ∷ (one ∷ ids) else one ∷ with_id id ids) ≡ 1 + length (one ∷ ids)) [
      | true ↦ omega arith
      | false ↦ let later = length_with id ids in omega arith
    ]

fewer_kept : (keep : ℕ → Bool) (ids : List ℕ) → length (filter keep ids) ≤ length ids
fewer_kept keep [] = omega arith
fewer_kept keep (one ∷ ids) =
    let later = fewer_kept keep ids in
    elim (keep one)
    as (λ b. length (cond b (one ∷ filter keep ids) (filter keep ids)) ≤ length (one ∷ ids))
    [ true ↦ omega arith | false ↦ omega arith ]

pub none_open : IsOpenIds []
none_open = record { few = omega arith; ordered = refl }

admitted_by : (id : ℕ) (ids : List ℕ) (there full : Bool) → has_id id ids ≡ there
    → nat_le MAX_OPEN_IDS (length ids) ≡ full → IsOpenIds ids
    → IsOpenIds (if there || full then ids else with_id id ids)
admitted_by id ids true full is much kept = kept
admitted_by id ids false true is much kept = kept
admitted_by id ids false false is much kept =
    let room : length ids < MAX_OPEN_IDS = grind (arith, nat_tests) in record {
      few = omega (arith, length_with id ids);
      ordered = ascends_with id ids kept.ordered is;
    }

pub few_admitted : (id : ℕ) (ids : List ℕ) → IsOpenIds ids → IsOpenIds (admitted id ids)
few_admitted id ids kept =
    admitted_by id ids (has_id id ids) (nat_le MAX_OPEN_IDS (length ids)) refl refl kept

pub few_without : (id : ℕ) (ids : List ℕ) → IsOpenIds ids → IsOpenIds (without_id id ids)
few_without id ids kept = record {
  few = omega (arith, fewer_kept (λ one. not (is_id id one)) ids, kept.few);
  ordered = ascends_kept (λ one. not (is_id id one)) ids kept.ordered;
}

-- ---- one list for a set

here_open : (id : ℕ) (ids : List ℕ) → has_id id (id ∷ ids) ≡ true
here_open id ids = let e : is_id id id ≡ true = grind (arith, nat_tests) in rw e refl

one_of : (a b : Bool) → (a || b) ≡ true → a ≡ false → b ≡ true
one_of true b either not_here = cc
one_of false b either not_here = either

above_by : (least k one : ℕ) (ids : List ℕ) (b : Bool) → is_id k one ≡ b → nat_lt least one ≡ true
    → (has_id k ids ≡ true → least < k) → (b || has_id k ids) ≡ true → least < k
above_by least k one ids true is less later there = grind (arith, nat_tests)
above_by least k one ids false is less later there = later there

-- what is open among ids above another is above it
above : (least k : ℕ) (ids : List ℕ) → is_below least ids ≡ true → has_id k ids ≡ true → least < k
above least k [] below there = cc
above least k (one ∷ ids) below there =
    let both = both_true (nat_lt least one) (is_below least ids) below in
    above_by least k one ids (is_id k one) refl both.0 (above least k ids both.1) there

-- so it is not open itself
absent_below : (k : ℕ) (ids : List ℕ) (b : Bool) → has_id k ids ≡ b → is_below k ids ≡ true → b ≡ false
absent_below k ids true is below = let wrong : k < k = above k k ids below is in absurd (omega arith)
absent_below k ids false is below = refl

-- an id that is open is the first or comes later
first_or_later : (k one : ℕ) (ids : List ℕ) (b : Bool) → is_id k one ≡ b → is_below one ids ≡ true
    → (b || has_id k ids) ≡ true → one ≤ k
first_or_later k one ids true is below there = grind (arith, nat_tests)
first_or_later k one ids false is below there =
    let less : one < k = above one k ids below there in omega arith

rest_same : (k one : ℕ) (a b : List ℕ) (here : Bool) → is_id k one ≡ here → is_below one a ≡ true
    → is_below one b ≡ true → (here || has_id k a) ≡ (here || has_id k b)
    → has_id k a ≡ has_id k b
rest_same k one a b true is below_a below_b same =
    let e : one ≡ k = grind (arith, nat_tests) in
    absent_below k a (has_id k a) refl (rw e at below_a)
    ∙ sym (absent_below k b (has_id k b) refl (rw e at below_b))
rest_same k one a b false is below_a below_b same = same

one_list_by : (x y : ℕ) (a b : List ℕ) → x ≡ y → is_below x a ≡ true → is_below y b ≡ true
    → ((k : ℕ) → has_id k (x ∷ a) ≡ has_id k (y ∷ b))
    → (((k : ℕ) → has_id k a ≡ has_id k b) → a ≡ b)
    → x ∷ a ≡ y ∷ b
one_list_by x y a b is below_a below_b same rest =
    let below : is_below x b ≡ true = rw is below_b in
    let same_x : (k : ℕ) → has_id k (x ∷ a) ≡ has_id k (x ∷ b) =
    subst (λ (z : ℕ). (k : ℕ) → has_id k (x ∷ a) ≡ has_id k (z ∷ b)) (sym is) same in
    let later : a ≡ b = rest (λ k. rest_same k x a b (is_id k x) refl below_a below (same_x k)) in
    rw (is, later) refl

-- sets with the same ids are one list
pub one_list : (a b : List ℕ) → ascends a ≡ true → ascends b ≡ true
    → ((k : ℕ) → has_id k a ≡ has_id k b) → a ≡ b
one_list [] [] up_a up_b same = refl
one_list [] (y ∷ b) up_a up_b same = let wrong = same y ∙ here_open y b in cc
one_list (x ∷ a) [] up_a up_b same = let wrong = sym (same x) ∙ here_open x a in cc
one_list (x ∷ a) (y ∷ b) up_a up_b same =
    let of_a = both_true (is_below x a) (ascends a) up_a in
    let of_b = both_true (is_below y b) (ascends b) up_b in
    let y_first : y ≤ x =
    first_or_later x y b (is_id x y) refl of_b.0 (sym (same x) ∙ here_open x a) in
    let x_first : x ≤ y = first_or_later y x a (is_id y x) refl of_a.0 (same y ∙ here_open y b) in
    one_list_by x y a b (omega arith) of_a.0 of_b.0 same (one_list a b of_a.1 of_b.1)

-- ---- closing one

-- where the id is among those that are open, or none of them is it
pub open_at : (id : ℕ) (ids : List ℕ) → position_or_len (is_id id) ids < length ids → has_id id ids ≡ true
open_at id [] = λ within. absurd (omega arith)
open_at id (one ∷ ids) =
    elim (is_id id one) as (λ b. cond (not b) (1 + position_or_len (is_id id) ids) 0 < length (one ∷ ids)
    → (b || has_id id ids) ≡ true) [ true ↦ λ _. refl | false ↦ λ within. open_at id ids (omega arith) ]

pub not_open : (id : ℕ) (ids : List ℕ) → length ids ≤ position_or_len (is_id id) ids → has_id id ids ≡ false
not_open id [] = λ _. refl
not_open id (one ∷ ids) =
    elim (is_id id one) as (λ b. length (one ∷ ids) ≤ cond (not b) (1 + position_or_len (is_id id) ids) 0
    → (b || has_id id ids) ≡ false)
    [ true ↦ λ beyond. absurd (omega arith) | false ↦ λ beyond. not_open id ids (omega arith) ]

-- one that is not open leaves them as they are
pub all_kept : (id : ℕ) (ids : List ℕ) → has_id id ids ≡ false → without_id id ids ≡ ids
all_kept id [] absent = refl
all_kept id (one ∷ ids) absent =
    let none = none_true (is_id id one) (has_id id ids) absent in
    rw none.0 (ap (λ l. one ∷ l) (all_kept id ids none.1))

rest_kept : (id one : ℕ) (ids : List ℕ) → is_id id one ≡ true → is_below one ids ≡ true
    → ids ≡ without_id id ids
rest_kept id one ids is below =
    let e : one ≡ id = grind (arith, nat_tests) in
    sym (all_kept id ids (absent_below id ids (has_id id ids) refl (rw e at below)))

removed_by : (id one : ℕ) (ids : List ℕ) (b : Bool) → is_id id one ≡ b → is_below one ids ≡ true
    → (position_or_len (is_id id) ids < length ids
    → remove ids (position_or_len (is_id id) ids) ≡ without_id id ids)
    → cond (not b) (1 + position_or_len (is_id id) ids) 0 < length (one ∷ ids)
    → remove (one ∷ ids) (cond (not b) (1 + position_or_len (is_id id) ids) 0)
    ≡ cond (not b) (one ∷ without_id id ids) (without_id id ids)
removed_by id one ids true is below later within = rest_kept id one ids is below
removed_by id one ids false is below later within =
    rw (one-add (position_or_len (is_id id) ids)) (ap (λ l. one ∷ l) (later (omega arith)))

-- the place of the id is where it is taken away
pub removed : (id : ℕ) (ids : List ℕ) → ascends ids ≡ true → position_or_len (is_id id) ids < length ids
    → remove ids (position_or_len (is_id id) ids) ≡ without_id id ids
removed id [] up within = absurd (omega arith)
removed id (one ∷ ids) up within =
    let both = both_true (is_below one ids) (ascends ids) up in
    removed_by id one ids (is_id id one) refl both.0 (removed id ids both.1) within

-- ---- what the calls make of them

-- one more
pub put_in : (id place : ℕ) (ids : List ℕ) → place ≡ position_or_len (is_from id) ids
    → has_id id ids ≡ false → length ids < MAX_OPEN_IDS
    → insert ids place id ≡ admitted id ids
put_in id place ids place_is absent room =
    let few : nat_le MAX_OPEN_IDS (length ids) ≡ false = grind (arith, nat_tests) in
    rw (place_is, absent, few) (put_in_place id ids)

pub ascends_put : (id place : ℕ) (ids : List ℕ) → place ≡ position_or_len (is_from id) ids
    → has_id id ids ≡ false → ascends ids ≡ true
    → ascends (insert ids place id) ≡ true
ascends_put id place ids place_is absent up =
    rw (place_is, put_in_place id ids) (ascends_with id ids up absent)

-- none, where it was open, and where there is no room
pub admitted_open : (id : ℕ) (ids : List ℕ) → has_id id ids ≡ true → ids ≡ admitted id ids
admitted_open id ids there = rw there refl

pub admitted_full : (id : ℕ) (ids : List ℕ) → has_id id ids ≡ false → length ids ≡ MAX_OPEN_IDS
    → ids ≡ admitted id ids
admitted_full id ids absent full =
    let many : nat_le MAX_OPEN_IDS (length ids) ≡ true = grind (arith, nat_tests) in
    rw (absent, many) refl

-- one less
pub taken_out : (id place : ℕ) (ids : List ℕ) → place ≡ position_or_len (is_id id) ids
    → place < length ids → ascends ids ≡ true
    → remove ids place ≡ without_id id ids
taken_out id place ids place_is within up =
    rw place_is (removed id ids up (rw (← place_is) within))

pub ascends_taken : (id place : ℕ) (ids : List ℕ) → place ≡ position_or_len (is_id id) ids
    → place < length ids → ascends ids ≡ true
    → ascends (remove ids place) ≡ true
ascends_taken id place ids place_is within up =
    rw (taken_out id place ids place_is within up) (ascends_kept (λ one. not (is_id id one)) ids up)

pub place_within : (id : ℕ) (ids : List ℕ) → position_or_len (is_from id) ids ≤ length ids
place_within id [] = omega arith
place_within id (one ∷ ids) =
    elim (is_from id one)
    as (λ b. cond (not b) (1 + position_or_len (is_from id) ids) 0 ≤ length (one ∷ ids))
    [ true ↦ omega arith | false ↦ let later = place_within id ids in omega arith ]

pub room_left : (full : Bool) (n : ℕ) → full ≡ (n == MAX_OPEN_IDS) → full ≡ false → n ≤ MAX_OPEN_IDS
    → n < MAX_OPEN_IDS
room_left full n is not_full within = grind (arith, nat_tests)
