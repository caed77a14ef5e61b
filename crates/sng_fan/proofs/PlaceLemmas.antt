-- Where the first filter that passes a test stands, and what an edit there gives.
use Rattle.std.proofs.Common.{◌≡◌, ℕ, ◌+◌, ◌<◌, ◌≤◌, Bool, true, false, ◌||◌, not, List, [], ◌∷◌, ◌++◌}
use Rattle.std.proofs.Common.{length, get_or, set, if◌then◌else◌, cond, refl, ◌∙◌, ap, arith}
use Rattle.std.specs.List.{list_any, position_or_len, count_by}
use Rattle.std.proofs.lemmas.List.Sums.{sum_by-cons}
use Rattle.std.proofs.Math.Numerals.{one-add}
use Rattle.sng_text.specs.declared.qos.Qos.{Qos}
use Rattle.sng_fan.specs.declared.held.Held.{Held}
use Rattle.sng_fan.specs.Subscriptions.{has_text, stands, with_filter}

pub or_false : (a b : Bool) → (a || b) ≡ false → (a ≡ false) × (b ≡ false)
or_false true b is = cc
or_false false b is = (refl, is)

-- something passes the test where the place is within the list
pub any_at : {X : Type 0} (p : X → Bool) (xs : List X) → position_or_len p xs < length xs
    → list_any p xs ≡ true
any_at p [] = λ within. absurd (omega arith)
any_at p (x ∷ xs) =
    elim (p x) as (λ b. cond (not b) (1 + position_or_len p xs) 0 < length (x ∷ xs)
    → (b || list_any p xs) ≡ true) [ true ↦ λ _. refl | false ↦ λ within. any_at p xs (omega arith) ]

-- and nothing where it is not
pub none_at : {X : Type 0} (p : X → Bool) (xs : List X) → length xs ≤ position_or_len p xs
    → list_any p xs ≡ false
none_at p [] = λ _. refl
none_at p (x ∷ xs) =
    elim (p x) as (λ b. length (x ∷ xs) ≤ cond (not b) (1 + position_or_len p xs) 0
    → (b || list_any p xs) ≡ false)
    [ true ↦ λ beyond. absurd (omega arith) | false ↦ λ beyond. none_at p xs (omega arith) ]

pub none_counted : {X : Type 0} (p : X → Bool) (xs : List X) → list_any p xs ≡ false → count_by p xs ≡ 0
none_counted p [] = λ _. refl
none_counted p (x ∷ xs) = λ absent.
    let both = or_false (p x) (list_any p xs) absent in
    let here : cond {A = ℕ} (p x) 1 0 ≡ 0 = rw both.0 refl in
    let later : count_by p xs ≡ 0 = none_counted p xs both.1 in
    let all : count_by p (x ∷ xs) ≡ cond {A = ℕ} (p x) 1 0 + count_by p xs =
    sum_by-cons (λ y. cond (p y) 1 0) x xs in
    all ∙ omega arith

-- a filter that is there is granted anew in its place
pub granted_at : (xs : List Held) (text : List ℕ) (qos : Qos) (d : Held)
    → position_or_len (has_text text) xs < length xs
    → set xs (position_or_len (has_text text) xs)
    (record (get_or xs (position_or_len (has_text text) xs) d) { qos = qos }) ≡ with_filter xs text qos
granted_at [] text qos d = λ within. absurd (omega arith)
granted_at (h ∷ xs) text qos d =
    let place = position_or_len (has_text text) xs in
    elim (has_text text h) as (λ b. cond (not b) (1 + place) 0 < length (h ∷ xs)
    → set (h ∷ xs) (cond (not b) (1 + place) 0)
    (record (get_or (h ∷ xs) (cond (not b) (1 + place) 0) d) { qos = qos })
    ≡ (if b then record h { qos = qos } ∷ xs else h ∷ with_filter xs text qos)) [
      | true ↦ λ _. refl
      | false ↦ λ within. rw (one-add place) (ap (λ l. h ∷ l) (granted_at xs text qos d (omega arith)))
    ]

-- one that is not there stands behind all others
pub granted_last : (xs : List Held) (text : List ℕ) (qos : Qos) → stands xs text ≡ false
    → with_filter xs text qos ≡ xs ++ record { filter = text; qos = qos } ∷ []
granted_last [] text qos = λ _. refl
granted_last (h ∷ xs) text qos = λ absent.
    let both = or_false (has_text text h) (stands xs text) absent in
    rw both.0 (ap (λ l. h ∷ l) (granted_last xs text qos both.1))

-- one that stands behind these has the QoS that it is granted now, and the others are as they were
pub granted_again : (before : List Held) (h : Held) (later : List Held) (text : List ℕ) (qos : Qos)
    → stands before text ≡ false → has_text text h ≡ true
    → with_filter (before ++ h ∷ later) text qos ≡ before ++ record h { qos = qos } ∷ later
granted_again [] h later text qos = λ absent here. rw here refl
granted_again (g ∷ before) h later text qos = λ absent here.
    let both = or_false (has_text text g) (stands before text) absent in
    rw both.0 (ap (λ l. g ∷ l) (granted_again before h later text qos both.1 here))
