-- Each edit of a client's filters leaves each of them there once, and no more than may be.
use Rattle.std.proofs.Common.{◌≡◌, ℕ, ◌+◌, ◌<◌, ◌≤◌, Bool, true, false, not, List, [], ◌∷◌, ◌++◌, length}
use Rattle.std.proofs.Common.{get_or, set, filter, cond, refl, sym, arith, length-append, ◌||◌, ◌&&◌, nat_lt}
use Rattle.std.specs.List.{count_by, position_or_len}
use Rattle.std.specs.Str.{bytes_eq}
use Rattle.std.proofs.lemmas.Bool.{le-leb, lt-leb, lt-ltb, le-ltb}
use Rattle.std.proofs.lemmas.List.Sums.{sum_by-set, sum_by_push, length-filter, count_by-le-length}
use Rattle.std.proofs.lemmas.List.Filters.{sum_by-filter_both}
use Rattle.std.proofs.lemmas.Slice.Eq.{bytes_eq-Decides}
use Rattle.std.proofs.Math.ListN.{length-set}
use Rattle.sng_text.specs.declared.qos.Qos.{Qos}
use Rattle.sng_fan.specs.declared.held.Held.{Held}
use Rattle.sng_fan.specs.declared.limits.TheConstants.{MAX_SUBSCRIPTIONS}
use Rattle.sng_fan.specs.Subscriptions.{has_text, stands, is_full, with_filter, without_filter, IsOneClients}
use Rattle.sng_fan.proofs.PlaceLemmas.{any_at, none_at, none_counted, granted_at}

counted_less : {X : Type 0} (p keep : X → Bool) (xs : List X) → count_by p (filter keep xs) ≤ count_by p xs
counted_less p keep xs =
    omega (arith, sum_by-filter_both keep (λ x. not (keep x)) (λ _. refl) (λ x. cond (p x) 1 0) xs)

pub once_kept : (keep : Held → Bool) (xs : List Held) → IsOneClients xs → IsOneClients (filter keep xs)
once_kept keep xs once = (
  λ text. omega (arith, counted_less (has_text text) keep xs, once.0 text),
  omega (arith, length-filter keep xs, count_by-le-length keep xs, once.1),
)

-- another QoS for one filter
pub once_granted : (xs : List Held) (place : ℕ) (qos : Qos) (h : Held) → h ≡ get_or xs place h
    → place < length xs → IsOneClients xs → IsOneClients (set xs place (record h { qos = qos }))
once_granted xs place qos h h_is within once =
    let s : Held = record h { qos = qos } in
    let same : get_or xs place h ≡ h = sym h_is in (
      λ text. omega (
        arith,
        rw same at (sum_by-set (λ x. cond (has_text text x) 1 0) xs place s h within),
        once.0 text,
      ),
      rw (length-set xs place s) once.1,
    )

fresh : (xs : List Held) (text other : List ℕ) → stands xs text ≡ false → bytes_eq text other ≡ true
    → count_by (has_text other) xs ≡ 0
fresh xs text other absent is =
    let text_is : text ≡ other = (bytes_eq-Decides text other).0 is in
    rw (← text_is) (none_counted (has_text text) xs absent)

one_at_most : (xs : List Held) (text other : List ℕ) (b : Bool) → bytes_eq text other ≡ b
    → stands xs text ≡ false
    → count_by (has_text other) xs ≤ 1 → count_by (has_text other) xs + cond b 1 0 ≤ 1
one_at_most xs text other true is absent one = omega (arith, fresh xs text other absent is)
one_at_most xs text other false is absent one = omega arith

-- a filter that did not stand, where there is room for it
pub once_added : (xs : List Held) (text : List ℕ) (qos : Qos) → stands xs text ≡ false
    → length xs < MAX_SUBSCRIPTIONS → IsOneClients xs
    → IsOneClients (xs ++ record { filter = text; qos = qos } ∷ [])
once_added xs text qos absent room once =
    let s : Held = record { filter = text; qos = qos } in (
      λ other. rw (sum_by_push (λ x. cond (has_text other x) 1 0) xs s)
          (one_at_most xs text other _ refl absent (once.0 other)),
      omega (arith, length-append xs (s ∷ [])),
    )

-- what is there is granted anew, full or not
pub granted_anew : (xs : List Held) (place : ℕ) (text : List ℕ) (qos : Qos) (h : Held)
    → place ≡ position_or_len (has_text text) xs → place < length xs → h ≡ get_or xs place h
    → (is_full xs text ≡ false) × (set xs place (record h { qos = qos }) ≡ with_filter xs text qos)
granted_anew xs place text qos h place_is within h_is =
    let inside : position_or_len (has_text text) xs < length xs = rw (← place_is) within in
    let stood : stands xs text ≡ true = any_at (has_text text) xs inside in
    let here : get_or xs (position_or_len (has_text text) xs) h ≡ h = rw (← place_is) (sym h_is) in
    (rw stood refl, rw place_is (rw here at (granted_at xs text qos h inside)))

pub stands_not : (xs : List Held) (place : ℕ) (text : List ℕ) → place ≡ position_or_len (has_text text) xs
    → length xs ≤ place → stands xs text ≡ false
stands_not xs place text place_is beyond = none_at (has_text text) xs (rw (← place_is) beyond)

-- there is no room for what is not there
pub refused : (xs : List Held) (place : ℕ) (text : List ℕ) → place ≡ position_or_len (has_text text) xs
    → length xs ≤ place → MAX_SUBSCRIPTIONS ≤ length xs
    → is_full xs text ≡ true
refused xs place text place_is beyond many =
    rw (stands_not xs place text place_is beyond, le-leb MAX_SUBSCRIPTIONS (length xs) many) refl

-- there is room
pub not_full : (xs : List Held) (text : List ℕ) → length xs < MAX_SUBSCRIPTIONS → is_full xs text ≡ false
not_full xs text few =
    rw (lt-leb MAX_SUBSCRIPTIONS (length xs) few)
    (elim (stands xs text) as (λ b. (not b && false) ≡ false) [ true ↦ refl | false ↦ refl ])

-- one that ends leaves fewer
pub fewer_left : (xs : List Held) (text : List ℕ) → stands xs text ≡ true
    → length (without_filter xs text) < length xs
fewer_left [] text = λ there. cc
fewer_left (h ∷ xs) text =
    elim (has_text text h) as (λ b. (b || stands xs text) ≡ true
    → length (cond (not b) (h ∷ without_filter xs text) (without_filter xs text)) < length (h ∷ xs)) [
      | true ↦ λ _. omega (
        arith,
        length-filter (λ x. not (has_text text x)) xs,
        count_by-le-length (λ x. not (has_text text x)) xs,
      )
      | false ↦ λ there. let later = fewer_left xs text there in omega arith
    ]

-- and where none stood all are left
pub all_left : (xs : List Held) (text : List ℕ) → stands xs text ≡ false
    → length (without_filter xs text) ≡ length xs
all_left [] text = λ absent. refl
all_left (h ∷ xs) text =
    elim (has_text text h) as (λ b. (b || stands xs text) ≡ false
    → length (cond (not b) (h ∷ without_filter xs text) (without_filter xs text)) ≡ length (h ∷ xs)) [
      | true ↦ λ absent. cc
      | false ↦ λ absent. let later = all_left xs text absent in omega arith
    ]

-- so fewer are left exactly where it stood
fewer_by : (a b : ℕ) (xs : List Held) (text : List ℕ) (stood : Bool) → stands xs text ≡ stood
    → a ≡ length (without_filter xs text) → b ≡ length xs → nat_lt a b ≡ stood
fewer_by a b xs text true is left all = lt-ltb a b (omega (arith, fewer_left xs text is))
fewer_by a b xs text false is left all = le-ltb a b (omega (arith, all_left xs text is))

pub fewer_where_stood : (a b : ℕ) (xs : List Held) (text : List ℕ) → a ≡ length (without_filter xs text)
    → b ≡ length xs → nat_lt a b ≡ stands xs text
fewer_where_stood a b xs text left all = fewer_by a b xs text (stands xs text) refl left all
