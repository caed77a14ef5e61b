-- Two lists of MsgIds of which the same are open, and as many: how they stay so as one opens and closes.
use Rattle.std.proofs.Common.{◌≡◌, ℕ, ◌+◌, Bool, true, false, ◌||◌, ◌&&◌, not, ◌==◌, List, [], ◌∷◌, length}
use Rattle.std.proofs.Common.{filter, if◌then◌else◌, cond, refl, ap, sym, ◌∙◌, arith, suc}
use Rattle.std.proofs.lemmas.Bool.Decides.{nat_tests}
use Rattle.sng_states.specs.OpenIds.{is_from, with_id}
use Rattle.sng_laws.specs.ViewsOpenIds.{is_open}
use Rattle.sng_laws.specs.LawsOnce.{EachOnce}
use Rattle.sng_states.proofs.OpenIdLemmas.{has_with, has_without, all_kept, none_true}

pub record SameOpen (ids numbers : List ℕ) : Type 0 where
  pub same : (number : ℕ) → is_open number ids ≡ is_open number numbers
  pub many : length ids ≡ length numbers
  pub apart : EachOnce ids
  pub once : EachOnce numbers

pub none_same : SameOpen [] []
none_same = record { same = λ number. refl; many = refl; apart = tt; once = tt }

-- ---- one is closed

abbrev pub other_than : ℕ → ℕ → Bool
other_than number one = not (one == number)

absent_kept : (keep : ℕ → Bool) (number : ℕ) (ids : List ℕ) → is_open number ids ≡ false
    → is_open number (filter keep ids) ≡ false
absent_kept keep number [] absent = refl
absent_kept keep number (one ∷ ids) absent =
    let none = none_true (one == number) (is_open number ids) absent in
    elim (keep one) as (λ b. is_open number (cond b (one ∷ filter keep ids) (filter keep ids)) ≡ false) [
      | true ↦ rw none.0 (absent_kept keep number ids none.1)
      | false ↦ absent_kept keep number ids none.1
    ]

once_kept : (keep : ℕ → Bool) (ids : List ℕ) → EachOnce ids → EachOnce (filter keep ids)
once_kept keep [] once = tt
once_kept keep (one ∷ ids) once =
    elim (keep one) as (λ b. EachOnce (cond b (one ∷ filter keep ids) (filter keep ids))) [
      | true ↦ (absent_kept keep one ids once.0, once_kept keep ids once.1)
      | false ↦ once_kept keep ids once.1
    ]

same_number : (number one : ℕ) (ids : List ℕ) → (one == number) ≡ true → is_open one ids ≡ false
    → is_open number ids ≡ false
same_number number one ids is absent = let e : one ≡ number = grind (arith, nat_tests) in rw (← e) absent

less_by : (number one : ℕ) (ids : List ℕ) (b : Bool) → (one == number) ≡ b → is_open one ids ≡ false
    → length (filter (other_than number) ids) + (if is_open number ids then 1 else 0) ≡ length ids
    → length (cond (not b) (one ∷ filter (other_than number) ids) (filter (other_than number) ids))
    + (if b || is_open number ids then 1 else 0) ≡ length (one ∷ ids)
less_by number one ids true is absent later =
    let gone = same_number number one ids is absent in
    rw (all_kept number ids gone) (omega arith)
less_by number one ids false is absent later =
    more (length (filter (other_than number) ids)) (if is_open number ids then 1 else 0) (length ids) later
  where
    more : (n k all : ℕ) → n + k ≡ all → suc n + k ≡ suc all
    more n k all is = omega (arith, is)

-- with one less there is one less, if it was there
once_less : (number : ℕ) (ids : List ℕ) → EachOnce ids
    → length (filter (other_than number) ids) + (if is_open number ids then 1 else 0) ≡ length ids
once_less number [] once = refl
once_less number (one ∷ ids) once =
    less_by number one ids (one == number) refl once.0 (once_less number ids once.1)

as_many : (m n k : ℕ) → m + k ≡ n + k → m ≡ n
as_many m n k is = omega (arith, is)

pub same_closed : (number : ℕ) (ids numbers : List ℕ) → SameOpen ids numbers
    → SameOpen (filter (other_than number) ids) (filter (other_than number) numbers)
same_closed number ids numbers is = record {
  same = λ k.
      has_without k number ids
      ∙ (ap (λ b. not (number == k) && b) (is.same k) ∙ sym (has_without k number numbers));
  many =
      as_many (length (filter (other_than number) ids)) (length (filter (other_than number) numbers))
      (if is_open number ids then 1 else 0)
      (once_less number ids is.apart
      ∙ (is.many ∙ (sym (once_less number numbers is.once)
      ∙ ap (λ b. length (filter (other_than number) numbers) + (if b then 1 else 0))
      (sym (is.same number)))));
  apart = once_kept (other_than number) ids is.apart;
  once = once_kept (other_than number) numbers is.once;
}

-- ---- one is opened that was not open

length_with : (number : ℕ) (ids : List ℕ) → length (with_id number ids) ≡ length (number ∷ ids)
length_with number [] = refl
length_with number (one ∷ ids) =
    elim (is_from number one)
    as (λ b. length (if b then number ∷ (one ∷ ids) else one ∷ with_id number ids)
    ≡ length (number ∷ (one ∷ ids))) [
      | true ↦ refl
      | false ↦ let later = length_with number ids in omega (arith, later)
    ]

turned : (number one : ℕ) → (one == number) ≡ false → (number == one) ≡ false
turned number one is = grind (arith, nat_tests)

once_with : (number : ℕ) (ids : List ℕ) → is_open number ids ≡ false → EachOnce ids
    → EachOnce (with_id number ids)
once_with number [] absent once = (refl, tt)
once_with number (one ∷ ids) absent once =
    let none = none_true (one == number) (is_open number ids) absent in
    elim (is_from number one)
    as (λ b. EachOnce (if b then number ∷ (one ∷ ids) else one ∷ with_id number ids)) [
      | true ↦ (absent, once)
      | false ↦ (
        has_with one number ids ∙ rw (turned number one none.0) once.0,
        once_with number ids none.1 once.1,
      )
    ]

pub same_opened : (number : ℕ) (ids numbers : List ℕ) → is_open number ids ≡ false → SameOpen ids numbers
    → SameOpen (with_id number ids) (number ∷ numbers)
same_opened number ids numbers absent is = record {
  same = λ k. has_with k number ids ∙ ap (λ b. (number == k) || b) (is.same k);
  many = length_with number ids ∙ ap (λ n. suc n) is.many;
  apart = once_with number ids absent is.apart;
  once = (sym (is.same number) ∙ absent, is.once);
}
