-- What the index finds: where a client stands that is at an address, and that no other is there.
use Rattle.std.proofs.Common.{◌≡◌, ℕ, zero, suc, ◌<◌, Bool, true, false, ◌&&◌, List, [], ◌∷◌, map, length}
use Rattle.std.proofs.Common.{Option, Some, None, IfSome, nat_lt, refl, sym, ap, ◌∙◌, true≢false, arith}
use Rattle.std.specs.List.{position_or_len}
use Rattle.std.specs.Str.{bytes_eq}
use Rattle.std.proofs.lemmas.Bool.{lt-ltb, le-ltb}
use Rattle.std.proofs.lemmas.Map.Keys.{IsDistinct-head, IsDistinct-tail}
use Rattle.std.specs.List.{AllByRecursion, IsDistinct}
use Rattle.std.specs.Map.{keys_of}
use Rattle.sng_book.specs.declared.address.Address.{Address}
use Rattle.sng_history.specs.Clients.{Client, is_here}
use Rattle.sng_history.specs.Good.{Each, Away, Distinct, Apart, OnePlace}
use Rattle.sng_sessions.specs.declared.session.Session.{Session}
use Rattle.sng_sessions.specs.Standing.{place_at}
use Rattle.sng_sessions.specs.Places.{clients_of, holds_at, stands_at, is_place, points_at, Indexed}

pub is_place-self : (place : ℕ) → is_place place place ≡ true
is_place-self zero = refl
is_place-self (suc place) = is_place-self place

pub is_place-same : (found place : ℕ) → is_place found place ≡ true → found ≡ place
is_place-same zero zero same = refl
is_place-same zero (suc place) same = absurd (true≢false (sym same))
is_place-same (suc found) zero same = absurd (true≢false (sym same))
is_place-same (suc found) (suc place) same = ap suc (is_place-same found place same)

-- the only place at which a test passes is the first
only : (test : Client → Bool) (xs : List Client) (found : ℕ)
    → ((place : ℕ) → holds_at test xs place ≡ is_place found place)
    → (position_or_len test xs ≡ found) × (found < length xs)
only test [] found is = absurd (true≢false (sym (is found ∙ is_place-self found)))
only test (x ∷ xs) zero is = rw (is zero) (refl, omega arith)
only test (x ∷ xs) (suc found) is =
    let rest = only test xs found (λ place. is (suc place)) in
    rw (is zero) (omega (arith, rest.0), omega (arith, rest.1))

-- where it passes nowhere, there is no first
nowhere : (test : Client → Bool) (xs : List Client) → ((place : ℕ) → holds_at test xs place ≡ false)
    → position_or_len test xs ≡ length xs
nowhere test [] is = refl
nowhere test (x ∷ xs) is = rw (is zero) (omega (arith, nowhere test xs (λ place. is (suc place))))

-- the look-up gives the place of the client at the address
pub place_at-look : (look : Address → Option ℕ) (xs : List Client) (from : Address) → Indexed look xs
    → look from ≡ place_at from xs
place_at-look look xs from indexed = by (look from) refl
  where
    test : Client → Bool
    test x = is_here x from

    by : (found : Option ℕ) → look from ≡ found → look from ≡ place_at from xs
    by None is =
        let end : position_or_len test xs ≡ length xs =
        nowhere test xs (λ place. sym (indexed from place) ∙ ap (points_at place) is) in
        let past : nat_lt (length xs) (length xs) ≡ false = le-ltb (length xs) (length xs) (omega arith) in
        rw (is, end, past) refl
    by (Some found) is =
        let one = only test xs found (λ place. sym (indexed from place) ∙ ap (points_at place) is) in
        let within : nat_lt found (length xs) ≡ true = lt-ltb found (length xs) one.1 in
        rw (is, one.0, within) refl

-- and where it finds one, that is among the clients
pub look-within : (look : Address → Option ℕ) (xs : List Client) (from : Address) (found : Option ℕ)
    → Indexed look xs → found ≡ look from
    → IfSome found (λ place. place < length xs)
look-within look xs from None indexed is = tt
look-within look xs from (Some found) indexed is =
    (only (λ x. is_here x from) xs found
    (λ place. sym (indexed from place) ∙ ap (points_at place) (sym is))).1

-- the ids of the clients are the keys
pub ids_of-clients : (entries : List (List ℕ × Session))
    → map (λ x. x.id) (clients_of entries) ≡ keys_of entries
ids_of-clients [] = refl
ids_of-clients (entry ∷ entries) = ap (λ rest. entry.0 ∷ rest) (ids_of-clients entries)

pub length-clients : (entries : List (List ℕ × Session)) → length (clients_of entries) ≡ length entries
length-clients [] = refl
length-clients (entry ∷ entries) = ap suc (length-clients entries)

-- keys that are apart are clients that are
away : (id : List ℕ) (entries : List (List ℕ × Session))
    → AllByRecursion (λ key. bytes_eq id key ≡ false) (keys_of entries) → Away id (clients_of entries)
away id [] apart = tt
away id (entry ∷ entries) apart = (apart.0, away id entries apart.1)

pub distinct : (entries : List (List ℕ × Session)) → IsDistinct bytes_eq (keys_of entries)
    → Distinct (clients_of entries)
distinct [] apart = tt
distinct (entry ∷ entries) apart =
    (away entry.0 entries (IsDistinct-head _ _ _ apart), distinct entries (IsDistinct-tail _ _ _ apart))

-- a test passes at one place at most
abbrev Sole : List Client → Type 0
Sole xs = (from : Address) (i j : ℕ) → stands_at from xs i ≡ true → stands_at from xs j ≡ true → i ≡ j

pub points-same : (place : ℕ) (o : Option ℕ) → points_at place o ≡ true → o ≡ Some place
points-same place None points = absurd (true≢false (sym points))
points-same place (Some found) points = ap Some (is_place-same found place points)

sole : (look : Address → Option ℕ) (xs : List Client) → Indexed look xs → Sole xs
sole look xs indexed from i j at_i at_j =
    let first : look from ≡ Some i = points-same i (look from) (indexed from i ∙ at_i) in
    let second : is_place i j ≡ true = sym (ap (points_at j) first) ∙ indexed from j ∙ at_j in
    is_place-same i j second

apart : (x : Client) (xs : List Client)
    → ((from : Address) (place : ℕ) → is_here x from ≡ true → stands_at from xs place ≡ false)
    → Each (Apart x) xs
apart x [] none = tt
apart x (y ∷ xs) none =
    (λ from. by from (is_here x from) refl, apart x xs (λ from place. none from (suc place)))
  where
    by : (from : Address) (there : Bool) → is_here x from ≡ there → (is_here x from && is_here y from) ≡ false
    by from false is = rw is refl
    by from true is = rw is (none from zero is)

one_place : (xs : List Client) → Sole xs → OnePlace xs
one_place [] only_one = tt
one_place (x ∷ xs) only_one = (
  apart x xs none,
  one_place xs (λ from i j at_i at_j. omega (
    arith,
    only_one from (suc i) (suc j) at_i at_j,
  )),
)
  where
    none : (from : Address) (place : ℕ) → is_here x from ≡ true → stands_at from xs place ≡ false
    none from place here = by (stands_at from xs place) refl
      where
        by : (b : Bool) → stands_at from xs place ≡ b → stands_at from xs place ≡ false
        by false is = is
        by true is = absurd (omega (arith, only_one from zero (suc place) here is))

-- so no two clients are at one address
pub places : (look : Address → Option ℕ) (xs : List Client) → Indexed look xs → OnePlace xs
places look xs indexed = one_place xs (sole look xs indexed)
