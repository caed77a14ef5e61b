-- What one moved client leaves of the list of clients.
use Rattle.std.proofs.Common.{◌≡◌, ℕ, zero, suc, ◌+◌, List, [], ◌∷◌, take, drop, add-one, refl, ap}
use Rattle.sng_history.specs.Clients.{Client}
use Rattle.sng_sessions.specs.Standing.{client_at}
use Rattle.sng_sessions.specs.Moving.{moved_at}

-- two moves of one client are one
pub moved_at-twice : (f g : Client → Client) (place : ℕ) (xs : List Client)
    → moved_at place g (moved_at place f xs) ≡ moved_at place (λ x. g (f x)) xs
moved_at-twice f g place [] = refl
moved_at-twice f g zero (x ∷ xs) = refl
moved_at-twice f g (suc place) (x ∷ xs) = ap (λ ys. x ∷ ys) (moved_at-twice f g place xs)

-- a move that keeps the filters, read at its place
pub filters-moved : (f : Client → Client) → ((x : Client) → (f x).filters ≡ x.filters)
    → (xs : List Client) (place : ℕ)
    → (client_at (moved_at place f xs) place).filters ≡ (client_at xs place).filters
filters-moved f keeps [] place = refl
filters-moved f keeps (x ∷ xs) zero = keeps x
filters-moved f keeps (x ∷ xs) (suc place) = filters-moved f keeps xs place

-- a move that keeps the ids, read at its place
pub ids-moved : (f : Client → Client) → ((x : Client) → (f x).ids ≡ x.ids)
    → (xs : List Client) (place : ℕ)
    → (client_at (moved_at place f xs) place).ids ≡ (client_at xs place).ids
ids-moved f keeps [] place = refl
ids-moved f keeps (x ∷ xs) zero = keeps x
ids-moved f keeps (x ∷ xs) (suc place) = ids-moved f keeps xs place

-- the clients before the place
pub take-moved : (f : Client → Client) (place : ℕ) (xs : List Client)
    → take place (moved_at place f xs) ≡ take place xs
take-moved f place [] = refl
take-moved f zero (x ∷ xs) = refl
take-moved f (suc place) (x ∷ xs) = ap (λ ys. x ∷ ys) (take-moved f place xs)

-- and those behind it
drop_moved : (f : Client → Client) (place : ℕ) (xs : List Client)
    → drop (suc place) (moved_at place f xs) ≡ drop (suc place) xs
drop_moved f place [] = refl
drop_moved f zero (x ∷ xs) = refl
drop_moved f (suc place) (x ∷ xs) = drop_moved f place xs

pub drop-moved : (f : Client → Client) (place : ℕ) (xs : List Client)
    → drop (place + 1) (moved_at place f xs) ≡ drop (place + 1) xs
drop-moved f place xs = rw (add-one place) (drop_moved f place xs)
