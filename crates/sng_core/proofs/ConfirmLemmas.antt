-- Moves of one client that agree at it.
use Rattle.std.proofs.Common.{◌≡◌, ◌<◌, ℕ, List, [], ◌∷◌, drop, length, slice_get, Some, None, refl, ap}
use Rattle.std.proofs.lemmas.Bool.{lt-ltb}
use Rattle.sng_queue.specs.Messages.{Message}
use Rattle.sng_history.specs.Clients.{Client}
use Rattle.sng_sessions.specs.Moving.{moved_at}
use Rattle.sng_sessions.specs.Standing.{client_at}
use Rattle.sng_core.proofs.Found.{moved_same, read_at}

pub moved-here : (f g : Client → Client) (xs : List Client) (place : ℕ) → place < length xs
    → f (client_at xs place) ≡ g (client_at xs place)
    → moved_at place f xs ≡ moved_at place g xs
moved-here f g xs place within same =
    moved_same f g xs place (client_at xs place) (read_at xs place (lt-ltb place (length xs) within)) same

-- the front is there, or nothing waits
pub nothing-waits : (waiting : List Message) → slice_get waiting 0 ≡ None → waiting ≡ []
nothing-waits [] none = refl
nothing-waits (m ∷ waiting) none = absurd cc

pub one-waits : (waiting : List Message) (m : Message) → slice_get waiting 0 ≡ Some m
    → waiting ≡ m ∷ drop 1 waiting
one-waits [] m found = absurd cc
one-waits (n ∷ waiting) m found = let e : n ≡ m = cc in ap (λ k. k ∷ waiting) e
