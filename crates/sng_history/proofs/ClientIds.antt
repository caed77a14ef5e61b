-- The ids of all clients, in order.
use Rattle.std.proofs.Common.{◌≡◌, ℕ, List, [], ◌∷◌, map, refl, length}
use Rattle.sng_history.specs.Clients.{Client}

abbrev pub ids_of : List Client → List (List ℕ)
ids_of xs = map (λ x. x.id) xs

pub length_ids : (xs : List Client) → length (ids_of xs) ≡ length xs
length_ids [] = refl
length_ids (x ∷ xs) = rw (length_ids xs) refl
