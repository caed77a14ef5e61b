-- One of the clients is moved, by where it stands among them.
use Rattle.std.specs.Prelude.{ℕ, zero, suc, List, [], ◌∷◌}
use Rattle.sng_history.specs.Clients.{Client}

-- the client at this place is moved by the function; past the end nobody is
abbrev pub moved_at : ℕ → (Client → Client) → List Client → List Client
moved_at place f [] = []
moved_at zero f (x ∷ xs) = f x ∷ xs
moved_at (suc place) f (x ∷ xs) = x ∷ moved_at place f xs
