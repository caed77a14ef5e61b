-- The link and the room that there is on it, by their parts.
use Rattle.std.proofs.Common.{◌≡◌, ℕ, refl}
use Rattle.sng_history.specs.Links.{Link}
use Rattle.sng_link.specs.Rooms.{LinkRoom}

abbrev pub roomed : Link → ℕ → ℕ → ℕ → LinkRoom
roomed link places flights filters =
    record { link = link; places = places; flights = flights; filters = filters }

pub roomed_same : (a b : Link) (p q f g w v : ℕ) → a ≡ b → p ≡ q → f ≡ g → w ≡ v
    → roomed a p f w ≡ roomed b q g v
roomed_same a b p q f g w v link places flights filters = rw (link, places, flights, filters) refl
