-- What is kept of a message of the broker joins what waits for its clients.
use Rattle.std.proofs.Common.{◌≡◌, ℕ, List, [], ◌∷◌, ◌++◌, refl}
use Rattle.sng_history.specs.Clients.{Client}
use Rattle.sng_sessions.specs.Handed.{delivered}
use Rattle.sng_sessions.specs.Moving.{moved_at}
use Rattle.sng_turns.specs.declared.deliver.Kept.{Kept}
use Rattle.sng_turns.specs.Delivering.{keep_all}

-- one more is kept
pub keep-more : (clock : ℕ) (kept : List Kept) (k : Kept) (xs : List Client)
    → keep_all clock (kept ++ k ∷ []) xs
    ≡ moved_at k.place (delivered clock k.message k.opens) (keep_all clock kept xs)
keep-more clock [] k xs = refl
keep-more clock (one ∷ kept) k xs =
    keep-more clock kept k (moved_at one.place (delivered clock one.message one.opens) xs)
