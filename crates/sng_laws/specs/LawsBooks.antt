-- What the plain rows of a book show of it: what a reader of the book itself sees.
use Rattle.std.specs.Prelude.{ℕ, ◌≡◌, List}
use Rattle.sng_book.specs.declared.row.Row.{Row}
use Rattle.sng_laws.specs.Views.{last_policy, policy_in_force, clock_at, is_up}
use Rattle.sng_laws.specs.ViewsStanding.{standing_of}

-- the policy of the last replacement in the plain rows is the policy in force in the book; the clock is the
-- book's, and so is what became of the connection, and what stands for each client
pub record IsShownBy (h plain : List Row) : Type 0 where
  pub policy : last_policy plain ≡ policy_in_force h
  pub clock : clock_at plain ≡ clock_at h
  pub up : is_up plain ≡ is_up h
  pub standing : (id : List ℕ) → standing_of id plain ≡ standing_of id h
