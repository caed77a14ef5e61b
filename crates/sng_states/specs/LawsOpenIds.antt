-- What is right of the open MsgIds of a client, as a set of a few numbers.
use Rattle.std.specs.Prelude.{ℕ, ◌≡◌, ◌==◌, ◌||◌, ◌&&◌, not, true, List, [], if◌then◌else◌}
use Rattle.sng_states.specs.OpenIds.{has_id, is_full_for, admitted, without_id, ascends, IsOpenIds}

-- an id that is admitted is open, where there is room for it, and the others are as they were
abbrev pub AdmittedIsOpen : Type 0
AdmittedIsOpen =
    (k id : ℕ) (ids : List ℕ)
    → has_id k (admitted id ids)
    ≡ (if is_full_for id ids then has_id k ids else (id == k) || has_id k ids)

-- one that is closed is open no more, and the others are as they were
abbrev pub ClosedIsNotOpen : Type 0
ClosedIsNotOpen =
    (k id : ℕ) (ids : List ℕ) → has_id k (without_id id ids) ≡ (not (id == k) && has_id k ids)

-- whatever is opened and closed, no more are open than may, each once
abbrev pub FewAreOpen : Type 0
FewAreOpen =
    (id : ℕ) (ids : List ℕ)
    → IsOpenIds ids → IsOpenIds [] × IsOpenIds (admitted id ids) × IsOpenIds (without_id id ids)

-- where the same ids are open the lists are one: they show the set and nothing else
abbrev pub OneListForASet : Type 0
OneListForASet =
    (a b : List ℕ)
    → ascends a ≡ true → ascends b ≡ true → ((k : ℕ) → has_id k a ≡ has_id k b) → a ≡ b
