-- The open MsgIds of a client: those of its publishes at QoS 2 that it has not released by PUBREL yet (MQTT
-- 3.1.1, 4.3.3; MQTT-SN 1.2, 6.6). They are a set; a set is seen as the list of its ids, the least first.
use Rattle.std.specs.Prelude.{ℕ, ◌≡◌, ◌≤◌, ◌==◌, ◌||◌, ◌&&◌, Bool, true, not, nat_lt, nat_le, List, [], ◌∷◌}
use Rattle.std.specs.Prelude.{length, filter, if◌then◌else◌}
use Rattle.std.specs.List.{list_any, list_all}
use Rattle.sng_states.specs.declared.limits.TheConstants.{MAX_OPEN_IDS}

-- it is this id
abbrev pub is_id : ℕ → ℕ → Bool
is_id id one = one == id

-- the id is open
abbrev pub has_id : ℕ → List ℕ → Bool
has_id id ids = list_any (is_id id) ids

-- as many are open as may, and this one is not
abbrev pub is_full_for : ℕ → List ℕ → Bool
is_full_for id ids = not (has_id id ids) && nat_le MAX_OPEN_IDS (length ids)

-- the id comes no later in the order
abbrev pub is_from : ℕ → ℕ → Bool
is_from id one = nat_le id one

-- with one more in its place in the order
abbrev pub with_id : ℕ → List ℕ → List ℕ
with_id id [] = id ∷ []
with_id id (one ∷ ids) = if is_from id one then id ∷ (one ∷ ids) else one ∷ with_id id ids

-- the id is open from now on, where it may: one that is open stays so, and where as many others are open as
-- may, nothing changes
abbrev pub admitted : ℕ → List ℕ → List ℕ
admitted id ids = if has_id id ids || nat_le MAX_OPEN_IDS (length ids) then ids else with_id id ids

-- it is open no more
abbrev pub without_id : ℕ → List ℕ → List ℕ
without_id id ids = filter (λ one. not (is_id id one)) ids

-- the id is less than each of these
abbrev pub is_below : ℕ → List ℕ → Bool
is_below id ids = list_all (nat_lt id) ids

-- each id is less than those behind it, so none is there twice
abbrev pub ascends : List ℕ → Bool
ascends [] = true
ascends (id ∷ ids) = is_below id ids && ascends ids

-- a set of no more ids than may be open
pub record IsOpenIds (ids : List ℕ) : Type 0 where
  pub few : length ids ≤ MAX_OPEN_IDS
  pub ordered : ascends ids ≡ true
