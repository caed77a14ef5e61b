-- How what stands changes.
use Rattle.std.specs.Prelude.{ℕ, ◌≡◌, Bool, true, false, ◌&&◌, ◌==◌, List, [], ◌∷◌, Some, None, is_some}
use Rattle.std.specs.Prelude.{if◌then◌else◌, MatchBool}
use Rattle.std.specs.declared.option.Option.{Option}
use Rattle.std.specs.List.{join_with_byte}
use Rattle.std.specs.Str.{bytes_eq}
use Rattle.sng_text.specs.Levels.{levels_of}
use Rattle.sng_text.specs.Texts.{is_filter}
use Rattle.sng_text.specs.declared.qos.Qos.{Qos}
use Rattle.sng_standing.specs.declared.node.Node.{Node}
use Rattle.sng_standing.specs.Tree.{qos_left, qos_at}

-- both are the same levels
abbrev pub same_levels : List (List ℕ) → List (List ℕ) → Bool
same_levels [] [] = true
same_levels [] (other ∷ others) = false
same_levels (level ∷ levels) [] = false
same_levels (level ∷ levels) (other ∷ others) = bytes_eq level other && same_levels levels others

-- nobody holds anything
abbrev pub IsBare : Node → Type 0
IsBare node = (n : ℕ) (levels : List (List ℕ)) → qos_left node n levels ≡ None

-- the client holds the filter of these levels, and nobody holds any other
abbrev pub IsOne : Node → ℕ → List (List ℕ) → Qos → Type 0
IsOne node client levels qos = (n : ℕ) (others : List (List ℕ)) → qos_left node n others
    ≡ (if (client == n) && same_levels levels others then Some qos else None)

-- who holds what is the same
abbrev pub SaysSame : Node → Node → Type 0
SaysSame before after = (n : ℕ) (levels : List (List ℕ)) → qos_left after n levels ≡ qos_left before n levels

-- it is the same but for the client and the filter of these levels
abbrev pub Moves : Node → Node → ℕ → List (List ℕ) → Option Qos → Type 0
Moves before after client levels now = (n : ℕ) (others : List (List ℕ)) → qos_left after n others
    ≡ (if (client == n) && same_levels levels others then now else qos_left before n others)

-- the same of filters that are given as their texts
abbrev pub SaysSameAt : Node → Node → Type 0
SaysSameAt before after = (n : ℕ) (filter : List ℕ) → qos_at after n filter ≡ qos_at before n filter

abbrev pub MovesAt : Node → Node → ℕ → List ℕ → Option Qos → Type 0
MovesAt before after client filter now = (n : ℕ) (other : List ℕ) → qos_at after n other
    ≡ (if (client == n) && bytes_eq filter other then now else qos_at before n other)

-- whether anybody holds a filter, given who holds it at which QoS
abbrev pub IsHeldBy : (ℕ → Option Qos) → Bool → Type 0
IsHeldBy qos held = MatchBool held ((n : ℕ) × (is_some (qos n) ≡ true)) ((n : ℕ) → qos n ≡ None)

-- the same of all but one client
abbrev pub IsHeldBeside : (ℕ → Option Qos) → ℕ → Bool → Type 0
IsHeldBeside qos client held = MatchBool held
    ((n : ℕ) × ((client == n) ≡ false) × (is_some (qos n) ≡ true))
    ((n : ℕ) → (client == n) ≡ false → qos n ≡ None)

-- the levels are those of a filter
abbrev pub AreOfFilter : List (List ℕ) → Type 0
AreOfFilter levels = (levels_of (join_with_byte 47 levels) ≡ levels)
    × (is_filter (join_with_byte 47 levels) ≡ true)

-- what anybody holds is a filter
abbrev pub HasFilters : Node → Type 0
HasFilters root = (n : ℕ) (levels : List (List ℕ)) → is_some (qos_left root n levels) ≡ true
    → AreOfFilter levels
