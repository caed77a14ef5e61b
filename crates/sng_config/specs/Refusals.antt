-- How a fault stands to what is refused.
use Rattle.std.specs.Prelude.{◌≡◌, ℕ, ◌-◌, ◌≤◌, List, length, Err, ⊤, string_bytes}
use Rattle.std.specs.declared.result.Result.{Result}
use Rattle.toml_parser.specs.declared.error.ParseError.{ParseError}
use Rattle.toml_parser.specs.declared.error.ParseError.TheVariants.{OutOfMemory, At}
use Rattle.sng_config.specs.declared.place.Place.{Place}
use Rattle.sng_config.specs.declared.fault.Cause.{Cause}
use Rattle.sng_config.specs.declared.fault.Cause.TheVariants.{NotToml, Table, Unknown, Repeated, Unfit}
use Rattle.sng_config.specs.declared.fault.Fault.{Fault}
use Rattle.sng_config.specs.declared.fault.Fault.TheVariants.{At, Memory}
use Rattle.sng_config.specs.declared.entry.Stop as stops
use Rattle.sng_config.specs.declared.entry.Stop.TheVariants.{At, Memory}
use Rattle.sng_config.specs.Places.{place_at}
use Rattle.sng_config.specs.Reading.{Why, not_toml, tables, unknown, repeated, unfit, refused, outcome_of}

abbrev pub why_of : Cause → Why
why_of (NotToml kind) = not_toml
why_of Table = tables
why_of (Unknown word) = unknown (string_bytes word)
why_of (Repeated name line) = repeated name line
why_of (Unfit name) = unfit name

-- a fault of TOML is at some place behind that where the entry begins, any other one there
abbrev pub Placed : Cause → List ℕ → ℕ → Place → Type 0
Placed (NotToml kind) text start place =
    (index : ℕ) × (start ≤ index) × (index ≤ length text) × (place ≡ place_at text index)
Placed Table text start place = place ≡ place_at text start
Placed (Unknown word) text start place = place ≡ place_at text start
Placed (Repeated name line) text start place = place ≡ place_at text start
Placed (Unfit name) text start place = place ≡ place_at text start

-- the text is refused for what the fault says, and there
abbrev pub Refuses : List ℕ → Fault → Type 0
Refuses text Memory = ⊤
Refuses text (At place cause) =
    (start : ℕ) × (outcome_of text ≡ refused start (why_of cause)) × Placed cause text start place

-- how a reader of the kit stops
abbrev pub stop_of : ParseError → stops.Stop
stop_of OutOfMemory = Memory
stop_of (At kind from to) = At from (NotToml kind)

-- a cause that is no fault of TOML is told where so many bytes are left, as the entry begins there
abbrev pub LeftAt : Cause → ℕ → ℕ → Type 0
LeftAt (NotToml kind) held left = ⊤
LeftAt Table held left = left ≡ held
LeftAt (Unknown word) held left = left ≡ held
LeftAt (Repeated name line) held left = left ≡ held
LeftAt (Unfit name) held left = left ≡ held

-- an entry is refused as this says, unless memory ran out
abbrev pub StopsAs : {A : Type 0} → Result A Why → ℕ → stops.Stop → Type 0
StopsAs expected held Memory = ⊤
StopsAs expected held (At left cause) = (expected ≡ Err (why_of cause)) × LeftAt cause held left

-- the fault of a text, where the entry at the front of `start` is refused so
abbrev pub FaultOf : List ℕ → List ℕ → stops.Stop → Fault → Type 0
FaultOf text start Memory fault = fault ≡ Memory
FaultOf text start (At left cause) fault =
    (place : Place) × (fault ≡ At place cause)
    × (LeftAt cause (length start) left → Placed cause text (length text - length start) place)
