-- The Return Codes of a CONNACK (MQTT 3.1.1, 3.2.2.3).
use Rattle.std.specs.Prelude.{ℕ, ◌==◌, ◌&&◌, nat_le, if◌then◌else◌, Option, Some, None, List, length}
use Rattle.std.specs.Prelude.{slice_index, codes}
use Rattle.sng_bounds.specs.declared.refusal.Refusal.{Refusal}
use Rattle.sng_bounds.specs.declared.refusal.Refusal.TheVariants.{Version, Identifier, Unavailable, Login}
use Rattle.sng_bounds.specs.declared.refusal.Refusal.TheVariants.{NotAuthorized, Reserved}

-- what a code that is not 0 refuses
abbrev pub refused_by : ℕ → Refusal
refused_by code =
    if code == 1 then Version
    else if code == 2 then Identifier
    else if code == 3 then Unavailable
    else if code == 4 then Login
    else if code == 5 then NotAuthorized
    else Reserved code

-- what a code refuses; 0 accepts
abbrev pub refusal_of : ℕ → Option Refusal
refusal_of code = if code == 0 then None else Some (refused_by code)

abbrev pub code_of : Refusal → ℕ
code_of Version = 1
code_of Identifier = 2
code_of Unavailable = 3
code_of Login = 4
code_of NotAuthorized = 5
code_of (Reserved code) = code

abbrev pub meaning_of : Refusal → List ℕ
meaning_of Version = codes "unacceptable protocol version"
meaning_of Identifier = codes "identifier rejected"
meaning_of Unavailable = codes "server unavailable"
meaning_of Login = codes "bad user name or password, and the gateway sends none"
meaning_of NotAuthorized = codes "not authorized, and the gateway sends no user name"
meaning_of (Reserved code) = codes "a code without a meaning"

-- the code of the CONNACK with which some bytes begin
abbrev pub connack_code : List ℕ → Option ℕ
connack_code bytes =
    if nat_le 4 (length bytes) && (slice_index bytes 0 == 32) && (slice_index bytes 1 == 2)
    then Some (slice_index bytes 3)
    else None
