-- Grants in JSON: a scope, and where scopes may end also an object with a scope and its end.
use Rattle.std.specs.Prelude.{ℕ, Bool, true, false, ◌&&◌, ◌||◌, List, if◌then◌else◌, Option, Some, None}
use Rattle.std.specs.Prelude.{option_and_then, ok_or, Result, Ok, Err, codes}
use Rattle.std.specs.Str.{bytes_eq}
use Rattle.serde_json.specs.Data.{Data, Members, no_members, member}
use Rattle.serde_json.specs.Find.{get, as_number, as_object, as_u64}
use Rattle.sng_grants.specs.declared.grant.Grant.{Grant}
use Rattle.sng_grants.specs.Sources.{endless}
use Rattle.sng_scope.specs.Steps.{◌>>=◌}
use Rattle.sng_scope.specs.Texts.{scope_of_data}
use Rattle.sng_scope.specs.declared.fault.PolicyFault.{PolicyFault}
use Rattle.sng_scope.specs.declared.fault.PolicyFault.TheVariants.{Shape}

-- a scope by itself never ends
abbrev pub lasting_grant_of : Data → Result Grant PolicyFault
lasting_grant_of d = scope_of_data d >>= (λ pairs. Ok (endless pairs))

-- the name of a member that the object of a scope may have
abbrev pub is_grant_member : List ℕ → Bool
is_grant_member name = bytes_eq name (codes "scope") || bytes_eq name (codes "exp")

abbrev pub are_grant_members : Members → Bool
are_grant_members no_members = true
are_grant_members (member name d ms) = is_grant_member name && are_grant_members ms

-- the end: none where there is no such member, else a whole number of 64 bits, in ms
abbrev pub end_of : Option Data → Result (Option ℕ) PolicyFault
end_of None = Ok None
end_of (Some d) = ok_or (option_and_then as_u64 (as_number d)) Shape >>= (λ end. Ok (Some end))

-- an object of a scope and its end: its own faults come before those of the scope
abbrev pub grant_of_object : Data → Result Grant PolicyFault
grant_of_object d = do
  end ← end_of (get (codes "exp") d)
  scope ← ok_or (get (codes "scope") d) Shape
  pairs ← scope_of_data scope
  Ok (record { scope = pairs; until = end })

abbrev pub grant_by_members : Option Members → Data → Result Grant PolicyFault
grant_by_members None d = lasting_grant_of d
grant_by_members (Some ms) d = if are_grant_members ms then grant_of_object d else Err Shape

-- a scope, or such an object
abbrev pub ending_grant_of : Data → Result Grant PolicyFault
ending_grant_of d = grant_by_members (as_object d) d

-- the grant that a value is, in a policy whose scopes may end and in one whose scopes may not
abbrev pub grant_of_data : Bool → Data → Result Grant PolicyFault
grant_of_data true d = ending_grant_of d
grant_of_data false d = lasting_grant_of d
