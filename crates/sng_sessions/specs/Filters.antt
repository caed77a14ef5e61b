-- The filters that stand for one client, where room was made for any.
use Rattle.std.specs.Prelude.{List, [], Option, Some, None}
use Rattle.sng_fan.specs.declared.held.Held.{Held}

-- the filters of a client: none before the first
abbrev pub filters_in : Option (List Held) → List Held
filters_in None = []
filters_in (Some held) = held
