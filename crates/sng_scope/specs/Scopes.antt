-- Scopes in JSON: the list of pairs of a topic filter and the permissions on it (RFC 9237, 2; RFC 9431, 2.3).
use Rattle.std.specs.Prelude.{ℕ, Bool, true, false, ◌&&◌, ◌||◌, not, nat_lt, List, [], ◌∷◌, if◌then◌else◌}
use Rattle.std.specs.Prelude.{Option, None, option_map, option_and_then, unwrap_or, ok_or, Result, Ok, Err}
use Rattle.std.specs.Prelude.{codes}
use Rattle.std.specs.Str.{bytes_eq}
use Rattle.serde_json.specs.Data.{Data, Items, no_items, item}
use Rattle.serde_json.specs.Events.{items_len}
use Rattle.serde_json.specs.Find.{as_str, as_array}
use Rattle.sng_text.specs.Texts.{is_filter}
use Rattle.sng_grants.specs.declared.limits.TheConstants.{MAX_PAIRS}
use Rattle.sng_scope.specs.Steps.{◌>>=◌}
use Rattle.sng_grants.specs.declared.scope.Pair.{Pair}
use Rattle.sng_scope.specs.declared.fault.PolicyFault.{PolicyFault}
use Rattle.sng_scope.specs.declared.fault.PolicyFault.TheVariants.{Shape, BadFilter, BadPermission, TooMany}

-- the value is a text
abbrev pub is_text : Data → Bool
is_text d = unwrap_or (option_map (λ s. true) (as_str d)) false

-- the value is this text
abbrev pub says : List ℕ → Data → Bool
says text d = unwrap_or (option_map (λ s. bytes_eq s text) (as_str d)) false

-- each item is a text
abbrev pub are_texts : Items → Bool
are_texts no_items = true
are_texts (item d ds) = is_text d && are_texts ds

-- each item is `pub` or `sub`
abbrev pub are_permissions : Items → Bool
are_permissions no_items = true
are_permissions (item d ds) = (says (codes "pub") d || says (codes "sub") d) && are_permissions ds

-- the text is among the items
abbrev pub has_text : List ℕ → Items → Bool
has_text text no_items = false
has_text text (item d ds) = says text d || has_text text ds

-- a text and an array
abbrev pub text_and_array : Data → Data → Option (List ℕ × Items)
text_and_array d e = option_and_then (λ s. option_map (λ ds. (s, ds)) (as_array e)) (as_str d)

-- an array of exactly two
abbrev pub two_of : Items → Option (List ℕ × Items)
two_of (item d (item e no_items)) = text_and_array d e
two_of _ = None

-- the text and the array of a pair
abbrev pub pair_parts : Data → Option (List ℕ × Items)
pair_parts d = option_and_then two_of (as_array d)

-- what the permissions grant on a filter
abbrev pub pair_from : List ℕ → Items → Result Pair PolicyFault
pair_from filter permissions =
    if not (are_texts permissions)
    then Err Shape
    else (if not (is_filter filter)
    then Err BadFilter
    else (if not (are_permissions permissions)
    then Err BadPermission
    else Ok (record {
      filter = filter;
      publishes = has_text (codes "pub") permissions;
      subscribes = has_text (codes "sub") permissions;
    })))

-- `[filter, permissions]`
abbrev pub pair_of : Data → Result Pair PolicyFault
pair_of d = ok_or (pair_parts d) Shape >>= (λ parts. pair_from parts.0 parts.1)

-- pair by pair
abbrev pub pairs_of : Items → Result (List Pair) PolicyFault
pairs_of no_items = Ok []
pairs_of (item d ds) = do
  pair ← pair_of d
  pairs ← pairs_of ds
  Ok (pair ∷ pairs)

-- at most so many pairs as a scope may have
abbrev pub scope_of_items : Items → Result (List Pair) PolicyFault
scope_of_items ds = if nat_lt MAX_PAIRS (items_len ds) then Err TooMany else pairs_of ds
