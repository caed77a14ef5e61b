-- The place of the first fault of a scope: what is tested, in the order in which it is tested. It follows the
-- definition of the scope that a text gives (`sng_scope`).
use Rattle.std.specs.Prelude.{ℕ, suc, ◌||◌, nat_lt, List, [], if◌then◌else◌, Option, Some, None}
use Rattle.std.specs.Prelude.{option_and_then, unwrap_or, ok_or, Result, Ok, Err, codes}
use Rattle.serde_json.specs.Data.{Data, null, boolean, number, string, array, object, Items, no_items, item}
use Rattle.serde_json.specs.Events.{items_len}
use Rattle.serde_json.specs.Find.{as_str, as_array}
use Rattle.sng_text.specs.Texts.{filter_fault}
use Rattle.sng_text.specs.declared.fault.TextFault.{TextFault}
use Rattle.sng_grants.specs.declared.limits.TheConstants.{MAX_PAIRS}
use Rattle.sng_scope.specs.Scopes.{is_text, says}
use Rattle.sng_scope.specs.Steps.{◌>>=◌}
use Rattle.sng_scope.specs.Texts.{bytes_of, value_of}
use Rattle.sng_scope.specs.declared.fault.PolicyFault.{PolicyFault}
use Rattle.sng_places.specs.declared.location.Form.{Form}
use Rattle.sng_places.specs.declared.location.Form.TheVariants.{Plain, Encoded}
use Rattle.sng_places.specs.declared.location.Spot.{Spot}
use Rattle.sng_places.specs.declared.location.Spot.TheVariants.{Whole, Pair, Filter, Permissions, Permission}
use Rattle.sng_places.specs.declared.flaw.Flaw.{Flaw}
use Rattle.sng_places.specs.declared.flaw.Flaw.TheVariants as flaws
use Rattle.sng_places.specs.declared.stop.ScopeStop.{ScopeStop}
use Rattle.sng_places.specs.declared.stop.ScopeStop.TheVariants.{At}

-- the fault at this spot
abbrev pub stop_at : Form → Spot → Flaw → ScopeStop
stop_at form spot flaw = At (record { form = form; spot = spot; flaw = flaw })

-- ---- pairs

-- the two of an array of exactly two
abbrev pub two_of : Items → Option (Data × Data)
two_of (item d (item e no_items)) = Some (d, e)
two_of _ = None

-- the place of the first permission that is not a text, where the first of all has this place
abbrev pub no_text_from : ℕ → Items → Option ℕ
no_text_from k no_items = None
no_text_from k (item d ds) = if is_text d then no_text_from (suc k) ds else Some k

-- the place and the text of the first permission that is neither `pub` nor `sub`
abbrev pub other_from : ℕ → Items → Option (ℕ × List ℕ)
other_from k no_items = None
other_from k (item d ds) =
    if says (codes "pub") d || says (codes "sub") d then other_from (suc k) ds
    else Some (k, unwrap_or (as_str d) [])

-- each permission is a text
abbrev pub texts_by : Form → ℕ → Option ℕ → Result Unit ScopeStop
texts_by form i None = Ok tt
texts_by form i (Some k) = Err (stop_at form (Permission i k) flaws.NotText)

-- the filter is one
abbrev pub filter_by : Form → ℕ → List ℕ → Option TextFault → Result Unit ScopeStop
filter_by form i text None = Ok tt
filter_by form i text (Some fault) = Err (stop_at form (Filter i) (flaws.Filter text fault))

-- each permission is `pub` or `sub`
abbrev pub permissions_by : Form → ℕ → Option (ℕ × List ℕ) → Result Unit ScopeStop
permissions_by form i None = Ok tt
permissions_by form i (Some other) = Err (stop_at form (Permission i other.0) (flaws.Permission other.1))

-- a text and an array of texts: a filter and its permissions
abbrev pub parts_check : Form → ℕ → List ℕ → Items → Result Unit ScopeStop
parts_check form i filter permissions = do
  texts ← texts_by form i (no_text_from 0 permissions)
  valid ← filter_by form i filter (filter_fault filter)
  permissions_by form i (other_from 0 permissions)

abbrev pub two_check : Form → ℕ → Data → Data → Result Unit ScopeStop
two_check form i first second = do
  filter ← ok_or (as_str first) (stop_at form (Filter i) flaws.NotText)
  permissions ← ok_or (as_array second) (stop_at form (Permissions i) flaws.NotArray)
  parts_check form i filter permissions

-- the pair that has this place
abbrev pub pair_check : Form → ℕ → Data → Result Unit ScopeStop
pair_check form i d =
    ok_or (option_and_then two_of (as_array d)) (stop_at form (Pair i) flaws.NotPair) >>=
    (λ two. two_check form i two.0 two.1)

-- pair by pair, of which the first has this place
abbrev pub pairs_check : Form → ℕ → Items → Result Unit ScopeStop
pairs_check form i no_items = Ok tt
pairs_check form i (item d ds) = pair_check form i d >>= (λ checked. pairs_check form (suc i) ds)

-- ---- scopes

abbrev pub items_check : Form → Items → Result Unit ScopeStop
items_check form ds =
    if nat_lt MAX_PAIRS (items_len ds)
    then Err (stop_at form Whole (flaws.TooMany (items_len ds) MAX_PAIRS))
    else pairs_check form 0 ds

-- what was read, or this fault
abbrev pub or_stop : {A S : Type 0} → Result A PolicyFault → S → Result A S
or_stop (Ok a) stop = Ok a
or_stop (Err fault) stop = Err stop

-- the array whose JSON the text stands for
abbrev pub encoded_check : List ℕ → Result Unit ScopeStop
encoded_check text = do
  bytes ← or_stop (bytes_of text) (stop_at Plain Whole (flaws.Base64 text))
  value ← or_stop (value_of bytes) (stop_at Plain Whole (flaws.NotEncodedJson text))
  ds ← ok_or (as_array value) (stop_at Encoded Whole flaws.NotArray)
  items_check Encoded ds

abbrev pub scope_check : Data → Result Unit ScopeStop
scope_check (array ds) = items_check Plain ds
scope_check (string text) = encoded_check text
scope_check null = Err (stop_at Plain Whole flaws.NotScope)
scope_check (boolean b) = Err (stop_at Plain Whole flaws.NotScope)
scope_check (number n) = Err (stop_at Plain Whole flaws.NotScope)
scope_check (object ms) = Err (stop_at Plain Whole flaws.NotScope)
