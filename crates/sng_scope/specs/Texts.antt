-- JSON texts (RFC 8259), and scopes as an array or as a text that is unpadded base64url of one (RFC 4648, 5).
use Rattle.std.specs.Prelude.{ℕ, List, if◌then◌else◌, ok_or, Result, Err}
use Rattle.std.specs.Str.{is_utf8}
use Rattle.base64.specs.Engines.{url_safe_no_pad}
use Rattle.base64.specs.GeneralPurpose.{decoded_of}
use Rattle.serde_json.specs.Data.{Data, null, boolean, number, string, array, object, Items}
use Rattle.serde_json.specs.Find.{as_array}
use Rattle.serde_json.specs.Read.{read}
use Rattle.sng_scope.specs.Scopes.{scope_of_items}
use Rattle.sng_scope.specs.Steps.{◌>>=◌}
use Rattle.sng_grants.specs.declared.scope.Pair.{Pair}
use Rattle.sng_scope.specs.declared.fault.PolicyFault.{PolicyFault}
use Rattle.sng_scope.specs.declared.fault.PolicyFault.TheVariants.{NotJson, Shape, BadBase64}

-- the JSON value of a text, which is UTF-8
abbrev pub value_of : List ℕ → Result Data PolicyFault
value_of text = if is_utf8 text then ok_or (read text) NotJson else Err NotJson

-- the bytes that a text of unpadded base64url stands for
abbrev pub bytes_of : List ℕ → Result (List ℕ) PolicyFault
bytes_of text = ok_or (decoded_of url_safe_no_pad text) BadBase64

-- the items of the array whose JSON the text stands for
abbrev pub items_of_text : List ℕ → Result Items PolicyFault
items_of_text text = do
  bytes ← bytes_of text
  value ← value_of bytes
  ok_or (as_array value) Shape

-- the scope whose JSON the text stands for
abbrev pub scope_of_encoded : List ℕ → Result (List Pair) PolicyFault
scope_of_encoded text = items_of_text text >>= scope_of_items

-- a scope is an array of pairs, or a text that stands for one
abbrev pub scope_of_data : Data → Result (List Pair) PolicyFault
scope_of_data (array ds) = scope_of_items ds
scope_of_data (string text) = scope_of_encoded text
scope_of_data null = Err Shape
scope_of_data (boolean b) = Err Shape
scope_of_data (number n) = Err Shape
scope_of_data (object ms) = Err Shape

-- the scope that a JSON text is, or its first fault
abbrev pub scope_of_text : List ℕ → Result (List Pair) PolicyFault
scope_of_text text = value_of text >>= scope_of_data
