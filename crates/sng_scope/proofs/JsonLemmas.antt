-- Bytes that are no JSON, those that are a policy, and how many members an object has.
use Rattle.std.proofs.Common.{◌≡◌, ℕ, Bool, true, false, List, [], ◌∷◌, length, Some, None, Ok, Err, suc}
use Rattle.std.proofs.Common.{refl, ap, ◌∙◌}
use Rattle.std.specs.Str.{is_utf8, IsUtf8}
use Rattle.std.proofs.lemmas.Str.{IsUtf8-from_is_utf8}
use Rattle.serde_json.proofs.Views.{Entry}
use Rattle.serde_json.specs.Data.{Data}
use Rattle.serde_json.specs.Events.{members_len}
use Rattle.serde_json.specs.Read.{read}
use Rattle.serde_json.specs.View.{members_view}
use Rattle.sng_grants.specs.Policies.{Policy}
use Rattle.sng_scope.specs.Policies.{policy_of_data, policy_of}
use Rattle.sng_scope.specs.Steps.{◌>>=◌}
use Rattle.sng_scope.specs.Texts.{value_of}
use Rattle.sng_scope.specs.declared.fault.PolicyFault.TheVariants.{NotJson}

pub members_len-members_view : (es : List Entry) → members_len (members_view es) ≡ length es
members_len-members_view [] = refl
members_len-members_view (e ∷ es) = ap suc (members_len-members_view es)

not_json : (b : Bool) (text : List ℕ) → is_utf8 text ≡ b → (IsUtf8 text → read text ≡ None)
    → value_of text ≡ Err NotJson
not_json true text is none = rw (is, none (IsUtf8-from_is_utf8 text is)) refl
not_json false text is none = rw is refl

-- bytes that are no text, or none that is read
pub value_of-not_json : (text : List ℕ) → (IsUtf8 text → read text ≡ None) → value_of text ≡ Err NotJson
value_of-not_json text none = not_json (is_utf8 text) text refl none

value_of-read : (text : List ℕ) (d : Data) → is_utf8 text ≡ true → read text ≡ Some d → value_of text ≡ Ok d
value_of-read text d utf8 is = rw (utf8, is) refl

-- a text of UTF-8 is the policy of the value that it is read as
pub policy_of-read : (text : List ℕ) (d : Data) (policy : Policy) → is_utf8 text ≡ true → read text ≡ Some d
    → policy_of_data d ≡ Ok policy → policy_of text ≡ Ok policy
policy_of-read text d policy utf8 is gives =
    ap (λ v. v >>= policy_of_data) (value_of-read text d utf8 is) ∙ gives
