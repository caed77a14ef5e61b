-- What is written: one member more, and texts of UTF-8.
use Rattle.std.proofs.Common.{◌≡◌, ℕ, ◌==◌, Bool, true, false, cond, not, ltb, List, ◌∷◌, length, Option}
use Rattle.std.proofs.Common.{Some, refl, sym, ap, ◌∙◌}
use Rattle.std.proofs.lemmas.Str.{IsUtf8-from_is_utf8}
use Rattle.std.specs.Prelude.{is_none}
use Rattle.std.specs.Str.{is_utf8, IsUtf8}
use Rattle.serde_json.specs.Data.{Data, Members, put}
use Rattle.sng_text.specs.ClientIds.{is_client_id}
use Rattle.sng_text.specs.Texts.{is_filter, is_name}
use Rattle.sng_text.specs.declared.fault.TextFault.{TextFault}
use Rattle.sng_text.specs.declared.fault.TextFault.TheVariants.{Empty, TooLong, NotUtf8}
use Rattle.sng_text.specs.declared.limits.TheConstants.{MAX_FILTER, MAX_NAME}
use Rattle.sng_scope.specs.Written.{with_members}

-- ---- one member more

pub written_more : {K V : Type 0} (name : K → List ℕ) (value : V → Data) (ms new : Members)
    (entries rest : List (K × V)) (e : K × V) (whole : Members) → entries ≡ e ∷ rest
    → new ≡ put (name e.0) (value e.1) ms → with_members name value ms entries ≡ whole
    → with_members name value new rest ≡ whole
written_more name value ms new entries rest e whole steps more was =
    ap (λ m. with_members name value m rest) more ∙ ap (with_members name value ms) (sym steps) ∙ was

-- ---- texts of UTF-8

name_utf8 : (empty long utf8 : Bool) (rest : Option TextFault) (e l n : TextFault)
    → is_none (cond empty (Some e) (cond long (Some l) (cond (not utf8) (Some n) rest))) ≡ true → utf8 ≡ true
name_utf8 true long utf8 rest e l n is = absurd (cc)
name_utf8 false true utf8 rest e l n is = absurd (cc)
name_utf8 false false false rest e l n is = absurd (cc)
name_utf8 false false true rest e l n is = refl

client_utf8 : (empty utf8 : Bool) (rest : Option TextFault) (e n : TextFault)
    → is_none (cond empty (Some e) (cond (not utf8) (Some n) rest)) ≡ true → utf8 ≡ true
client_utf8 true utf8 rest e n is = absurd (cc)
client_utf8 false false rest e n is = absurd (cc)
client_utf8 false true rest e n is = refl

pub client-utf8 : (text : List ℕ) → is_client_id text ≡ true → IsUtf8 text
client-utf8 text is =
    IsUtf8-from_is_utf8 text (client_utf8 (length text == 0) (is_utf8 text) _ Empty NotUtf8 is)

pub filter-utf8 : (text : List ℕ) → is_filter text ≡ true → IsUtf8 text
filter-utf8 text is =
    IsUtf8-from_is_utf8 text
    (name_utf8 (length text == 0) (ltb MAX_FILTER (length text)) (is_utf8 text) _ Empty TooLong NotUtf8 is)

pub name-utf8 : (text : List ℕ) → is_name text ≡ true → IsUtf8 text
name-utf8 text is =
    IsUtf8-from_is_utf8 text
    (name_utf8 (length text == 0) (ltb MAX_NAME (length text)) (is_utf8 text) _ Empty TooLong NotUtf8 is)
