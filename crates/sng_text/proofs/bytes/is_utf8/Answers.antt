use Rattle.std.proofs.Common.{◌≡◌, List, ℕ, sym, ◌∙◌, Result, Ok, Err, MatchResult}
use Rattle.std.specs.Str.{is_utf8, IsUtf8}
use Rattle.std.specs.Result.{is_ok}
use Rattle.std.proofs.lemmas.Str.{is_utf8-from_IsUtf8}
use Rattle.sng_text.proofs.Utf8Lemmas.{is_utf8-false}
use Rattle.sng_text.proofs.bytes.is_utf8.Goals as goal

answer : {A E : Type 0} (bs : List ℕ) (r : Result A E) (P : A → Type 0) (Q : E → Type 0)
    → MatchResult r (λ a. P a × IsUtf8 bs) (λ e. (IsUtf8 bs → ⊥) × Q e) → is_ok r ≡ is_utf8 bs
answer bs (Ok a) P Q h = sym (is_utf8-from_IsUtf8 bs h.1)
answer bs (Err e) P Q h = sym (is_utf8-false bs h.0)

pub returns : goal.returns
returns c = c.is_ok.ensures.value ∙ answer c.args.text.now c.from_utf8.result _ _ c.from_utf8.ensures.cases
