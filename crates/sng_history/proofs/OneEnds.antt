-- Which filters stand for a client behind the end of one.
use Rattle.std.proofs.Common.{◌≡◌, ℕ, Bool, true, false, List, [], ◌∷◌, refl, ap, sym, ◌∙◌, subst}
use Rattle.std.proofs.Common.{if◌then◌else◌}
use Rattle.std.specs.Prelude.{◌&&◌, ◌||◌, not}
use Rattle.std.specs.Str.{bytes_eq}
use Rattle.sng_fan.specs.Subscriptions.{has_text, stands, without_filter}
use Rattle.sng_fan.specs.declared.held.Held.{Held}
use Rattle.sng_history.proofs.Own.{same_means, flip}

without_if : (g : Held) (held : List Held) (gone text : List ℕ) (b : Bool) → has_text gone g ≡ b
    → stands (without_filter held gone) text ≡ (stands held text && not (bytes_eq gone text))
    → stands (if not b then g ∷ without_filter held gone else without_filter held gone) text
    ≡ ((has_text text g || stands held text) && not (bytes_eq gone text))
without_if g held gone text true is rest =
    let same : g.filter ≡ gone = same_means g.filter gone is in
    rest ∙ (gone_first (bytes_eq gone text) (stands held text)
    ∙ ap (λ t. (bytes_eq t text || stands held text) && not (bytes_eq gone text)) (sym same))
  where
    gone_first : (v b : Bool) → (b && not v) ≡ ((v || b) && not v)
    gone_first true true = refl
    gone_first true false = refl
    gone_first false b = refl
without_if g held gone text false is rest =
    ap (λ b. has_text text g || b) rest
    ∙ kept_first (has_text text g) (stands held text) (bytes_eq gone text) away
  where
    away : has_text text g ≡ true → bytes_eq gone text ≡ false
    away here =
        let same : g.filter ≡ text = same_means g.filter text here in
        subst (λ t. bytes_eq gone t ≡ false) same (flip gone g.filter is)

    kept_first : (u b v : Bool) → (u ≡ true → v ≡ false) → (u || (b && not v)) ≡ ((u || b) && not v)
    kept_first true b v never = rw (never refl) refl
    kept_first false b v never = refl

pub without_stands : (held : List Held) (gone text : List ℕ)
    → stands (without_filter held gone) text ≡ (stands held text && not (bytes_eq gone text))
without_stands [] gone text = refl
without_stands (g ∷ held) gone text =
    without_if g held gone text (has_text gone g) refl (without_stands held gone text)
