-- The greatest QoS among the filters that match is that of one of them, and none is greater.
use Rattle.std.proofs.Common.{◌≡◌, ℕ, Bool, true, false, true≢false, ◌⊎◌, inl, inr, List, [], ◌∷◌, ◌++◌}
use Rattle.std.proofs.Common.{Option, Some, None, if◌then◌else◌, refl, sym, ◌∙◌, ap}
use Rattle.sng_text.specs.Matching.{matches}
use Rattle.sng_text.specs.declared.qos.Qos.{Qos}
use Rattle.sng_text.specs.declared.qos.Qos.TheVariants.{AtMostOnce, AtLeastOnce}
use Rattle.sng_fan.specs.declared.held.Held.{Held}
use Rattle.sng_fan.specs.Greatest.{greater, greatest_from, greatest_qos}
use Rattle.sng_fan.specs.Laws.{NoneIsGreater, IsGreatest, GreatestIsGreatest}

-- what is as great as both is as great as each
great_as_each : (r q p : Qos) → greater r (greater q p) ≡ r → (greater r q ≡ r) × (greater r p ≡ r)
great_as_each AtLeastOnce q p is = (refl, refl)
great_as_each AtMostOnce AtMostOnce p is = (refl, is)
great_as_each AtMostOnce AtLeastOnce p is = cc

one_of_both : (q p : Qos) → (greater q p ≡ q) ⊎ (greater q p ≡ p)
one_of_both AtMostOnce p = inr refl
one_of_both AtLeastOnce p = inl refl

as_itself : (q : Qos) → greater q q ≡ q
as_itself AtMostOnce = refl
as_itself AtLeastOnce = refl

-- a filter that matches has this QoS
abbrev Among : Qos → List Held → List ℕ → Type 0
Among qos held name =
    (before : List Held) × (h : Held) × (later : List Held) × (held ≡ before ++ h ∷ later)
    × (matches h.filter name ≡ true) × (h.qos ≡ qos)

among-later : (qos : Qos) (h : Held) (held : List Held) (name : List ℕ) → Among qos held name
    → Among qos (h ∷ held) name
among-later qos h held name there = (h ∷ there.0, there.1, there.2, ap (λ l. h ∷ l) there.3, there.4, there.5)

-- what the greatest from this one on is
abbrev Raised : Qos → List Held → List ℕ → Option Qos → Type 0
Raised qos held name answer =
    (r : Qos) × (answer ≡ Some r) × (greater r qos ≡ r) × NoneIsGreater r held name
    × ((r ≡ qos) ⊎ Among r held name)

here_or_later : (r qos : Qos) (h : Held) (held : List Held) (name : List ℕ) → matches h.filter name ≡ true
    → (r ≡ greater qos h.qos) ⊎ Among r held name
    → (r ≡ qos) ⊎ Among r (h ∷ held) name
here_or_later r qos h held name is (inl same) =
    elim (one_of_both qos h.qos) [
      | inl first ↦ inl (same ∙ first)
      | inr second ↦ inr ([], h, held, refl, is, sym (same ∙ second))
    ]
here_or_later r qos h held name is (inr there) = inr (among-later r h held name there)

same_or_later : (r qos : Qos) (h : Held) (held : List Held) (name : List ℕ) → (r ≡ qos) ⊎ Among r held name
    → (r ≡ qos) ⊎ Among r (h ∷ held) name
same_or_later r qos h held name (inl same) = inl same
same_or_later r qos h held name (inr there) = inr (among-later r h held name there)

raised_by : (qos : Qos) (h : Held) (held : List Held) (name : List ℕ) (fits : Bool)
    → matches h.filter name ≡ fits
    → ((q : Qos) → Raised q held name (greatest_from (Some q) held name))
    → Raised qos (h ∷ held) name (greatest_from
    (if fits then Some (greater qos h.qos) else Some qos) held name)
raised_by qos h held name true is later =
    let rest = later (greater qos h.qos) in
    let each = great_as_each rest.0 qos h.qos rest.2 in
    (rest.0, rest.1, each.0, (λ fits. each.1, rest.3), here_or_later rest.0 qos h held name is rest.4)
raised_by qos h held name false is later =
    let rest = later qos in (
      rest.0,
      rest.1,
      rest.2,
      (λ fits. absurd (true≢false (sym fits ∙ is)), rest.3),
      same_or_later rest.0 qos h held name rest.4,
    )

raised_from : (held : List Held) (name : List ℕ) (qos : Qos)
    → Raised qos held name (greatest_from (Some qos) held name)
raised_from [] name qos = (qos, refl, as_itself qos, tt, inl refl)
raised_from (h ∷ held) name qos =
    raised_by qos h held name (matches h.filter name) refl (raised_from held name)

first_found : (h : Held) (held : List Held) (name : List ℕ) (answer : Option Qos)
    → matches h.filter name ≡ true → Raised h.qos held name answer → IsGreatest answer (h ∷ held) name
first_found h held name answer is rest =
    rw rest.1 (
      (λ fits. rest.2, rest.3),
      elim rest.4 [
        | inl same ↦ ([], h, held, refl, is, sym same)
        | inr there ↦ among-later rest.0 h held name there
      ],
    )

none_here : (h : Held) (held : List Held) (name : List ℕ) (answer : Option Qos)
    → matches h.filter name ≡ false → IsGreatest answer held name → IsGreatest answer (h ∷ held) name
none_here h held name None is rest = (is, rest)
none_here h held name (Some qos) is rest =
    ((λ fits. absurd (true≢false (sym fits ∙ is)), rest.0), among-later qos h held name rest.1)

greatest_by : (h : Held) (held : List Held) (name : List ℕ) (fits : Bool) → matches h.filter name ≡ fits
    → IsGreatest (greatest_qos held name) held name
    → IsGreatest (greatest_from (if fits then Some h.qos else None) held name) (h ∷ held) name
greatest_by h held name true is rest =
    first_found h held name (greatest_from (Some h.qos) held name) is (raised_from held name h.qos)
greatest_by h held name false is rest = none_here h held name (greatest_qos held name) is rest

pub greatest : GreatestIsGreatest
greatest [] name = tt
greatest (h ∷ held) name = greatest_by h held name (matches h.filter name) refl (greatest held name)
