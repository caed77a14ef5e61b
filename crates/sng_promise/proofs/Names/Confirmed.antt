-- The ids of a client once it confirms the one of a name: it knows that name, too.
use Rattle.std.proofs.Common.{◌≡◌, ℕ, suc, ◌+◌, Bool, true, false, List, [], ◌∷◌, refl, ap, sym, ◌∙◌, subst}
use Rattle.std.proofs.Common.{if◌then◌else◌, arith}
use Rattle.std.specs.Prelude.{◌||◌, not, Some}
use Rattle.std.specs.List.{position_or_len}
use Rattle.std.specs.Str.{bytes_eq}
use Rattle.sng_ids.specs.Ids.{confirmed_at, confirmed}
use Rattle.sng_laws.specs.ViewsClients.{is_among, with_name, id_told}
use Rattle.sng_laws.specs.LawsState.{NoneTwice}
use Rattle.sng_history.proofs.Own.{same_means, flip}
use Rattle.sng_promise.proofs.Names.Marked.{marked}
use Rattle.sng_promise.proofs.Names.SeenIds.{id_place, among_other, among_self}

or_left : (a b : Bool) → (a || b) ≡ false → a ≡ false
or_left true b is = absurd (let e = is in cc)
or_left false b is = refl

or_right : (a b : Bool) → (a || b) ≡ false → b ≡ false
or_right true b is = absurd (let e = is in cc)
or_right false b is = is

-- the marks of other names stay
mark_stays : (name one : List ℕ) (known : List (List ℕ)) → bytes_eq name one ≡ false
    → is_among one known ≡ is_among one (with_name (Some name) known)
mark_stays name one known away = sym (among_other one name known (flip one name away))

marks_stay : (name : List ℕ) (told known : List (List ℕ)) → is_among name told ≡ false
    → marked told known ≡ marked told (with_name (Some name) known)
marks_stay name [] known none = refl
marks_stay name (one ∷ told) known none =
    ap (λ b. (one, b) ∷ marked told known)
    (mark_stays name one known (or_left (bytes_eq name one) (is_among name told) none))
    ∙ ap (λ more. (one, is_among one (with_name (Some name) known)) ∷ more)
    (marks_stay name told known (or_right (bytes_eq name one) (is_among name told) none))

confirmed_by : (name one : List ℕ) (told known : List (List ℕ)) (n : ℕ) (b : Bool) → bytes_eq name one ≡ b
    → is_among one told ≡ false → confirmed_at n (marked told known)
    ≡ marked told (with_name (Some name) known)
    → confirmed_at (if not b then 1 + n else 0) (marked (one ∷ told) known)
    ≡ marked (one ∷ told) (with_name (Some name) known)
confirmed_by name one told known n true is once rest =
    let same : name ≡ one = same_means name one is in
    let more = with_name (Some name) known in
    let mark : is_among one more ≡ true = subst (λ o. is_among o more ≡ true) same (among_self name known) in
    let none : is_among name told ≡ false = ap (λ o. is_among o told) same ∙ once in
    ap (λ b. (one, b) ∷ marked told known) (sym mark)
    ∙ ap (λ later. (one, is_among one more) ∷ later) (marks_stay name told known none)
confirmed_by name one told known n false is once rest =
    let next : 1 + n ≡ suc n = omega arith in
    let more = with_name (Some name) known in
    ap (λ place. confirmed_at place (marked (one ∷ told) known)) next
    ∙ (ap (λ b. (one, b) ∷ confirmed_at n (marked told known)) (mark_stays name one known is)
    ∙ ap (λ later. (one, is_among one more) ∷ later) rest)

confirmed_place : (name : List ℕ) (told known : List (List ℕ)) → NoneTwice told
    → confirmed_at (position_or_len (bytes_eq name) told) (marked told known)
    ≡ marked told (with_name (Some name) known)
confirmed_place name [] known once = refl
confirmed_place name (one ∷ told) known once =
    confirmed_by name one told known (position_or_len (bytes_eq name) told) (bytes_eq name one) refl once.0
    (confirmed_place name told known once.1)

pub confirmed_marked : (name : List ℕ) (told known : List (List ℕ)) → NoneTwice told
    → confirmed (id_told name told) (marked told known) ≡ marked told (with_name (Some name) known)
confirmed_marked name told known once =
    let n = position_or_len (bytes_eq name) told in
    let next : n + 1 ≡ suc n = omega arith in
    ap (λ id. confirmed id (marked told known)) (id_place name told ∙ next)
    ∙ confirmed_place name told known once
