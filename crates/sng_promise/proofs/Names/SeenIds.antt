-- The topic ids of a client are those of the names that the rows show it was told, each marked where the
-- client knows it.
use Rattle.std.proofs.Common.{◌≡◌, ℕ, suc, ◌+◌, Bool, true, false, List, [], ◌∷◌, ◌++◌, refl, ap, sym, ◌∙◌}
use Rattle.std.proofs.Common.{subst, if◌then◌else◌, arith}
use Rattle.std.specs.Prelude.{◌||◌, not, Some}
use Rattle.std.specs.List.{position_or_len}
use Rattle.std.specs.Str.{bytes_eq}
use Rattle.sng_ids.specs.Ids.{Ids, id_for, with_name as with_entry, confirmed_at, confirmed}
use Rattle.sng_frames.specs.declared.flags.TopicIdType.{TopicIdType}
use Rattle.sng_frames.specs.declared.flags.TopicIdType.TheVariants.{Normal, Predefined, Short, Reserved}
use Rattle.sng_history.specs.Requests.{gets_id}
use Rattle.sng_history.specs.Clients.{told}
use Rattle.sng_laws.specs.ViewsClients.{is_among, with_name, tells_id, id_told}
use Rattle.sng_laws.specs.LawsState.{NoneTwice}
use Rattle.sng_history.proofs.Own.{same_self, same_means, flip}
use Rattle.sng_promise.proofs.Names.Marked.{marked, place_marked, id_marked}
use Rattle.sng_history.proofs.Booleans.{or_neither, or_yes}

-- the names that a client was told and those that it knows, and its ids
pub record Telling (names known : List (List ℕ)) (ids : Ids) : Type 0 where
  pub marks : ids ≡ marked names known
  pub once : NoneTwice names
  pub told : (name : List ℕ) → is_among name known ≡ true → is_among name names ≡ true

pub telling_none : Telling [] [] []
telling_none = record { marks = refl; once = tt; told = λ name is. absurd cc }

-- ---- the id of a name: its place among these, where it is among them, or else the next

id_step : (b : Bool) (id n : ℕ) → id ≡ n + 1 → (if b then 1 else id + 1) ≡ (if not b then 1 + n else 0) + 1
id_step true id n is = refl
id_step false id n is = omega (arith, is)

pub id_place : (name : List ℕ) (names : List (List ℕ))
    → id_told name names ≡ position_or_len (bytes_eq name) names + 1
id_place name [] = refl
id_place name (one ∷ names) =
    id_step (bytes_eq name one) (id_told name names) (position_or_len (bytes_eq name) names)
    (id_place name names)

id_last : (name : List ℕ) (names : List (List ℕ)) → id_told name (names ++ name ∷ []) ≡ id_told name names
id_last name [] = rw (same_self name) refl
id_last name (one ∷ names) = ap (λ id. if bytes_eq name one then 1 else id + 1) (id_last name names)

id_by : (name : List ℕ) (names : List (List ℕ)) (b : Bool)
    → id_told name (if b then names else names ++ name ∷ []) ≡ id_told name names
id_by name names true = refl
id_by name names false = id_last name names

-- a name that is told keeps its id
pub id_stays : (name : List ℕ) (names : List (List ℕ))
    → id_told name (with_name (Some name) names) ≡ id_told name names
id_stays name names = id_by name names (is_among name names)

-- ---- who is among names, with one more

or_last : (a b c : Bool) → (a || (b || c)) ≡ ((a || b) || c)
or_last true b c = refl
or_last false b c = refl

or_false : (a : Bool) → (a || false) ≡ a
or_false true = refl
or_false false = refl

among_last : (one name : List ℕ) (names : List (List ℕ))
    → is_among one (names ++ name ∷ []) ≡ (is_among one names || bytes_eq one name)
among_last one name [] = or_false (bytes_eq one name)
among_last one name (next ∷ names) =
    ap (λ b. bytes_eq one next || b) (among_last one name names)
    ∙ or_last (bytes_eq one next) (is_among one names) (bytes_eq one name)

with_by : (one name : List ℕ) (names : List (List ℕ)) (b : Bool) → is_among name names ≡ b
    → bytes_eq one name ≡ false
    → is_among one (if b then names else names ++ name ∷ []) ≡ is_among one names
with_by one name names true is away = refl
with_by one name names false is away = among_last one name names ∙ rw away (or_false (is_among one names))

-- another name is among them as before
pub among_other : (one name : List ℕ) (names : List (List ℕ)) → bytes_eq one name ≡ false
    → is_among one (with_name (Some name) names) ≡ is_among one names
among_other one name names away = with_by one name names (is_among name names) refl away

self_by : (name : List ℕ) (names : List (List ℕ)) (b : Bool) → is_among name names ≡ b
    → is_among name (if b then names else names ++ name ∷ []) ≡ true
self_by name names true is = is
self_by name names false is = among_last name name names ∙ rw (same_self name) (or_yes (is_among name names))

pub among_self : (name : List ℕ) (names : List (List ℕ)) → is_among name (with_name (Some name) names) ≡ true
among_self name names = self_by name names (is_among name names) refl

more_by : (one name : List ℕ) (names : List (List ℕ)) (b : Bool) → bytes_eq one name ≡ b
    → is_among one names ≡ true
    → is_among one (with_name (Some name) names) ≡ true
more_by one name names true is among =
    let same : one ≡ name =
    same_means one name is in subst (λ n. is_among n (with_name (Some name) names) ≡ true) (sym same)
    (among_self name names)
more_by one name names false is among = among_other one name names is ∙ among

-- who was among them still is
pub among_more : (one name : List ℕ) (names : List (List ℕ)) → is_among one names ≡ true
    → is_among one (with_name (Some name) names) ≡ true
among_more one name names among = more_by one name names (bytes_eq one name) refl among

none_last : (one name : List ℕ) (names : List (List ℕ)) → is_among one names ≡ false
    → bytes_eq one name ≡ false
    → is_among one (names ++ name ∷ []) ≡ false
none_last one name names none away = among_last one name names ∙ rw (none, away) refl

once_last : (name : List ℕ) (names : List (List ℕ)) → is_among name names ≡ false → NoneTwice names
    → NoneTwice (names ++ name ∷ [])
once_last name [] none once = (refl, tt)
once_last name (one ∷ names) none once =
    let both = or_neither (bytes_eq name one) (is_among name names) none in
    (none_last one name names once.0 (flip one name both.0), once_last name names both.1 once.1)

once_new : (name : List ℕ) (names : List (List ℕ)) (b : Bool) → is_among name names ≡ b → NoneTwice names
    → NoneTwice (if b then names else names ++ name ∷ [])
once_new name names true is once = once
once_new name names false is once = once_last name names is once

-- ---- a name is announced

marked_last : (name : List ℕ) (names known : List (List ℕ))
    → marked (names ++ name ∷ []) known ≡ marked names known ++ (name, is_among name known) ∷ []
marked_last name [] known = refl
marked_last name (one ∷ names) known =
    ap (λ more. (one, is_among one known) ∷ more) (marked_last name names known)

not_known : (name : List ℕ) (b c : Bool) → (b ≡ true → c ≡ true) → c ≡ false → b ≡ false
not_known name true c told none = absurd (let e : c ≡ true = told refl in cc)
not_known name false c told none = refl

entry_by : (name : List ℕ) (names known : List (List ℕ)) (b : Bool) → is_among name names ≡ b
    → (is_among name known ≡ true → is_among name names ≡ true)
    → with_entry name (marked names known) ≡ marked (if b then names else names ++ name ∷ []) known
entry_by name names known true is told = rw (place_marked name names known, is) refl
entry_by name names known false is told =
    let unknown : is_among name known ≡ false =
    not_known name (is_among name known) (is_among name names) told is in
    rw (place_marked name names known, is)
    (ap (λ b. marked names known ++ (name, b) ∷ []) (sym unknown) ∙ sym (marked_last name names known))

pub telling_announced : (name : List ℕ) (names known : List (List ℕ)) (ids : Ids) → Telling names known ids
    → Telling (with_name (Some name) names) known (with_entry name ids)
telling_announced name names known ids t = record {
  marks = ap (with_entry name) t.marks ∙ entry_by name names known (is_among name names) refl (t.told name);
  once = once_new name names (is_among name names) refl t.once;
  told = λ one is. among_more one name names (t.told one is);
}

-- ---- an id is confirmed

-- two lists of known names mark alike all names but this one
abbrev AlikeBut : List ℕ → List (List ℕ) → List (List ℕ) → Type 0
AlikeBut name known more = (one : List ℕ) → bytes_eq name one ≡ false → is_among one known ≡ is_among one more

marks_alike : (name : List ℕ) (names known more : List (List ℕ)) → AlikeBut name known more
    → is_among name names ≡ false
    → marked names known ≡ marked names more
marks_alike name [] known more alike none = refl
marks_alike name (one ∷ names) known more alike none =
    let both = or_neither (bytes_eq name one) (is_among name names) none in
    rw (alike one both.0, marks_alike name names known more alike both.1) refl

confirmed_by : (name one : List ℕ) (names known more : List (List ℕ)) (n : ℕ) (b : Bool)
    → bytes_eq name one ≡ b → AlikeBut name known more
    → is_among name more ≡ true
    → is_among one names ≡ false → (b || is_among name names) ≡ true
    → (is_among name names ≡ true → confirmed_at n (marked names known) ≡ marked names more)
    → confirmed_at (if not b then 1 + n else 0) (marked (one ∷ names) known) ≡ marked (one ∷ names) more
confirmed_by name one names known more n true is alike now once among rest =
    let same : name ≡ one = same_means name one is in
    let mark : is_among one more ≡ true = subst (λ o. is_among o more ≡ true) same now in
    let none : is_among name names ≡ false = ap (λ o. is_among o names) same ∙ once in
    rw (mark, marks_alike name names known more alike none) refl
confirmed_by name one names known more n false is alike now once among rest =
    let next : 1 + n ≡ suc n = omega arith in
    rw (next, alike one is) (ap (λ later. (one, is_among one more) ∷ later) (rest among))

confirmed_place : (name : List ℕ) (names known more : List (List ℕ)) → AlikeBut name known more
    → is_among name more ≡ true
    → NoneTwice names → is_among name names ≡ true
    → confirmed_at (position_or_len (bytes_eq name) names) (marked names known) ≡ marked names more
confirmed_place name [] known more alike now once among = refl
confirmed_place name (one ∷ names) known more alike now once among =
    confirmed_by name one names known more (position_or_len (bytes_eq name) names)
    (bytes_eq name one) refl alike now once.0 among
    (confirmed_place name names known more alike now once.1)

confirmed_id : (name : List ℕ) (names known more : List (List ℕ)) → AlikeBut name known more
    → is_among name more ≡ true → NoneTwice names
    → is_among name names ≡ true
    → confirmed (id_told name names) (marked names known) ≡ marked names more
confirmed_id name names known more alike now once among =
    let n = position_or_len (bytes_eq name) names in
    let next : n + 1 ≡ suc n = omega arith in
    rw (id_place name names, next) (confirmed_place name names known more alike now once among)

known_told : (one name : List ℕ) (names known : List (List ℕ)) (b : Bool) → bytes_eq one name ≡ b
    → (is_among one known ≡ true → is_among one names ≡ true) → is_among name names ≡ true
    → is_among one (with_name (Some name) known) ≡ true → is_among one names ≡ true
known_told one name names known true is told among now =
    let same : one ≡ name = same_means one name is in subst (λ n. is_among n names ≡ true) (sym same) among
known_told one name names known false is told among now = told (sym (among_other one name known is) ∙ now)

pub telling_confirmed : (name : List ℕ) (names known : List (List ℕ)) (ids : Ids) → is_among name names ≡ true
    → Telling names known ids
    → Telling names (with_name (Some name) known) (confirmed (id_told name names) ids)
telling_confirmed name names known ids among t = record {
  marks = ap (confirmed (id_told name names)) t.marks
      ∙ confirmed_id name names known (with_name (Some name) known)
      (λ one away. sym (among_other one name known (flip one name away)))
      (among_self name known) t.once among;
  once = t.once;
  told = λ one is. known_told one name names known (bytes_eq one name) refl (t.told one) among is;
}

-- ---- a name is told

pub telling_told : (name : List ℕ) (names known : List (List ℕ)) (ids : Ids) → Telling names known ids
    → Telling (with_name (Some name) names) (with_name (Some name) known) (told name ids)
telling_told name names known ids t =
    let id : id_for name ids ≡ id_told name (with_name (Some name) names) =
    ap (id_for name) t.marks ∙ (id_marked name names known ∙ sym (id_stays name names)) in
    subst (λ k. Telling (with_name (Some name) names) (with_name (Some name) known)
    (confirmed k (with_entry name ids))) (sym id)
    (telling_confirmed name (with_name (Some name) names) known (with_entry name ids) (among_self name names)
    (telling_announced name names known ids t))

pub gets_same : (type : TopicIdType) (text : List ℕ) → gets_id type text ≡ tells_id type text
gets_same Normal text = refl
gets_same Predefined text = refl
gets_same Short text = refl
gets_same Reserved text = refl
