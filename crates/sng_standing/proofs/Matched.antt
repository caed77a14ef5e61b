-- What is found level by level is the greatest QoS among the filters that match.
use Rattle.std.proofs.Common.{◌≡◌, ℕ, Bool, true, false, ◌&&◌, not, List, [], ◌∷◌, Option, Some, None, cond}
use Rattle.std.proofs.Common.{refl, sym, ap, ◌∙◌, inl, inr, is_some}
use Rattle.std.proofs.lemmas.Bool.{cases_Bool, and_parts, and_from, and_left, and_right}
use Rattle.std.specs.List.{join_with_byte}
use Rattle.sng_fan.specs.Greatest.{greater}
use Rattle.sng_text.specs.Levels.{levels_of}
use Rattle.sng_text.specs.Matching.{items_of, has_rest, begins_wild, is_reserved, matches}
use Rattle.sng_text.specs.Texts.{is_in_place, is_name}
use Rattle.sng_text.specs.declared.qos.Qos.{Qos}
use Rattle.sng_text.proofs.MatchLemmas.{matched, cut}
use Rattle.sng_text.proofs.NameLemmas.{all_plain-levels_of, name-plain}
use Rattle.sng_standing.specs.declared.node.Node.{Node}
use Rattle.sng_standing.specs.Tree.{qos_left, qos_at}
use Rattle.sng_standing.specs.Standing.{AreOfFilter, HasFilters}
use Rattle.sng_standing.specs.Greatest.{joined, greatest_left, greatest_reserved, greatest_at}
use Rattle.sng_standing.specs.Holders.{IsGreatestAt}
use Rattle.sng_standing.proofs.Joins.{AsGreat, as_great_same}
use Rattle.sng_standing.proofs.InPlace.{filter-placed}
use Rattle.sng_standing.proofs.AllFound.{found_all}
use Rattle.sng_standing.proofs.AllMatch.{all_match}
use Rattle.sng_standing.proofs.Reserved.{found_reserved, reserved_match}

levels_some : (name : List ℕ) → levels_of name ≡ [] → ⊥
levels_some name none = let c = cut name in let no : [] ≡ c.level ∷ c.rest = sym none ∙ c.is in cc

-- a filter that matches, by its levels
of_match : (filter name : List ℕ) → matches filter name ≡ true
    → (matched (levels_of filter) (levels_of name) ≡ true)
    × ((begins_wild (items_of (levels_of filter)) (has_rest (levels_of filter)) && is_reserved name) ≡ false)
of_match filter name is =
    let wild = begins_wild (items_of (levels_of filter)) (has_rest (levels_of filter)) && is_reserved name in
    let p = and_parts (not wild) (matched (levels_of filter) (levels_of name)) is in
    (p.1, tame wild p.0)
  where
    tame : (wild : Bool) → not wild ≡ true → wild ≡ false
    tame true is_not = cc
    tame false is_not = refl

to_match : (filter name : List ℕ)
    → (begins_wild (items_of (levels_of filter)) (has_rest (levels_of filter)) && is_reserved name) ≡ false
    → matched (levels_of filter) (levels_of name) ≡ true → matches filter name ≡ true
to_match filter name tame is =
    and_from
    (not (begins_wild (items_of (levels_of filter)) (has_rest (levels_of filter)) && is_reserved name))
    (matched (levels_of filter) (levels_of name)) (ap not tame) is

placed_of : (levels : List (List ℕ)) → AreOfFilter levels → is_in_place levels ≡ true
placed_of levels are = sym (ap is_in_place are.0) ∙ filter-placed (join_with_byte 47 levels) are.1

found_at : (root : Node) (n : ℕ) (filter name : List ℕ) (q : Qos) → HasFilters root
    → matches filter name ≡ true → qos_at root n filter ≡ Some q → AsGreat (greatest_at root n name) q
found_at root n filter name q has is held =
    let m = of_match filter name is in
    let placed = placed_of (levels_of filter) (has n (levels_of filter) (ap is_some held)) in
    elim (cases_Bool (is_reserved name)) [
      | inl reserved ↦
          let same : greatest_at root n name ≡ greatest_reserved root n (levels_of name) =
          ap (λ b. cond b (greatest_reserved root n (levels_of name)) (greatest_left root n (levels_of name)))
          reserved in
          let tame = tame_where _ (is_reserved name) m.1 reserved in
          as_great_same _ _ q same
          (found_reserved root n (levels_of filter) (levels_of name) q placed tame m.0 held
          (levels_some name))
      | inr free ↦
          let same : greatest_at root n name ≡ greatest_left root n (levels_of name) =
          ap (λ b. cond b (greatest_reserved root n (levels_of name)) (greatest_left root n (levels_of name)))
          free in
          as_great_same _ _ q same (found_all root n (levels_of filter) (levels_of name) q placed m.0 held)
    ]
  where
    tame_where : (wild begins : Bool) → (wild && begins) ≡ false → begins ≡ true → wild ≡ false
    tame_where true begins apart is = sym is ∙ apart
    tame_where false begins apart is = refl

-- what is found is held, by a filter with a text
abbrev HoldsAt : Node → ℕ → List ℕ → Qos → Type 0
HoldsAt root n name q = (filter : List ℕ) × (matches filter name ≡ true) × (qos_at root n filter ≡ Some q)

-- the same for levels
with_text : (root : Node) (n : ℕ) (name : List ℕ) (q : Qos) (levels : List (List ℕ)) → HasFilters root
    → matched levels (levels_of name) ≡ true → qos_left root n levels ≡ Some q
    → (begins_wild (items_of levels) (has_rest levels) && is_reserved name) ≡ false → HoldsAt root n name q
with_text root n name q levels has is held tame =
    let are = has n levels (ap is_some held) in (
      join_with_byte 47 levels,
      to_match (join_with_byte 47 levels) name
          (ap (λ ls. begins_wild (items_of ls) (has_rest ls) && is_reserved name) are.0 ∙ tame)
          (ap (λ ls. matched ls (levels_of name)) are.0 ∙ is),
      ap (qos_left root n) are.0 ∙ held,
    )

held_at : (root : Node) (n : ℕ) (name : List ℕ) (q : Qos) → HasFilters root → is_name name ≡ true
    → greatest_at root n name ≡ Some q → HoldsAt root n name q
held_at root n name q has named is =
    let plain = all_plain-levels_of name (name-plain name named) in
    elim (cases_Bool (is_reserved name)) [
      | inl reserved ↦
          let same : greatest_at root n name ≡ greatest_reserved root n (levels_of name) =
          ap (λ b. cond b (greatest_reserved root n (levels_of name)) (greatest_left root n (levels_of name)))
          reserved in
          let h = reserved_match root n (levels_of name) q plain (sym same ∙ is) in
          with_text root n name q h.0 has h.1 h.2 (and_left _ (is_reserved name) h.3)
      | inr free ↦
          let same : greatest_at root n name ≡ greatest_left root n (levels_of name) =
          ap (λ b. cond b (greatest_reserved root n (levels_of name)) (greatest_left root n (levels_of name)))
          free in
          let h = all_match root n (levels_of name) q plain (sym same ∙ is) in
          with_text root n name q h.0 has h.1 h.2 (and_right _ (is_reserved name) free)
    ]

none_where : (x : Option Qos) → ((q : Qos) → x ≡ Some q → ⊥) → x ≡ None
none_where None not_some = refl
none_where (Some q) not_some = absurd (not_some q refl)

pub is_greatest : (root : Node) (n : ℕ) (name : List ℕ) (answer : Option Qos) → HasFilters root
    → is_name name ≡ true → greatest_at root n name ≡ answer → IsGreatestAt root n name answer
is_greatest root n name None has named is = λ filter fitting. none_where (qos_at root n filter) (λ q held.
    let no : Some q ≡ None =
    sym (ap (λ a. joined a (Some q)) is) ∙ found_at root n filter name q has fitting held ∙ is in cc)
is_greatest root n name (Some qos) has named is = (
  λ filter other fitting held.
      let same : Some (greater qos other) ≡ Some qos =
      sym (ap (λ a. joined a (Some other)) is)
      ∙ found_at root n filter name other has fitting held ∙ is in cc,
  held_at root n name qos has named is,
)
