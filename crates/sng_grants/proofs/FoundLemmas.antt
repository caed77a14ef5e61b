-- Look-ups find what is listed, and the id that is found of a name is its least.
use Rattle.std.proofs.Common.{◌≡◌, ◌⊎◌, ◌<◌, ◌≤◌, ℕ, zero, suc, Bool, true, false, List, [], ◌∷◌, Ordering}
use Rattle.std.proofs.Common.{Less, Equal, Greater, Some, cond, refl, ap, ap₂, inl, inr, arith, ◌∙◌}
use Rattle.std.proofs.lemmas.Bool.{cases_lt}
use Rattle.std.specs.Cmp.{nat_cmp_is}
use Rattle.std.proofs.lemmas.Cmp.{eq_by_cmp_equiv, nat_list_cmp_total, nat_cmp_total}
use Rattle.std.proofs.lemmas.Map.Keys.{IsDistinct-from_sorted}
use Rattle.std.proofs.lemmas.Map.Lookups.{exact_bytes, exact_unsigned}
use Rattle.std.proofs.lemmas.Map.Views.{Contains-from_lookup, lookup-from_Contains}
use Rattle.std.proofs.lemmas.Slice.Eq.{bytes_eq-Decides}
use Rattle.std.specs.Cmp.Lexicographic.{slice_cmp}
use Rattle.std.specs.List.{AllByRecursion, Contains}
use Rattle.std.specs.List.Sorted.{IsStrictlySortedBy}
use Rattle.std.specs.Map.{keys_of}
use Rattle.std.specs.Ordering.{nat_cmp, is_eq, eq_by_cmp}
use Rattle.std.specs.Str.{bytes_eq}
use Rattle.sng_grants.specs.Laws.{GrantsAreFound, NamesAreFound, IdsAreLeast, AreIdsInOrder}
use Rattle.sng_grants.specs.Topics.{id_of}

equal : (o : Ordering) → is_eq o ≡ true → o ≡ Equal
equal Less is = absurd (cc)
equal Equal is = refl
equal Greater is = absurd (cc)

pub same_key : (x y : List ℕ) → eq_by_cmp (slice_cmp nat_cmp) x y ≡ true → x ≡ y
same_key x y is = exact_bytes x y (equal (slice_cmp nat_cmp x y) is)

same_id : (x y : ℕ) → eq_by_cmp nat_cmp x y ≡ true → x ≡ y
same_id x y is = exact_unsigned x y (equal (nat_cmp x y) is)

pub grants_are_found : GrantsAreFound
grants_are_found listed key grant ordered = (
  Contains-from_lookup {eq = eq_by_cmp (slice_cmp nat_cmp)} same_key key grant listed,
  lookup-from_Contains (eq_by_cmp_equiv nat_list_cmp_total) key grant listed
      (IsDistinct-from_sorted (slice_cmp nat_cmp) (keys_of listed) ordered),
)

pub names_are_found : NamesAreFound
names_are_found topics id name ordered = (
  Contains-from_lookup {eq = eq_by_cmp nat_cmp} same_id id name topics,
  lookup-from_Contains (eq_by_cmp_equiv nat_cmp_total) id name topics
      (IsDistinct-from_sorted nat_cmp (keys_of topics) ordered),
)

abbrev Topic : Type 0
Topic = ℕ × List ℕ

-- the topic is one of these
abbrev Among : List Topic → Topic → Type 0
Among [] topic = ⊥
Among (first ∷ topics) topic = (first ≡ topic) ⊎ Among topics topic

among : (topics : List Topic) (topic : Topic) → Contains topics topic → Among topics topic
among [] topic (k, within, is) = absurd (omega (arith, within))
among (first ∷ topics) topic (zero, within, is) = inl is
among (first ∷ topics) topic (suc k, within, is) = inr (among topics topic (k, omega (arith, within), is))

contained : (topics : List Topic) (topic : Topic) → Among topics topic → Contains topics topic
contained [] topic h = absurd h
contained (first ∷ topics) topic (inl is) = (0, omega arith, is)
contained (first ∷ topics) topic (inr more) =
    let c = contained topics topic more in (suc c.0, omega (arith, c.1), c.2)

less : (x y : ℕ) → nat_cmp x y ≡ Less → x < y
less x y is = elim (cases_lt x y) [
  | inl lt ↦ lt
  | inr ge ↦ elim (cases_lt y x) [
    | inl gt ↦ let no : Greater ≡ Less = nat_cmp_is x y Greater gt ∙ is in absurd (cc)
    | inr le ↦ let same : x ≡ y =
        omega (arith, ge, le) in let no : Equal ≡ Less = nat_cmp_is x y Equal same ∙ is in absurd (cc)
  ]
]

-- each id behind this one is greater
below : (id : ℕ) (topics : List Topic) (topic : Topic)
    → AllByRecursion (λ key. nat_cmp id key ≡ Less) (keys_of topics) → Among topics topic → id < topic.0
below id [] topic all h = absurd h
below id (first ∷ topics) topic all (inl is) =
    let before : id < first.0 = less id first.0 all.0 in omega (arith, before, ap (λ (t : Topic). t.0) is)
below id (first ∷ topics) topic all (inr more) = below id topics topic all.1 more

abbrev IsLeastAmong : List Topic → List ℕ → ℕ → Type 0
IsLeastAmong topics name id =
    Among topics (id, name) × ((other : ℕ) → Among topics (other, name) → id ≤ other)

least_by : (first : Topic) (topics : List Topic) (name : List ℕ) (id : ℕ) (b : Bool)
    → bytes_eq first.1 name ≡ b → AllByRecursion (λ key. nat_cmp first.0 key ≡ Less) (keys_of topics)
    → cond b (Some first.0) (id_of topics name) ≡ Some id
    → (id_of topics name ≡ Some id → IsLeastAmong topics name id) → IsLeastAmong (first ∷ topics) name id
least_by first topics name id true same all found more =
    let named : first.1 ≡ name = (bytes_eq-Decides first.1 name).0 same in
    let is : first.0 ≡ id = cc in (
      inl (ap₂ (λ (i : ℕ) (n : List ℕ). (i, n)) is named),
      λ other h. elim h [
        | inl e ↦ omega (arith, is, ap (λ (t : Topic). t.0) e)
        | inr m ↦ omega (arith, is, below first.0 topics (other, name) all m)
      ],
    )
least_by first topics name id false same all found more =
    let rest : IsLeastAmong topics name id = more found in (
      inr rest.0,
      λ other h. elim h [
        | inl e ↦ let no : bytes_eq first.1 name ≡ true =
            (bytes_eq-Decides first.1 name).1 (ap (λ (t : Topic). t.1) e) in absurd (cc)
        | inr m ↦ rest.1 other m
      ],
    )

least : (topics : List Topic) (name : List ℕ) (id : ℕ) → AreIdsInOrder topics → id_of topics name ≡ Some id
    → IsLeastAmong topics name id
unfolding IsStrictlySortedBy
least [] name id ordered found = absurd (cc)
least (first ∷ topics) name id ordered found =
    least_by first topics name id (bytes_eq first.1 name) refl ordered.0 found
    (least topics name id ordered.1)

found_by : (first : Topic) (topics : List Topic) (name : List ℕ) (id : ℕ) (b : Bool)
    → bytes_eq first.1 name ≡ b → AllByRecursion (λ key. nat_cmp first.0 key ≡ Less) (keys_of topics)
    → IsLeastAmong (first ∷ topics) name id → (IsLeastAmong topics name id → id_of topics name ≡ Some id)
    → cond b (Some first.0) (id_of topics name) ≡ Some id
found_by first topics name id true same all is more =
    let named : first.1 ≡ name = (bytes_eq-Decides first.1 name).0 same in
    let most : id ≤ first.0 = is.1 first.0 (inl (ap (λ (n : List ℕ). (first.0, n)) named)) in
    elim is.0 [
      | inl e ↦ ap (λ (t : Topic). Some t.0) e
      | inr m ↦ let after : first.0 < id =
          below first.0 topics (id, name) all m in absurd (omega (arith, most, after))
    ]
found_by first topics name id false same all is more =
    elim is.0 [
      | inl e ↦ let no : bytes_eq first.1 name ≡ true =
          (bytes_eq-Decides first.1 name).1 (ap (λ (t : Topic). t.1) e) in absurd (cc)
      | inr m ↦ more (m, λ other h. is.1 other (inr h))
    ]

found : (topics : List Topic) (name : List ℕ) (id : ℕ) → AreIdsInOrder topics → IsLeastAmong topics name id
    → id_of topics name ≡ Some id
unfolding IsStrictlySortedBy
found [] name id ordered is = absurd is.0
found (first ∷ topics) name id ordered is =
    found_by first topics name id (bytes_eq first.1 name) refl ordered.0 is (found topics name id ordered.1)

pub ids_are_least : IdsAreLeast
ids_are_least topics name id ordered = (
  λ is. let l =
      least topics name id ordered is in
      (contained topics (id, name) l.0, λ other h. l.1 other (among topics (other, name) h)),
  λ is. found topics name id ordered
      (among topics (id, name) is.0, λ other h. is.1 other (contained topics (other, name) h)),
)
