-- A source may publish exactly where a name is granted that it can say.
use Rattle.std.proofs.Common.{◌≡◌, ℕ, ◌&&◌, ◌||◌, true, false, List, [], ◌∷◌, inl, inr, ap, refl, sym, ◌∙◌}
use Rattle.std.proofs.Common.{is_some}
use Rattle.std.specs.List.{AllByRecursion as AllOf}
use Rattle.std.proofs.lemmas.Bool.{and_from, and_parts, both_ways, cases_Bool, false_from_ne_true, or_cases}
use Rattle.std.proofs.lemmas.Bool.{or_left, or_right}
use Rattle.std.proofs.lemmas.List.Elements.{recursion_from_All}
use Rattle.std.proofs.lemmas.Slice.Eq.{bytes_eq-Decides}
use Rattle.std.specs.Str.{bytes_eq}
use Rattle.sng_text.specs.Matching.{matches}
use Rattle.sng_text.specs.Texts.{is_filter, is_name}
use Rattle.sng_text.proofs.NameLemmas.{name-plain}
use Rattle.sng_text.proofs.SelfLemmas.{matches_itself, matches_same}
use Rattle.sng_grants.specs.Topics.{id_of}
use Rattle.sng_grants.specs.declared.scope.Pair.{Pair}
use Rattle.sng_policy.specs.Grants.{is_granted}
use Rattle.sng_policy.specs.declared.permission.Permission.TheVariants.{Publish}
use Rattle.sng_questions.specs.Publishing.{CanSay, IsPredefined, PublishersAreFound, lets_publish}
use Rattle.sng_questions.specs.Publishing.{matches_topic, may_publish}
use Rattle.sng_questions.specs.ShortNames.{matches_short}
use Rattle.sng_questions.proofs.ShortNameLemmas.{short_names_are_found}

abbrev Topics : Type 0
Topics = List (ℕ × List ℕ)

-- ---- predefined names

topic_found : (topics : Topics) (filter : List ℕ) → matches_topic topics filter ≡ true
    → (name : List ℕ) × IsPredefined topics name × (matches filter name ≡ true)
topic_found [] filter is = let never : false ≡ true = is in absurd (cc)
topic_found (topic ∷ topics) filter is =
    elim (or_cases (matches filter topic.1) (matches_topic topics filter) is) [
      | inl here ↦ (topic.1, inl refl, here)
      | inr there ↦ let rest = topic_found topics filter there in (rest.0, inr rest.1, rest.2)
    ]

topic_matched : (topics : Topics) (filter name : List ℕ) → IsPredefined topics name
    → matches filter name ≡ true → matches_topic topics filter ≡ true
topic_matched [] filter name is matched = absurd is
topic_matched (topic ∷ topics) filter name is matched =
    elim is [
      | inl here ↦ or_left _ (matches_topic topics filter) (ap (matches filter) here ∙ matched)
      | inr there ↦ or_right (matches filter topic.1) _ (topic_matched topics filter name there matched)
    ]

-- ---- a name, which matches itself alone

other_name : (name other : List ℕ) → is_name name ≡ true → bytes_eq other name ≡ false
    → matches name other ≡ false
other_name name other is differs =
    false_from_ne_true (matches name other) (λ (matched : matches name other ≡ true).
    let same = matches_same name other (name-plain name is) matched in
    both_ways (bytes_eq other name) differs ((bytes_eq-Decides other name).1 (sym same)))

same_name : (name other : List ℕ) → is_name name ≡ true → bytes_eq other name ≡ true
    → matches name other ≡ true
same_name name other is same =
    matches_itself name other (name-plain name is) (sym ((bytes_eq-Decides other name).0 same))

pub found_by_name : (topics : Topics) (name : List ℕ) → is_name name ≡ true
    → is_some (id_of topics name) ≡ matches_topic topics name
found_by_name [] name is = refl
found_by_name (topic ∷ topics) name is =
    elim (cases_Bool (bytes_eq topic.1 name)) [
      | inl same ↦ rw (same, same_name name topic.1 is same) refl
      | inr differs ↦ rw (differs, other_name name topic.1 is differs) (found_by_name topics name is)
    ]

-- ---- one pair

abbrev Says : Topics → List ℕ → Type 0
Says topics filter = (name : List ℕ) × CanSay topics name × (matches filter name ≡ true)

said : (topics : Topics) (filter : List ℕ) → is_filter filter ≡ true
    → (matches_short filter || matches_topic topics filter) ≡ true → Says topics filter
said topics filter is some =
    elim (or_cases (matches_short filter) (matches_topic topics filter) some) [
      | inl short ↦ let found = (short_names_are_found filter is).0 short in (found.0, inl found.1, found.2)
      | inr topic ↦ let found = topic_found topics filter topic in (found.0, inr found.1, found.2)
    ]

sayable : (topics : Topics) (filter name : List ℕ) → is_filter filter ≡ true → CanSay topics name
    → matches filter name ≡ true → (matches_short filter || matches_topic topics filter) ≡ true
sayable topics filter name is can matched =
    elim can [
      | inl short ↦
          or_left (matches_short filter) _ ((short_names_are_found filter is).1 (name, short, matched))
      | inr topic ↦ or_right (matches_short filter) _ (topic_matched topics filter name topic matched)
    ]

-- ---- all pairs

abbrev AreFilters : List Pair → Type 0
AreFilters pairs = AllOf (λ pair. is_filter pair.filter ≡ true) pairs

abbrev Grants : Topics → List Pair → Type 0
Grants topics pairs = (name : List ℕ) × CanSay topics name × (is_granted Publish pairs name ≡ true)

found : (topics : Topics) (pairs : List Pair) → AreFilters pairs → may_publish topics pairs ≡ true
    → Grants topics pairs
found topics [] are may = let never : false ≡ true = may in absurd (cc)
found topics (pair ∷ pairs) are may =
    elim (or_cases (lets_publish topics pair) (may_publish topics pairs) may) [
      | inl here ↦
          let parts =
          and_parts pair.publishes (matches_short pair.filter || matches_topic topics pair.filter) here in
          let name = said topics pair.filter are.0 parts.1 in (
            name.0,
            name.1,
            or_left _ (is_granted Publish pairs name.0) (and_from pair.publishes _ parts.0 name.2),
          )
      | inr there ↦
          let rest = found topics pairs are.1 there in
          (rest.0, rest.1, or_right (pair.publishes && matches pair.filter rest.0) _ rest.2)
    ]

passes : (topics : Topics) (pairs : List Pair) (name : List ℕ) → AreFilters pairs → CanSay topics name
    → is_granted Publish pairs name ≡ true → may_publish topics pairs ≡ true
passes topics [] name are can granted = let never : false ≡ true = granted in absurd (cc)
passes topics (pair ∷ pairs) name are can granted =
    elim (or_cases (pair.publishes && matches pair.filter name) (is_granted Publish pairs name) granted) [
      | inl here ↦
          let parts = and_parts pair.publishes (matches pair.filter name) here in
          or_left _ (may_publish topics pairs)
          (and_from pair.publishes _ parts.0 (sayable topics pair.filter name are.0 can parts.1))
      | inr there ↦ or_right (lets_publish topics pair) _ (passes topics pairs name are.1 can there)
    ]

pub publishers_are_found : PublishersAreFound
publishers_are_found topics pairs all =
    let are : AreFilters pairs =
    recursion_from_All (λ (pair : Pair). is_filter pair.filter ≡ true) pairs all in (
      λ (may : may_publish topics pairs ≡ true). found topics pairs are may,
      λ (grants : Grants topics pairs). passes topics pairs grants.0 are grants.1 grants.2,
    )
