use Rattle.std.proofs.Common.{◌≡◌, ◌+◌, ◌<◌, ◌≤◌, ℕ, List, [], ◌∷◌, ◌++◌, true, length, take, drop, get_or}
use Rattle.std.proofs.Common.{sym}
use Rattle.std.proofs.Common.{subst, ap, ◌∙◌, Result, Ok, Err, OnOk}
use Rattle.std.proofs.lemmas.List.{take_more, take_all, take-append-drop}
use Rattle.std.proofs.lemmas.List.Elements.{All-drop}
use Rattle.sng_text.specs.Texts.{is_filter}
use Rattle.sng_cover.specs.Covering.{cover_of}
use Rattle.sng_cover.specs.Gathered.{Gathered}
use Rattle.sng_cover.specs.declared.answer.Cover.TheVariants.{Included}
use Rattle.sng_cover.specs.declared.question.Question.{Question}
use Rattle.sng_cover.proofs.Answered.{right}
use Rattle.sng_cover.proofs.Filters.{filters_from_all}
use Rattle.sng_cover.proofs.inclusion.cover.Goals as goal

-- a question with the filter at the next place
one_more : (asked : List ℕ) (granted : List (List ℕ)) (i : ℕ) (filter : List ℕ) (question : Question)
    → i < length granted → filter ≡ get_or granted i filter
    → Gathered question asked (take i granted ++ filter ∷ []) → Gathered question asked (take (i + 1) granted)
one_more asked granted i filter question within is gathered =
    let more : take (i + 1) granted ≡ take i granted ++ filter ∷ [] =
    take_more granted i filter within ∙ ap (λ (item : List ℕ). take i granted ++ item ∷ []) (sym is) in
    subst (λ (filters : List (List ℕ)). Gathered question asked filters) (sym more) gathered

pub is_covered-requires : goal.is_covered-requires
is_covered-requires c =
    let asked : List ℕ = c.args.asked.now in
    let granted : List (List ℕ) = c.args.granted.now in
    let i : ℕ = c.loop-filter.filter-index in (
      asked,
      (
        take (i + 1) granted,
        one_more asked granted i c.filter-item.result _ c.loop-filter-test.true c.filter-item.is
            (c.add.ensures asked (take i granted) c.loop-filter.invariant),
      ),
    )

pub returns-then-is_covered-clause-value : goal.returns-then-is_covered-clause-value
returns-then-is_covered-clause-value c =
    let asked : List ℕ = c.args.asked.now in
    let granted : List (List ℕ) = c.args.granted.now in
    let i : ℕ = c.loop-filter.filter-index in
    let gathered = one_more asked granted i c.filter-item.result _ c.loop-filter-test.true c.filter-item.is
    (c.add.ensures asked (take i granted) c.loop-filter.invariant) in
    let rest =
    All-drop (λ (filter : List ℕ). is_filter filter ≡ true) (i + 1) granted c.are_filters.ensures in
    let included : cover_of asked (take (i + 1) granted ++ drop (i + 1) granted) ≡ Included =
    c.is_covered.ensures asked (take (i + 1) granted)
    (drop (i + 1) granted) gathered rest c.if-is_covered.true in
    sym included ∙ ap (cover_of asked) (take-append-drop (i + 1) granted)

pub returns-then-is_covered-clause-right : goal.returns-then-is_covered-clause-right
returns-then-is_covered-clause-right c =
    right c.args.asked.now c.args.granted.now c.loop-filter.invariant.filter
    (filters_from_all c.args.granted.now c.are_filters.ensures)

pub loop-filter-preserved : goal.loop-filter-preserved
loop-filter-preserved c =
    let asked : List ℕ = c.args.asked.now in
    let granted : List (List ℕ) = c.args.granted.now in
    let i : ℕ = c.loop-filter.filter-index in
    one_more asked granted i c.filter-item.result _ c.loop-filter-test.true c.filter-item.is
    (c.add.ensures asked (take i granted) c.loop-filter.invariant)

-- all filters were added
all_gathered : (asked : List ℕ) (granted : List (List ℕ)) (i : ℕ) (question : Question) → length granted ≤ i
    → Gathered question asked (take i granted) → Gathered question asked granted
all_gathered asked granted i question past gathered =
    subst (λ (filters : List (List ℕ)). Gathered question asked filters) (take_all i granted past) gathered

pub answer-requires : goal.answer-requires
answer-requires c =
    let granted : List (List ℕ) = c.args.granted.now in
    let past : length granted ≤ c.loop-filter.filter-index = c.loop-filter-test.false in
    let gathered =
    all_gathered c.args.asked.now granted c.loop-filter.filter-index c.loop-filter.question past
    c.loop-filter.invariant in
    (c.args.asked.now, (granted, (gathered, c.profile_of.ensures)))

pub returns-clause-value : goal.returns-clause-value
returns-clause-value c =
    let granted : List (List ℕ) = c.args.granted.now in
    let past : length granted ≤ c.loop-filter.filter-index = c.loop-filter-test.false in
    let gathered =
    all_gathered c.args.asked.now granted c.loop-filter.filter-index c.loop-filter.question past
    c.loop-filter.invariant in
    c.answer.ensures c.args.asked.now granted gathered c.profile_of.ensures

on_ok : {A E : Type 0} (r : Result A E) (P : Type 0) → P → OnOk r P
on_ok (Ok a) P p = p
on_ok (Err e) P p = tt

pub returns-clause-right : goal.returns-clause-right
returns-clause-right c =
    on_ok c.answer.result _ (right c.args.asked.now c.args.granted.now c.loop-filter.invariant.filter
    (filters_from_all c.args.granted.now c.are_filters.ensures))
