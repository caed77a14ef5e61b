use Rattle.std.proofs.Common.{◌≡◌, ◌+◌, ◌<◌, ◌≤◌, ℕ, List, [], ◌∷◌, ◌++◌, true, length, take, drop, get_or}
use Rattle.std.proofs.Common.{sym}
use Rattle.std.proofs.Common.{ap, ◌∙◌}
use Rattle.std.proofs.lemmas.List.{take_more, take_all, take-append-drop, append-nil}
use Rattle.std.proofs.lemmas.List.Elements.{All-drop}
use Rattle.sng_text.specs.Texts.{is_filter}
use Rattle.sng_cover.specs.Covering.{cover_of}
use Rattle.sng_cover.specs.Gathered.{Gathered}
use Rattle.sng_cover.specs.declared.answer.Cover.TheVariants.{Included}
use Rattle.sng_cover.specs.declared.question.Question.{Question}
use Rattle.sng_grants.specs.declared.scope.Pair.{Pair}
use Rattle.sng_grants.specs.Scopes.{subscribed}
use Rattle.sng_policy.proofs.SubscriptionLemmas.{own-included, scope-has_filters}
use Rattle.sng_grants.proofs.ScopeLemmas.{subscribed-append}
use Rattle.sng_policy.proofs.subscriptions.cover_by.Goals as goal
use Rattle.sng_policy.proofs.subscriptions.cover_by.Goals.{then-pair+else-is_covered, else-pair}

-- the filters up to the next pair
next_filters : (pairs : List Pair) (i : ℕ) (pair : Pair) → i < length pairs → pair ≡ get_or pairs i pair
    → subscribed (take (i + 1) pairs) ≡ subscribed (take i pairs) ++ subscribed (pair ∷ [])
next_filters pairs i pair within is =
    let one_more : take (i + 1) pairs ≡ take i pairs ++ pair ∷ [] =
    take_more pairs i pair within ∙ ap (λ (item : Pair). take i pairs ++ item ∷ []) (sym is) in
    ap subscribed one_more ∙ subscribed-append (take i pairs) (pair ∷ [])

-- a question with the filter of the next pair
with_next : (filter : List ℕ) (pairs : List Pair) (i : ℕ) (pair : Pair) (question : Question)
    → i < length pairs → pair ≡ get_or pairs i pair → pair.subscribes ≡ true
    → Gathered question filter (subscribed (take i pairs) ++ pair.filter ∷ [])
    → Gathered question filter (subscribed (take (i + 1) pairs))
with_next filter pairs i pair question within is subscribes gathered =
    rw (next_filters pairs i pair within is, subscribes) gathered

pub returns-then-has_filter : goal.returns-then-has_filter
returns-then-has_filter c =
    let has = sym c.has_filter.ensures ∙ c.if-has_filter.true in
    sym (own-included c.args.pairs.now c.args.filter.now c.requires.filter c.requires.filters has)

pub is_covered-requires : goal.is_covered-requires
is_covered-requires c =
    let filter : List ℕ = c.args.filter.now in
    let pairs : List Pair = c.args.pairs.now in
    let i : ℕ = c.loop-pair.pair-index in (
      filter,
      (
        subscribed (take (i + 1) pairs),
        with_next filter pairs i c.pair-item.result _ c.loop-pair-test.true c.pair-item.is c.if-pair.true
            (c.add.ensures filter (subscribed (take i pairs)) c.loop-pair.invariant),
      ),
    )

pub returns-then-is_covered : goal.returns-then-is_covered
returns-then-is_covered c =
    let filter : List ℕ = c.args.filter.now in
    let pairs : List Pair = c.args.pairs.now in
    let i : ℕ = c.loop-pair.pair-index in
    let gathered =
    with_next filter pairs i c.pair-item.result _ c.loop-pair-test.true c.pair-item.is c.if-pair.true
    (c.add.ensures filter (subscribed (take i pairs)) c.loop-pair.invariant) in
    let rest =
    scope-has_filters (drop (i + 1) pairs)
    (All-drop (λ (pair : Pair). is_filter pair.filter ≡ true) (i + 1) pairs c.requires.filters) in
    let included : cover_of filter (subscribed (take (i + 1) pairs) ++ subscribed (drop (i + 1) pairs))
    ≡ Included =
    c.is_covered.ensures filter (subscribed (take (i + 1) pairs))
    (subscribed (drop (i + 1) pairs)) gathered rest c.if-is_covered.true in
    sym included ∙ ap (cover_of filter) (sym (subscribed-append (take (i + 1) pairs) (drop (i + 1) pairs))
    ∙ ap subscribed (take-append-drop (i + 1) pairs))

pub loop-pair-preserved : goal.loop-pair-preserved
loop-pair-preserved c =
    let filter : List ℕ = c.args.filter.now in
    let pairs : List Pair = c.args.pairs.now in
    let i : ℕ = c.loop-pair.pair-index in
    let pair : Pair = c.pair-item.result in
    elim c.if-pair.branch [
      | then-pair+else-is_covered w ↦
          rw w.question-is (with_next filter pairs i pair _ c.loop-pair-test.true c.pair-item.is
          w.if-pair.true
          (w.add.ensures filter (subscribed (take i pairs)) c.loop-pair.invariant))
      | else-pair w ↦
          rw (
            w.question-is,
            next_filters pairs i pair c.loop-pair-test.true c.pair-item.is,
            w.if-pair.false,
            append-nil (subscribed (take i pairs)),
          )
          c.loop-pair.invariant
    ]

pub returns : goal.returns
returns c =
    let past : length c.args.pairs.now ≤ c.loop-pair.pair-index = c.loop-pair-test.false in
    let gathered : Gathered c.loop-pair.question c.args.filter.now (subscribed c.args.pairs.now) =
    rw (take_all c.loop-pair.pair-index c.args.pairs.now past) at c.loop-pair.invariant in
    c.answer.ensures c.args.filter.now (subscribed c.args.pairs.now) gathered c.requires.profile
