-- What the policy says to a SUBSCRIBE that names a filter: it is denied with a name that shows the gap, or
-- each name that the filter matches may be received.
use Rattle.std.proofs.Common.{◌≡◌, ◌⊎◌, inl, inr, ℕ, Bool, true, false, List, ◌∷◌, ◌++◌, refl, ap, ◌∙◌}
use Rattle.std.specs.Prelude.{◌&&◌, not, Option, Some, None}
use Rattle.sng_text.specs.Texts.{is_filter}
use Rattle.sng_grants.specs.Scopes.{subscribed}
use Rattle.sng_grants.specs.Sources.{scope_of}
use Rattle.sng_grants.specs.declared.scope.Pair.{Pair}
use Rattle.sng_grants.specs.declared.policy.Policy.{Policy}
use Rattle.sng_cover.specs.Covering.{cover_of}
use Rattle.sng_cover.specs.declared.answer.Cover.{Cover}
use Rattle.sng_cover.specs.declared.answer.Cover.TheVariants as cover
use Rattle.sng_policy.specs.Grants.{lists, grant_of_cover, subscribe_grant}
use Rattle.sng_policy.specs.Laws.{JoinsReceiving}
use Rattle.sng_policy.specs.declared.grant.FilterGrant.TheVariants as on_filter
use Rattle.sng_policy.proofs.SubscriptionLemmas.{subscribing_is_receiving}
use Rattle.sng_frames.specs.declared.messages.subscribe.TopicRequest.{TopicRequest}
use Rattle.sng_book.specs.declared.outcome.Denial.{Denial}
use Rattle.sng_book.specs.declared.outcome.Denial.TheVariants.{Form, Grant}
use Rattle.sng_book.specs.declared.outcome.FormDenial.TheVariants.{OutOfTurn}
use Rattle.sng_book.specs.declared.outcome.GrantDenial.TheVariants.{NoScope}
use Rattle.sng_book.specs.declared.outcome.Outcome.TheVariants.{Allowed}
use Rattle.sng_book.specs.declared.row.Row.{Row}
use Rattle.sng_laws.specs.Views.{last_policy}
use Rattle.sng_laws.specs.ViewsClients.{phase_of}
use Rattle.sng_history.specs.Verdicts.{and_then}
use Rattle.sng_laws.specs.LawsRules.{Rule, judged}
use Rattle.sng_laws.specs.LawsAnswers.{is_active, or_empty}
use Rattle.sng_laws.specs.LawsSubscriptions.{filter_meant, form_rules, gap_rule, room_rules}
use Rattle.sng_laws.specs.LawsSubscriptions.{subscribe_rules, CoveredExactly, SubscribesExactly}
use Rattle.sng_promise.proofs.Answers.LawForms.{judged_both, meant_form, meant_filter}

-- what the grant of a client's scope is
scope_grant : (policy : Policy) (id text : List ℕ) (scope : Option (List Pair))
    → scope_of policy.clients id ≡ scope → lists policy id ≡ true
    → ((gap : List ℕ) × (subscribe_grant policy id text ≡ on_filter.Uncovered gap))
    ⊎ (subscribe_grant policy id text ≡ on_filter.Allowed)
scope_grant policy id text None is listed = absurd (let e = rw is at listed in cc)
scope_grant policy id text (Some pairs) is listed = by_cover (cover_of text (subscribed pairs)) (rw is refl)
  where
    by_cover : (answer : Cover) → subscribe_grant policy id text ≡ grant_of_cover answer
        → ((gap : List ℕ) × (subscribe_grant policy id text ≡ on_filter.Uncovered gap))
        ⊎ (subscribe_grant policy id text ≡ on_filter.Allowed)
    by_cover cover.Included same = inr same
    by_cover (cover.Uncovered gap) same = inl (gap, same)

-- the outcome of a SUBSCRIBE that may be asked and is well formed
outcome_of : (a l : Bool) (form more : List Rule) (turn unlisted : Denial) → a ≡ true → l ≡ true
    → judged form ≡ Allowed
    → judged ((not a, turn) ∷ (not l, unlisted) ∷ (form ++ more)) ≡ judged more
outcome_of a l form more turn unlisted active listed may =
    rw (active, listed) (judged_both form more ∙ ap (λ o. and_then o (judged more)) may)

both_true : (a b : Bool) → (a && b) ≡ true → (a ≡ true) × (b ≡ true)
both_true true b is = (refl, is)
both_true false b is = absurd (let e = is in cc)

pub covered_exactly : (h : List Row) (id : List ℕ) (r : TopicRequest) → SubscribesExactly h id r
covered_exactly h id r text may meant have =
    let policy = last_policy h in
    let is : is_filter text ≡ true = meant_filter policy r.flags.id_type r.topic text meant in
    let both = both_true (is_active (phase_of id h)) (lists policy id) may in
    let more = gap_rule policy id text ∷ room_rules h id r.flags.id_type text in
    let same : or_empty (filter_meant policy r.flags.id_type r.topic) ≡ text = ap or_empty meant in
    let outcome : judged (subscribe_rules h id r) ≡ judged more =
    ap (λ t. judged ((not (is_active (phase_of id h)), Form OutOfTurn)
    ∷ (not (lists policy id), Grant (NoScope id))
    ∷ (form_rules policy r ++ gap_rule policy id t ∷ room_rules h id r.flags.id_type t))) same
    ∙ outcome_of (is_active (phase_of id h)) (lists policy id) (form_rules policy r) more (Form OutOfTurn)
    (Grant (NoScope id)) both.0 both.1 (meant_form policy r text meant)
    in
    let joins : JoinsReceiving policy id text (subscribe_grant policy id text) =
    subscribing_is_receiving policy id text is have in
    by_grant outcome joins (scope_grant policy id text (scope_of policy.clients id) refl both.1)
  where
    by_grant : (let more : List Rule =
        gap_rule (last_policy h) id text ∷ room_rules h id r.flags.id_type text in
        judged (subscribe_rules h id r) ≡ judged more)
        → JoinsReceiving (last_policy h) id text (subscribe_grant (last_policy h) id text)
        → (((gap : List ℕ) × (subscribe_grant (last_policy h) id text ≡ on_filter.Uncovered gap))
        ⊎ (subscribe_grant (last_policy h) id text ≡ on_filter.Allowed))
        → CoveredExactly h id r text
    by_grant outcome joins (inl gap) =
        let shown = joins.uncovered gap.0 gap.1 in
        inl (
          gap.0,
          record {
            denied = outcome ∙ rw gap.1 refl;
            name = shown.0;
            matched = shown.1;
            missing = shown.2;
          },
        )
    by_grant outcome joins (inr allowed) = inr (joins.allowed allowed, outcome ∙ rw allowed refl)
