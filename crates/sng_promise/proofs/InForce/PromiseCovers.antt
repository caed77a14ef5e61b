-- What the policy says to a filter: each topic name that it matches may be received, or a gap shows that one
-- may not.
use Rattle.std.proofs.Common.{◌≡◌, ℕ, Bool, true, false, List, refl, ap, sym, subst, if◌then◌else◌}
use Rattle.std.specs.Prelude.{is_some, Option, Some, None}
use Rattle.sng_text.specs.Texts.{is_filter}
use Rattle.sng_grants.specs.Scopes.{subscribed}
use Rattle.sng_grants.specs.Sources.{scope_of}
use Rattle.sng_grants.specs.declared.scope.Pair.{Pair}
use Rattle.sng_grants.specs.declared.policy.Policy.{Policy}
use Rattle.sng_cover.specs.Covering.{cover_of}
use Rattle.sng_cover.specs.declared.answer.Cover.{Cover}
use Rattle.sng_cover.specs.declared.answer.Cover.TheVariants as cover
use Rattle.sng_policy.specs.Grants.{lists, is_granted, grant_by, grant_of_cover, subscribe_grant}
use Rattle.sng_policy.specs.Laws.{HasFilters}
use Rattle.sng_policy.specs.declared.permission.Permission.TheVariants.{Subscribe}
use Rattle.sng_policy.specs.declared.grant.NameGrant.TheVariants as on_name
use Rattle.sng_policy.proofs.SubscriptionLemmas.{subscribing_is_receiving}
use Rattle.sng_book.specs.declared.decision.Who.TheVariants as who
use Rattle.sng_book.specs.declared.outcome.Place.TheVariants as place
use Rattle.sng_book.specs.declared.outcome.Denial.TheVariants.{Grant, Room}
use Rattle.sng_book.specs.declared.outcome.GrantDenial.TheVariants.{NoScope, Uncovered}
use Rattle.sng_book.specs.declared.outcome.RoomDenial.TheVariants.{UpstreamDown, Full}
use Rattle.sng_book.specs.declared.outcome.Outcome.{Outcome}
use Rattle.sng_book.specs.declared.outcome.Outcome.TheVariants.{Allowed, Denied}
use Rattle.sng_history.specs.Verdicts.{and_then, filter_outcome, coverage}
use Rattle.sng_laws.specs.LawsRules.{may_receive}
use Rattle.sng_laws.specs.LawsPromise.{IsIncluded, IsGap, MaySubscribe, MayEnd}

-- ---- what may be received

granted_name : (b : Bool) → (if b then on_name.Allowed else on_name.Missing) ≡ on_name.Allowed → b ≡ true
granted_name true is = refl
granted_name false is = absurd cc

missing_name : (b : Bool) → (if b then on_name.Allowed else on_name.Missing) ≡ on_name.Missing → b ≡ false
missing_name true is = absurd cc
missing_name false is = refl

received : (scope : Option (List Pair)) (name : List ℕ)
    → grant_by Subscribe scope name ≡ on_name.Allowed
    → may_receive scope name ≡ true
received None name is = absurd cc
received (Some pairs) name is = granted_name (is_granted Subscribe pairs name) is

unreceived : (scope : Option (List Pair)) (name : List ℕ)
    → grant_by Subscribe scope name ≡ on_name.Missing
    → may_receive scope name ≡ false
unreceived None name is = refl
unreceived (Some pairs) name is = missing_name (is_granted Subscribe pairs name) is

-- ---- the policy's answer

-- it allows what is included, and denies for want of a scope, or with a gap
record Answers (policy : Policy) (id text : List ℕ) (P : Outcome → Type 0) : Type 0 where
  included : IsIncluded policy id text → P Allowed
  unlisted : lists policy id ≡ false → P (Denied (Grant (NoScope id)))
  uncovered : (gap : List ℕ) → (HasFilters (scope_of policy.clients id) → IsGap policy id text gap)
      → P (Denied (Grant (Uncovered text gap)))

-- what the client's scope covers, where it has one
by_cover : (policy : Policy) (id text : List ℕ) (P : Outcome → Type 0) (pairs : List Pair) (answer : Cover)
    → Answers policy id text P
    → is_filter text ≡ true
    → scope_of policy.clients id ≡ Some pairs → subscribe_grant policy id text ≡ grant_of_cover answer
    → P (coverage policy id text)
by_cover policy id text P pairs cover.Included answers is scope same =
    subst P (sym (ap (filter_outcome id text) same))
    (answers.included
    (record {
      listed = ap is_some scope;
      received = λ have name named matched.
          received (scope_of policy.clients id) name
          ((subscribing_is_receiving policy id text is have).allowed same name named matched);
    }))
by_cover policy id text P pairs (cover.Uncovered gap) answers is scope same =
    subst P (sym (ap (filter_outcome id text) same))
    (answers.uncovered gap (λ have.
    let shown = (subscribing_is_receiving policy id text is have).uncovered gap same in
    record {
      name = shown.0;
      matched = shown.1;
      missing = unreceived (scope_of policy.clients id) gap shown.2;
    }))

by_scope : (policy : Policy) (id text : List ℕ) (P : Outcome → Type 0) (scope : Option (List Pair))
    → Answers policy id text P
    → is_filter text ≡ true
    → scope_of policy.clients id ≡ scope → P (coverage policy id text)
by_scope policy id text P None answers is same = rw same (answers.unlisted (ap is_some same))
by_scope policy id text P (Some pairs) answers is same =
    by_cover policy id text P pairs (cover_of text (subscribed pairs)) answers is same (rw same refl)

-- what it says to a client's subscription by the filter
abbrev Says : Policy → List ℕ → List ℕ → Outcome → Type 0
Says policy id text outcome = MaySubscribe policy (who.Client id) (Some text) outcome

pub covers : (policy : Policy) (id text : List ℕ) → is_filter text ≡ true
    → Says policy id text (coverage policy id text)
covers policy id text is =
    by_scope policy id text (Says policy id text) (scope_of policy.clients id)
    (record {
      included = λ included. included;
      unlisted = λ none. (refl, none);
      uncovered = λ gap shown. (refl, shown);
    }) is refl

-- and how one ends that it does not allow any more
abbrev pub Ends : Policy → List ℕ → List ℕ → Outcome → Type 0
Ends policy id text Allowed = Unit {0}
Ends policy id text (Denied rule) = MayEnd policy id text (Denied rule)

pub ends : (policy : Policy) (id text : List ℕ) → is_filter text ≡ true
    → Ends policy id text (coverage policy id text)
ends policy id text is =
    by_scope policy id text (Ends policy id text) (scope_of policy.clients id)
    (record {
      included = λ included. tt;
      unlisted = λ none. (refl, none);
      uncovered = λ gap shown. (refl, shown);
    }) is refl

-- ---- the connection and room behind it

room_kept : (policy : Policy) (id text : List ℕ) (up ids full fits : Bool) → IsIncluded policy id text
    → Says policy id text
    (if up then
    (if ids then Denied (Room (Full place.Ids)) else
    (if full then Denied (Room (Full place.Subscriptions))
    else (if fits then Allowed else Denied (Room (Full place.Outbox)))))
    else Denied (Room UpstreamDown))
room_kept policy id text false ids full fits included = included
room_kept policy id text true true full fits included = included
room_kept policy id text true false true fits included = included
room_kept policy id text true false false true included = included
room_kept policy id text true false false false included = included

pub covers_first : (policy : Policy) (id text : List ℕ) (verdict : Outcome) (up ids full fits : Bool)
    → Says policy id text verdict
    → Says policy id text
    (and_then verdict
    (if up then
    (if ids then Denied (Room (Full place.Ids)) else
    (if full then Denied (Room (Full place.Subscriptions))
    else (if fits then Allowed else Denied (Room (Full place.Outbox)))))
    else Denied (Room UpstreamDown)))
covers_first policy id text Allowed up ids full fits says = room_kept policy id text up ids full fits says
covers_first policy id text (Denied rule) up ids full fits says = says
