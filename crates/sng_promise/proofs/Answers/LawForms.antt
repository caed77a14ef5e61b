-- What the policy says to a filter, and which filter a message names, as the law's tables say.
use Rattle.std.proofs.Common.{◌≡◌, ℕ, Bool, true, false, List, [], ◌∷◌, ◌++◌, refl, sym, ◌∙◌, subst}
use Rattle.std.proofs.Common.{if◌then◌else◌, Ok, Err}
use Rattle.std.specs.Prelude.{Option, Some, None, is_some}
use Rattle.std.specs.declared.result.Result.{Result}
use Rattle.sng_text.specs.Texts.{is_name, is_filter}
use Rattle.sng_grants.specs.Scopes.{subscribed}
use Rattle.sng_grants.specs.Sources.{scope_of}
use Rattle.sng_grants.specs.declared.scope.Pair.{Pair}
use Rattle.sng_grants.specs.declared.policy.Policy.{Policy}
use Rattle.sng_cover.specs.Covering.{cover_of}
use Rattle.sng_cover.specs.declared.answer.Cover.{Cover}
use Rattle.sng_cover.specs.declared.answer.Cover.TheVariants as cover
use Rattle.sng_policy.specs.Grants.{lists, topic, grant_of_cover}
use Rattle.sng_frames.specs.declared.flags.TopicIdType.{TopicIdType}
use Rattle.sng_frames.specs.declared.flags.TopicIdType.TheVariants.{Normal, Predefined, Short, Reserved}
use Rattle.sng_frames.specs.declared.messages.subscribe.TopicRequest.{TopicRequest}
use Rattle.sng_book.specs.declared.outcome.IdKind.TheVariants as kind
use Rattle.sng_book.specs.declared.outcome.Denial.{Denial}
use Rattle.sng_book.specs.declared.outcome.Denial.TheVariants.{Form, Grant}
use Rattle.sng_book.specs.declared.outcome.FormDenial.TheVariants.{BadName, BadFilter, IdType, UnknownId}
use Rattle.sng_book.specs.declared.outcome.GrantDenial.TheVariants.{Uncovered}
use Rattle.sng_book.specs.declared.outcome.Outcome.{Outcome}
use Rattle.sng_book.specs.declared.outcome.Outcome.TheVariants.{Allowed, Denied}
use Rattle.sng_history.specs.Requests.{id_in}
use Rattle.sng_history.specs.Verdicts.{and_then, coverage, filter_outcome, filter_in}
use Rattle.sng_laws.specs.ViewsFlight.{number_in}
use Rattle.sng_laws.specs.LawsRules.{Rule, judged}
use Rattle.sng_laws.specs.LawsAnswers.{or_empty}
use Rattle.sng_laws.specs.LawsAsks as asks
use Rattle.sng_laws.specs.LawsSubscriptions.{is_bad_filter, is_bad_name, is_unnamed, filter_meant}
use Rattle.sng_laws.specs.LawsSubscriptions.{if_filter, form_rules, gap_in, gap_rule, cover_rules}

-- ---- what the policy says to a filter

covered_by : (id text : List ℕ) (answer : Cover)
    → let gap = gap_in (grant_of_cover answer) in
    filter_outcome id text (grant_of_cover answer)
    ≡ judged ((is_some gap, Grant (Uncovered text (or_empty gap))) ∷ [])
covered_by id text cover.Included = refl
covered_by id text (cover.Uncovered gap) = refl

scope_judged : (policy : Policy) (id text : List ℕ) (scope : Option (List Pair))
    → scope_of policy.clients id ≡ scope
    → coverage policy id text ≡ judged (cover_rules policy id text)
scope_judged policy id text None is = rw is refl
scope_judged policy id text (Some pairs) is = rw is (covered_by id text (cover_of text (subscribed pairs)))

pub cover_judged : (policy : Policy) (id text : List ℕ)
    → coverage policy id text ≡ judged (cover_rules policy id text)
cover_judged policy id text = scope_judged policy id text (scope_of policy.clients id) refl

pub gap_judged : (policy : Policy) (id text : List ℕ) → lists policy id ≡ true
    → coverage policy id text ≡ judged (gap_rule policy id text ∷ [])
gap_judged policy id text listed = cover_judged policy id text ∙ rw listed refl

-- ---- what a message names

abbrev pub read_as : Result (List ℕ) Denial → Option (List ℕ)
read_as (Ok text) = Some text
read_as (Err rule) = None

abbrev pub verdict_as : Result (List ℕ) Denial → Outcome
verdict_as (Ok text) = Allowed
verdict_as (Err rule) = Denied rule

-- the type of the topic id alone
pub record Read (policy : Policy) (type : TopicIdType) (octets : List ℕ) (rules : List Rule) : Type 0 where
  pub meant : read_as (filter_in policy type octets) ≡ filter_meant policy type octets
  pub ruled : verdict_as (filter_in policy type octets) ≡ judged rules

pub number_same : (octets : List ℕ) → id_in octets ≡ number_in octets
number_same [] = refl
number_same (high ∷ []) = refl
number_same (high ∷ low ∷ octets) = refl

abbrev rules_of : Policy → TopicIdType → List ℕ → List Rule
rules_of policy type octets =
    (asks.is_reserved type, Form IdType)
    ∷ (is_bad_filter policy type octets, Form BadFilter)
    ∷ (is_bad_name type octets, Form BadName)
    ∷ (is_unnamed policy type octets, Form (UnknownId kind.Predefined (number_in octets)))
    ∷ []

normal_read : (policy : Policy) (octets : List ℕ) (b : Bool) → is_filter octets ≡ b
    → Read policy Normal octets (rules_of policy Normal octets)
normal_read policy octets true is = record { meant = rw is refl; ruled = rw is refl }
normal_read policy octets false is = record { meant = rw is refl; ruled = rw is refl }

short_read : (policy : Policy) (octets : List ℕ) (b f : Bool) → is_name octets ≡ b → is_filter octets ≡ f
    → Read policy Short octets (rules_of policy Short octets)
short_read policy octets true true is fits = record { meant = rw (is, fits) refl; ruled = rw (is, fits) refl }
short_read policy octets true false is fits =
    record { meant = rw (is, fits) refl; ruled = rw (is, fits) refl }
short_read policy octets false f is fits = record { meant = rw is refl; ruled = rw is refl }

named_read : (policy : Policy) (octets name : List ℕ) (b : Bool) → topic policy (number_in octets) ≡ Some name
    → is_filter name ≡ b
    → Read policy Predefined octets (rules_of policy Predefined octets)
named_read policy octets name true named is =
    record {
      meant = rw (number_same octets, named, is) refl;
      ruled = rw (number_same octets, named, is) refl;
    }
named_read policy octets name false named is =
    record {
      meant = rw (number_same octets, named, is) refl;
      ruled = rw (number_same octets, named, is) refl;
    }

predefined_read : (policy : Policy) (octets : List ℕ) (name : Option (List ℕ))
    → topic policy (number_in octets) ≡ name
    → Read policy Predefined octets (rules_of policy Predefined octets)
predefined_read policy octets None named =
    record { meant = rw (number_same octets, named) refl; ruled = rw (number_same octets, named) refl }
predefined_read policy octets (Some name) named = named_read policy octets name (is_filter name) named refl

pub read : (policy : Policy) (type : TopicIdType) (octets : List ℕ)
    → Read policy type octets (rules_of policy type octets)
read policy Normal octets = normal_read policy octets (is_filter octets) refl
read policy Predefined octets = predefined_read policy octets (topic policy (number_in octets)) refl
read policy Short octets = short_read policy octets (is_name octets) (is_filter octets) refl refl
read policy Reserved octets = record { meant = refl; ruled = refl }

-- what it names is a filter
fit_filter : (octets text : List ℕ) (b : Bool) → is_filter octets ≡ b → if_filter (Some octets) ≡ Some text
    → is_filter text ≡ true
fit_filter octets text true is meant =
    let e : Some octets ≡ Some text = rw is at meant in
    let same : octets ≡ text = cc in subst (λ t. is_filter t ≡ true) same is
fit_filter octets text false is meant = let e = rw is at meant in absurd cc

named_filter : (name : Option (List ℕ)) (text : List ℕ) → if_filter name ≡ Some text → is_filter text ≡ true
named_filter None text meant = absurd (let e = meant in cc)
named_filter (Some name) text meant = fit_filter name text (is_filter name) refl meant

short_filter : (octets text : List ℕ) (b : Bool) → is_name octets ≡ b
    → (let o : Option (List ℕ) = if b then if_filter (Some octets) else None in o) ≡ Some text
    → is_filter text ≡ true
short_filter octets text true is meant = named_filter (Some octets) text meant
short_filter octets text false is meant = absurd (let e = meant in cc)

pub meant_filter : (policy : Policy) (type : TopicIdType) (octets text : List ℕ)
    → filter_meant policy type octets ≡ Some text
    → is_filter text ≡ true
meant_filter policy Normal octets text meant = named_filter (Some octets) text meant
meant_filter policy Predefined octets text meant = named_filter (topic policy (number_in octets)) text meant
meant_filter policy Short octets text meant = short_filter octets text (is_name octets) refl meant
meant_filter policy Reserved octets text meant = absurd (let e = meant in cc)

-- one that is well formed names a filter
pub form_meant : (policy : Policy) (r : TopicRequest) → judged (form_rules policy r) ≡ Allowed
    → (text : List ℕ) × (filter_meant policy r.flags.id_type r.topic ≡ Some text)
form_meant policy r is =
    by_read (filter_in policy r.flags.id_type r.topic) (read policy r.flags.id_type r.topic).meant
    ((read policy r.flags.id_type r.topic).ruled ∙ is)
  where
    by_read : (named : Result (List ℕ) Denial) → read_as named ≡ filter_meant policy r.flags.id_type r.topic
        → verdict_as named ≡ Allowed
        → (text : List ℕ) × (filter_meant policy r.flags.id_type r.topic ≡ Some text)
    by_read (Ok text) meant ruled = (text, sym meant)
    by_read (Err rule) meant ruled = absurd (let e = ruled in cc)

-- and one that names a filter is well formed
pub meant_form : (policy : Policy) (r : TopicRequest) (text : List ℕ)
    → filter_meant policy r.flags.id_type r.topic ≡ Some text
    → judged (form_rules policy r) ≡ Allowed
meant_form policy r text is =
    by_read (filter_in policy r.flags.id_type r.topic) ((read policy r.flags.id_type r.topic).meant ∙ is)
    (read policy r.flags.id_type r.topic).ruled
  where
    by_read : (named : Result (List ℕ) Denial) → read_as named ≡ Some text
        → verdict_as named ≡ judged (form_rules policy r)
        → judged (form_rules policy r) ≡ Allowed
    by_read (Ok one) meant ruled = sym ruled
    by_read (Err rule) meant ruled = absurd (let e = meant in cc)

-- the first that forbids
pub judged_both : (xs ys : List Rule) → judged (xs ++ ys) ≡ and_then (judged xs) (judged ys)
judged_both [] ys = refl
judged_both (x ∷ xs) ys = by_first x.0 x.1 (judged_both xs ys)
  where
    by_first : (b : Bool) (rule : Denial) → judged (xs ++ ys) ≡ and_then (judged xs) (judged ys)
        → (if b then Denied rule else judged (xs ++ ys))
        ≡ and_then (if b then Denied rule else judged xs) (judged ys)
    by_first true rule rest = refl
    by_first false rule rest = rest
