-- Two policies that say the same to a client judge all that is its alike.
use Rattle.std.proofs.Common.{◌≡◌, ℕ, Bool, true, false, List, [], ◌∷◌, refl, ap, sym, ◌∙◌, cond}
use Rattle.std.specs.Prelude.{is_some, Option, Some, option_map}
use Rattle.std.specs.List.{filter}
use Rattle.std.specs.Map.{lookup}
use Rattle.std.specs.BTreeMap.{is_at}
use Rattle.std.specs.Cmp.Lexicographic.{slice_cmp}
use Rattle.std.specs.Ordering.{nat_cmp}
use Rattle.sng_grants.specs.Sources.{grant_of, scope_of}
use Rattle.sng_grants.specs.declared.grant.Grant.{Grant}
use Rattle.sng_grants.specs.declared.policy.Policy.{Policy}
use Rattle.sng_policy.specs.Grants.{grant_by, subscribe_by}
use Rattle.sng_policy.specs.declared.permission.Permission.TheVariants as permission
use Rattle.sng_ids.specs.Ids.{Ids}
use Rattle.sng_frames.specs.declared.flags.TopicIdType.{TopicIdType}
use Rattle.sng_outbox.specs.declared.origin.Origin.TheVariants as origin
use Rattle.sng_book.specs.declared.outcome.Denial.TheVariants.{Grant as ByGrant}
use Rattle.sng_book.specs.declared.outcome.GrantDenial.TheVariants.{NoScope}
use Rattle.sng_book.specs.declared.outcome.Outcome.{Outcome}
use Rattle.sng_book.specs.declared.outcome.Outcome.TheVariants.{Allowed, Denied}
use Rattle.sng_history.specs.Handing.{known_as}
use Rattle.sng_history.specs.Outgoing.{receive}
use Rattle.sng_history.specs.Verdicts.{exit, name_outcome, filter_outcome, client_scope, coverage, name_in}
use Rattle.sng_history.specs.Verdicts.{filter_in}
use Rattle.sng_isolation.specs.View.{part_of}
use Rattle.sng_grants.specs.Policies.{no_policy}

-- the client has the same scope under both, and the predefined topic ids have the same names
pub record SaysSame (id : List ℕ) (p q : Policy) : Type 0 where
  pub scope : scope_of p.clients id ≡ scope_of q.clients id
  pub topics : p.topics ≡ q.topics

-- a look-up finds the same among those that it would find
found : (test : List ℕ → Bool) (listed : List (List ℕ × Grant))
    → lookup test (filter (λ entry. test entry.0) listed) ≡ lookup test listed
found test [] = refl
found test (entry ∷ listed) = by_first (test entry.0) refl (found test listed)
  where
    by_first : (b : Bool) → test entry.0 ≡ b
        → lookup test (filter (λ e. test e.0) listed) ≡ lookup test listed
        → lookup test (cond b (entry ∷ filter (λ e. test e.0) listed) (filter (λ e. test e.0) listed))
        ≡ cond b (Some entry.1) (lookup test listed)
    by_first true is rest = rw is refl
    by_first false is rest = rest

pub grant_found : (id : List ℕ) (p : Policy) → grant_of (part_of id p).clients id ≡ grant_of p.clients id
grant_found id p = found (is_at (slice_cmp nat_cmp id)) p.clients

pub scope_found : (id : List ℕ) (p : Policy) → scope_of (part_of id p).clients id ≡ scope_of p.clients id
scope_found id p = ap (λ grant. option_map (λ g. g.scope) grant) (grant_found id p)

pub says_same : (id : List ℕ) (p q : Policy) → part_of id p ≡ part_of id q → SaysSame id p q
says_same id p q same = record {
  scope = sym (scope_found id p) ∙ (ap (λ r. scope_of r.clients id) same ∙ scope_found id q);
  topics = ap (λ r. r.topics) same;
}

pub same_back : (id : List ℕ) (p q : Policy) → SaysSame id p q → SaysSame id q p
same_back id p q same = record { scope = sym same.scope; topics = sym same.topics }

-- ---- by its scope

pub exit_same : (id name : List ℕ) (p q : Policy) → SaysSame id p q
    → exit p (origin.Client id) name ≡ exit q (origin.Client id) name
exit_same id name p q same =
    ap (λ scope. name_outcome permission.Publish (Some id) name (grant_by permission.Publish scope name))
    same.scope

pub receive_same : (id name : List ℕ) (p q : Policy) → SaysSame id p q → receive p id name ≡ receive q id name
receive_same id name p q same =
    ap (λ scope. name_outcome permission.Subscribe (Some id) name (grant_by permission.Subscribe scope name))
    same.scope

pub coverage_same : (id filter : List ℕ) (p q : Policy) → SaysSame id p q
    → coverage p id filter ≡ coverage q id filter
coverage_same id filter p q same =
    ap (λ scope. filter_outcome id filter (subscribe_by scope filter)) same.scope

pub client_scope_same : (id : List ℕ) (p q : Policy) → SaysSame id p q → client_scope p id ≡ client_scope q id
client_scope_same id p q same =
    ap (λ scope. let o : Outcome = cond (is_some scope) Allowed (Denied (ByGrant (NoScope id))) in o) same.scope

-- ---- by the predefined topic ids

-- a policy of topics alone
abbrev only : List (ℕ × List ℕ) → Policy
only topics = record no_policy { topics = topics }

pub known_same : (id : List ℕ) (ids : Ids) (name : List ℕ) (p q : Policy) → SaysSame id p q
    → known_as p ids name ≡ known_as q ids name
known_same id ids name p q same = ap (λ topics. known_as (only topics) ids name) same.topics

by_type : (ids : Option Ids) (type : TopicIdType) (n : ℕ) (p : Policy)
    → name_in p ids type n ≡ name_in (only p.topics) ids type n
by_type ids type n p = refl

pub name_in_same : (id : List ℕ) (ids : Option Ids) (type : TopicIdType) (n : ℕ) (p q : Policy)
    → SaysSame id p q → name_in p ids type n ≡ name_in q ids type n
name_in_same id ids type n p q same =
    by_type ids type n p
    ∙ (ap (λ topics. name_in (only topics) ids type n) same.topics ∙ sym (by_type ids type n q))

filter_by_type : (type : TopicIdType) (text : List ℕ) (p : Policy)
    → filter_in p type text ≡ filter_in (only p.topics) type text
filter_by_type type text p = refl

pub filter_in_same : (id : List ℕ) (type : TopicIdType) (text : List ℕ) (p q : Policy) → SaysSame id p q
    → filter_in p type text ≡ filter_in q type text
filter_in_same id type text p q same =
    filter_by_type type text p
    ∙ (ap (λ topics. filter_in (only topics) type text) same.topics ∙ sym (filter_by_type type text q))
