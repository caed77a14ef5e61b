-- No text of a policy is of a lesser version than what is written of it.
use Rattle.std.proofs.Common.{◌≡◌, ℕ, ◌==◌, ◌≤◌, Bool, true, false, ◌||◌, List, [], ◌∷◌, Option, None, Some}
use Rattle.std.proofs.Common.{Result, Ok, Err, IfOk, All, Ordering, Less, Equal, Greater, codes, is_some, nat_cmp}
use Rattle.std.proofs.Common.{if◌then◌else◌, refl, sym, ap, subst, ◌∙◌, arith, ok_or, option_map, unwrap_or}
use Rattle.std.proofs.lemmas.Bool.{and_parts, eqb-true}
use Rattle.std.proofs.lemmas.List.Elements.{All-nil, All-head, All-tail}
use Rattle.std.proofs.lemmas.Map.Text.{is_eq-slice_cmp}
use Rattle.std.proofs.lemmas.Map.Views.{All-values-insert_entry}
use Rattle.std.proofs.lemmas.Slice.Eq.{bytes_eq-Decides}
use Rattle.std.specs.Cmp.Lexicographic.{slice_cmp}
use Rattle.std.specs.Map.{values_of}
use Rattle.std.specs.Ordering.{is_eq, match_ordering}
use Rattle.std.specs.Str.{bytes_eq}
use Rattle.serde_json.specs.Data.{Data, null, boolean, number, string, array, object, Members, no_members, member}
use Rattle.serde_json.specs.Find.{as_object, get, get_member}
use Rattle.sng_text.specs.Ipv4.{ipv4_of}
use Rattle.sng_grants.specs.Ends.{next_end}
use Rattle.sng_grants.specs.Limits.{Limits, are_default, default_limits}
use Rattle.sng_grants.specs.Policies.{Policy}
use Rattle.sng_grants.specs.Sources.{endless, first_end, sooner, with_grant}
use Rattle.sng_grants.specs.declared.grant.Grant.{Grant}
use Rattle.sng_scope.specs.Grants.{lasting_grant_of}
use Rattle.sng_scope.specs.Laws.{VersionsAreLeast}
use Rattle.sng_scope.specs.Policies.{is_known, are_known, is_version, may_end, may_limit, is_policy_object}
use Rattle.sng_scope.specs.Policies.{client_of, clients_onto, sources_onto, members_within, clients_of, sources_of}
use Rattle.sng_scope.specs.Policies.{topics_of, parts_of, parts_within, version_of}
use Rattle.sng_scope.specs.PolicyLimits.{limits_of}
use Rattle.sng_scope.specs.Steps.{◌>>=◌}
use Rattle.sng_scope.specs.Texts.{scope_of_data}
use Rattle.sng_scope.specs.Written.{version_for}
use Rattle.sng_scope.specs.declared.fault.PolicyFault.{PolicyFault}
use Rattle.sng_scope.specs.declared.fault.PolicyFault.TheVariants.{Shape, BadSource}
use Rattle.sng_scope.proofs.BoundLemmas.{after, after_any}

-- ---- a policy of version 1 or 2 has no member `limits`

named : (name text : List ℕ) → bytes_eq name text ≡ true → bytes_eq (codes "limits") text ≡ false
    → bytes_eq (codes "limits") name ≡ false
named name text is other =
    subst (λ n. bytes_eq (codes "limits") n ≡ false) (sym ((bytes_eq-Decides name text).0 is)) other

known_by : (name : List ℕ) (a b c d : Bool) → bytes_eq name (codes "version") ≡ a
    → bytes_eq name (codes "clients") ≡ b → bytes_eq name (codes "sources") ≡ c
    → bytes_eq name (codes "topics") ≡ d → (a || b || c || d || false) ≡ true
    → bytes_eq (codes "limits") name ≡ false
known_by name true b c d e f g h is = named name (codes "version") e refl
known_by name false true c d e f g h is = named name (codes "clients") f refl
known_by name false false true d e f g h is = named name (codes "sources") g refl
known_by name false false false true e f g h is = named name (codes "topics") h refl
known_by name false false false false e f g h is = absurd (cc)

passed : (o : Ordering) (later : Option Data) (d : Data) → is_eq o ≡ false
    → match_ordering o later (Some d) later ≡ later
passed Less later d is = refl
passed Equal later d is = absurd (cc)
passed Greater later d is = refl

no_limits : (ms : Members) → are_known false ms ≡ true → get_member (codes "limits") ms ≡ None
no_limits no_members is = refl
no_limits (member name d ms) is =
    let parts = and_parts (is_known false name) (are_known false ms) is in
    passed (slice_cmp nat_cmp (codes "limits") name) (get_member (codes "limits") ms) d
    (is_eq-slice_cmp (codes "limits") name
    ∙ known_by name (bytes_eq name (codes "version")) (bytes_eq name (codes "clients"))
    (bytes_eq name (codes "sources")) (bytes_eq name (codes "topics")) refl refl refl refl parts.0)
    ∙ no_limits ms parts.1

abbrev knows : Bool → Data → Bool
knows limited d = unwrap_or (option_map (are_known limited) (as_object d)) false

none_set : (d : Data) → knows false d ≡ true → get (codes "limits") d ≡ None
none_set null is = absurd (cc)
none_set (boolean b) is = absurd (cc)
none_set (number n) is = absurd (cc)
none_set (string s) is = absurd (cc)
none_set (array ds) is = absurd (cc)
none_set (object ms) is = no_limits ms is

-- ---- and one of version 1 no end

abbrev NoEnd : Grant → Type 0
NoEnd grant = grant.until ≡ None

abbrev NoEnds : List (List ℕ × Grant) → Type 0
NoEnds listed = All NoEnd (values_of listed)

lasting : (d : Data) → IfOk (lasting_grant_of d) NoEnd
lasting d = after_any (scope_of_data d) (λ pairs. Ok (endless pairs)) NoEnd (λ pairs. refl)

clients_onto-lasting : (ms : Members) (clients : List (List ℕ × Grant)) → NoEnds clients
    → IfOk (clients_onto false clients ms) NoEnds
clients_onto-lasting no_members clients before = before
clients_onto-lasting (member name d ms) clients before =
    after_any (client_of name) _ NoEnds (λ client.
    after (lasting_grant_of d) _ NoEnd NoEnds (lasting d) (λ grant none.
    clients_onto-lasting ms (with_grant clients client grant)
    (All-values-insert_entry (slice_cmp nat_cmp) client grant NoEnd clients before none)))

sources_onto-lasting : (ms : Members) (sources : List (List ℕ × Grant)) → NoEnds sources
    → IfOk (sources_onto false sources ms) NoEnds
sources_onto-lasting no_members sources before = before
sources_onto-lasting (member name d ms) sources before =
    after_any (ok_or (ipv4_of name) BadSource) _ NoEnds (λ source.
    after (lasting_grant_of d) _ NoEnd NoEnds (lasting d) (λ grant none.
    sources_onto-lasting ms (with_grant sources source grant)
    (All-values-insert_entry (slice_cmp nat_cmp) source grant NoEnd sources before none)))

clients-lasting : (most : ℕ) (o : Option Data) → IfOk (clients_of most false o) NoEnds
clients-lasting most None = All-nil NoEnd
clients-lasting most (Some d) =
    after_any (members_within most d) (clients_onto false []) NoEnds
    (λ ms. clients_onto-lasting ms [] (All-nil NoEnd))

sources-lasting : (most : ℕ) (o : Option Data) → IfOk (sources_of most false o) NoEnds
sources-lasting most None = All-nil NoEnd
sources-lasting most (Some d) =
    after_any (members_within most d) (sources_onto false []) NoEnds
    (λ ms. sources_onto-lasting ms [] (All-nil NoEnd))

first-none : (listed : List (List ℕ × Grant)) → NoEnds listed → first_end listed ≡ None
first-none [] none = refl
first-none (entry ∷ listed) none =
    ap (λ end. sooner end (first_end listed)) (All-head NoEnd entry.1 (values_of listed) none)
    ∙ first-none listed (All-tail NoEnd entry.1 (values_of listed) none)

abbrev Lasts : Policy → Type 0
Lasts policy = NoEnds policy.clients × NoEnds policy.sources

parts-last : (ends : Bool) (limits : Limits) (d : Data) → may_end d ≡ ends → ends ≡ false
    → IfOk (parts_within limits d) Lasts
parts-last true limits d is not = absurd (cc)
parts-last false limits d is not =
    after (clients_of limits.clients (may_end d) (get (codes "clients") d)) _ NoEnds Lasts
    (subst (λ ends. IfOk (clients_of limits.clients ends (get (codes "clients") d)) NoEnds) (sym is)
    (clients-lasting limits.clients (get (codes "clients") d))) (λ clients c.
    after (sources_of limits.sources (may_end d) (get (codes "sources") d)) _ NoEnds Lasts
    (subst (λ ends. IfOk (sources_of limits.sources ends (get (codes "sources") d)) NoEnds) (sym is)
    (sources-lasting limits.sources (get (codes "sources") d))) (λ sources s.
    after_any (topics_of limits.topics (get (codes "topics") d)) _ Lasts (λ topics. (c, s))))

limits-kept : (limits : Limits) (d : Data) → IfOk (parts_within limits d) (λ policy. policy.limits ≡ limits)
limits-kept limits d =
    after_any (clients_of limits.clients (may_end d) (get (codes "clients") d)) _ _ (λ clients.
    after_any (sources_of limits.sources (may_end d) (get (codes "sources") d)) _ _ (λ sources.
    after_any (topics_of limits.topics (get (codes "topics") d)) _ _ (λ topics. refl)))

-- ---- the version

shaped : (b : Bool) (r : Result Policy PolicyFault) (policy : Policy)
    → (if b then r else Err Shape) ≡ Ok policy → (b ≡ true) × (r ≡ Ok policy)
shaped true r policy is = (refl, is)
shaped false r policy is = absurd (cc)

abbrev version_by : Bool → Bool → ℕ
version_by default ends = if default then (if ends then 2 else 1) else 4

at_most_four : (default ends : Bool) → version_by default ends ≤ 4
at_most_four true true = omega arith
at_most_four true false = omega arith
at_most_four false ends = omega arith

at_most_two : (default ends : Bool) → default ≡ true → version_by default ends ≤ 2
at_most_two true true is = omega arith
at_most_two true false is = omega arith
at_most_two false ends is = absurd (cc)

is_one : (default ends : Bool) → default ≡ true → ends ≡ false → version_by default ends ≤ 1
is_one true true is not = absurd (cc)
is_one true false is not = omega arith
is_one false ends is not = absurd (cc)

-- what holds of each policy that is read holds of this one
of_read : (r : Result Policy PolicyFault) (policy : Policy) (P : Policy → Type 0) → r ≡ Ok policy → IfOk r P
    → P policy
of_read r policy P is holds = subst (λ (s : Result Policy PolicyFault). IfOk s P) is holds

-- a policy whose text may set no limits has the default ones
unlimited : (d : Data) (policy : Policy) → may_limit d ≡ false → knows (may_limit d) d ≡ true
    → parts_of d ≡ Ok policy → parts_within default_limits d ≡ Ok policy
unlimited d policy not knows_all gives =
    let none = none_set d (subst (λ b. knows b d ≡ true) not knows_all) in
    sym (ap (λ o. limits_of o >>= (λ limits. parts_within limits d)) none) ∙ gives

default_in : (d : Data) (policy : Policy) → parts_within default_limits d ≡ Ok policy
    → are_default policy.limits ≡ true
default_in d policy gives =
    ap are_default (of_read (parts_within default_limits d) policy (λ p. p.limits ≡ default_limits) gives
    (limits-kept default_limits d))

endless_in : (d : Data) (policy : Policy) → may_end d ≡ false → parts_within default_limits d ≡ Ok policy
    → is_some (next_end policy) ≡ false
endless_in d policy not gives =
    let lasts : Lasts policy = of_read (parts_within default_limits d) policy Lasts gives
    (parts-last false default_limits d not refl) in
    ap is_some (ap (λ end. sooner end (first_end policy.sources)) (first-none policy.clients lasts.0)
    ∙ first-none policy.sources lasts.1)

-- what a version lets a text say
abbrev ends_at : Option ℕ → Bool
ends_at version = unwrap_or (option_map (λ n. (n == 2) || (n == 4)) version) false

abbrev limits_at : Option ℕ → Bool
limits_at version = unwrap_or (option_map (λ n. n == 4) version) false

abbrev known_at : Option ℕ → Bool
known_at version = unwrap_or (option_map (λ n. (n == 1) || (n == 2) || (n == 4)) version) false

by_version : (one two four : Bool) (d : Data) (policy : Policy) (version : ℕ) → version_of d ≡ Some version
    → (version == 1) ≡ one → (version == 2) ≡ two → (version == 4) ≡ four → (one || two || four) ≡ true
    → knows (may_limit d) d ≡ true → parts_of d ≡ Ok policy → version_for policy ≤ version
by_version true two four d policy version said first second fourth is all gives =
    let at = said ∙ ap Some (eqb-true version 1 first) in
    let within = unlimited d policy (ap limits_at at) all gives in
    subst (λ n. version_for policy ≤ n) (sym (eqb-true version 1 first))
    (is_one (are_default policy.limits) (is_some (next_end policy)) (default_in d policy within)
    (endless_in d policy (ap ends_at at) within))
by_version false true four d policy version said first second fourth is all gives =
    let at = said ∙ ap Some (eqb-true version 2 second) in
    let within = unlimited d policy (ap limits_at at) all gives in
    subst (λ n. version_for policy ≤ n) (sym (eqb-true version 2 second))
    (at_most_two (are_default policy.limits) (is_some (next_end policy)) (default_in d policy within))
by_version false false true d policy version said first second fourth is all gives =
    subst (λ n. version_for policy ≤ n) (sym (eqb-true version 4 fourth))
    (at_most_four (are_default policy.limits) (is_some (next_end policy)))
by_version false false false d policy version said first second fourth is all gives = absurd (cc)

pub versions_are_least : VersionsAreLeast
versions_are_least policy d version gives said =
    let read = shaped (is_policy_object d) (parts_of d) policy gives in
    let object = and_parts (is_version d) (knows (may_limit d) d) read.0 in
    by_version (version == 1) (version == 2) (version == 4) d policy version said refl refl refl
    (sym (ap known_at said) ∙ object.0) object.1 read.1
