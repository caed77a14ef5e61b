-- What is written of a policy is shallow and has no float.
use Rattle.std.proofs.Common.{◌≡◌, ℕ, ◌≤◌, max, Bool, true, false, ◌||◌, List, [], ◌∷◌, Ordering, Less, Equal}
use Rattle.std.proofs.Common.{Greater, nat_cmp, refl, arith, Option, Some, None, codes, if◌then◌else◌}
use Rattle.std.specs.Cmp.Lexicographic.{slice_cmp}
use Rattle.std.specs.Fmt.{decimal}
use Rattle.std.specs.Ordering.{match_ordering}
use Rattle.serde_json.specs.Data.{Data, string, object, Members, no_members, member, put, depth, items_depth}
use Rattle.serde_json.specs.Data.{members_depth}
use Rattle.serde_json.specs.Read.{max_depth}
use Rattle.serde_json.specs.Written.{has_float, members_have_float}
use Rattle.sng_grants.specs.Limits.{are_default}
use Rattle.sng_grants.specs.Policies.{Policy}
use Rattle.sng_grants.specs.declared.grant.Grant.{Grant}
use Rattle.sng_grants.specs.declared.scope.Pair.{Pair}
use Rattle.sng_scope.specs.Written.{pair_data, pairs_data, scope_data, scope_until, grant_data, with_members}
use Rattle.sng_scope.specs.Written.{dotted, clients_data, limits_data, later_members, policy_data}

-- ---- depth

most : (a b n : ℕ) → a ≤ n → b ≤ n → max a b ≤ n
most a b n first second = omega arith

left_most : (a b n : ℕ) → max a b ≤ n → a ≤ n
left_most a b n is = omega arith

right_most : (a b n : ℕ) → max a b ≤ n → b ≤ n
right_most a b n is = omega arith

put-depth_at : (o : Ordering) (n l : List ℕ) (d e : Data) (ms later : Members) (b : ℕ) → depth d ≤ b
    → members_depth (member l e ms) ≤ b → members_depth later ≤ b
    → members_depth (match_ordering o (member n d (member l e ms)) (member l d ms) (member l e later)) ≤ b
put-depth_at Less n l d e ms later b new old more = most _ _ b new old
put-depth_at Equal n l d e ms later b new old more = most _ _ b new (right_most (depth e) _ b old)
put-depth_at Greater n l d e ms later b new old more =
    most _ _ b (left_most _ (members_depth ms) b old) more

put-depth : (n : List ℕ) (d : Data) (ms : Members) (b : ℕ) → depth d ≤ b → members_depth ms ≤ b
    → members_depth (put n d ms) ≤ b
put-depth n d no_members b new old = most _ _ b new old
put-depth n d (member l e ms) b new old =
    put-depth_at (slice_cmp nat_cmp n l) n l d e ms (put n d ms) b new old
    (put-depth n d ms b new (right_most (depth e) _ b old))

with-depth : {K V : Type 0} (name : K → List ℕ) (value : V → Data) (b : ℕ)
    → ((v : V) → depth (value v) ≤ b) → (es : List (K × V)) (ms : Members) → members_depth ms ≤ b
    → members_depth (with_members name value ms es) ≤ b
with-depth name value b values [] ms old = old
with-depth name value b values (e ∷ es) ms old =
    with-depth name value b values es (put (name e.0) (value e.1) ms)
    (put-depth (name e.0) (value e.1) ms b (values e.1) old)

permitted-depth : (filter : List ℕ) (publishes subscribes : Bool)
    → depth (pair_data (record { filter = filter; publishes = publishes; subscribes = subscribes })) ≤ 2
permitted-depth filter true true = omega arith
permitted-depth filter true false = omega arith
permitted-depth filter false true = omega arith
permitted-depth filter false false = omega arith

pairs-depth : (pairs : List Pair) → items_depth (pairs_data pairs) ≤ 2
pairs-depth [] = omega arith
pairs-depth (pair ∷ pairs) =
    most _ _ 2 (permitted-depth pair.filter pair.publishes pair.subscribes) (pairs-depth pairs)

scope-depth : (pairs : List Pair) → depth (scope_data pairs) ≤ 3
scope-depth pairs = let few = pairs-depth pairs in omega arith

until-depth : (pairs : List Pair) (until : Option ℕ) → depth (scope_until pairs until) ≤ 4
until-depth pairs None = let few = scope-depth pairs in omega arith
until-depth pairs (Some end) = let few = scope-depth pairs in omega arith

grant-depth : (grant : Grant) → depth (grant_data grant) ≤ 4
grant-depth grant = until-depth grant.scope grant.until

name-depth : (name : List ℕ) → depth (string name) ≤ 3
name-depth name = omega arith

-- with the limits and without
depth_by : (b : Bool) (policy : Policy) → members_depth (later_members policy) ≤ 5
    → depth (clients_data policy.clients) ≤ 5
    → depth (object (member (codes "clients") (clients_data policy.clients)
    (if b then later_members policy
    else member (codes "limits") (limits_data policy.limits) (later_members policy)))) ≤ max_depth
depth_by true policy later clients = omega arith
depth_by false policy later clients = omega arith

pub policy-depth : (policy : Policy) → depth (policy_data policy) ≤ max_depth
policy-depth policy =
    let clients = with-depth (λ (client : List ℕ). client) grant_data 4 grant-depth policy.clients no_members
    (omega arith) in
    let sources = with-depth dotted grant_data 4 grant-depth policy.sources no_members (omega arith) in
    let topics = with-depth decimal string 3 name-depth policy.topics no_members (omega arith) in
    depth_by (are_default policy.limits) policy (omega arith) (omega arith)

-- ---- floats

neither : (a b : Bool) → a ≡ false → b ≡ false → (a || b) ≡ false
neither true b first second = first
neither false b first second = second

first_not : (a b : Bool) → (a || b) ≡ false → a ≡ false
first_not true b is = is
first_not false b is = refl

second_not : (a b : Bool) → (a || b) ≡ false → b ≡ false
second_not true b is = absurd (cc)
second_not false b is = is

put-float_at : (o : Ordering) (n l : List ℕ) (d e : Data) (ms later : Members) → has_float d ≡ false
    → members_have_float (member l e ms) ≡ false → members_have_float later ≡ false
    → members_have_float (match_ordering o (member n d (member l e ms)) (member l d ms) (member l e later))
    ≡ false
put-float_at Less n l d e ms later new old more = neither _ _ new old
put-float_at Equal n l d e ms later new old more = neither _ _ new (second_not (has_float e) _ old)
put-float_at Greater n l d e ms later new old more =
    neither _ _ (first_not _ (members_have_float ms) old) more

put-float : (n : List ℕ) (d : Data) (ms : Members) → has_float d ≡ false → members_have_float ms ≡ false
    → members_have_float (put n d ms) ≡ false
put-float n d no_members new old = neither _ _ new old
put-float n d (member l e ms) new old =
    put-float_at (slice_cmp nat_cmp n l) n l d e ms (put n d ms) new old
    (put-float n d ms new (second_not (has_float e) _ old))

with-float : {K V : Type 0} (name : K → List ℕ) (value : V → Data)
    → ((v : V) → has_float (value v) ≡ false) → (es : List (K × V)) (ms : Members)
    → members_have_float ms ≡ false → members_have_float (with_members name value ms es) ≡ false
with-float name value values [] ms old = old
with-float name value values (e ∷ es) ms old =
    with-float name value values es (put (name e.0) (value e.1) ms)
    (put-float (name e.0) (value e.1) ms (values e.1) old)

permitted-float : (filter : List ℕ) (publishes subscribes : Bool)
    → has_float (pair_data (record { filter = filter; publishes = publishes; subscribes = subscribes }))
    ≡ false
permitted-float filter true true = refl
permitted-float filter true false = refl
permitted-float filter false true = refl
permitted-float filter false false = refl

scope-float : (pairs : List Pair) → has_float (scope_data pairs) ≡ false
scope-float [] = refl
scope-float (pair ∷ pairs) =
    neither _ _ (permitted-float pair.filter pair.publishes pair.subscribes) (scope-float pairs)

until-float : (pairs : List Pair) (until : Option ℕ) → has_float (scope_until pairs until) ≡ false
until-float pairs None = scope-float pairs
until-float pairs (Some end) = neither _ _ refl (neither _ _ (scope-float pairs) refl)

grant-float : (grant : Grant) → has_float (grant_data grant) ≡ false
grant-float grant = until-float grant.scope grant.until

-- with the limits and without
float_by : (b : Bool) (policy : Policy) → members_have_float (later_members policy) ≡ false
    → members_have_float (if b then later_members policy
    else member (codes "limits") (limits_data policy.limits) (later_members policy)) ≡ false
float_by true policy later = later
float_by false policy later = neither _ _ refl later

pub policy-float : (policy : Policy) → has_float (policy_data policy) ≡ false
policy-float policy =
    neither _ _
    (with-float (λ (client : List ℕ). client) grant_data grant-float policy.clients no_members refl)
    (float_by (are_default policy.limits) policy
    (neither _ _ (with-float dotted grant_data grant-float policy.sources no_members refl)
    (neither _ _ (with-float decimal string (λ name. refl) policy.topics no_members refl) refl)))
