-- Each value that is tested stands at the place of its test.
use Rattle.std.proofs.Common.{◌≡◌, ℕ, suc, Bool, true, false, ◌+◌, inl, inr, List, [], ◌∷◌, ◌++◌, Option, Some, None}
use Rattle.std.proofs.Common.{option_and_then, Result, Ok, Err, All, codes, refl, ap, ◌∙◌, arith}
use Rattle.std.proofs.lemmas.List.Elements.{All-nil, All-cons, All-append}
use Rattle.serde_json.specs.Data.{Data, null, boolean, number, string, array, object, Items, no_items, item}
use Rattle.serde_json.specs.Data.{Members, no_members, member}
use Rattle.serde_json.specs.Find.{at, get, get_item}
use Rattle.sng_grants.specs.Limits.{Limits}
use Rattle.sng_grants.specs.declared.limits.TheConstants.{MAX_PAIRS}
use Rattle.sng_scope.specs.Policies.{may_end, may_limit}
use Rattle.sng_scope.specs.declared.fault.PolicyFault.{PolicyFault}
use Rattle.sng_places.specs.Order.{Rule, HasScope, HasVersion, HoldsJson, IsArray, IsAtMost, IsClient}
use Rattle.sng_places.specs.Order.{IsEncoded, IsEnd, IsFilter, IsGrantMember, IsKnown, IsObject, IsPair}
use Rattle.sng_places.specs.Order.{IsPermission, IsScope, IsSource, IsText, IsTopic, IsTopicId, IsVersion}
use Rattle.sng_places.specs.Order.{Test, array_tests, each_test, end_tests, ending_tests, grant_tests}
use Rattle.sng_places.specs.Order.{held_by, held_tests, inner_tests, items_in, known_tests, members_in}
use Rattle.sng_places.specs.Order.{members_tests, other_tests, pair_tests, pairs_tests, part_tests}
use Rattle.sng_places.specs.Order.{scope_tests, test, topic_tests, version_tests, written_tests}
use Rattle.sng_places.specs.Order.{IsLimit, IsLimitMember, limit_members_tests, limit_names_tests, limit_tests}
use Rattle.sng_places.specs.Order.{limits_tests, parts_tests}
use Rattle.sng_places.specs.LimitPlaces.{limit_text, limits_in}
use Rattle.sng_places.specs.Standing.{HasMember, IsListed, IsWritten, Stands, ValuesStand, name_of, value_at}
use Rattle.sng_places.specs.declared.location.Form.{Form}
use Rattle.sng_places.specs.declared.location.Form.TheVariants.{Plain, Encoded}
use Rattle.sng_places.specs.declared.location.LimitName.{LimitName}
use Rattle.sng_places.specs.declared.location.LimitName.TheVariants as limit
use Rattle.sng_places.specs.declared.location.Part.{Part}
use Rattle.sng_places.specs.declared.location.Part.TheVariants.{Clients, Sources, Topics}
use Rattle.sng_places.specs.declared.location.Location.{Location}
use Rattle.sng_places.specs.declared.location.Location.TheVariants as places
use Rattle.sng_places.specs.declared.location.Spot.{Spot}
use Rattle.sng_places.specs.declared.location.Spot.TheVariants.{Whole, Pair, Filter, Permissions, Permission}

abbrev Standing : Data → List Test → Type 0
Standing d ts = All (λ t. Stands d t.place t.value) ts

abbrev nothing : (d : Data) → Standing d []
nothing d = All-nil (λ t. Stands d t.place t.value)

one_more : (d : Data) (t : Test) (ts : List Test) → Stands d t.place t.value → Standing d ts
    → Standing d (t ∷ ts)
one_more d t ts stands others = All-cons (λ u. Stands d u.place u.value) t ts stands others

both : (d : Data) (ts us : List Test) → Standing d ts → Standing d us → Standing d (ts ++ us)
both d ts us a b = All-append (λ t. Stands d t.place t.value) ts us a b

-- ---- items: the one at j has the place i + j

abbrev Follow : (ℕ → Option Data) → ℕ → Items → Type 0
Follow f i ds = (j : ℕ) (x : Data) → get_item j ds ≡ Some x → f (i + j) ≡ Some x

head_follows : (f : ℕ → Option Data) (i : ℕ) (d : Data) (ds : Items) → Follow f i (item d ds) → f i ≡ Some d
head_follows f i d ds follow = let e : i ≡ i + 0 = omega arith in ap f e ∙ follow 0 d refl

tail_follows : (f : ℕ → Option Data) (i : ℕ) (d : Data) (ds : Items) → Follow f i (item d ds)
    → Follow f (suc i) ds
tail_follows f i d ds follow j x is =
    let e : suc i + j ≡ i + suc j = omega arith in ap f e ∙ follow (suc j) x is

-- ---- the items of an array, each at its place

each : (d : Data) (place : ℕ → Location) (rule : Rule) (f : ℕ → Option Data)
    → ((k : ℕ) (v : Data) → f k ≡ Some v → Stands d (place k) v)
    → (i : ℕ) (ds : Items) → Follow f i ds → Standing d (each_test place rule i ds)
each d place rule f stands i no_items follow = nothing d
each d place rule f stands i (item e ds) follow =
    one_more d _ _ (stands i e (head_follows f i e ds follow))
    (each d place rule f stands (suc i) ds (tail_follows f i e ds follow))

pairs : (d : Data) (place : Spot → Location) (f : ℕ → Option Data)
    → ((i : ℕ) (e : Data) → f i ≡ Some e → Standing d (pair_tests place i e))
    → (i : ℕ) (ds : Items) → Follow f i ds → Standing d (pairs_tests place i ds)
pairs d place f stands i no_items follow = nothing d
pairs d place f stands i (item e ds) follow =
    both d (pair_tests place i e) (pairs_tests place (suc i) ds) (stands i e (head_follows f i e ds follow))
    (pairs d place f stands (suc i) ds (tail_follows f i e ds follow))

-- ---- the tests of a scope, at places of what is written, whose value is `w`

-- each spot of the value has its place
abbrev Spots : Data → (Spot → Location) → Data → Type 0
Spots d place w = (spot : Spot) (v : Data) → value_at spot w ≡ Some v → Stands d (place spot) v

item_at : (j : ℕ) (e : Data) → at j e ≡ get_item j (items_in e)
item_at j (array ds) = refl
item_at j null = refl
item_at j (boolean b) = refl
item_at j (number n) = refl
item_at j (string text) = refl
item_at j (object ms) = refl

-- the items of a value that is found
follow_found : (o : ℕ → Option Data) (e : Data) → ((j : ℕ) → o j ≡ at j e) → Follow o 0 (items_in e)
follow_found o e same j x is = let from : 0 + j ≡ j = omega arith in ap o from ∙ same j ∙ item_at j e ∙ is

pair_alone : (d : Data) (place : Spot → Location) (w : Data) → Spots d place w → (i : ℕ) (e : Data)
    → at i w ≡ Some e → Standing d (test (place (Pair i)) IsPair e ∷ [])
pair_alone d place w spots i e is =
    one_more d (test (place (Pair i)) IsPair e) [] (spots (Pair i) e is) (nothing d)

pair : (d : Data) (place : Spot → Location) (w : Data) → Spots d place w → (i : ℕ) (e : Data)
    → at i w ≡ Some e
    → Standing d (pair_tests place i e)
pair d place w spots i (array (item a (item b no_items))) is =
    let filter : option_and_then (at 0) (at i w) ≡ Some a = ap (option_and_then (at 0)) is in
    let permissions : option_and_then (at 1) (at i w) ≡ Some b = ap (option_and_then (at 1)) is in
    let follow : Follow (λ k. value_at (Permission i k) w) 0 (items_in b) =
    follow_found (λ k. value_at (Permission i k) w) b (λ j. ap (option_and_then (at j)) permissions) in
    let texts : List Test = each_test (λ k. place (Permission i k)) IsText 0 (items_in b) in
    let others : List Test =
    test (place (Filter i)) IsFilter a
    ∷ each_test (λ k. place (Permission i k)) IsPermission 0 (items_in b) in
    one_more d (test (place (Pair i)) IsPair (array (item a (item b no_items))))
    (test (place (Filter i)) IsText a ∷ test (place (Permissions i)) IsArray b ∷ (texts ++ others))
    (spots (Pair i) _ is)
    (one_more d (test (place (Filter i)) IsText a)
    (test (place (Permissions i)) IsArray b ∷ (texts ++ others)) (spots (Filter i) a filter)
    (one_more d (test (place (Permissions i)) IsArray b) (texts ++ others)
    (spots (Permissions i) b permissions)
    (both d texts others
    (each d (λ k. place (Permission i k)) IsText (λ k. value_at (Permission i k) w)
    (λ k v at_k. spots (Permission i k) v at_k) 0 (items_in b) follow)
    (one_more d (test (place (Filter i)) IsFilter a) _ (spots (Filter i) a filter)
    (each d (λ k. place (Permission i k)) IsPermission (λ k. value_at (Permission i k) w)
    (λ k v at_k. spots (Permission i k) v at_k) 0 (items_in b) follow)))))
pair d place w spots i (array no_items) is = pair_alone d place w spots i _ is
pair d place w spots i (array (item a no_items)) is = pair_alone d place w spots i _ is
pair d place w spots i (array (item a (item b (item c ds)))) is = pair_alone d place w spots i _ is
pair d place w spots i null is = pair_alone d place w spots i _ is
pair d place w spots i (boolean b) is = pair_alone d place w spots i _ is
pair d place w spots i (number n) is = pair_alone d place w spots i _ is
pair d place w spots i (string text) is = pair_alone d place w spots i _ is
pair d place w spots i (object ms) is = pair_alone d place w spots i _ is

array_of : (d : Data) (place : Spot → Location) (w : Data) → Spots d place w
    → Standing d (array_tests place w)
array_of d place w spots =
    one_more d (test (place Whole) (IsAtMost MAX_PAIRS) w) (pairs_tests place 0 (items_in w))
    (spots Whole w refl)
    (pairs d place (λ i. at i w) (λ i e is. pair d place w spots i e is) 0 (items_in w)
    (follow_found (λ i. at i w) w (λ j. refl)))

-- each spot of what is written, or is held by that, has its place
abbrev Written : Data → (Form → Spot → Location) → Data → Type 0
Written d place e = (form : Form) (w : Data) → IsWritten form e w → Spots d (place form) w

held : (d : Data) (place : Form → Spot → Location) (text : List ℕ) → Written d place (string text)
    → (r : Result Data PolicyFault) → held_by text ≡ r → Standing d (held_tests (place Encoded) r)
held d place text written (Ok w) is =
    one_more d (test (place Encoded Whole) IsArray w) (array_tests (place Encoded) w)
    (written Encoded w is Whole w refl) (array_of d (place Encoded) w (written Encoded w is))
held d place text written (Err fault) is = nothing d

in_form : (d : Data) (place : Form → Spot → Location) (e : Data) → Written d place e
    → Standing d (written_tests place e)
in_form d place (array ds) written = array_of d (place Plain) (array ds) (written Plain (array ds) refl)
in_form d place (string text) written =
    let here : Stands d (place Plain Whole) (string text) =
    written Plain (string text) refl Whole (string text) refl in
    let others : List Test = held_tests (place Encoded) (held_by text) in
    one_more d (test (place Plain Whole) IsEncoded (string text))
    (test (place Plain Whole) HoldsJson (string text) ∷ others) here
    (one_more d (test (place Plain Whole) HoldsJson (string text)) others here
    (held d place text written (held_by text) refl))
in_form d place null written = nothing d
in_form d place (boolean b) written = nothing d
in_form d place (number n) written = nothing d
in_form d place (object ms) written = nothing d

scope : (d : Data) (place : Form → Spot → Location) (e : Data) → Written d place e
    → Standing d (scope_tests place e)
scope d place e written =
    one_more d (test (place Plain Whole) IsScope e) (written_tests place e)
    (written Plain e refl Whole e refl) (in_form d place e written)

-- ---- the value of a member

-- the spots of the value of a member
spots_of_member : (d : Data) (part : Part) (name : List ℕ) (e : Data) → IsListed d part name e
    → Written d (places.Value part name) e
spots_of_member d part name e here form w written spot v is = (e, (here, (w, (written, is))))

-- the value of a member itself
whole : (d : Data) (part : Part) (name : List ℕ) (e : Data) → IsListed d part name e
    → Stands d (places.Value part name Plain Whole) e
whole d part name e here = (e, (here, (e, (refl, refl))))

topic : (d : Data) (part : Part) (name : List ℕ) (e : Data) → IsListed d part name e
    → Standing d (topic_tests part name e)
topic d part name e here =
    let stands : Stands d (places.Value part name Plain Whole) e = whole d part name e here in
    let named : Test = test (places.Value part name Plain Whole) IsTopic e in
    one_more d (test (places.Value part name Plain Whole) IsText e) (named ∷ []) stands
    (one_more d named [] stands (nothing d))

written_scope : (d : Data) (part : Part) (name : List ℕ) (e : Data) → IsListed d part name e
    → Standing d (scope_tests (places.Value part name) e)
written_scope d part name e here = scope d (places.Value part name) e (spots_of_member d part name e here)

-- ---- an object of a scope and its end

others_of : (d : Data) (part : Part) (name : List ℕ) (e : Data) → IsListed d part name e → (ms : Members)
    → ((other : List ℕ) (w : Data) → HasMember ms other w → HasMember (members_in e) other w)
    → Standing d (other_tests part name ms)
others_of d part name e here no_members has = nothing d
others_of d part name e here (member other w ms) has =
    one_more d (test (places.Other part name other) IsGrantMember (string other)) (other_tests part name ms)
    (e, (here, (refl, (w, has other w (inl (refl, refl))))))
    (others_of d part name e here ms (λ more x is. has more x (inr is)))

end_of : (d : Data) (part : Part) (name : List ℕ) (e : Data) → IsListed d part name e → (o : Option Data)
    → get (codes "exp") e ≡ o → Standing d (end_tests part name o)
end_of d part name e here None is = nothing d
end_of d part name e here (Some v) is =
    one_more d (test (places.End part name) IsEnd v) [] (e, (here, is)) (nothing d)

inner_of : (d : Data) (part : Part) (name : List ℕ) (e : Data) → IsListed d part name e → (o : Option Data)
    → get (codes "scope") e ≡ o → Standing d (inner_tests part name o)
inner_of d part name e here None is = nothing d
inner_of d part name e here (Some s) is =
    scope d (places.Scope part name) s
    (λ form w written spot v at_spot. (e, (here, (s, (is, (w, (written, at_spot)))))))

object_of : (d : Data) (part : Part) (name : List ℕ) (ms : Members) → IsListed d part name (object ms)
    → Standing d (ending_tests part name (Some ms) (object ms))
object_of d part name ms here =
    let ends : List Test = end_tests part name (get (codes "exp") (object ms)) in
    let inner : List Test = inner_tests part name (get (codes "scope") (object ms)) in
    let has : Test = test (places.Value part name Plain Whole) HasScope (object ms) in
    both d (other_tests part name ms) (ends ++ (has ∷ inner))
    (others_of d part name (object ms) here ms (λ other w is. is))
    (both d ends (has ∷ inner) (end_of d part name (object ms) here (get (codes "exp") (object ms)) refl)
    (one_more d has inner (whole d part name (object ms) here)
    (inner_of d part name (object ms) here (get (codes "scope") (object ms)) refl)))

grant : (d : Data) (ends : Bool) (part : Part) (name : List ℕ) (e : Data) → IsListed d part name e
    → Standing d (grant_tests ends part name e)
grant d false part name e here = written_scope d part name e here
grant d true part name (object ms) here = object_of d part name ms here
grant d true part name null here = written_scope d part name null here
grant d true part name (boolean b) here = written_scope d part name (boolean b) here
grant d true part name (number n) here = written_scope d part name (number n) here
grant d true part name (string text) here = written_scope d part name (string text) here
grant d true part name (array ds) here = written_scope d part name (array ds) here

-- ---- members and parts

abbrev Tests : Type 0
Tests = Part → List ℕ → Data → List Test

-- the tests of the value of each member of the part
abbrev OfMembers : Data → Part → Tests → Type 0
OfMembers d part tests =
    (name : List ℕ) (e : Data) → IsListed d part name e → Standing d (tests part name e)

members : (d : Data) (part : Part) (rule : Rule) (tests : Tests) → OfMembers d part tests
    → (ms : Members) → ((name : List ℕ) (e : Data) → HasMember ms name e → IsListed d part name e)
    → Standing d (members_tests part rule tests ms)
members d part rule tests stand no_members listed = nothing d
members d part rule tests stand (member name e ms) listed =
    let here : IsListed d part name e = listed name e (inl (refl, refl)) in
    one_more d (test (places.Name part name) rule (string name))
    (tests part name e ++ members_tests part rule tests ms) (refl, (e, here))
    (both d (tests part name e) (members_tests part rule tests ms) (stand name e here)
    (members d part rule tests stand ms (λ other x has. listed other x (inr has))))

in_part : (d : Data) (part : Part) (most : ℕ) (rule : Rule) (tests : Tests) → OfMembers d part tests
    → (o : Option Data) → get (name_of part) d ≡ o → Standing d (part_tests part most rule tests o)
in_part d part most rule tests stand None is = nothing d
in_part d part most rule tests stand (Some p) is =
    let many : Test = test (places.Part part) (IsAtMost most) p in
    let others : List Test = members_tests part rule tests (members_in p) in
    one_more d (test (places.Part part) IsObject p) (many ∷ others) is
    (one_more d many others is (members d part rule tests stand (members_in p)
    (λ name e has. (p, (is, has)))))

version : (d : Data) (o : Option Data) → get (codes "version") d ≡ o → Standing d (version_tests o)
version d None is = nothing d
version d (Some v) is = one_more d (test places.Version IsVersion v) [] is (nothing d)

known : (d : Data) (limited : Bool) (ms : Members)
    → ((name : List ℕ) (e : Data) → HasMember ms name e → HasMember (members_in d) name e)
    → Standing d (known_tests limited ms)
known d limited no_members has = nothing d
known d limited (member name e ms) has =
    one_more d (test (places.Member name) (IsKnown limited) (string name)) (known_tests limited ms)
    (refl, (e, has name e (inl (refl, refl)))) (known d limited ms (λ other x more. has other x (inr more)))

-- ---- limits

limit_names : (d l : Data) → get (codes "limits") d ≡ Some l → (ms : Members)
    → ((name : List ℕ) (e : Data) → HasMember ms name e → HasMember (members_in l) name e)
    → Standing d (limit_names_tests ms)
limit_names d l is no_members has = nothing d
limit_names d l is (member name e ms) has =
    one_more d (test (places.LimitMember name) IsLimitMember (string name)) (limit_names_tests ms)
    (refl, (l, (is, (e, has name e (inl (refl, refl))))))
    (limit_names d l is ms (λ other x more. has other x (inr more)))

one_limit : (d l : Data) → get (codes "limits") d ≡ Some l → (name : LimitName) (o : Option Data)
    → get (limit_text name) l ≡ o → Standing d (limit_tests name o)
one_limit d l is name None there = nothing d
one_limit d l is name (Some v) there =
    one_more d (test (places.Limit name) (IsLimit name) v) [] (l, (is, there)) (nothing d)

limit_members : (d : Data) (ms : Members) → get (codes "limits") d ≡ Some (object ms)
    → Standing d (limit_members_tests (Some ms) (object ms))
limit_members d ms is =
    let l : Data = object ms in
    let of : LimitName → List Test = λ name. limit_tests name (get (limit_text name) l) in
    let stand : (name : LimitName) → Standing d (of name) =
    λ name. one_limit d l is name (get (limit_text name) l) refl in
    both d (limit_names_tests ms) _ (limit_names d l is ms (λ name e has. has))
    (both d (of limit.Clients) _ (stand limit.Clients)
    (both d (of limit.InFlight) _ (stand limit.InFlight)
    (both d (of limit.Sources) _ (stand limit.Sources)
    (both d (of limit.Topics) (of limit.Waiting) (stand limit.Topics) (stand limit.Waiting)))))

no_limits : (d l : Data) → get (codes "limits") d ≡ Some l
    → Standing d (test places.Limits IsObject l ∷ [])
no_limits d l is = one_more d (test places.Limits IsObject l) [] is (nothing d)

limits : (d : Data) (o : Option Data) → get (codes "limits") d ≡ o → Standing d (limits_tests o)
limits d None is = nothing d
limits d (Some (object ms)) is =
    one_more d (test places.Limits IsObject (object ms)) (limit_members_tests (Some ms) (object ms)) is
    (limit_members d ms is)
limits d (Some null) is = no_limits d null is
limits d (Some (boolean b)) is = no_limits d (boolean b) is
limits d (Some (number n)) is = no_limits d (number n) is
limits d (Some (string text)) is = no_limits d (string text) is
limits d (Some (array ds)) is = no_limits d (array ds) is

parts : (d : Data) (limits : Limits) → Standing d (parts_tests limits d)
parts d limits =
    let tests : Tests = grant_tests (may_end d) in
    let clients : List Test = part_tests Clients limits.clients IsClient tests (get (codes "clients") d) in
    let sources : List Test = part_tests Sources limits.sources IsSource tests (get (codes "sources") d) in
    let topics : List Test = part_tests Topics limits.topics IsTopicId topic_tests (get (codes "topics") d) in
    both d clients (sources ++ topics)
    (in_part d Clients limits.clients IsClient tests (grant d (may_end d) Clients) (get (codes "clients") d) refl)
    (both d sources topics
    (in_part d Sources limits.sources IsSource tests (grant d (may_end d) Sources) (get (codes "sources") d) refl)
    (in_part d Topics limits.topics IsTopicId topic_tests (topic d Topics) (get (codes "topics") d) refl))

pub values_stand : ValuesStand
values_stand d =
    let versions : List Test = version_tests (get (codes "version") d) in
    let names : List Test = known_tests (may_limit d) (members_in d) in
    let given : List Test = limits_tests (get (codes "limits") d) in
    let listed : List Test = parts_tests (limits_in d) d in
    let others : List Test = versions ++ (names ++ (given ++ listed)) in
    one_more d (test places.Whole IsObject d) (test places.Whole HasVersion d ∷ others) refl
    (one_more d (test places.Whole HasVersion d) others refl
    (both d versions (names ++ (given ++ listed)) (version d (get (codes "version") d) refl)
    (both d names (given ++ listed) (known d (may_limit d) (members_in d) (λ name e has. has))
    (both d given listed (limits d (get (codes "limits") d) refl) (parts d (limits_in d))))))
