-- What is left of grants at a clock, and when the first of them ends.
use Rattle.std.proofs.Common.{◌≡◌, ◌≤◌, ℕ, Bool, true, false, not, List, [], ◌∷◌, Ordering, Less}
use Rattle.std.proofs.Common.{length, Option, Some, None, cond, refl, ap, ap₂, sym, ◌∙◌, nat_le, subst, if◌then◌else◌, arith}
use Rattle.std.specs.Option.{option_and_then, option_map}
use Rattle.std.specs.BTreeMap.{is_at}
use Rattle.std.specs.Cmp.Lexicographic.{slice_cmp}
use Rattle.std.specs.List.{AllByRecursion}
use Rattle.std.specs.List.Sorted.{IsStrictlySortedBy}
use Rattle.std.specs.Map.{keys_of, lookup}
use Rattle.std.specs.Ordering.{nat_cmp, is_eq}
use Rattle.sng_grants.specs.Laws.{GrantsEnd, EndsStay, NothingEndsBefore}
use Rattle.sng_grants.specs.Sources.{scope_left, is_reached, left_at, sooner, first_end}
use Rattle.sng_grants.specs.declared.grant.Grant.{Grant}
use Rattle.sng_grants.specs.Policies.{Policy}
use Rattle.sng_grants.specs.declared.scope.Pair.{Pair}
use Rattle.sng_grants.proofs.FoundLemmas.{same_key}

-- ---- a key among those that have not ended

abbrev Entry : Type 0
Entry = List ℕ × Grant

-- the test by which a key is found
abbrev here : List ℕ → List ℕ → Bool
here key = is_at (slice_cmp nat_cmp key)

less_not_here : (o : Ordering) → o ≡ Less → is_eq o ≡ false
less_not_here o is = rw is refl

-- a key below all that are listed is not found, whatever has ended
absent_step : (key : List ℕ) (entry : Entry) (rest : List Entry) (kept : Bool)
    → here key entry.0 ≡ false → lookup (here key) rest ≡ None
    → lookup (here key) (cond kept (entry ∷ rest) rest) ≡ None
absent_step key entry rest true is more = rw is more
absent_step key entry rest false is more = more

absent : (clock : ℕ) (key : List ℕ) (listed : List Entry)
    → AllByRecursion (λ other. slice_cmp nat_cmp key other ≡ Less) (keys_of listed)
    → lookup (here key) (left_at clock listed) ≡ None
absent clock key [] all = refl
absent clock key (entry ∷ listed) all =
    absent_step key entry (left_at clock listed) (not (is_reached clock entry.1.until))
    (less_not_here (slice_cmp nat_cmp key entry.0) all.0) (absent clock key listed all.1)

abbrev at_clock : ℕ → Option Grant → Option (List Pair)
at_clock clock grant = option_and_then (scope_left clock) grant

abbrev scope_in : Option Grant → Option (List Pair)
scope_in grant = option_map (λ g. g.scope) grant

-- the first entry has the key
found_first : (clock : ℕ) (key : List ℕ) (entry : Entry) (rest : List Entry) (ended : Bool)
    → is_reached clock entry.1.until ≡ ended → here key entry.0 ≡ true → lookup (here key) rest ≡ None
    → scope_in (lookup (here key) (cond (not ended) (entry ∷ rest) rest))
    ≡ (if ended then None else Some entry.1.scope)
found_first clock key entry rest true is here_is none = rw none refl
found_first clock key entry rest false is here_is none = rw here_is refl

-- it has another
found_later : (clock : ℕ) (key : List ℕ) (entry : Entry) (rest : List Entry) (ended : Bool)
    → here key entry.0 ≡ false
    → lookup (here key) (cond (not ended) (entry ∷ rest) rest) ≡ lookup (here key) rest
found_later clock key entry rest true away = refl
found_later clock key entry rest false away = rw away refl

found_by : (clock : ℕ) (key : List ℕ) (entry : Entry) (listed : List Entry) (found : Bool)
    → here key entry.0 ≡ found
    → AllByRecursion (λ other. slice_cmp nat_cmp entry.0 other ≡ Less) (keys_of listed)
    → scope_in (lookup (here key) (left_at clock listed)) ≡ at_clock clock (lookup (here key) listed)
    → scope_in (lookup (here key) (left_at clock (entry ∷ listed)))
    ≡ at_clock clock (cond found (Some entry.1) (lookup (here key) listed))
found_by clock key entry listed true is below more =
    let same : key ≡ entry.0 = same_key key entry.0 is in
    let P : List ℕ → Type 0 =
    λ k. AllByRecursion (λ other. slice_cmp nat_cmp k other ≡ Less) (keys_of listed) in
    let none : lookup (here key) (left_at clock listed) ≡ None =
    absent clock key listed (subst P (sym same) below) in
    found_first clock key entry (left_at clock listed) (is_reached clock entry.1.until) refl is none
found_by clock key entry listed false is below more =
    ap scope_in (found_later clock key entry (left_at clock listed) (is_reached clock entry.1.until) is) ∙ more

pub grants_end : GrantsEnd
unfolding IsStrictlySortedBy
grants_end clock [] key ordered = refl
grants_end clock (entry ∷ listed) key ordered =
    found_by clock key entry listed (here key entry.0) refl ordered.0 (grants_end clock listed key ordered.1)

-- ---- what has ended stays ended

reached_later : (before now : ℕ) (end : Option ℕ) → before ≤ now → is_reached before end ≡ true
    → is_reached now end ≡ true
reached_later before now None order is = absurd (cc)
reached_later before now (Some end) order is = grind arith

stays : {K : Type 0} (before now : ℕ) (entry : K × Grant) (rest : List (K × Grant)) (ended : Bool)
    → before ≤ now → is_reached before entry.1.until ≡ ended
    → left_at now (left_at before rest) ≡ left_at now rest
    → left_at now (cond (not ended) (entry ∷ left_at before rest) (left_at before rest))
    ≡ left_at now (entry ∷ rest)
stays before now entry rest true order is more =
    rw (reached_later before now entry.1.until order is) more
stays before now entry rest false order is more =
    ap (λ (es : List (_ × Grant)). cond (not (is_reached now entry.1.until)) (entry ∷ es) es) more

left_twice : {K : Type 0} (before now : ℕ) (listed : List (K × Grant)) → before ≤ now
    → left_at now (left_at before listed) ≡ left_at now listed
left_twice before now [] order = refl
left_twice before now (entry ∷ listed) order =
    stays before now entry listed (is_reached before entry.1.until) order refl
    (left_twice before now listed order)

abbrev made : Policy → List (List ℕ × Grant) → List (List ℕ × Grant) → Policy
made policy clients sources =
    record { clients = clients; sources = sources; topics = policy.topics; limits = policy.limits }

pub ends_stay : EndsStay
ends_stay before now policy order =
    ap₂ (made policy) (left_twice before now policy.clients order)
    (left_twice before now policy.sources order)

-- no more are left than were listed
fewer_by : {X : Type 0} (kept : Bool) (x : X) (left listed : List X) → length left ≤ length listed
    → length (cond kept (x ∷ left) left) ≤ length (x ∷ listed)
fewer_by true x left listed fewer = omega (arith, fewer)
fewer_by false x left listed fewer = omega (arith, fewer)

fewer : {K : Type 0} (clock : ℕ) (listed : List (K × Grant)) → length (left_at clock listed) ≤ length listed
fewer clock [] = omega arith
fewer clock (entry ∷ listed) =
    fewer_by (not (is_reached clock entry.1.until)) entry (left_at clock listed) listed (fewer clock listed)

pub few_left : {K : Type 0} (clock : ℕ) (listed new : List (K × Grant)) (most : ℕ) → new ≡ left_at clock listed
    → length listed ≤ most → length new ≤ most
few_left clock listed new most is few =
    subst (λ (es : List (_ × Grant)). length es ≤ most) (sym is) (omega (arith, fewer clock listed, few))

-- ---- the first end

sooner_by : (clock end other : ℕ) (b : Bool) → nat_le end other ≡ b
    → is_reached clock (if b then Some end else Some other) ≡ false
    → (nat_le end clock ≡ false) × (nat_le other clock ≡ false)
sooner_by clock end other true order is = (is, grind arith)
sooner_by clock end other false order is = (grind arith, is)

-- where the sooner of two ends is not reached, neither is
sooner_not : (clock : ℕ) (end other : Option ℕ) → is_reached clock (sooner end other) ≡ false
    → (is_reached clock end ≡ false) × (is_reached clock other ≡ false)
sooner_not clock None other is = (refl, is)
sooner_not clock (Some end) None is = (is, refl)
sooner_not clock (Some end) (Some other) is = sooner_by clock end other (nat_le end other) refl is

kept_by : {K : Type 0} (clock : ℕ) (entry : K × Grant) (rest listed : List (K × Grant)) (ended : Bool)
    → ended ≡ false → rest ≡ listed → cond (not ended) (entry ∷ rest) rest ≡ entry ∷ listed
kept_by clock entry rest listed ended is more = rw is (ap (λ (es : List (_ × Grant)). entry ∷ es) more)

none_left_out : {K : Type 0} (clock : ℕ) (listed : List (K × Grant)) → is_reached clock (first_end listed) ≡ false
    → left_at clock listed ≡ listed
none_left_out clock [] is = refl
none_left_out clock (entry ∷ listed) is =
    let parts = sooner_not clock entry.1.until (first_end listed) is in
    kept_by clock entry (left_at clock listed) listed (is_reached clock entry.1.until) parts.0
    (none_left_out clock listed parts.1)

pub nothing_ends_before : NothingEndsBefore
nothing_ends_before clock policy is =
    let parts = sooner_not clock (first_end policy.clients) (first_end policy.sources) is in
    ap₂ (made policy) (none_left_out clock policy.clients parts.0) (none_left_out clock policy.sources parts.1)

sooner-none : (a b : ℕ) (t : Bool)
    → sooner (if t then Some a else Some b) None ≡ (if t then Some a else Some b)
sooner-none a b true = refl
sooner-none a b false = refl

sooner-three : (a b c : ℕ) (t : Bool) → nat_le a b ≡ t → (u : Bool) → nat_le b c ≡ u
    → sooner (if t then Some a else Some b) (Some c)
    ≡ sooner (Some a) (if u then Some b else Some c)
sooner-three a b c true ab true bc =
    let ac : nat_le a c ≡ true = grind arith in rw (ab, ac) refl
sooner-three a b c true ab false bc = refl
sooner-three a b c false ab true bc = rw (ab, bc) refl
sooner-three a b c false ab false bc =
    let ac : nat_le a c ≡ false = grind arith in rw (ac, bc) refl

-- the sooner of three, in either order of work
pub sooner-assoc : (a b c : Option ℕ) → sooner (sooner a b) c ≡ sooner a (sooner b c)
sooner-assoc None b c = refl
sooner-assoc (Some a) None c = refl
sooner-assoc (Some a) (Some b) None = sooner-none a b (nat_le a b)
sooner-assoc (Some a) (Some b) (Some c) = sooner-three a b c (nat_le a b) refl (nat_le b c) refl

pub sooner-last : (a : Option ℕ) → sooner a None ≡ a
sooner-last None = refl
sooner-last (Some a) = refl
