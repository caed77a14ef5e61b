-- Which place an open packet id leads to.
use Rattle.std.proofs.Common.{◌≡◌, ℕ, zero, suc, ◌+◌, ◌<◌, ◌≤◌, ◌==◌, ◌||◌, Bool, true, false, true≢false}
use Rattle.std.proofs.Common.{List, [], ◌∷◌, ◌++◌, Option, Some, None, length, get_or, set, filter, slice_get}
use Rattle.std.proofs.Common.{nat_lt, cond, if◌then◌else◌, refl, sym, ap, ◌∙◌, arith}
use Rattle.std.specs.List.{list_any, find}
use Rattle.std.specs.Option.{option_map}
use Rattle.std.proofs.lemmas.Bool.{eqb-true, eq-eqb, eqb-false, ltb-true, ltb-false, false_from_ne_true}
use Rattle.std.proofs.lemmas.List.{get_or-set_same, get_or-set_other}
use Rattle.std.proofs.Math.ListN.{length-set}
use Rattle.indexmap.specs.Layout.{set_value_at}
use Rattle.sng_history.specs.Links.{Wanted, has_id, is_open}
use Rattle.sng_wanted.specs.declared.want.Stand.{Stand}
use Rattle.sng_wanted.specs.declared.want.Want.{Want}
use Rattle.sng_wanted.specs.declared.want.Want.TheVariants.{Ended, Stands}
use Rattle.sng_wanted.specs.Filters.{reopened}
use Rattle.sng_wanted.specs.Shown.{Entry, shown, open_in, open_at, owed_at, want_of, IsOpenOnce, IsIndexed}

some_is : (a b : ℕ) → Some a ≡ Some b → a ≡ b
some_is a b same = cc

-- the same open packet ids at all places lead to the same places
pub indexed_same : (wanted other : List Entry) (places : List ℕ)
    → ((p : ℕ) → open_at other p ≡ open_at wanted p) → IsIndexed wanted places → IsIndexed other places
indexed_same wanted other places same indexed =
    record { whole = indexed.whole; found = λ p id there. indexed.found p id (sym (same p) ∙ there) }

open_at-same : (es : List Entry) (place : ℕ) (w : Want) → place < length es
    → open_at (set_value_at es place w) place ≡ open_in w
open_at-same [] place w within = absurd (omega arith)
open_at-same (e ∷ es) zero w within = refl
open_at-same (e ∷ es) (suc place) w within = open_at-same es place w (omega arith)

open_at-other : (es : List Entry) (place : ℕ) (w : Want) (p : ℕ) → (p ≡ place → ⊥)
    → open_at (set_value_at es place w) p ≡ open_at es p
open_at-other [] place w p differs = refl
open_at-other (e ∷ es) zero w zero differs = absurd (differs refl)
open_at-other (e ∷ es) zero w (suc p) differs = refl
open_at-other (e ∷ es) (suc place) w zero differs = refl
open_at-other (e ∷ es) (suc place) w (suc p) differs =
    open_at-other es place w p (λ same. differs (ap suc same))

-- a change at a place changes what is open there alone
set_by : (es : List Entry) (place : ℕ) (w : Want) (p : ℕ) (here : Bool) → (p == place) ≡ here
    → place < length es
    → open_at (set_value_at es place w) p ≡ (if here then open_in w else open_at es p)
set_by es place w p true is within =
    let at : p ≡ place = eqb-true p place is in
    ap (λ q. open_at (set_value_at es place w) q) at ∙ open_at-same es place w within
set_by es place w p false is within = open_at-other es place w p (eqb-false p place is)

pub open_at-set : (es : List Entry) (place : ℕ) (w : Want) (p : ℕ) → place < length es
    → open_at (set_value_at es place w) p ≡ (if p == place then open_in w else open_at es p)
open_at-set es place w p within = set_by es place w p (p == place) refl within

closing_by : (es : List Entry) (places : List ℕ) (place p id : ℕ) (w : Want) (here : Bool)
    → (p == place) ≡ here → open_in w ≡ None → IsIndexed es places
    → (if here then open_in w else open_at es p) ≡ Some id → get_or places id 0 ≡ p
closing_by es places place p id w true is none indexed there =
    let absent : None ≡ Some id = sym none ∙ there in cc
closing_by es places place p id w false is none indexed there = indexed.found p id there

-- one that leaves none open at the place
pub indexed_closed : (es : List Entry) (places : List ℕ) (place : ℕ) (w : Want) → place < length es
    → open_in w ≡ None → IsIndexed es places → IsIndexed (set_value_at es place w) places
indexed_closed es places place w within none indexed = record {
  whole = indexed.whole;
  found =
      λ p id there. closing_by es places place p id w (p == place) refl none indexed
      (sym (open_at-set es place w p within) ∙ there);
}

restood_by : (es : List Entry) (places : List ℕ) (place p id : ℕ) (w : Want) (here : Bool)
    → (p == place) ≡ here → open_in w ≡ open_at es place → IsIndexed es places
    → (if here then open_in w else open_at es p) ≡ Some id → get_or places id 0 ≡ p
restood_by es places place p id w true is same indexed there =
    let at : p ≡ place = eqb-true p place is in
    indexed.found p id (ap (λ q. open_at es q) at ∙ sym same ∙ there)
restood_by es places place p id w false is same indexed there = indexed.found p id there

-- and one that leaves the same open there
pub indexed_restood : (es : List Entry) (places : List ℕ) (place : ℕ) (w : Want) → place < length es
    → open_in w ≡ open_at es place → IsIndexed es places → IsIndexed (set_value_at es place w) places
indexed_restood es places place w within same indexed = record {
  whole = indexed.whole;
  found =
      λ p id there. restood_by es places place p id w (p == place) refl same indexed
      (sym (open_at-set es place w p within) ∙ there);
}

-- what leads to places is open once
pub once : (es : List Entry) (places : List ℕ) → IsIndexed es places → IsOpenOnce es
once es places indexed p q id first second = sym (indexed.found p id first) ∙ indexed.found q id second

none_open : (id : ℕ) → None ≡ Some id → ⊥
none_open id absent = cc

-- the packet id is open at one place alone
abbrev pub Only : List Entry → ℕ → ℕ → Type 0
Only es id p = (q : ℕ) → open_at es q ≡ Some id → q ≡ p

-- where it is open it is open alone
pub only_there : (es : List Entry) (places : List ℕ) (p id : ℕ) → IsIndexed es places → open_at es p ≡ Some id
    → Only es id p
only_there es places p id indexed at q there = sym (indexed.found q id there) ∙ indexed.found p id at

-- the place that the packet id leads to is the only one at which it can be open
pub not_elsewhere : (es : List Entry) (places : List ℕ) (place id : ℕ) → IsIndexed es places
    → place ≡ get_or places id 0 → (open_at es place ≡ Some id → ⊥)
    → (q : ℕ) → open_at es q ≡ Some id → ⊥
not_elsewhere es places place id indexed place_is absent q there =
    let at : place ≡ q = place_is ∙ indexed.found q id there in absent (ap (λ p. open_at es p) at ∙ there)

pub indexed_none : (es : List Entry) (places : List ℕ) → es ≡ [] → length places ≡ 65536 → IsIndexed es places
indexed_none es places is whole =
    record {
      whole = whole;
      found =
          λ p id there. absurd (none_open id (sym (ap (λ l. open_at l p) is) ∙ there));
    }

-- what is left was there
kept_from : (keep : Entry → Bool) (es : List Entry) (q id : ℕ) → open_at (filter keep es) q ≡ Some id
    → (p : ℕ) × (open_at es p ≡ Some id)
kept_from keep [] q id = λ there. (q, there)
kept_from keep (e ∷ es) q id = kept_by keep e es q id (keep e) (λ p. kept_from keep es p id)
  where
    kept_by : (keep : Entry → Bool) (e : Entry) (es : List Entry) (q id : ℕ) (here : Bool)
        → ((p : ℕ) → open_at (filter keep es) p ≡ Some id → (p' : ℕ) × (open_at es p' ≡ Some id))
        → open_at (cond here (e ∷ filter keep es) (filter keep es)) q ≡ Some id
        → (p : ℕ) × (open_at (e ∷ es) p ≡ Some id)
    kept_by keep e es zero id true later there = (zero, there)
    kept_by keep e es (suc q) id true later there = let found = later q there in (suc found.0, found.1)
    kept_by keep e es q id false later there = let found = later q there in (suc found.0, found.1)

first_kept : (keep : Entry → Bool) (e : Entry) (es : List Entry) (q id : ℕ) → IsOpenOnce (e ∷ es)
    → open_in e.1 ≡ Some id → open_at (filter keep es) q ≡ Some id → ⊥
first_kept keep e es q id once now there =
    let found = kept_from keep es q id there in
    let first : zero ≡ suc found.0 = once zero (suc found.0) id now found.1 in omega arith

tail_once : (e : Entry) (es : List Entry) → IsOpenOnce (e ∷ es) → IsOpenOnce es
tail_once e es once p q id first second =
    let more : suc p ≡ suc q = once (suc p) (suc q) id first second in omega arith

once_by : (keep : Entry → Bool) (e : Entry) (es : List Entry) (here : Bool) → IsOpenOnce (e ∷ es)
    → IsOpenOnce (filter keep es)
    → IsOpenOnce (cond here (e ∷ filter keep es) (filter keep es))
once_by keep e es false all later p q id first second = later p q id first second
once_by keep e es true all later zero zero id first second = refl
once_by keep e es true all later zero (suc q) id first second =
    absurd (first_kept keep e es q id all first second)
once_by keep e es true all later (suc p) zero id first second =
    absurd (first_kept keep e es p id all second first)
once_by keep e es true all later (suc p) (suc q) id first second = ap suc (later p q id first second)

-- fewer are open once
pub once_kept : (keep : Entry → Bool) (es : List Entry) → IsOpenOnce es → IsOpenOnce (filter keep es)
once_kept keep [] all = all
once_kept keep (e ∷ es) all = once_by keep e es (keep e) all (once_kept keep es (tail_once e es all))

-- the places of so many filters are noted
pub record Noted (es : List Entry) (places : List ℕ) (count : ℕ) : Type 0 where
  pub whole : length places ≡ 65536
  pub found : (p id : ℕ) → p < count → open_at es p ≡ Some id → get_or places id 0 ≡ p

pub noted_none : (es : List Entry) (places : List ℕ) → length places ≡ 65536 → Noted es places 0
noted_none es places whole = record { whole = whole; found = λ p id below there. absurd (omega arith) }

pub noted_past : (es : List Entry) (places : List ℕ) (count : ℕ) → open_at es count ≡ None
    → Noted es places count → Noted es places (count + 1)
noted_past es places count absent noted =
    record { whole = noted.whole; found = λ p id below there. past_by p id (p == count) refl below there }
  where
    past_by : (p id : ℕ) (here : Bool) → (p == count) ≡ here → p < count + 1 → open_at es p ≡ Some id
        → get_or places id 0 ≡ p
    past_by p id true is below there =
        let at : p ≡ count = eqb-true p count is in
        absurd (none_open id (sym absent ∙ ap (λ q. open_at es q) (sym at) ∙ there))
    past_by p id false is below there =
        let other : p ≡ count → ⊥ = eqb-false p count is in noted.found p id (omega arith) there

pub noted_more : (es : List Entry) (places : List ℕ) (count id : ℕ) → IsOpenOnce es → id ≤ 65535
    → open_at es count ≡ Some id → Noted es places count → Noted es (set places id count) (count + 1)
noted_more es places count id once small here noted = record {
  whole = length-set places id count ∙ noted.whole;
  found = λ p other below there. more_by p other (p == count) refl below there;
}
  where
    more_by : (p other : ℕ) (at_end : Bool) → (p == count) ≡ at_end → p < count + 1
        → open_at es p ≡ Some other → get_or (set places id count) other 0 ≡ p
    more_by p other true is below there =
        let at : p ≡ count = eqb-true p count is in
        let same : id ≡ other = some_is id other (sym here ∙ ap (λ q. open_at es q) (sym at) ∙ there) in
        rw (← same) (get_or-set_same places id count 0 (omega (arith, noted.whole)) ∙ sym at)
    more_by p other false is below there =
        let unlike : p ≡ count → ⊥ = eqb-false p count is in
        let differs : other ≡ id → ⊥ = λ same. unlike (once p count id (there ∙ ap Some same) here) in
        get_or-set_other places id other count 0 differs ∙ noted.found p other (omega arith) there

past_end : (es : List Entry) (p : ℕ) → length es ≤ p → open_at es p ≡ None
past_end [] p beyond = refl
past_end (e ∷ es) zero beyond = absurd (omega arith)
past_end (e ∷ es) (suc p) beyond = past_end es p (omega arith)

pub noted_all : (es : List Entry) (places : List ℕ) (count : ℕ) → length es ≤ count → Noted es places count
    → IsIndexed es places
noted_all es places count all noted =
    record { whole = noted.whole; found = λ p id there. all_by p id (nat_lt p count) refl there }
  where
    all_by : (p id : ℕ) (below : Bool) → nat_lt p count ≡ below → open_at es p ≡ Some id
        → get_or places id 0 ≡ p
    all_by p id true is there = noted.found p id (ltb-true p count is) there
    all_by p id false is there =
        let above : count ≤ p = ltb-false p count is in
        absurd (none_open id (sym (past_end es p (omega arith)) ∙ there))

-- something open with the packet id is shown
pub any_open : (es : List Entry) (p id : ℕ) → open_at es p ≡ Some id → list_any (is_open id) (shown es) ≡ true
any_open [] p id there = absurd (none_open id there)
any_open ((k, Ended) ∷ es) zero id there = absurd (none_open id there)
any_open ((k, Stands o) ∷ es) zero id there =
    let here : has_id id o.open_id ≡ true = ap (λ o. has_id id o) there ∙ eq-eqb id id refl in
    rw here refl
any_open ((k, Ended) ∷ es) (suc p) id there = any_open es p id there
any_open ((k, Stands o) ∷ es) (suc p) id there =
    let later : list_any (is_open id) (shown es) ≡ true = any_open es p id there in
    elim (has_id id o.open_id) as (λ b. (b || list_any (is_open id) (shown es)) ≡ true)
    [ true ↦ refl | false ↦ later ]

opening_by : (es : List Entry) (places : List ℕ) (place id p other : ℕ) (w : Want) (here : Bool)
    → (p == place) ≡ here → open_in w ≡ Some id → id ≤ 65535
    → list_any (is_open id) (shown es) ≡ false → IsIndexed es places
    → (if here then open_in w else open_at es p) ≡ Some other → get_or (set places id place) other 0 ≡ p
opening_by es places place id p other w true is now small fresh indexed there =
    let at : p ≡ place = eqb-true p place is in
    let same : id ≡ other = some_is id other (sym now ∙ there) in
    rw (← same) (get_or-set_same places id place 0 (omega (arith, indexed.whole)) ∙ sym at)
opening_by es places place id p other w false is now small fresh indexed there =
    let differs : other ≡ id → ⊥ =
    λ same. true≢false (sym (any_open es p id (there ∙ ap Some same)) ∙ fresh) in
    get_or-set_other places id other place 0 differs ∙ indexed.found p other there

-- and one that opens a packet id that is not open
pub indexed_opened : (es : List Entry) (places : List ℕ) (place id : ℕ) (w : Want) → place < length es
    → open_in w ≡ Some id → id ≤ 65535 → list_any (is_open id) (shown es) ≡ false
    → IsIndexed es places → IsIndexed (set_value_at es place w) (set places id place)
indexed_opened es places place id w within now small fresh indexed = record {
  whole = length-set places id place ∙ indexed.whole;
  found =
      λ p other there. opening_by es places place id p other w (p == place) refl now small fresh indexed
      (sym (open_at-set es place w p within) ∙ there);
}

-- one more at the end, with no open packet id
open_more : (es : List Entry) (text : List ℕ) (p : ℕ)
    → open_at (es ++ (text, Stands (record { open_id = None; owed = false })) ∷ []) p ≡ open_at es p
open_more [] text zero = refl
open_more [] text (suc p) = refl
open_more (e ∷ es) text zero = refl
open_more (e ∷ es) text (suc p) = open_more es text p

pub indexed_more : (es : List Entry) (text : List ℕ) (places : List ℕ) → IsIndexed es places
    → IsIndexed (es ++ (text, Stands (record { open_id = None; owed = false })) ∷ []) places
indexed_more es text places indexed =
    indexed_same es (es ++ (text, Stands (record { open_id = None; owed = false })) ∷ []) places (open_more es text) indexed

has_open : (o : Option ℕ) (id : ℕ) → has_id id o ≡ true → o ≡ Some id
has_open None id is = absurd (true≢false (sym is))
has_open (Some used) id is = ap Some (eqb-true used id is)

closed_off : (o : Option ℕ) (id : ℕ) → (o ≡ Some id → ⊥) → has_id id o ≡ false
closed_off o id none = false_from_ne_true (has_id id o) (λ is. none (has_open o id is))

-- the packet id is open nowhere
abbrev pub Nowhere : List Entry → ℕ → Type 0
Nowhere es id = (q : ℕ) → open_at es q ≡ Some id → ⊥

-- and then what it is reopened with changes nothing
pub none_reopened : (es : List Entry) (id : ℕ) (former : Option ℕ) (owes : Bool) → Nowhere es id
    → reopened (shown es) id former owes ≡ shown es
none_reopened [] id former owes none = refl
none_reopened ((k, Ended) ∷ es) id former owes none = none_reopened es id former owes (λ q. none (suc q))
none_reopened ((k, Stands o) ∷ es) id former owes none =
    let unlike : has_id id o.open_id ≡ false = closed_off o.open_id id (λ is. none zero is) in
    rw unlike (ap (λ l. record { filter = k; open_id = o.open_id; owed = o.owed } ∷ l)
    (none_reopened es id former owes (λ q. none (suc q))))

pub none_found : (es : List Entry) (id : ℕ) → Nowhere es id → find (is_open id) (shown es) ≡ None
none_found [] id none = refl
none_found ((k, Ended) ∷ es) id none = none_found es id (λ q. none (suc q))
none_found ((k, Stands o) ∷ es) id none =
    let unlike : has_id id o.open_id ≡ false = closed_off o.open_id id (λ is. none zero is) in
    rw unlike (none_found es id (λ q. none (suc q)))

later_nowhere : (e : Entry) (es : List Entry) (id : ℕ) → Only (e ∷ es) id zero → Nowhere es id
later_nowhere e es id only q there = let none : suc q ≡ zero = only (suc q) there in omega arith

later_only : (e : Entry) (es : List Entry) (p id : ℕ) → Only (e ∷ es) id (suc p) → Only es id p
later_only e es p id only q at = let more : suc q ≡ suc p = only (suc q) at in omega arith

not_first : (k : List ℕ) (o : Stand) (es : List Entry) (p id : ℕ) → Only ((k, Stands o) ∷ es) id (suc p)
    → has_id id o.open_id ≡ false
not_first k o es p id only =
    closed_off o.open_id id (λ is. let first : zero ≡ suc p = only zero is in omega arith)

-- the filter at the place is reopened, and no other
pub at_reopened : (es : List Entry) (p id : ℕ) (former : Option ℕ) (owes : Bool) → open_at es p ≡ Some id
    → Only es id p
    → shown (set_value_at es p (Stands (record { open_id = former; owed = owes || owed_at es p })))
    ≡ reopened (shown es) id former owes
at_reopened [] p id former owes there only = absurd (none_open id there)
at_reopened ((k, Ended) ∷ es) zero id former owes there only = absurd (none_open id there)
at_reopened ((k, Stands o) ∷ es) zero id former owes there only =
    let here : has_id id o.open_id ≡ true = ap (λ o. has_id id o) there ∙ eq-eqb id id refl in
    rw here (ap (λ l. record { filter = k; open_id = former; owed = owes || o.owed } ∷ l)
    (sym (none_reopened es id former owes (later_nowhere (k, Stands o) es id only))))
at_reopened ((k, Ended) ∷ es) (suc p) id former owes there only =
    at_reopened es p id former owes there (later_only (k, Ended) es p id only)
at_reopened ((k, Stands o) ∷ es) (suc p) id former owes there only =
    let unlike : has_id id o.open_id ≡ false = not_first k o es p id only in
    rw unlike (ap (λ l. record { filter = k; open_id = o.open_id; owed = o.owed } ∷ l)
    (at_reopened es p id former owes there (later_only (k, Stands o) es p id only)))

-- and it is the one that is found
pub at_found : (es : List Entry) (p id : ℕ) (e : Entry) → slice_get es p ≡ Some e → open_at es p ≡ Some id
    → Only es id p
    → option_map (λ (w : Wanted). w.filter) (find (is_open id) (shown es)) ≡ Some e.0
at_found [] p id e is there only = absurd (none_open id there)
at_found ((k, Ended) ∷ es) zero id e is there only = absurd (none_open id there)
at_found ((k, Stands o) ∷ es) zero id e is there only =
    let here : has_id id o.open_id ≡ true = ap (λ o. has_id id o) there ∙ eq-eqb id id refl in
    rw here (ap (λ (x : Option Entry). option_map (λ (e : Entry). e.0) x) is)
at_found ((k, Ended) ∷ es) (suc p) id e is there only =
    at_found es p id e is there (later_only (k, Ended) es p id only)
at_found ((k, Stands o) ∷ es) (suc p) id e is there only =
    let unlike : has_id id o.open_id ≡ false = not_first k o es p id only in
    rw unlike (at_found es p id e is there (later_only (k, Stands o) es p id only))

-- where a packet id is open something stands
pub open_stands : (es : List Entry) (p id : ℕ) → open_at es p ≡ Some id
    → (s : Stand) × (want_of es p ≡ Some (Stands s)) × (s.open_id ≡ Some id)
open_stands [] p id there = absurd (none_open id there)
open_stands ((k, Ended) ∷ es) zero id there = absurd (none_open id there)
open_stands ((k, Stands o) ∷ es) zero id there = (o, refl, there)
open_stands (e ∷ es) (suc p) id there = open_stands es p id there

pub stands_open : (es : List Entry) (p : ℕ) (s : Stand) → want_of es p ≡ Some (Stands s)
    → open_at es p ≡ s.open_id
stands_open [] p s is = absurd (cc)
stands_open ((k, Ended) ∷ es) zero s is = absurd (cc)
stands_open ((k, Stands o) ∷ es) zero s is = ap (λ (x : Stand). x.open_id) (same_stand o s is)
  where
    same_stand : (o s : Stand) → Some (Stands o) ≡ Some (Stands s) → o ≡ s
    same_stand o s is = cc
stands_open (e ∷ es) (suc p) s is = stands_open es p s is

pub open_within : (es : List Entry) (p id : ℕ) → open_at es p ≡ Some id → p < length es
open_within [] p id there = absurd (none_open id there)
open_within (e ∷ es) zero id there = omega arith
open_within (e ∷ es) (suc p) id there = let later = open_within es p id there in omega arith

pub stands_within : (es : List Entry) (p : ℕ) (w : Want) → want_of es p ≡ Some w → p < length es
stands_within [] p w there = absurd (cc)
stands_within (e ∷ es) zero w there = omega arith
stands_within (e ∷ es) (suc p) w there = let later = stands_within es p w there in omega arith

pub same_length : (es : List Entry) (p : ℕ) (w : Want) → length (set_value_at es p w) ≡ length es
same_length [] p w = refl
same_length (e ∷ es) zero w = refl
same_length (e ∷ es) (suc p) w = ap suc (same_length es p w)
