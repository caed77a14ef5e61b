-- Entries in the order of their keys, in a table that finds keys by hash: it has an entry in the place where
-- `insert_entry` by the order puts it.
use Rattle.std.proofs.Common.{◌≡◌, ◌+◌, ◌<◌, ◌≤◌, ℕ, zero, suc, Bool, true, false, List, [], ◌∷◌}
use Rattle.std.proofs.Common.{length, get_or, insert, filter, cond, if◌then◌else◌, None, Some, Result}
use Rattle.std.proofs.Common.{Ok, Err, ⊎_elim}
use Rattle.std.proofs.Common.{refl, sym, ap, ◌∙◌, arith}
use Rattle.std.proofs.lemmas.Bool.{cases_lt}
use Rattle.std.proofs.lemmas.List.{length-map}
use Rattle.std.proofs.lemmas.List.Sorted.{searchable_from_sorted}
use Rattle.std.proofs.lemmas.List.Sums.{position_or_len_is}
use Rattle.std.specs.BTreeMap.{insert_entry}
use Rattle.std.specs.Cmp.{IsTotalOrder, alike_right}
use Rattle.std.specs.List.{AllByRecursion, position_or_len, slice_get}
use Rattle.std.specs.List.Sorted.{IsStrictlySortedBy, IsNonDecreasingBy, IsPartitionPoint}
use Rattle.std.specs.Map.{keys_of, lookup}
use Rattle.std.specs.Result.{OnOk, OnErr}
use Rattle.std.specs.Ordering.{is_eq, is_lt, match_ordering, ordering_index, ordering_reverse}
use Rattle.std.specs.declared.cmp.Ordering.{Ordering}
use Rattle.std.specs.declared.cmp.Ordering.TheVariants.{Less, Equal, Greater}
use Rattle.indexmap.specs.IndexMap.{move_index, insert_entry as hashed_entry}
use Rattle.indexmap.proofs.MoveLemmas.{push_moved}
use Rattle.indexmap.proofs.SortedLemmas.{absent_pushes}

-- a look-up by a test that answers the same
pub lookup-same : {K V : Type 0} (one other : K → Bool) → ((k : K) → one k ≡ other k)
    → (es : List (K × V)) → lookup one es ≡ lookup other es
lookup-same one other same [] = refl
lookup-same one other same (e ∷ es) =
    λ i. cond (same e.0 i) (Some e.1) (lookup-same one other same es i)

-- a list of one entry at most is looked up by a comparison with that
pub lookup-one : {K V : Type 0} (test : K → Bool) (es : List (K × V)) (one : K × V) → length es ≤ 1
    → slice_get es 0 ≡ Some one → lookup test es ≡ cond (test one.0) (Some one.1) None
lookup-one test [] one few at = cc
lookup-one test (e ∷ []) one few at =
    let same : e ≡ one = cc in ap (λ e. cond (test e.0) (Some e.1) None) same
lookup-one test (e ∷ f ∷ es) one few at = absurd (omega (arith, few))

-- ---- what a filter leaves

module _ {K V : Type 0} (p : K × V → Bool) where
  all-step : (P : K → Type 0) (b : Bool) (e : K × V) (es : List (K × V)) → P e.0
      → AllByRecursion P (keys_of es) → AllByRecursion P (keys_of (cond b (e ∷ es) es))
  all-step P true e es first rest = (first, rest)
  all-step P false e es first rest = rest

  all-filter : (P : K → Type 0) (es : List (K × V)) → AllByRecursion P (keys_of es)
      → AllByRecursion P (keys_of (filter p es))
  all-filter P [] all = tt
  all-filter P (e ∷ es) all = all-step P (p e) e (filter p es) all.0 (all-filter P es all.1)

  sorted-step : (cmp : K → K → Ordering) (b : Bool) (e : K × V) (es : List (K × V))
      → AllByRecursion (λ k. cmp e.0 k ≡ Less) (keys_of es) → IsStrictlySortedBy cmp (keys_of es)
      → IsStrictlySortedBy cmp (keys_of (cond b (e ∷ es) es))
  unfolding IsStrictlySortedBy
  sorted-step cmp true e es below rest = (below, rest)
  sorted-step cmp false e es below rest = rest

  -- the order stays
  sorted-filter : (cmp : K → K → Ordering) (es : List (K × V)) → IsStrictlySortedBy cmp (keys_of es)
      → IsStrictlySortedBy cmp (keys_of (filter p es))
  unfolding IsStrictlySortedBy
  sorted-filter cmp [] sorted = tt
  sorted-filter cmp (e ∷ es) sorted =
      sorted-step cmp (p e) e (filter p es) (all-filter (λ k. cmp e.0 k ≡ Less) es sorted.0)
      (sorted-filter cmp es sorted.1)

  shorter-step : (b : Bool) (e : K × V) (es : List (K × V)) (most : ℕ) → length es ≤ most
      → length (cond b (e ∷ es) es) ≤ most + 1
  shorter-step true e es most few = omega (arith, few)
  shorter-step false e es most few = omega (arith, few)

  -- and no more is listed
  length-filter : (es : List (K × V)) → length (filter p es) ≤ length es
  length-filter [] = omega arith
  length-filter (e ∷ es) =
      let few = shorter-step (p e) e (filter p es) (length es) (length-filter es) in
      omega (arith, few)

  -- so what was listed in order still is
  pub kept-filter : (cmp : K → K → Ordering) (most : ℕ) (before after : List (K × V))
      → after ≡ filter p before → (length before ≤ most) × IsStrictlySortedBy cmp (keys_of before)
      → (length after ≤ most) × IsStrictlySortedBy cmp (keys_of after)
  kept-filter cmp most before after is kept = (
    omega (arith, length-filter before, ap length is, kept.0),
    rw is (sorted-filter cmp before kept.1),
  )

-- no key is in order
pub sorted-none : {K : Type 0} (cmp : K → K → Ordering) → IsStrictlySortedBy cmp []
unfolding IsStrictlySortedBy
sorted-none cmp = tt

-- one key is
pub sorted-one : {K : Type 0} (cmp : K → K → Ordering) (key : K) → IsStrictlySortedBy cmp (key ∷ [])
unfolding IsStrictlySortedBy
sorted-one cmp key = (tt, tt)

-- ---- a list of keys

module _ {K : Type 0} (cmp : K → K → Ordering) (o : IsTotalOrder cmp) where
  -- the other way round
  turned : (x y : K) (r : Ordering) → cmp y x ≡ r → cmp x y ≡ ordering_reverse r
  turned x y r is = o.antisymm x y ∙ ap ordering_reverse is

  below_at : (x : K) (ys : List K) (i : ℕ) (d : K) → i < length ys
      → AllByRecursion (λ y. cmp x y ≡ Less) ys → cmp x (get_or ys i d) ≡ Less
  below_at x [] i d lt all = absurd (omega (arith, lt))
  below_at x (y ∷ ys) zero d lt all = all.0
  below_at x (y ∷ ys) (suc i) d lt all = below_at x ys i d (omega (arith, lt)) all.1

  rising : (ks : List K) (i j : ℕ) (d : K) → i < j → j < length ks → IsStrictlySortedBy cmp ks
      → is_lt (cmp (get_or ks j d) (get_or ks i d)) ≡ false
  unfolding IsStrictlySortedBy
  rising [] i j d before within sorted = absurd (omega (arith, within))
  rising (k ∷ ks) i zero d before within sorted = absurd (omega (arith, before))
  rising (k ∷ ks) zero (suc j) d before within sorted =
      ap is_lt (turned (get_or ks j d) k Less (below_at k ks j d (omega (arith, within)) sorted.0))
  rising (k ∷ ks) (suc i) (suc j) d before within sorted =
      rising ks i j d (omega (arith, before)) (omega (arith, within)) sorted.1

  -- a binary search may be made
  pub searchable : (ks : List K) (key : K) → IsStrictlySortedBy cmp ks
      → IsNonDecreasingBy (λ k. ordering_index (cmp k key)) ks
  searchable ks key sorted =
      searchable_from_sorted o (λ k. k) ks key
      (λ j d from within. rising ks j (j + 1) d (omega arith) within sorted)

  below_more : (x y : K) (ks : List K) → cmp x y ≡ Less → AllByRecursion (λ k. cmp y k ≡ Less) ks
      → AllByRecursion (λ k. cmp x k ≡ Less) ks
  below_more x y [] first all = tt
  below_more x y (k ∷ ks) first all = (o.trans x y k first all.0, below_more x y ks first all.1)

  -- one more key below those that are in order
  pub sorted-more : (x y : K) (ks : List K) → cmp x y ≡ Less → IsStrictlySortedBy cmp (y ∷ ks)
      → IsStrictlySortedBy cmp (x ∷ y ∷ ks)
  unfolding IsStrictlySortedBy
  sorted-more x y ks first sorted = ((first, below_more x y ks first sorted.0), sorted)

-- ---- a key with its value

module _ {K V : Type 0} (cmp : K → K → Ordering) (o : IsTotalOrder cmp) (key : K) (value : V) where
  -- the list after the first entry was compared
  abbrev after : Ordering → K × V → List (K × V) → List (K × V) → List (K × V)
  after r e es more = match_ordering r ((key, value) ∷ e ∷ es) ((e.0, value) ∷ es) (e ∷ more)

  inserted : (e : K × V) (es : List (K × V)) (r : Ordering) → cmp key e.0 ≡ r
      → insert_entry cmp (e ∷ es) key value ≡ after r e es (insert_entry cmp es key value)
  inserted e es r is = ap (λ a. after a e es (insert_entry cmp es key value)) is

  length-after : (r : Ordering) (e : K × V) (es more : List (K × V)) → length more ≤ length es + 1
      → length (after r e es more) ≤ length es + 2
  length-after Less e es more few = omega arith
  length-after Equal e es more few = omega arith
  length-after Greater e es more few = omega (arith, few)

  -- at most one more is listed
  pub length-inserted : (es : List (K × V)) → length (insert_entry cmp es key value) ≤ length es + 1
  length-inserted [] = omega arith
  length-inserted (e ∷ es) =
      let few = length-after (cmp key e.0) e es (insert_entry cmp es key value) (length-inserted es) in
      omega (arith, few)

  all-after : (P : K → Type 0) (r : Ordering) (e : K × V) (es more : List (K × V)) → P key → P e.0
      → AllByRecursion P (keys_of es) → AllByRecursion P (keys_of more)
      → AllByRecursion P (keys_of (after r e es more))
  all-after P Less e es more new first rest later = (new, (first, rest))
  all-after P Equal e es more new first rest later = (first, rest)
  all-after P Greater e es more new first rest later = (first, later)

  all-inserted : (P : K → Type 0) (es : List (K × V)) → P key → AllByRecursion P (keys_of es)
      → AllByRecursion P (keys_of (insert_entry cmp es key value))
  all-inserted P [] new all = (new, tt)
  all-inserted P (e ∷ es) new all =
      all-after P (cmp key e.0) e es (insert_entry cmp es key value) new all.0 all.1
      (all-inserted P es new all.1)

  sorted-after : (r : Ordering) (e : K × V) (es : List (K × V)) → cmp key e.0 ≡ r
      → IsStrictlySortedBy cmp (keys_of (e ∷ es))
      → IsStrictlySortedBy cmp (keys_of (insert_entry cmp es key value))
      → IsStrictlySortedBy cmp (keys_of (after r e es (insert_entry cmp es key value)))
  unfolding IsStrictlySortedBy
  sorted-after Less e es is sorted more = sorted-more cmp o key e.0 (keys_of es) is sorted
  sorted-after Equal e es is sorted more = sorted
  sorted-after Greater e es is sorted more =
      (all-inserted (λ k. cmp e.0 k ≡ Less) es (turned cmp o e.0 key Greater is) sorted.0, more)

  -- the order stays
  pub sorted-inserted : (es : List (K × V)) → IsStrictlySortedBy cmp (keys_of es)
      → IsStrictlySortedBy cmp (keys_of (insert_entry cmp es key value))
  unfolding IsStrictlySortedBy
  sorted-inserted [] sorted = (tt, tt)
  sorted-inserted (e ∷ es) sorted =
      sorted-after (cmp key e.0) e es refl sorted (sorted-inserted es sorted.1)

  -- what holds after it was listed, and where memory failed
  pub sorted-put : {A E : Type 0} (r : Result A E) (old new : List (K × V))
      → OnOk r (new ≡ insert_entry cmp old key value) → OnErr r (new ≡ old)
      → IsStrictlySortedBy cmp (keys_of old) → IsStrictlySortedBy cmp (keys_of new)
  sorted-put (Ok a) old new ok err sorted = rw ok (sorted-inserted old sorted)
  sorted-put (Err e) old new ok err sorted = rw err sorted

  pub length-put : {A E : Type 0} (r : Result A E) (old new : List (K × V))
      → OnOk r (new ≡ insert_entry cmp old key value) → OnErr r (new ≡ old)
      → length new ≤ length old + 1
  length-put (Ok a) old new ok err = rw ok (length-inserted old)
  length-put (Err e) old new ok err = rw err (omega arith)

  pub length-ok : {A E : Type 0} (r : Result A E) (old new was : List (K × V)) → old ≡ was
      → OnOk r (new ≡ insert_entry cmp old key value) → OnErr r (new ≡ old)
      → OnOk r (length new ≤ length was + 1)
  length-ok (Ok a) old new was same ok err = omega (arith, length-inserted old, ap length ok, ap length same)
  length-ok (Err e) old new was same ok err = tt

  -- between the keys below it and those above it
  inserted_between : (es : List (K × V)) (i : ℕ) → i ≤ length es
      → IsPartitionPoint (λ k. cmp k key ≡ Less) (λ k. cmp k key ≡ Greater) (keys_of es) i
      → insert_entry cmp es key value ≡ insert es i (key, value)
  inserted_between [] zero le at = refl
  inserted_between [] (suc i) le at = absurd (omega (arith, le))
  inserted_between (e ∷ es) zero le at =
      inserted e es Less (turned cmp o key e.0 Greater (at.1 0 key (omega arith) (omega arith)))
  inserted_between (e ∷ es) (suc i) le at =
      inserted e es Greater (turned cmp o key e.0 Less (at.0 0 key (omega arith) (omega arith)))
      ∙ ap (λ rest. e ∷ rest) (inserted_between es i (omega (arith, le)) (
        λ k d low high. at.0 (suc k) d (omega arith) (omega (arith, high)),
        λ k d low high. at.1 (suc k) d (omega (arith, low)) (omega (arith, high)),
      ))

  module _ (eq : K → K → Bool) (ties : (x y : K) → eq x y ≡ is_eq (cmp x y)) where
    hashed : (e : K × V) (es : List (K × V)) (r : Ordering) → cmp key e.0 ≡ r
        → hashed_entry eq (e ∷ es) key value
        ≡ (if is_eq r then (e.0, value) ∷ es else e ∷ hashed_entry eq es key value)
    hashed e es r is =
        ap (λ b. if b then (e.0, value) ∷ es else e ∷ hashed_entry eq es key value)
        (ties key e.0 ∙ ap is_eq is)

    -- a key that is there keeps its place
    pub replaced : (es : List (K × V)) (i : ℕ) → IsStrictlySortedBy cmp (keys_of es)
        → i < length es → ((d : K) → cmp (get_or (keys_of es) i d) key ≡ Equal)
        → hashed_entry eq es key value ≡ insert_entry cmp es key value
    unfolding IsStrictlySortedBy
    replaced [] i sorted lt at = absurd (omega (arith, lt))
    replaced (e ∷ es) zero sorted lt at =
        let same : cmp key e.0 ≡ Equal = turned cmp o key e.0 Equal (at key) in
        hashed e es Equal same ∙ sym (inserted e es Equal same)
    replaced (e ∷ es) (suc i) sorted lt at =
        let there : cmp (get_or (keys_of es) i key) key ≡ Equal = at key in
        let below : cmp e.0 key ≡ Less =
        sym (alike_right o (get_or (keys_of es) i key) key e.0 there)
        ∙ below_at cmp o e.0 (keys_of es) i key (omega (arith, lt, length-map es (λ e. e.0)))
        sorted.0 in
        let above : cmp key e.0 ≡ Greater = turned cmp o key e.0 Less below in
        hashed e es Greater above
        ∙ ap (λ rest. e ∷ rest) (replaced es i sorted.1 (omega (arith, lt)) at)
        ∙ sym (inserted e es Greater above)

    module _ (es : List (K × V)) (place : ℕ) (within : place ≤ length es)
        (at : IsPartitionPoint (λ k. cmp k key ≡ Less) (λ k. cmp k key ≡ Greater) (keys_of es) place) where
      -- a key between those below it and those above it is no key of the list
      unlike : (j : ℕ) (d : K) → j < length (keys_of es) → eq key (get_or (keys_of es) j d) ≡ false
      unlike j d lt =
          ⊎_elim
          (λ before. ties key (get_or (keys_of es) j d)
          ∙ ap is_eq (turned cmp o key (get_or (keys_of es) j d) Less (at.0 j d (omega arith) before)))
          (λ from. ties key (get_or (keys_of es) j d)
          ∙ ap is_eq (turned cmp o key (get_or (keys_of es) j d) Greater (at.1 j d from lt)))
          (cases_lt j place)

      -- and is put there from the end
      pub shifted : move_index (hashed_entry eq es key value) (position_or_len (eq key) (keys_of es)) place
          ≡ insert_entry cmp es key value
      shifted =
          let long : length (keys_of es) ≡ length es = length-map es (λ e. e.0) in
          let last : position_or_len (eq key) (keys_of es) ≡ length es =
          position_or_len_is (eq key) (keys_of es) (length es) key (omega (arith, long))
          (λ k lt. unlike k key (omega (arith, lt, long)))
          (λ inside. absurd (omega (arith, inside, long))) in
          let pushed = absent_pushes eq key value es (λ j d lt. unlike j d (omega (arith, lt, long))) in
          rw (pushed, last) (push_moved es (key, value) place within)
          ∙ sym (inserted_between es place within at)

    absent : (es : List (K × V))
        → ((j : ℕ) (d : K) → j < length (keys_of es) → eq key (get_or (keys_of es) j d) ≡ false)
        → lookup (eq key) es ≡ None
    absent [] none = refl
    absent (e ∷ es) none =
        rw (none 0 key (omega arith)) (absent es (λ j d lt. none (suc j) d (omega (arith, lt))))

    -- it is not found
    pub absent_between : (es : List (K × V)) (place : ℕ) → place ≤ length es
        → IsPartitionPoint (λ k. cmp k key ≡ Less) (λ k. cmp k key ≡ Greater) (keys_of es) place
        → lookup (eq key) es ≡ None
    absent_between es place within at = absent es (unlike es place within at)
