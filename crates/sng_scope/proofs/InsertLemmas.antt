-- Entries in the order of their keys: two that go in, in either order, and one that goes last.
use Rattle.std.proofs.Common.{◌≡◌, List, [], ◌∷◌, ◌++◌, Ordering, Less, Equal, Greater, refl, sym, ap, ◌∙◌}
use Rattle.std.specs.BTreeMap.{insert_entry}
use Rattle.std.specs.Cmp.{IsTotalOrder}
use Rattle.std.specs.Ordering.{ordering_reverse}

-- the key is above those of the entries
abbrev pub Above : {K X : Type 0} → (K → K → Ordering) → K → List (K × X) → Type 0
Above R k [] = Unit {0}
Above R k (e ∷ es) = (R k e.0 ≡ Greater) × Above R k es

module _ {K X : Type 0} (R : K → K → Ordering) where
  goes_before : (e : K × X) (es : List (K × X)) (k : K) (v : X) → R k e.0 ≡ Less
      → insert_entry R (e ∷ es) k v ≡ (k, v) ∷ e ∷ es
  goes_before e es k v is = rw is refl

  goes_there : (e : K × X) (es : List (K × X)) (k : K) (v : X) → R k e.0 ≡ Equal
      → insert_entry R (e ∷ es) k v ≡ (e.0, v) ∷ es
  goes_there e es k v is = rw is refl

  goes_behind : (e : K × X) (es : List (K × X)) (k : K) (v : X) → R k e.0 ≡ Greater
      → insert_entry R (e ∷ es) k v ≡ e ∷ insert_entry R es k v
  goes_behind e es k v is = rw is refl

  -- above all that are there
  pub goes_last : (es : List (K × X)) (k : K) (v : X) → Above R k es
      → insert_entry R es k v ≡ es ++ (k, v) ∷ []
  goes_last [] k v above = refl
  goes_last (e ∷ es) k v above = goes_behind e es k v above.0 ∙ ap (λ l. e ∷ l) (goes_last es k v above.1)

module _ {K : Type 0} (R : K → K → Ordering) (total : IsTotalOrder R) where
  pub above_from : (a b : K) → R a b ≡ Less → R b a ≡ Greater
  above_from a b below = total.antisymm b a ∙ ap ordering_reverse below

  pub below_from : (a b : K) → R a b ≡ Greater → R b a ≡ Less
  below_from a b above = total.antisymm b a ∙ ap ordering_reverse above

module _ {K X : Type 0} (R : K → K → Ordering) (total : IsTotalOrder R) where
  -- what goes before the first, goes before one that was put behind it
  first_before : (o : Ordering) (e : K × X) (es : List (K × X)) (a b : K) (x y : X) → R b e.0 ≡ o
      → R a b ≡ Less → R a e.0 ≡ Less
      → insert_entry R (insert_entry R (e ∷ es) b y) a x ≡ (a, x) ∷ insert_entry R (e ∷ es) b y
  first_before Less e es a b x y is below first =
      let put = goes_before R e es b y is in
      ap (λ l. insert_entry R l a x) put ∙ goes_before R (b, y) (e ∷ es) a x below
      ∙ sym (ap (λ l. (a, x) ∷ l) put)
  first_before Equal e es a b x y is below first =
      let put = goes_there R e es b y is in
      ap (λ l. insert_entry R l a x) put ∙ goes_before R (e.0, y) es a x first
      ∙ sym (ap (λ l. (a, x) ∷ l) put)
  first_before Greater e es a b x y is below first =
      let put = goes_behind R e es b y is in
      ap (λ l. insert_entry R l a x) put ∙ goes_before R e (insert_entry R es b y) a x first
      ∙ sym (ap (λ l. (a, x) ∷ l) put)

  swaps-cons : (o : Ordering) (e : K × X) (es : List (K × X)) (a b : K) (x y : X) → R a e.0 ≡ o
      → R a b ≡ Less
      → insert_entry R (insert_entry R es a x) b y ≡ insert_entry R (insert_entry R es b y) a x
      → insert_entry R (insert_entry R (e ∷ es) a x) b y ≡ insert_entry R (insert_entry R (e ∷ es) b y) a x
  swaps-cons Less e es a b x y is below later =
      ap (λ l. insert_entry R l b y) (goes_before R e es a x is)
      ∙ goes_behind R (a, x) (e ∷ es) b y (above_from R total a b below)
      ∙ sym (first_before (R b e.0) e es a b x y refl below is)
  swaps-cons Equal e es a b x y is below later =
      let above : R b e.0 ≡ Greater = above_from R total e.0 b (sym (total.congr a e.0 b is) ∙ below) in
      ap (λ l. insert_entry R l b y) (goes_there R e es a x is)
      ∙ goes_behind R (e.0, x) es b y above
      ∙ sym (goes_there R e (insert_entry R es b y) a x is)
      ∙ sym (ap (λ l. insert_entry R l a x) (goes_behind R e es b y above))
  swaps-cons Greater e es a b x y is below later =
      let first : R e.0 a ≡ Less = below_from R total a e.0 is in
      let above : R b e.0 ≡ Greater = above_from R total e.0 b (total.trans e.0 a b first below) in
      ap (λ l. insert_entry R l b y) (goes_behind R e es a x is)
      ∙ goes_behind R e (insert_entry R es a x) b y above
      ∙ ap (λ l. e ∷ l) later
      ∙ sym (goes_behind R e (insert_entry R es b y) a x is)
      ∙ sym (ap (λ l. insert_entry R l a x) (goes_behind R e es b y above))

  -- two that go in, in either order
  pub swaps : (es : List (K × X)) (a b : K) (x y : X) → R a b ≡ Less
      → insert_entry R (insert_entry R es a x) b y ≡ insert_entry R (insert_entry R es b y) a x
  swaps [] a b x y below =
      goes_behind R (a, x) [] b y (above_from R total a b below) ∙ sym (goes_before R (b, y) [] a x below)
  swaps (e ∷ es) a b x y below = swaps-cons (R a e.0) e es a b x y refl below (swaps es a b x y below)
