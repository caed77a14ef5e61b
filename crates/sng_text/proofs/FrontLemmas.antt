-- The first sixteen bytes of a text as one number: where it is not the same, it decides the order of two texts.
use Rattle.std.proofs.Common.{◌≡◌, ◌≢◌, ℕ, zero, suc, ◌+◌, ◌-◌, ◌*◌, ◌<◌, ◌≤◌, List, [], ◌∷◌, ◌++◌, All}
use Rattle.std.proofs.Common.{length, take, drop, get_or, replicate, get_or-drop, refl, sym, ap, ◌∙◌, arith}
use Rattle.std.proofs.lemmas.List.{get_or-append_right}
use Rattle.std.specs.declared.cmp.Ordering.{Ordering}
use Rattle.std.specs.declared.cmp.Ordering.TheVariants.{Less, Equal, Greater}
use Rattle.std.specs.Cmp.{ranked, nat_cmp_is}
use Rattle.std.specs.Cmp.Lexicographic.{slice_cmp}
use Rattle.std.specs.Int.{sum_through, byte_worth}
use Rattle.std.specs.Ordering.{nat_cmp, ordering_then, MatchOrdering}
use Rattle.sng_text.specs.Kept.{front_of}

-- ---- zeros behind a text

pub zeros : (n k : ℕ) → get_or {A = ℕ} (replicate n 0) k 0 ≡ 0
zeros zero k = refl
zeros (suc n) zero = refl
zeros (suc n) (suc k) = zeros n k

-- a text that is written over zeros has zeros behind it
pub zeros_behind : (text : List ℕ) (n k : ℕ) → length text ≤ k
    → get_or (text ++ drop (length text) (replicate n 0)) k 0 ≡ 0
zeros_behind text n k l =
    get_or-append_right text (drop (length text) (replicate n 0)) (length text) k 0 refl l
    ∙ get_or-drop (length text) (replicate n 0) (k - length text) 0
    ∙ zeros n (length text + (k - length text))

-- past its end a text reads as zeros too
as_taken : (n : ℕ) (bytes : List ℕ) → ((k : ℕ) → n ≤ k → get_or bytes k 0 ≡ 0)
    → (k : ℕ) → get_or bytes k 0 ≡ get_or (take n bytes) k 0
as_taken zero bytes z k = z k (omega arith)
as_taken (suc n) [] z k = refl
as_taken (suc n) (b ∷ bytes) z zero = refl
as_taken (suc n) (b ∷ bytes) z (suc k) = as_taken n bytes (λ j l. z (suc j) (omega arith)) k

pub front_of-take : (n : ℕ) (bytes : List ℕ) → ((k : ℕ) → n ≤ k → get_or bytes k 0 ≡ 0)
    → front_of bytes ≡ front_of (take n bytes)
unfolding front_of
front_of-take n bytes z =
    let same = as_taken n bytes z in
    λ i. sum_through (λ k. byte_worth (15 - k) (same k i)) 15

-- ---- digits

-- the number with the digits a, f 0, f 1 and so on, n of them behind a, the first one high
spelt : ℕ → ℕ → (ℕ → ℕ) → ℕ
spelt zero a f = a
spelt (suc n) a f = spelt n (a * 256 + f 0) (λ k. f (suc k))

-- n digits that are the bytes of a text, with zeros behind it
spelt_by : ℕ → ℕ → List ℕ → ℕ
spelt_by n a bytes = spelt n a (λ k. get_or bytes k 0)

front_of-spelt : (bytes : List ℕ) → front_of bytes ≡ spelt_by 16 0 bytes
unfolding front_of spelt spelt_by
front_of-spelt bytes = omega arith

Small : (ℕ → ℕ) → Type 0
Small f = (k : ℕ) → f k < 256

small : (bytes : List ℕ) → All (λ b. b < 256) bytes → Small (λ k. get_or bytes k 0)
unfolding Small
small [] h k = omega arith
small (b ∷ bytes) h zero = h 0 0 (omega arith)
small (b ∷ bytes) h (suc k) = small bytes (λ j d l. h (suc j) d (omega arith)) k

-- a higher digit outweighs those behind it
rises : (n a b : ℕ) (f g : ℕ → ℕ) → Small f → a < b → spelt n a f < spelt n b g
unfolding spelt Small
rises zero a b f g h l = l
rises (suc n) a b f g h l =
    let high = h 0 in
    rises n (a * 256 + f 0) (b * 256 + g 0) (λ k. f (suc k)) (λ k. g (suc k)) (λ k. h (suc k)) (omega arith)

-- zeros spell the least
lowest : (n a b : ℕ) (g : ℕ → ℕ) → a ≤ b → spelt n a (λ k. 0) ≤ spelt n b g
unfolding spelt
lowest zero a b g l = l
lowest (suc n) a b g l = lowest n (a * 256 + 0) (b * 256 + g 0) (λ k. g (suc k)) (omega arith)

below : {a b : ℕ} → a < b → Less ≡ nat_cmp a b
below {a} {b} l = nat_cmp_is a b Less l

above : {a b : ℕ} → b < a → Greater ≡ nat_cmp a b
above {a} {b} l = nat_cmp_is a b Greater l

strict : {a b : ℕ} → a ≤ b → a ≢ b → a < b
strict {a} {b} l ne = by (nat_cmp a b) (ranked a b (nat_cmp a b) refl)
  where
    by : (r : Ordering) → MatchOrdering r (a < b) (a ≡ b) (b < a) → a < b
    by Less h = h
    by Equal h = absurd (ne h)
    by Greater h = let g : b < a = h in omega arith

-- two texts behind a first byte each
heads : (n a b x y : ℕ) (xs ys : List ℕ) → Small (λ k. get_or xs k 0) → Small (λ k. get_or ys k 0) → a ≡ b
    → (r : Ordering) → MatchOrdering r (x < y) (x ≡ y) (y < x)
    → (a * 256 + x ≡ b * 256 + y
    → slice_cmp nat_cmp xs ys ≡ nat_cmp (spelt_by n (a * 256 + x) xs) (spelt_by n (b * 256 + y) ys))
    → ordering_then r (slice_cmp nat_cmp xs ys)
    ≡ nat_cmp (spelt_by n (a * 256 + x) xs) (spelt_by n (b * 256 + y) ys)
unfolding spelt_by
heads n a b x y xs ys p q e Less h rest =
    let l : x < y = h in
    below (rises n (a * 256 + x) (b * 256 + y) _ (λ k. get_or ys k 0) p (omega arith))
heads n a b x y xs ys p q e Equal h rest =
    let l : x ≡ y = h in
    rest (omega arith)
heads n a b x y xs ys p q e Greater h rest =
    let l : y < x = h in
    above (rises n (b * 256 + y) (a * 256 + x) _ (λ k. get_or xs k 0) q (omega arith))

decides : (n a b : ℕ) (xs ys : List ℕ) → Small (λ k. get_or xs k 0) → Small (λ k. get_or ys k 0) → a ≡ b
    → spelt_by n a xs ≢ spelt_by n b ys
    → slice_cmp nat_cmp xs ys ≡ nat_cmp (spelt_by n a xs) (spelt_by n b ys)
unfolding spelt spelt_by Small
decides zero a b xs ys p q e ne = absurd (ne e)
decides (suc n) a b [] [] p q e ne = absurd (ne (ap (λ (c : ℕ). spelt (suc n) c (λ k. 0)) e))
decides (suc n) a b [] (y ∷ ys) p q e ne =
    below (strict (lowest (suc n) a b (λ k. get_or (y ∷ ys) k 0) (omega arith)) ne)
decides (suc n) a b (x ∷ xs) [] p q e ne =
    above (strict (lowest (suc n) b a (λ k. get_or (x ∷ xs) k 0) (omega arith)) (λ f. ne (sym f)))
decides (suc n) a b (x ∷ xs) (y ∷ ys) p q e ne =
    let p' = λ (k : ℕ). p (suc k) in
    let q' = λ (k : ℕ). q (suc k) in
    heads n a b x y xs ys p' q' e (nat_cmp x y) (ranked x y (nat_cmp x y) refl)
    (λ f. decides n (a * 256 + x) (b * 256 + y) xs ys p' q' f ne)

pub front_decides : (xs ys : List ℕ) (x y : ℕ) → All (λ b. b < 256) xs → All (λ b. b < 256) ys
    → x ≡ front_of xs → y ≡ front_of ys → x ≢ y → nat_cmp x y ≡ slice_cmp nat_cmp xs ys
front_decides xs ys x y p q f g ne =
    let of_x = f ∙ front_of-spelt xs in
    let of_y = g ∙ front_of-spelt ys in
    let apart = λ (e : spelt_by 16 0 xs ≡ spelt_by 16 0 ys). ne (of_x ∙ e ∙ sym of_y) in
    rw (of_x, of_y) (sym (decides 16 0 0 xs ys (small xs p) (small ys q) refl apart))
