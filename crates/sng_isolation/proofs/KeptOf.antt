-- What is kept of one client among many.
use Rattle.std.proofs.Common.{◌≡◌, ℕ, Bool, true, false, List, [], ◌∷◌, ◌++◌, map, refl, ap, ◌∙◌, cond}
use Rattle.std.specs.Prelude.{◌||◌, Option, Some, None}
use Rattle.std.specs.Option.{option_map}
use Rattle.std.specs.Str.{bytes_eq}
use Rattle.sng_history.specs.Clients.{Client}
use Rattle.sng_history.specs.Good.{Each}
use Rattle.sng_history.specs.State.{is_known}
use Rattle.sng_isolation.specs.Isolation.{kept_of}

-- as all clients move
pub kept_map : (id : List ℕ) (f : Client → Client) (xs : List Client) → ((x : Client) → (f x).id ≡ x.id)
    → kept_of id (map f xs) ≡ option_map f (kept_of id xs)
kept_map id f [] same = refl
kept_map id f (x ∷ xs) same =
    ap (λ own. cond (bytes_eq id own) (Some (f x)) (kept_of id (map f xs))) (same x)
    ∙ by_one (bytes_eq id x.id) (kept_of id xs) (kept_map id f xs same)
  where
    by_one : (b : Bool) (rest : Option Client) → kept_of id (map f xs) ≡ option_map f rest
        → cond b (Some (f x)) (kept_of id (map f xs)) ≡ option_map f (cond b (Some x) rest)
    by_one true rest is = refl
    by_one false rest is = is

-- beside clients of whom none is this one
pub kept_left : (id : List ℕ) (xs ys : List Client) → kept_of id ys ≡ None
    → kept_of id (xs ++ ys) ≡ kept_of id xs
kept_left id [] ys none = none
kept_left id (x ∷ xs) ys none = ap (λ rest. cond (bytes_eq id x.id) (Some x) rest) (kept_left id xs ys none)

-- where the client does not move
pub kept_still : (id : List ℕ) (f : Client → Client) (xs : List Client)
    → Each (λ x. bytes_eq id x.id ≡ true → f x ≡ x) xs → option_map f (kept_of id xs) ≡ kept_of id xs
kept_still id f [] still = refl
kept_still id f (x ∷ xs) still = by_one (bytes_eq id x.id) refl (kept_still id f xs still.1)
  where
    by_one : (b : Bool) → bytes_eq id x.id ≡ b → option_map f (kept_of id xs) ≡ kept_of id xs
        → option_map f (cond b (Some x) (kept_of id xs)) ≡ cond b (Some x) (kept_of id xs)
    by_one true is rest = ap Some (still.0 is)
    by_one false is rest = rest

-- in front of others
pub kept_first : (id : List ℕ) (x : Client) (xs ys : List Client) → kept_of id xs ≡ Some x
    → kept_of id (xs ++ ys) ≡ Some x
kept_first id x [] ys is = absurd cc
kept_first id x (y ∷ xs) ys is = by_one (bytes_eq id y.id) is (λ more. kept_first id x xs ys more)
  where
    by_one : (b : Bool) → cond b (Some y) (kept_of id xs) ≡ Some x
        → (kept_of id xs ≡ Some x → kept_of id (xs ++ ys) ≡ Some x)
        → cond b (Some y) (kept_of id (xs ++ ys)) ≡ Some x
    by_one true is more = is
    by_one false is more = more is

-- behind others of whom none is this one
pub kept_later : (id : List ℕ) (xs ys : List Client) → kept_of id xs ≡ None
    → kept_of id (xs ++ ys) ≡ kept_of id ys
kept_later id [] ys none = refl
kept_later id (x ∷ xs) ys none = by_one (bytes_eq id x.id) none (λ more. kept_later id xs ys more)
  where
    by_one : (b : Bool) → cond b (Some x) (kept_of id xs) ≡ None
        → (kept_of id xs ≡ None → kept_of id (xs ++ ys) ≡ kept_of id ys)
        → cond b (Some x) (kept_of id (xs ++ ys)) ≡ kept_of id ys
    by_one true none more = absurd cc
    by_one false none more = more none

-- one of whom nothing is kept is not known
pub unknown : (id : List ℕ) (xs : List Client) → kept_of id xs ≡ None → is_known id xs ≡ false
unknown id [] none = refl
unknown id (x ∷ xs) none = by_one (bytes_eq id x.id) none (λ more. unknown id xs more)
  where
    by_one : (b : Bool) → cond b (Some x) (kept_of id xs) ≡ None
        → (kept_of id xs ≡ None → is_known id xs ≡ false)
        → (b || is_known id xs) ≡ false
    by_one true none more = absurd cc
    by_one false none more = more none

-- and one of whom something is kept is
pub known : (id : List ℕ) (x : Client) (xs : List Client) → kept_of id xs ≡ Some x → is_known id xs ≡ true
known id x [] is = absurd cc
known id x (y ∷ xs) is = by_one (bytes_eq id y.id) is (λ more. known id x xs more)
  where
    by_one : (b : Bool) → cond b (Some y) (kept_of id xs) ≡ Some x
        → (kept_of id xs ≡ Some x → is_known id xs ≡ true)
        → (b || is_known id xs) ≡ true
    by_one true is more = refl
    by_one false is more = more is
