-- A message of one client moves that client alone, and lets out what is its own.
use Rattle.std.proofs.Common.{◌≡◌, ◌<◌, ℕ, ◌+◌, zero, suc, Bool, true, false, List, [], ◌∷◌, map, length}
use Rattle.std.proofs.Common.{refl, ap}
use Rattle.std.proofs.Common.{sym, ◌∙◌, ◌++◌, subst, arith}
use Rattle.std.specs.Prelude.{if◌then◌else◌, ◌&&◌, ◌||◌, not, nat_lt, slice_get, Option, Some, None, IfSome}
use Rattle.std.specs.List.{flat_map, position_or_len}
use Rattle.std.proofs.lemmas.List.{append-nil}
use Rattle.std.proofs.lemmas.Bool.Decides.{nat_tests}
use Rattle.sng_book.specs.declared.address.Address.{Address}
use Rattle.sng_history.specs.Causes.{Cause}
use Rattle.sng_history.specs.Clients.{Client, is_here, is_from}
use Rattle.sng_history.specs.Whole.{any_from}
use Rattle.sng_history.specs.Good.{Each, Apart, OnePlace}
use Rattle.sng_core.specs.Forms.{place_at, client_at}
use Rattle.sng_sessions.specs.Moving.{moved_at}
use Rattle.sng_core.proofs.Plain.{Busy}
use Rattle.sng_history.proofs.Booleans.{or_right}

-- ---- the place of the first that passes a test

passes_by : (t : Client → Bool) (y : Client) (ys : List Client) (i : ℕ) (x : Client) (b : Bool) → t y ≡ b
    → (if not b then 1 + position_or_len t ys else 0) ≡ i → slice_get (y ∷ ys) i ≡ Some x
    → ((j : ℕ) → position_or_len t ys ≡ j → slice_get ys j ≡ Some x → t x ≡ true) → t x ≡ true
passes_by t y ys zero x true is at read later = let e : y ≡ x = cc in subst (λ z. t z ≡ true) e is
passes_by t y ys (suc i) x true is at read later = absurd (omega (arith, at))
passes_by t y ys zero x false is at read later = absurd (omega (arith, at))
passes_by t y ys (suc i) x false is at read later = later i (omega (arith, at)) read

passes : (t : Client → Bool) (xs : List Client) (i : ℕ) (x : Client) → position_or_len t xs ≡ i
    → slice_get xs i ≡ Some x → t x ≡ true
passes t [] i x at read = absurd cc
passes t (y ∷ ys) i x at read = passes_by t y ys i x (t y) refl at read (λ j. passes t ys j x)

nobody_by : (t : Client → Bool) (y : Client) (ys : List Client) (b : Bool) → t y ≡ b
    → nat_lt (if not b then 1 + position_or_len t ys else 0) (suc (length ys)) ≡ false
    → (nat_lt (position_or_len t ys) (length ys) ≡ false → Each (λ z. t z ≡ false) ys)
    → Each (λ z. t z ≡ false) (y ∷ ys)
nobody_by t y ys true is out later = absurd (grind (arith, nat_tests, out))
nobody_by t y ys false is out later = (is, later (grind (arith, nat_tests, out)))

nobody : (t : Client → Bool) (xs : List Client) → nat_lt (position_or_len t xs) (length xs) ≡ false
    → Each (λ z. t z ≡ false) xs
nobody t [] out = tt
nobody t (y ∷ ys) out = nobody_by t y ys (t y) refl out (nobody t ys)

-- ---- where the client at an address is

found_by : (n : ℕ) (xs : List Client) (i : ℕ) (b : Bool) → nat_lt n (length xs) ≡ b
    → (if b then Some n else None) ≡ Some i → n ≡ i
found_by n xs i true is at = cc
found_by n xs i false is at = absurd cc

pub found_here : (from : Address) (xs : List Client) (i : ℕ) (x : Client) → place_at from xs ≡ Some i
    → slice_get xs i ≡ Some x → is_here x from ≡ true
found_here from xs i x at read =
    let t : Client → Bool = λ y. is_here y from in
    passes t xs i x (found_by (position_or_len t xs) xs i (nat_lt (position_or_len t xs) (length xs)) refl at)
    read

lost_by : (n : ℕ) (xs : List Client) (b : Bool) → nat_lt n (length xs) ≡ b
    → (let o : Option ℕ = if b then Some n else None in o) ≡ None → nat_lt n (length xs) ≡ false
lost_by n xs true is at = absurd cc
lost_by n xs false is at = is

pub nobody_here : (from : Address) (xs : List Client) → place_at from xs ≡ None
    → Each (λ y. is_here y from ≡ false) xs
nobody_here from xs at =
    let t : Client → Bool = λ y. is_here y from in
    nobody t xs (lost_by (position_or_len t xs) xs (nat_lt (position_or_len t xs) (length xs)) refl at)

-- ---- one of many

pub each_at : (P : Client → Type 0) (xs : List Client) (i : ℕ) (x : Client) → Each P xs
    → slice_get xs i ≡ Some x → P x
each_at P [] i x all read = absurd cc
each_at P (y ∷ ys) zero x all read = let e : y ≡ x = cc in subst P e all.0
each_at P (y ∷ ys) (suc i) x all read = each_at P ys i x all.1 read

clear_by : (a b : Bool) → (a && b) ≡ false → b ≡ true → a ≡ false
clear_by true true both is = absurd cc
clear_by true false both is = absurd cc
clear_by false b both is = refl

other_by : (a b : Bool) → (a && b) ≡ false → a ≡ true → b ≡ false
other_by true b both is = both
other_by false b both is = absurd cc

all_clear : (from : Address) (x : Client) (ys : List Client) → is_here x from ≡ true → Each (Apart x) ys
    → Each (λ y. is_here y from ≡ false) ys
all_clear from x [] here apart = tt
all_clear from x (y ∷ ys) here apart =
    (other_by (is_here x from) (is_here y from) (apart.0 from) here, all_clear from x ys here apart.1)

-- nothing is let out for those who are not there, and they stay as they are
pub no_outs : {A : Type 0} (from : Address) (f : Client → List A) (xs : List Client)
    → ((y : Client) → is_here y from ≡ false → f y ≡ []) → Each (λ y. is_here y from ≡ false) xs
    → flat_map f xs ≡ []
no_outs from f [] quiet none = refl
no_outs from f (y ∷ ys) quiet none = rw (quiet y none.0, no_outs from f ys quiet none.1) refl

pub no_moves : (from : Address) (g : Client → Client) (xs : List Client)
    → ((y : Client) → is_here y from ≡ false → g y ≡ y) → Each (λ y. is_here y from ≡ false) xs
    → map g xs ≡ xs
no_moves from g [] same none = refl
no_moves from g (y ∷ ys) same none = rw (same y none.0, no_moves from g ys same none.1) refl

pub one_outs : {A : Type 0} (from : Address) (f : Client → List A) (xs : List Client) (i : ℕ) (x : Client)
    → ((y : Client) → is_here y from ≡ false → f y ≡ []) → OnePlace xs
    → slice_get xs i ≡ Some x → is_here x from ≡ true → flat_map f xs ≡ f x
one_outs from f [] i x quiet places read here = absurd cc
one_outs from f (y ∷ ys) zero x quiet places read here =
    let e : y ≡ x = cc in
    let at : is_here y from ≡ true = subst (λ z. is_here z from ≡ true) (sym e) here in
    rw (no_outs from f ys quiet (all_clear from y ys at places.0)) (append-nil (f y) ∙ ap f e)
one_outs from f (y ∷ ys) (suc i) x quiet places read here =
    let off : is_here y from ≡ false =
    clear_by (is_here y from) (is_here x from) (each_at (Apart y) ys i x places.0 read from) here in
    rw (quiet y off) (one_outs from f ys i x quiet places.1 read here)

pub one_moves : (from : Address) (g : Client → Client) (xs : List Client) (i : ℕ) (x : Client)
    → ((y : Client) → is_here y from ≡ false → g y ≡ y) → OnePlace xs
    → slice_get xs i ≡ Some x → is_here x from ≡ true → map g xs ≡ moved_at i g xs
one_moves from g [] i x same places read here = absurd cc
one_moves from g (y ∷ ys) zero x same places read here =
    let e : y ≡ x = cc in
    let at : is_here y from ≡ true = subst (λ z. is_here z from ≡ true) (sym e) here in
    ap (λ zs. g y ∷ zs) (no_moves from g ys same (all_clear from y ys at places.0))
one_moves from g (y ∷ ys) (suc i) x same places read here =
    let off : is_here y from ≡ false =
    clear_by (is_here y from) (is_here x from) (each_at (Apart y) ys i x places.0 read from) here in
    rw (same y off) (ap (λ zs. y ∷ zs) (one_moves from g ys i x same places.1 read here))

-- the same where each of them is busy before
pub no_outs_at : {A : Type 0} (from : Address) (f : Client → List A) (xs : List Client)
    → ((y : Client) → is_here y from ≡ false → Busy y → f y ≡ [])
    → Each Busy xs → Each (λ y. is_here y from ≡ false) xs → flat_map f xs ≡ []
no_outs_at from f [] quiet busy none = refl
no_outs_at from f (y ∷ ys) quiet busy none =
    rw (quiet y none.0 busy.0, no_outs_at from f ys quiet busy.1 none.1) refl

pub no_moves_at : (from : Address) (g : Client → Client) (xs : List Client)
    → ((y : Client) → is_here y from ≡ false → Busy y → g y ≡ y)
    → Each Busy xs → Each (λ y. is_here y from ≡ false) xs → map g xs ≡ xs
no_moves_at from g [] same busy none = refl
no_moves_at from g (y ∷ ys) same busy none =
    rw (same y none.0 busy.0, no_moves_at from g ys same busy.1 none.1) refl

pub one_outs_at : {A : Type 0} (from : Address) (f : Client → List A) (xs : List Client) (i : ℕ) (x : Client)
    → ((y : Client) → is_here y from ≡ false → Busy y → f y ≡ []) → Each Busy xs → OnePlace xs
    → slice_get xs i ≡ Some x → is_here x from ≡ true → flat_map f xs ≡ f x
one_outs_at from f [] i x quiet busy places read here = absurd cc
one_outs_at from f (y ∷ ys) zero x quiet busy places read here =
    let e : y ≡ x = cc in
    let at : is_here y from ≡ true = subst (λ z. is_here z from ≡ true) (sym e) here in
    rw (no_outs_at from f ys quiet busy.1 (all_clear from y ys at places.0)) (append-nil (f y) ∙ ap f e)
one_outs_at from f (y ∷ ys) (suc i) x quiet busy places read here =
    let off : is_here y from ≡ false =
    clear_by (is_here y from) (is_here x from) (each_at (Apart y) ys i x places.0 read from) here in
    rw (quiet y off busy.0) (one_outs_at from f ys i x quiet busy.1 places.1 read here)

pub one_moves_at : (from : Address) (g : Client → Client) (xs : List Client) (i : ℕ) (x : Client)
    → ((y : Client) → is_here y from ≡ false → Busy y → g y ≡ y) → Each Busy xs → OnePlace xs
    → slice_get xs i ≡ Some x → is_here x from ≡ true → map g xs ≡ moved_at i g xs
one_moves_at from g [] i x same busy places read here = absurd cc
one_moves_at from g (y ∷ ys) zero x same busy places read here =
    let e : y ≡ x = cc in
    let at : is_here y from ≡ true = subst (λ z. is_here z from ≡ true) (sym e) here in
    ap (λ zs. g y ∷ zs) (no_moves_at from g ys same busy.1 (all_clear from y ys at places.0))
one_moves_at from g (y ∷ ys) (suc i) x same busy places read here =
    let off : is_here y from ≡ false =
    clear_by (is_here y from) (is_here x from) (each_at (Apart y) ys i x places.0 read from) here in
    rw (same y off busy.0) (ap (λ zs. y ∷ zs) (one_moves_at from g ys i x same busy.1 places.1 read here))

-- the same of another function that agrees on the one that is there
pub moved_behind : (f : Client → Client) (before : List Client) (x : Client) (xs : List Client)
    → moved_at (length before) f (before ++ x ∷ xs) ≡ before ++ f x ∷ xs
moved_behind f [] x xs = refl
moved_behind f (y ∷ before) x xs = ap (λ ys. y ∷ ys) (moved_behind f before x xs)

pub moved_same : (f g : Client → Client) (xs : List Client) (i : ℕ) (x : Client) → slice_get xs i ≡ Some x
    → f x ≡ g x → moved_at i f xs ≡ moved_at i g xs
moved_same f g [] i x read same = refl
moved_same f g (y ∷ ys) zero x read same =
    let e : y ≡ x = cc in ap (λ z. z ∷ ys) (ap f e ∙ (same ∙ sym (ap g e)))
moved_same f g (y ∷ ys) (suc i) x read same = ap (λ zs. y ∷ zs) (moved_same f g ys i x read same)

-- somebody is there, or nobody
pub any_here : (c : Cause) (from : Address) (xs : List Client) (i : ℕ) (x : Client)
    → ((y : Client) → is_from c y ≡ is_here y from) → slice_get xs i ≡ Some x → is_here x from ≡ true
    → any_from c xs ≡ true
any_here c from [] i x of read here = absurd cc
any_here c from (y ∷ ys) zero x of read here =
    let e : y ≡ x = cc in
    let at : is_from c y ≡ true = of y ∙ subst (λ z. is_here z from ≡ true) (sym e) here in
    ap (λ b. b || any_from c ys) at
any_here c from (y ∷ ys) (suc i) x of read here =
    or_right (is_from c y) (any_from c ys) (any_here c from ys i x of read here)

pub none_here : (c : Cause) (from : Address) (xs : List Client)
    → ((y : Client) → is_from c y ≡ is_here y from) → Each (λ y. is_here y from ≡ false) xs
    → any_from c xs ≡ false
none_here c from [] of none = refl
none_here c from (y ∷ ys) of none = rw (of y, none.0) (none_here c from ys of none.1)

within_by : (n : ℕ) (xs : List Client) (i : ℕ) (b : Bool) → nat_lt n (length xs) ≡ b
    → (if b then Some n else None) ≡ Some i → nat_lt i (length xs) ≡ true
within_by n xs i true is at = let e : n ≡ i = cc in subst (λ m. nat_lt m (length xs) ≡ true) e is
within_by n xs i false is at = absurd cc

pub within : (from : Address) (xs : List Client) (i : ℕ) → place_at from xs ≡ Some i
    → nat_lt i (length xs) ≡ true
within from xs i at =
    let t : Client → Bool = λ y. is_here y from in
    within_by (position_or_len t xs) xs i (nat_lt (position_or_len t xs) (length xs)) refl at

pub here_within : (from : Address) (xs : List Client) (place : Option ℕ) → place ≡ place_at from xs
    → IfSome place (λ i. i < length xs)
here_within from xs None at = tt
here_within from xs (Some i) at = grind (arith, nat_tests, within from xs i (sym at))

-- and it is the one at that place
pub read_at : (xs : List Client) (i : ℕ) → nat_lt i (length xs) ≡ true
    → slice_get xs i ≡ Some (client_at xs i)
read_at [] i within = absurd (grind (arith, nat_tests, within))
read_at (x ∷ xs) zero within = refl
read_at (x ∷ xs) (suc i) within = read_at xs i (grind (arith, nat_tests, within))
