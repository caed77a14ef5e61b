-- As one client's subscriptions end, what is let go is what stands for nobody else.
use Rattle.std.proofs.Common.{◌≡◌, ℕ, ◌+◌, zero, suc, Bool, true, false, List, [], ◌∷◌, ◌++◌, take, drop}
use Rattle.std.proofs.Common.{add-one, refl, ap, sym, ◌∙◌}
use Rattle.std.specs.Prelude.{◌||◌, slice_get, Some}
use Rattle.std.proofs.lemmas.List.{append-nil, append_assoc}
use Rattle.sng_history.specs.Clients.{Client}
use Rattle.sng_history.specs.Standing.{Release, holds, is_held, ended, releases_of, released_from, released}
use Rattle.sng_history.proofs.Endless.{none_ended}
use Rattle.sng_sessions.specs.Moving.{moved_at}
use Rattle.sng_core.specs.Subscribing.{others_hold}
use Rattle.sng_core.proofs.Releasing.{releases_same}

pub same_released : (earlier xs : List Client) → released_from earlier xs xs ≡ []
same_released earlier [] = refl
same_released earlier (x ∷ xs) = rw (none_ended x x (λ text is. is)) (same_released (earlier ++ x ∷ []) xs)

-- of these filters those that stand for nobody else
abbrev pub let_go_of : Client → Client → (List ℕ → Bool) → List Release
let_go_of x y others = releases_of x.id others (ended x y)

one_from : (g : Client → Client) (earlier xs : List Client) (i : ℕ) (x : Client) → slice_get xs i ≡ Some x
    → released_from earlier xs (moved_at i g xs)
    ≡ let_go_of x (g x) (λ text. is_held (earlier ++ take i xs) text || is_held (drop (suc i) xs) text)
one_from g earlier [] i x read = absurd cc
one_from g earlier (y ∷ ys) zero x read =
    let e : y ≡ x = cc in
    rw (same_released (earlier ++ g y ∷ []) ys, append-nil earlier)
    (append-nil (let_go_of y (g y) (λ text. is_held earlier text || is_held ys text))
    ∙ ap (λ z. let_go_of z (g z) (λ text. is_held earlier text || is_held ys text)) e)
one_from g earlier (y ∷ ys) (suc i) x read =
    rw (none_ended y y (λ text is. is))
    (one_from g (earlier ++ y ∷ []) ys i x read
    ∙ releases_same x.id (λ text. is_held ((earlier ++ y ∷ []) ++ take i ys) text
    || is_held (drop (suc i) ys) text)
    (λ text. is_held (earlier ++ take (suc i) (y ∷ ys)) text || is_held (drop (suc (suc i)) (y ∷ ys)) text)
    (ended x (g x))
    (λ text. ap (λ zs. is_held zs text || is_held (drop (suc i) ys) text)
    (append_assoc earlier (y ∷ []) (take i ys))))

pub one_released : (g : Client → Client) (xs : List Client) (i : ℕ) (x : Client) → slice_get xs i ≡ Some x
    → released xs (moved_at i g xs) ≡ let_go_of x (g x) (others_hold xs i)
one_released g xs i x read =
    one_from g [] xs i x read
    ∙ releases_same x.id (λ text. is_held (take i xs) text || is_held (drop (suc i) xs) text)
    (others_hold xs i)
    (ended x (g x))
    (λ text. ap (λ n. is_held (take i xs) text || is_held (drop n xs) text) (sym (add-one i)))

-- the filter stands for somebody if for the one at the place or for another
pub held_split : (xs : List Client) (i : ℕ) (x : Client) (text : List ℕ) → slice_get xs i ≡ Some x
    → is_held xs text ≡ (holds text x || others_hold xs i text)
held_split [] i x text read = absurd cc
held_split (y ∷ ys) zero x text read = let e : y ≡ x = cc in ap (λ z. holds text z || is_held ys text) e
held_split (y ∷ ys) (suc i) x text read =
    ap (λ b. holds text y || b) (held_split ys i x text read)
    ∙ (split_by (holds text y) (holds text x) (is_held (take i ys) text) (is_held (drop (i + 1) ys) text)
    ∙ ap (λ zs. holds text x || (is_held (y ∷ take i ys) text || is_held zs text))
    (ap (λ n. drop n ys) (add-one i) ∙ ap (λ n. drop n (y ∷ ys)) (sym (add-one (suc i)))))
  where
    split_by : (a b c d : Bool) → (a || (b || (c || d))) ≡ (b || ((a || c) || d))
    split_by true true c d = refl
    split_by true false c d = refl
    split_by false b c d = refl
