-- The wills of lost clients are placed for the broker one behind the other.
use Rattle.std.proofs.Common.{◌≡◌, ℕ, Bool, false, List, [], ◌∷◌, ◌++◌, refl, ap, sym, ◌∙◌, if◌then◌else◌}
use Rattle.std.proofs.lemmas.List.{append_assoc, append-nil}
use Rattle.std.specs.Str.{bytes_eq}
use Rattle.sng_grants.specs.Limits.{Limits}
use Rattle.sng_outbox.specs.declared.item.Publication.{Publication}
use Rattle.sng_history.specs.Clients.{Client}
use Rattle.sng_history.specs.Links.{Link}
use Rattle.sng_history.specs.Ticking.{placed, all_placed, testament, testaments}
use Rattle.sng_history.proofs.Own.{same_self, flip}
use Rattle.sng_history.specs.Good.{Each, Distinct}
use Rattle.sng_history.specs.Losing.{before}

pub placed_append : (limits : Limits) (link : Link) (ps qs : List Publication)
    → all_placed limits link (ps ++ qs) ≡ all_placed limits (all_placed limits link ps) qs
placed_append limits link [] qs = refl
placed_append limits link (p ∷ ps) qs = placed_append limits (placed limits link p) ps qs

middle : (P : Client → Type 0) (xs : List Client) (y : Client) (ys : List Client) → Each P (xs ++ y ∷ ys)
    → P y
middle P [] y ys all = all.0
middle P (x ∷ xs) y ys all = middle P xs y ys all.1

before_if : (id : List ℕ) (x : Client) (xs done : List Client) (b : Bool) → b ≡ false → xs ≡ done
    → (if b then [] else x ∷ xs) ≡ x ∷ done
before_if id x xs done b is same = rw (is, same) refl

pub before_is : (done : List Client) (x : Client) (rest : List Client) → Distinct (done ++ x ∷ rest)
    → before x.id (done ++ x ∷ rest) ≡ done
before_is [] x rest apart = rw (same_self x.id) refl
before_is (d ∷ done) x rest apart =
    let other : bytes_eq x.id d.id ≡ false =
    flip x.id d.id (middle (λ y. bytes_eq d.id y.id ≡ false) done x rest apart.0) in
    before_if x.id d (before x.id (done ++ x ∷ rest)) done (bytes_eq x.id d.id) other
    (before_is done x rest apart.1)

pub testaments_with : (clock : ℕ) (xs : List Client) (x : Client)
    → testaments clock (xs ++ x ∷ []) ≡ testaments clock xs ++ testament clock x
testaments_with clock [] x = append-nil (testament clock x)
testaments_with clock (y ∷ xs) x =
    ap (λ ps. testament clock y ++ ps) (testaments_with clock xs x)
    ∙ sym (append_assoc (testament clock y) (testaments clock xs) (testament clock x))
