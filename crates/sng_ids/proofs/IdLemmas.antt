-- Places in the list of ids: what confirming and taking back do to it.
use Rattle.std.proofs.Common.{◌≡◌, ℕ, zero, suc, ◌+◌, ◌-◌, ◌<◌, Bool, true, false, List, [], ◌∷◌, ◌++◌}
use Rattle.std.proofs.Common.{length, Option, Some, None, is_some, true≢false, slice_get, refl, ap, arith}
use Rattle.std.proofs.Common.{length-append}
use Rattle.std.proofs.Math.Seq.{take-append_seam}
use Rattle.indexmap.specs.Layout.{set_value_at}
use Rattle.sng_ids.specs.Ids.{Ids, place_of, id_for, with_name, confirmed_at, confirmed, taken_back}

-- an id other than 0 confirms the place before it
pub confirmed-place : (id : ℕ) (ids : Ids) → (id ≡ 0 → ⊥) → confirmed id ids ≡ confirmed_at (id - 1) ids
confirmed-place zero ids given = absurd (given refl)
confirmed-place (suc place) ids given = let e : suc place - 1 ≡ place = omega arith in rw e refl

-- it is what a write of the mark makes
pub set_value_at-confirmed : (ids : Ids) (place : ℕ) → set_value_at ids place true ≡ confirmed_at place ids
set_value_at-confirmed [] place = refl
set_value_at-confirmed (entry ∷ ids) zero = refl
set_value_at-confirmed (entry ∷ ids) (suc place) =
    ap (λ rest. entry ∷ rest) (set_value_at-confirmed ids place)

-- a place past the end has nothing to confirm
pub confirmed_at-past : (ids : Ids) (place : ℕ) → (place < length ids → ⊥) → confirmed_at place ids ≡ ids
confirmed_at-past [] place past = refl
confirmed_at-past (entry ∷ ids) zero past = absurd (past (omega arith))
confirmed_at-past (entry ∷ ids) (suc place) past =
    ap (λ rest. entry ∷ rest) (confirmed_at-past ids place (λ within. past (omega (arith, within))))

-- the entry behind a list is at its length
pub slice_get-seam : (ids : Ids) (entry : List ℕ × Bool)
    → slice_get (ids ++ entry ∷ []) (length ids) ≡ Some entry
slice_get-seam [] entry = refl
slice_get-seam (first ∷ ids) entry = slice_get-seam ids entry

-- an unconfirmed entry behind a list is taken back
pub taken_back-new : (ids : Ids) (name : List ℕ) → taken_back (ids ++ (name, false) ∷ []) ≡ ids
taken_back-new ids name =
    let before : length (ids ++ (name, false) ∷ []) - 1 ≡ length ids =
    omega (arith, length-append ids ((name, false) ∷ [])) in
    rw (before, slice_get-seam ids (name, false)) (take-append_seam ids ((name, false) ∷ []))

-- a name without an id is given the next one
pub id_for-new : (ids : Ids) (name : List ℕ) → place_of name ids ≡ None → id_for name ids ≡ length ids + 1
id_for-new ids name absent = rw absent refl

-- and goes last
pub with_name-new : (ids : Ids) (name : List ℕ)
    → place_of name ids ≡ None → with_name name ids ≡ ids ++ (name, false) ∷ []
with_name-new ids name absent = rw absent refl

-- what is not some is none
pub none-is_some : (o : Option Bool) → is_some o ≡ false → o ≡ None
none-is_some None h = refl
none-is_some (Some x) h = absurd (true≢false h)
