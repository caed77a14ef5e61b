-- Of what many clients have, what is a client's is what that one has.
use Rattle.std.proofs.Common.{◌≡◌, ℕ, Bool, true, false, List, [], ◌∷◌, ◌++◌, refl, ap, sym, ◌∙◌, cond, subst}
use Rattle.std.specs.Prelude.{Option, Some, None}
use Rattle.std.specs.List.{filter, flat_map}
use Rattle.std.specs.Str.{bytes_eq}
use Rattle.std.proofs.lemmas.List.{append-nil}
use Rattle.std.proofs.lemmas.List.Elements.{filter-append}
use Rattle.sng_history.specs.Clients.{Client}
use Rattle.sng_history.specs.Good.{Each, Away, Distinct}
use Rattle.sng_history.proofs.Own.{same_means, each_with}
use Rattle.sng_isolation.specs.Isolation.{kept_of}

-- the part of the client, where there is one
abbrev pub own_part : {A : Type 0} → (Client → List A) → Option Client → List A
own_part f None = []
own_part f (Some x) = f x

-- whoever is behind a client with this id has another
pub others_behind : (id : List ℕ) (x : Client) (xs : List Client) → bytes_eq id x.id ≡ true → Away x.id xs
    → Each (λ y. bytes_eq id y.id ≡ false) xs
others_behind id x [] own away = tt
others_behind id x (y ∷ xs) own away =
    (ap (λ d. bytes_eq d y.id) (same_means id x.id own) ∙ away.0, others_behind id x xs own away.1)

-- nothing of a list passes a test, where nothing of any part does
pub none_flat : {A : Type 0} (test : A → Bool) (f : Client → List A) (xs : List Client)
    → Each (λ x. filter test (f x) ≡ []) xs → filter test (flat_map f xs) ≡ []
none_flat test f [] each = refl
none_flat test f (x ∷ xs) each =
    filter-append test (f x) (flat_map f xs)
    ∙ (ap (λ some. some ++ filter test (flat_map f xs)) each.0 ∙ none_flat test f xs each.1)

pub fan_of : {A : Type 0} (test : A → Bool) (id : List ℕ) (f : Client → List A) (xs : List Client)
    → Distinct xs → Each (λ x. bytes_eq id x.id ≡ false → filter test (f x) ≡ []) xs
    → filter test (flat_map f xs) ≡ filter test (own_part f (kept_of id xs))
fan_of test id f [] apart others = refl
fan_of {A} test id f (x ∷ xs) apart others =
    by_one (bytes_eq id x.id) refl (fan_of test id f xs apart.1 others.1)
  where
    by_one : (b : Bool) → bytes_eq id x.id ≡ b
        → filter test (flat_map f xs) ≡ filter test (own_part f (kept_of id xs))
        → filter test (f x ++ flat_map f xs) ≡ filter test (own_part f (cond b (Some x) (kept_of id xs)))
    by_one true is rest =
        filter-append test (f x) (flat_map f xs)
        ∙ (ap (λ more. filter test (f x) ++ more)
        (none_flat test f xs (each_with (λ y. bytes_eq id y.id ≡ false)
        (λ y. bytes_eq id y.id ≡ false → filter test (f y) ≡ []) (λ y. filter test (f y) ≡ []) xs
        (λ y away none. none away) (others_behind id x xs is apart.0) others.1))
        ∙ append-nil (filter test (f x)))
    by_one false is rest =
        filter-append test (f x) (flat_map f xs)
        ∙ (ap (λ some. some ++ filter test (flat_map f xs)) (others.0 is) ∙ rest)

-- ---- the client itself

-- what is kept of it is of its id
pub kept_is : (id : List ℕ) (x : Client) (xs : List Client) → kept_of id xs ≡ Some x → bytes_eq id x.id ≡ true
kept_is id x [] is = absurd cc
kept_is id x (y ∷ xs) is = by_one (bytes_eq id y.id) refl is (λ more. kept_is id x xs more)
  where
    by_one : (b : Bool) → bytes_eq id y.id ≡ b → cond b (Some y) (kept_of id xs) ≡ Some x
        → (kept_of id xs ≡ Some x → bytes_eq id x.id ≡ true) → bytes_eq id x.id ≡ true
    by_one true own is more = let same : y ≡ x = cc in ap (λ z. bytes_eq id z.id) (sym same) ∙ own
    by_one false own is more = more is

-- and it is one of the clients
pub kept_each : (P : Client → Type 0) (id : List ℕ) (x : Client) (xs : List Client) → kept_of id xs ≡ Some x
    → Each P xs → P x
kept_each P id x [] is each = absurd cc
kept_each P id x (y ∷ xs) is each = by_one (bytes_eq id y.id) is (λ more. kept_each P id x xs more each.1)
  where
    by_one : (b : Bool) → cond b (Some y) (kept_of id xs) ≡ Some x → (kept_of id xs ≡ Some x → P x) → P x
    by_one true is more = let same : y ≡ x = cc in subst P same each.0
    by_one false is more = more is

-- ---- two lists of clients

-- where the client is the same, and has the same in both, so is what is its
pub fans : {A : Type 0} (test : A → Bool) (id : List ℕ) (f g : Client → List A) (xs ys : List Client)
    → Distinct xs → Distinct ys → Each (λ x. bytes_eq id x.id ≡ false → filter test (f x) ≡ []) xs
    → Each (λ y. bytes_eq id y.id ≡ false → filter test (g y) ≡ []) ys → kept_of id xs ≡ kept_of id ys
    → ((x : Client) → kept_of id xs ≡ Some x → kept_of id ys ≡ Some x → filter test (f x) ≡ filter test (g x))
    → filter test (flat_map f xs) ≡ filter test (flat_map g ys)
fans {A} test id f g xs ys apart also others those same both =
    fan_of test id f xs apart others
    ∙ (by_kept (kept_of id xs) refl (sym same)
    ∙ (ap (λ o. filter test (own_part g o)) same ∙ sym (fan_of test id g ys also those)))
  where
    by_kept : (o : Option Client) → kept_of id xs ≡ o → kept_of id ys ≡ o
        → filter test (own_part f o) ≡ filter test (own_part g o)
    by_kept None is it = refl
    by_kept (Some x) is it = both x is it
