-- The client that connects, where it is known: what is let out as it leaves its old address.
use Rattle.std.proofs.Common.{◌≡◌, ℕ, zero, suc, ◌+◌, Bool, true, false, List, [], ◌∷◌}
use Rattle.std.proofs.Common.{length, refl, ap, sym, ◌∙◌, subst, arith}
use Rattle.std.specs.Prelude.{if◌then◌else◌, not, nat_lt, slice_get}
use Rattle.std.specs.Prelude.{Some, None}
use Rattle.std.specs.List.{flat_map, position_or_len}
use Rattle.std.specs.Str.{bytes_eq}
use Rattle.std.proofs.lemmas.List.{append-nil}
use Rattle.std.proofs.lemmas.Bool.Decides.{nat_tests}
use Rattle.sng_book.specs.declared.address.Address.{Address}
use Rattle.sng_book.specs.declared.out.Out.{Out}
use Rattle.sng_history.specs.Clients.{Client}
use Rattle.sng_history.specs.Whole.{moved}
use Rattle.sng_history.specs.Good.{Away, Distinct}
use Rattle.sng_history.proofs.Places.{away_of}
use Rattle.sng_history.proofs.ClientIds.{ids_of}
use Rattle.sng_history.proofs.ClientIds.{length_ids}
use Rattle.sng_core.specs.Forms.{place_of, client_at, at_place}
use Rattle.sng_core.specs.Connecting.{moved_outs}
use Rattle.sng_core.proofs.Found.{read_at}
use Rattle.sng_core.proofs.Releasing.{differs_by}

-- the first with the id
known_by : (id : List ℕ) (y : Client) (ys : List Client) (i : ℕ) (x : Client) (b : Bool)
    → bytes_eq id y.id ≡ b → (if not b then 1 + position_or_len (bytes_eq id) (ids_of ys) else 0) ≡ i
    → slice_get (y ∷ ys) i ≡ Some x
    → ((j : ℕ) → position_or_len (bytes_eq id) (ids_of ys) ≡ j → slice_get ys j ≡ Some x
    → bytes_eq id x.id ≡ true) → bytes_eq id x.id ≡ true
known_by id y ys zero x true is at read later =
    let e : y ≡ x = cc in subst (λ z. bytes_eq id z.id ≡ true) e is
known_by id y ys (suc i) x true is at read later = absurd (omega (arith, at))
known_by id y ys zero x false is at read later = absurd (omega (arith, at))
known_by id y ys (suc i) x false is at read later = later i (omega (arith, at)) read

pub known_here : (id : List ℕ) (xs : List Client) (i : ℕ) (x : Client)
    → position_or_len (bytes_eq id) (ids_of xs) ≡ i → slice_get xs i ≡ Some x → bytes_eq id x.id ≡ true
known_here id [] i x at read = absurd cc
known_here id (y ∷ ys) i x at read =
    known_by id y ys i x (bytes_eq id y.id) refl at read (λ j. known_here id ys j x)

unknown_by : (id : List ℕ) (y : Client) (ys : List Client) (b : Bool) → bytes_eq id y.id ≡ b
    → nat_lt (if not b then 1 + position_or_len (bytes_eq id) (ids_of ys) else 0) (suc (length (ids_of ys)))
    ≡ false
    → (nat_lt (position_or_len (bytes_eq id) (ids_of ys)) (length (ids_of ys)) ≡ false → Away id ys)
    → Away id (y ∷ ys)
unknown_by id y ys true is out later = absurd (grind (arith, nat_tests, out))
unknown_by id y ys false is out later = (is, later (grind (arith, nat_tests, out)))

pub unknown_all : (id : List ℕ) (xs : List Client)
    → nat_lt (position_or_len (bytes_eq id) (ids_of xs)) (length (ids_of xs)) ≡ false → Away id xs
unknown_all id [] out = tt
unknown_all id (y ∷ ys) out = unknown_by id y ys (bytes_eq id y.id) refl out (unknown_all id ys)

moved_is : (from : Address) (id : List ℕ) (x : Client) → bytes_eq id x.id ≡ true
    → moved from id x ≡ moved_outs from (Some x)
moved_is from id x is = rw is refl

-- who has another id lets nothing out
abbrev pub Quiet : List ℕ → (Client → List Out) → Type 0
Quiet id f = (y : Client) → bytes_eq id y.id ≡ false → f y ≡ []

pub outs_away : (id : List ℕ) (f : Client → List Out) (ys : List Client) → Quiet id f → Away id ys
    → flat_map f ys ≡ []
outs_away id f [] quiet away = refl
outs_away id f (y ∷ ys) quiet away = rw (quiet y away.0, outs_away id f ys quiet away.1) refl

moved_quiet : (from : Address) (id : List ℕ) → Quiet id (moved from id)
moved_quiet from id y off = rw off refl

pub each_away : (c : List ℕ) (ys : List Client) (i : ℕ) (x : Client) → Away c ys → slice_get ys i ≡ Some x
    → bytes_eq c x.id ≡ false
each_away c [] i x away read = absurd cc
each_away c (y ∷ ys) zero x away read = let e : y ≡ x = cc in subst (λ z. bytes_eq c z.id ≡ false) e away.0
each_away c (y ∷ ys) (suc i) x away read = each_away c ys i x away.1 read

pub outs_found : (id : List ℕ) (f : Client → List Out) (xs : List Client) (i : ℕ) (x : Client) → Quiet id f
    → Distinct xs → slice_get xs i ≡ Some x → bytes_eq id x.id ≡ true → flat_map f xs ≡ f x
outs_found id f [] i x quiet apart read is = absurd cc
outs_found id f (y ∷ ys) zero x quiet apart read is =
    let e : y ≡ x = cc in
    let at : bytes_eq id y.id ≡ true = subst (λ z. bytes_eq id z.id ≡ true) (sym e) is in
    rw (outs_away id f ys quiet (away_of id y ys at apart.0)) (append-nil (f y) ∙ ap f e)
outs_found id f (y ∷ ys) (suc i) x quiet apart read is =
    let off : bytes_eq id y.id ≡ false =
    differs_by id y x (bytes_eq id y.id) refl is (each_away y.id ys i x apart.0 read) in
    rw (quiet y off) (outs_found id f ys i x quiet apart.1 read is)

moved_by : (from : Address) (id : List ℕ) (xs : List Client) (found : Bool)
    → nat_lt (position_or_len (bytes_eq id) (ids_of xs)) (length (ids_of xs)) ≡ found → Distinct xs
    → flat_map (moved from id) xs
    ≡ moved_outs from (at_place xs
    (if found then Some (position_or_len (bytes_eq id) (ids_of xs)) else None))
moved_by from id xs true is apart =
    let i = position_or_len (bytes_eq id) (ids_of xs) in
    let read = read_at xs i (ap (λ n. nat_lt i n) (sym (length_ids xs)) ∙ is) in
    let here = known_here id xs i (client_at xs i) refl read in
    outs_found id (moved from id) xs i (client_at xs i) (moved_quiet from id) apart read here
    ∙ moved_is from id (client_at xs i) here
moved_by from id xs false is apart =
    outs_away id (moved from id) xs (moved_quiet from id) (unknown_all id xs is)

pub moved_all : (from : Address) (id : List ℕ) (xs : List Client) → Distinct xs
    → flat_map (moved from id) xs ≡ moved_outs from (at_place xs (place_of id xs))
moved_all from id xs apart =
    moved_by from id xs (nat_lt (position_or_len (bytes_eq id) (ids_of xs)) (length (ids_of xs))) refl apart
