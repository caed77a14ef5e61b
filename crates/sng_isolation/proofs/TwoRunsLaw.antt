-- Two lawful books that look the same to a client have one trace of it.
use Rattle.std.proofs.Common.{◌≡◌, ℕ, true, List, [], ◌∷◌, ◌++◌, refl, ap, ◌∙◌, eq-eqb}
use Rattle.std.specs.Prelude.{◌&&◌, ◌||◌, ◌==◌}
use Rattle.sng_book.specs.declared.address.Address.{Address}
use Rattle.sng_book.specs.declared.row.Row.{Row}
use Rattle.sng_book.specs.Traces.{is_own}
use Rattle.sng_history.specs.Clients.{same_address}
use Rattle.sng_history.proofs.Own.{same_self}
use Rattle.sng_history.proofs.Booleans.{or_right}
use Rattle.sng_isolation.specs.Own.{named_from, named_in, own_of}
use Rattle.sng_isolation.specs.Isolation.{TwoRuns}
use Rattle.sng_isolation.proofs.Faces.{AllOwn}
use Rattle.sng_isolation.proofs.BooksAlike.{Owned, books_alike}

-- ---- its own addresses are

address_self : (a : Address) → same_address a a ≡ true
address_self a = ap (λ b. b && (a.port == a.port)) (same_self a.ip) ∙ eq-eqb a.port a.port refl

-- one more address
own_more : (own : List Address) (place : Address) (places : List Address) → AllOwn own places
    → AllOwn (place ∷ own) places
own_more own place [] all = tt
own_more own place (a ∷ places) all =
    (or_right (same_address a place) (is_own own a) all.0, own_more own place places all.1)

first_own : (xs ys : List Address) → AllOwn (xs ++ ys) xs
first_own [] ys = tt
first_own (a ∷ xs) ys =
    (ap (λ b. b || is_own (xs ++ ys) a) (address_self a), own_more (xs ++ ys) a xs (first_own xs ys))

all_own : (xs : List Address) → AllOwn xs xs
all_own [] = tt
all_own (a ∷ xs) = (ap (λ b. b || is_own xs a) (address_self a), own_more xs a xs (all_own xs))

second_own : (xs ys : List Address) → AllOwn (xs ++ ys) ys
second_own [] ys = all_own ys
second_own (a ∷ xs) ys = own_more (xs ++ ys) a ys (second_own xs ys)

own_parts : (own xs ys : List Address) → AllOwn own (xs ++ ys) → AllOwn own xs × AllOwn own ys
own_parts own [] ys all = (tt, all)
own_parts own (a ∷ xs) ys all = let both = own_parts own xs ys all.1 in ((all.0, both.0), both.1)

owned : (id : List ℕ) (own : List Address) (h : List Row) → AllOwn own (named_in id h) → Owned id own h
owned id own [] all = tt
owned id own (row ∷ h) all =
    let both = own_parts own (named_from id row.event) (named_in id h) all in
    (both.0, owned id own h both.1)

pub two_runs : TwoRuns
two_runs h k id lawful other_lawful look =
    let own = own_of id h k in
    (books_alike id own h k (record {
      lawful = lawful;
      other_lawful = other_lawful;
      owned = owned id own h (first_own (named_in id h) (named_in id k));
      other_owned = owned id own k (second_own (named_in id h) (named_in id k));
      harmless = look.harmless;
      room = look.room;
      other_room = look.other_room;
      views = look.views;
    })).traces
