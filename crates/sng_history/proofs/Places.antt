-- No two clients come to one address.
use Rattle.std.proofs.Common.{◌≡◌, ℕ, Bool, true, false, List, [], ◌∷◌, ◌++◌, map, refl, sym, ◌∙◌, subst}
use Rattle.std.proofs.Common.{arith}
use Rattle.std.specs.Prelude.{if◌then◌else◌, ◌&&◌, ◌==◌}
use Rattle.std.specs.Str.{bytes_eq}
use Rattle.std.proofs.lemmas.List.{append-nil}
use Rattle.std.proofs.lemmas.Bool.Decides.{nat_tests}
use Rattle.sng_states.specs.States.{has_session}
use Rattle.sng_frames.specs.declared.messages.connect.Connect.{Connect}
use Rattle.sng_book.specs.declared.address.Address.{Address}
use Rattle.sng_history.specs.Clients.{Client, blank, same_address, is_here, cleaned, opened, let_in}
use Rattle.sng_history.specs.State.{is_known}
use Rattle.sng_history.specs.Entering.{left_at, entering, entered}
use Rattle.sng_history.specs.Good.{Each, Away, Distinct, Apart, OnePlace}
use Rattle.sng_history.proofs.Own.{same_means, each_append}
use Rattle.sng_history.proofs.Kept.{unknown_away}
use Rattle.sng_history.proofs.Booleans.{left_holds, right_holds}

same_number : (a b : ℕ) → (a == b) ≡ true → a ≡ b
same_number a b is = grind (arith, nat_tests)

address_of : (ip ip2 : List ℕ) (port port2 : ℕ) → ip ≡ ip2 → port ≡ port2
    → (let a : Address = record { ip = ip; port = port } in a)
    ≡ (let b : Address = record { ip = ip2; port = port2 } in b)
address_of ip ip2 port port2 one two = rw (one, two) refl

-- addresses that are found to be the same are
pub address_means : (a b : Address) → same_address a b ≡ true → a ≡ b
address_means a b is =
    address_of a.ip b.ip a.port b.port
    (same_means a.ip b.ip (left_holds (bytes_eq a.ip b.ip) (a.port == b.port) is))
    (same_number a.port b.port (right_holds (bytes_eq a.ip b.ip) (a.port == b.port) is))

-- a client is at one address alone
pub here_is : (x : Client) (a : Address) → is_here x a ≡ true → x.address ≡ a
here_is x a is = address_means x.address a (right_holds (has_session x.phase) (same_address x.address a) is)

-- ---- clients that do not come anywhere

-- where the client is, it was
abbrev pub Stays : Client → Client → Type 0
Stays x y = (a : Address) → is_here y a ≡ true → is_here x a ≡ true

apart_by : (b c d e : Bool) → (b ≡ true → d ≡ true) → (c ≡ true → e ≡ true) → (d && e) ≡ false
    → (b && c) ≡ false
apart_by true true d e one two apart =
    absurd (let both : (d && e) ≡ true = rw (one refl, two refl) refl in cc)
apart_by true false d e one two apart = refl
apart_by false c d e one two apart = refl

pub apart_stays : (x y z w : Client) → Stays x z → Stays y w → Apart x y → Apart z w
apart_stays x y z w one two apart a =
    apart_by (is_here z a) (is_here w a) (is_here x a) (is_here y a) (one a) (two a) (apart a)

each_apart : (f : Client → Client) (x : Client) (xs : List Client) → Stays x (f x)
    → Each (λ y. Stays y (f y)) xs → Each (Apart x) xs → Each (Apart (f x)) (map f xs)
each_apart f x [] one all apart = tt
each_apart f x (y ∷ xs) one all apart =
    (apart_stays x y (f x) (f y) one all.0 apart.0, each_apart f x xs one all.1 apart.1)

pub places_stay : (f : Client → Client) (xs : List Client) → Each (λ x. Stays x (f x)) xs → OnePlace xs
    → OnePlace (map f xs)
places_stay f [] all places = tt
places_stay f (x ∷ xs) all places = (each_apart f x xs all.0 all.1 places.0, places_stay f xs all.1 places.1)

-- ---- one that connects

-- the client is not at the address
abbrev Off : Address → Client → Type 0
Off from x = is_here x from ≡ false

off_at : (from a : Address) (x y : Client) (b : Bool) → is_here y a ≡ b → x.address ≡ from
    → is_here y from ≡ false → is_here x a ≡ true → b ≡ false
off_at from a x y true is at off here =
    let e : from ≡ a = sym at ∙ here_is x a here in
    absurd (let f : is_here y a ≡ false = subst (λ z. is_here y z ≡ false) e off in cc)
off_at from a x y false is at off here = refl

apart_off_by : (from a : Address) (x y : Client) (b : Bool) → is_here x a ≡ b → x.address ≡ from
    → is_here y from ≡ false → (b && is_here y a) ≡ false
apart_off_by from a x y true here at off = off_at from a x y (is_here y a) refl at off here
apart_off_by from a x y false here at off = refl

-- who is at no other address than this is apart from who is not there
apart_off : (from : Address) (x y : Client) → x.address ≡ from → Off from y → Apart x y
apart_off from x y at off a = apart_off_by from a x y (is_here x a) refl at off

and_flip : (a b : Bool) → (a && b) ≡ false → (b && a) ≡ false
and_flip true true is = is
and_flip true false is = refl
and_flip false true is = refl
and_flip false false is = refl

pub apart_flip : (x y : Client) → Apart x y → Apart y x
apart_flip x y apart a = and_flip (is_here x a) (is_here y a) (apart a)

entered_at : (from : Address) (clean : Bool) (x : Client) → x.address ≡ from
    → (cleaned clean x).address ≡ from
entered_at from true x at = at
entered_at from false x at = at

opened_at : (will : Bool) (x : Client) → (opened will x).address ≡ x.address
opened_at true x = refl
opened_at false x = refl

pub let_in_at : (clock : ℕ) (from : Address) (connect : Connect) (x : Client)
    → (let_in clock from connect x).address ≡ from
let_in_at clock from connect x =
    let y : Client = record x { address = from; ids = []; duration = connect.duration; heard = clock } in
    opened_at connect.flags.will (cleaned connect.flags.clean y) ∙ entered_at from connect.flags.clean y refl

-- another client stays, and is not at the address any more
pub record Beside (from : Address) (x y : Client) : Type 0 where
  pub stays : Stays x y
  pub off : Off from y

beside_by : (clock : ℕ) (from : Address) (x : Client) (here : Bool) → is_here x from ≡ here
    → Beside from x (let z : Client = if here then left_at clock x else x in z)
beside_by clock from x true is = record { stays = λ a here. absurd cc; off = refl }
beside_by clock from x false is = record { stays = λ a here. here; off = is }

entering_beside : (clock : ℕ) (from : Address) (connect : Connect) (x : Client)
    → bytes_eq connect.client_id x.id ≡ false → Beside from x (entering clock from connect x)
entering_beside clock from connect x away = rw away (beside_by clock from x (is_here x from) refl)

entering_own : (clock : ℕ) (from : Address) (connect : Connect) (x : Client)
    → bytes_eq connect.client_id x.id ≡ true → (entering clock from connect x).address ≡ from
entering_own clock from connect x is = rw is (let_in_at clock from connect x)

-- those beside the one that connects
all_beside : (clock : ℕ) (from : Address) (connect : Connect) (z : Client) (xs : List Client)
    → z.address ≡ from → Away connect.client_id xs → Each (Apart z) (map (entering clock from connect) xs)
all_beside clock from connect z [] at away = tt
all_beside clock from connect z (x ∷ xs) at away = (
  apart_off from z (entering clock from connect x) at (entering_beside clock from connect x away.0).off,
  all_beside clock from connect z xs at away.1,
)

beside_one : (clock : ℕ) (from : Address) (connect : Connect) (x y : Client) (same : Bool)
    → bytes_eq connect.client_id y.id ≡ same → Beside from x (entering clock from connect x) → Apart x y
    → Apart (entering clock from connect x) (entering clock from connect y)
beside_one clock from connect x y true is beside apart =
    apart_flip (entering clock from connect y) (entering clock from connect x)
    (apart_off from (entering clock from connect y) (entering clock from connect x)
    (entering_own clock from connect y is) beside.off)
beside_one clock from connect x y false is beside apart =
    apart_stays x y (entering clock from connect x) (entering clock from connect y) beside.stays
    (entering_beside clock from connect y is).stays apart

beside_each : (clock : ℕ) (from : Address) (connect : Connect) (x : Client) (xs : List Client)
    → Beside from x (entering clock from connect x) → Each (Apart x) xs
    → Each (Apart (entering clock from connect x)) (map (entering clock from connect) xs)
beside_each clock from connect x [] beside apart = tt
beside_each clock from connect x (y ∷ xs) beside apart = (
  beside_one clock from connect x y (bytes_eq connect.client_id y.id) refl beside apart.0,
  beside_each clock from connect x xs beside apart.1,
)

pub away_of : (id : List ℕ) (x : Client) (xs : List Client) → bytes_eq id x.id ≡ true → Away x.id xs
    → Away id xs
away_of id x xs is away = subst (λ c. Away c xs) (sym (same_means id x.id is)) away

one_entering : (clock : ℕ) (from : Address) (connect : Connect) (x : Client) (xs : List Client) (same : Bool)
    → bytes_eq connect.client_id x.id ≡ same → Away x.id xs → Each (Apart x) xs
    → Each (Apart (entering clock from connect x)) (map (entering clock from connect) xs)
one_entering clock from connect x xs true is away apart =
    all_beside clock from connect (entering clock from connect x) xs (entering_own clock from connect x is)
    (away_of connect.client_id x xs is away)
one_entering clock from connect x xs false is away apart =
    beside_each clock from connect x xs (entering_beside clock from connect x is) apart

places_entering : (clock : ℕ) (from : Address) (connect : Connect) (xs : List Client) → Distinct xs
    → OnePlace xs → OnePlace (map (entering clock from connect) xs)
places_entering clock from connect [] apart places = tt
places_entering clock from connect (x ∷ xs) apart places = (
  one_entering clock from connect x xs (bytes_eq connect.client_id x.id) refl apart.0 places.0,
  places_entering clock from connect xs apart.1 places.1,
)

places_push : (z : Client) (xs : List Client) → OnePlace xs → Each (Apart z) xs → OnePlace (xs ++ z ∷ [])
places_push z [] places apart = (tt, tt)
places_push z (x ∷ xs) places apart = (
  each_append (Apart x) xs (z ∷ []) places.0 (apart_flip z x apart.0, tt),
  places_push z xs places.1 apart.1,
)

places_first : (clock : ℕ) (from : Address) (connect : Connect) (xs : List Client) (known : Bool)
    → is_known connect.client_id xs ≡ known → Distinct xs → OnePlace xs
    → OnePlace (map (entering clock from connect) xs
    ++ (if known then [] else let_in clock from connect (blank connect.client_id) ∷ []))
places_first clock from connect xs true is apart places =
    rw (append-nil (map (entering clock from connect) xs))
    (places_entering clock from connect xs apart places)
places_first clock from connect xs false is apart places =
    let z = let_in clock from connect (blank connect.client_id) in
    places_push z (map (entering clock from connect) xs) (places_entering clock from connect xs apart places)
    (all_beside clock from connect z xs (let_in_at clock from connect (blank connect.client_id))
    (unknown_away connect.client_id xs is))

pub places_entered : (clock : ℕ) (from : Address) (connect : Connect) (xs : List Client) → Distinct xs
    → OnePlace xs → OnePlace (entered clock from connect xs)
places_entered clock from connect xs apart places =
    places_first clock from connect xs (is_known connect.client_id xs) refl apart places
