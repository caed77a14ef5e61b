-- While a client sleeps no other is where it is.
use Rattle.std.proofs.Common.{◌≡◌, ℕ, Bool, true, false, List, [], ◌∷◌, refl, ap, sym, ◌∙◌}
use Rattle.std.specs.Prelude.{◌&&◌, ◌||◌, Some}
use Rattle.std.specs.Str.{bytes_eq}
use Rattle.sng_states.specs.declared.state.ClientState.TheVariants.{Asleep}
use Rattle.sng_book.specs.declared.address.Address.{Address}
use Rattle.sng_book.specs.declared.row.Row.{Row}
use Rattle.sng_history.specs.Clients.{Client, is_here}
use Rattle.sng_history.specs.Good.{Each, Apart, OnePlace}
use Rattle.sng_laws.specs.ViewsClients.{phase_of, address_of, is_among}
use Rattle.sng_laws.specs.LawsState.{ClientShown}
use Rattle.sng_history.proofs.Own.{same_means}
use Rattle.sng_promise.proofs.Sleepers.SeenSleepers.{same_place}
use Rattle.sng_history.proofs.ClientIds.{ids_of}

-- whoever is there is the client, and sleeps
abbrev pub Sleeper : List ℕ → Address → Client → Type 0
Sleeper id place x = is_here x place ≡ true → (x.phase ≡ Asleep) × (bytes_eq id x.id ≡ true)

known_asleep : (h : List Row) (id : List ℕ) (place : Address) (x : Client) → bytes_eq id x.id ≡ true
    → ClientShown h x
    → phase_of id h ≡ Some Asleep → x.phase ≡ Asleep
known_asleep h id place x same shown asleep =
    let e : Some x.phase ≡ Some Asleep =
    sym shown.phase ∙ (ap (λ i. phase_of i h) (sym (same_means id x.id same)) ∙ asleep) in
    cc

known_here : (h : List Row) (id : List ℕ) (place : Address) (x : Client) → bytes_eq id x.id ≡ true
    → ClientShown h x
    → phase_of id h ≡ Some Asleep → address_of id h ≡ Some place → is_here x place ≡ true
known_here h id place x same shown asleep at =
    let e : Some x.address ≡ Some place =
    sym shown.address ∙ (ap (λ i. address_of i h) (sym (same_means id x.id same)) ∙ at) in
    let there : x.address ≡ place = cc in
    rw (known_asleep h id place x same shown asleep, there) (same_place place)

-- a client beside it is not there
beside_away : (h : List Row) (id : List ℕ) (place : Address) (y : Client) (xs : List Client)
    → is_among id (ids_of xs) ≡ true
    → phase_of id h ≡ Some Asleep → address_of id h ≡ Some place → Each (ClientShown h) xs → Each (Apart y) xs
    → is_here y place ≡ false
beside_away h id place y [] among asleep at shown apart = absurd cc
beside_away h id place y (x ∷ xs) among asleep at shown apart =
    by_same (bytes_eq id x.id) refl among (λ more. beside_away h id place y xs more asleep at shown.1 apart.1)
  where
    left_of : (b there : Bool) → (b && there) ≡ false → there ≡ true → b ≡ false
    left_of true there none is = absurd (let e = sym none ∙ is in cc)
    left_of false there none is = refl

    by_same : (b : Bool) → bytes_eq id x.id ≡ b → (b || is_among id (ids_of xs)) ≡ true
        → (is_among id (ids_of xs) ≡ true → is_here y place ≡ false) → is_here y place ≡ false
    by_same true is among more =
        left_of (is_here y place) (is_here x place) (apart.0 place)
        (known_here h id place x is shown.0 asleep at)
    by_same false is among more = more among

apart_away : (id : List ℕ) (place : Address) (x : Client) (xs : List Client) → is_here x place ≡ true
    → Each (Apart x) xs
    → Each (Sleeper id place) xs
apart_away id place x [] there apart = tt
apart_away id place x (y ∷ xs) there apart = (
  λ here. absurd (let e : (is_here x place && is_here y place) ≡ false = apart.0 place in
      clash (is_here x place) (is_here y place) e there here),
  apart_away id place x xs there apart.1,
)
  where
    clash : (a b : Bool) → (a && b) ≡ false → a ≡ true → b ≡ true → ⊥
    clash true true none one two = absurd cc
    clash true false none one two = absurd cc
    clash false b none one two = absurd cc

pub sleepers : (h : List Row) (id : List ℕ) (place : Address) (xs : List Client) → phase_of id h ≡ Some Asleep
    → address_of id h ≡ Some place
    → OnePlace xs → Each (ClientShown h) xs → is_among id (ids_of xs) ≡ true → Each (Sleeper id place) xs
sleepers h id place [] asleep at places shown among = tt
sleepers h id place (x ∷ xs) asleep at places shown among =
    by_same (bytes_eq id x.id) refl among (sleepers h id place xs asleep at places.1 shown.1)
  where
    by_same : (b : Bool) → bytes_eq id x.id ≡ b → (b || is_among id (ids_of xs)) ≡ true
        → (is_among id (ids_of xs) ≡ true → Each (Sleeper id place) xs) → Each (Sleeper id place) (x ∷ xs)
    by_same true is among more = (
      λ here. (known_asleep h id place x is shown.0 asleep, is),
      apart_away id place x xs (known_here h id place x is shown.0 asleep at) places.0,
    )
    by_same false is among more = (
      λ here. absurd (let e = sym (beside_away h id place x xs among asleep at shown.1 places.0) ∙ here in
          cc),
      more among,
    )
