-- One step leaves a client alone on whose account nothing came: what is let out, and what is kept of it.
use Rattle.std.proofs.Common.{◌≡◌, ℕ, Bool, true, false, List, [], ◌∷◌, refl, ap, sym, ◌∙◌}
use Rattle.std.specs.Prelude.{◌&&◌, ◌||◌}
use Rattle.std.specs.Str.{bytes_eq}
use Rattle.sng_states.specs.States.{has_session}
use Rattle.sng_book.specs.declared.address.Address.{Address}
use Rattle.sng_book.specs.Traces.{is_own}
use Rattle.sng_history.specs.Causes.{Cause, ByConnect, ByMessage, BySource, ByBroken, ByPacket, ByUp, ByDown}
use Rattle.sng_history.specs.Causes.{ByTake, ByReplace, ByTick}
use Rattle.sng_history.specs.Lawful.{exits_for}
use Rattle.sng_history.specs.Clients.{Client, same_address, is_here}
use Rattle.sng_history.specs.State.{State}
use Rattle.sng_history.specs.Steps.{outs_by, next_by}
use Rattle.sng_history.specs.Good.{Each, Apart, OnePlace, Good}
use Rattle.sng_history.proofs.Own.{each_all, each_map}
use Rattle.sng_history.proofs.Booleans.{and_no, left_holds, right_holds, or_neither}
use Rattle.sng_history.proofs.Places.{address_means}
use Rattle.sng_history.proofs.Says.{says}
use Rattle.sng_isolation.specs.Isolation.{is_at_place, is_there, IsForeign, LeavesAlone}
use Rattle.sng_isolation.proofs.Silent.{none_told}
use Rattle.sng_isolation.proofs.Foreign.{Elsewhere}
use Rattle.sng_isolation.proofs.ForeignConnect.{Off}
use Rattle.sng_isolation.proofs.ForeignStep.{CameFrom, foreign_silent, foreign_kept}

left_fails : (a b : Bool) → (a && b) ≡ false → b ≡ true → a ≡ false
left_fails true true none is = absurd cc
left_fails true false none is = absurd cc
left_fails false b none is = refl

pub right_fails : (a b : Bool) → (a && b) ≡ false → a ≡ true → b ≡ false
right_fails true b none is = none
right_fails false b none is = absurd cc

pub each_elsewhere : (id : List ℕ) (from : Address) (xs : List Client) → is_there id xs from ≡ false
    → Each (Elsewhere id from) xs
each_elsewhere id from [] none = tt
each_elsewhere id from (x ∷ xs) none =
    let both = or_neither (is_at_place id from x) (is_there id xs from) none in
    (left_fails (bytes_eq id x.id) (is_here x from) both.0, each_elsewhere id from xs both.1)

-- ---- nobody else is where the client is

-- who is apart from all of these is not where the client among them is
there_apart : (id : List ℕ) (place : Address) (x : Client) (xs : List Client) → is_there id xs place ≡ true
    → Each (Apart x) xs → is_here x place ≡ false
there_apart id place x [] there apart = absurd cc
there_apart id place x (y ∷ xs) there apart =
    by_one (is_at_place id place y) refl there (λ more. there_apart id place x xs more apart.1)
  where
    by_one : (b : Bool) → is_at_place id place y ≡ b → (b || is_there id xs place) ≡ true
        → (is_there id xs place ≡ true → is_here x place ≡ false)
        → is_here x place ≡ false
    by_one true is any more =
        left_fails (is_here x place) (is_here y place) (apart.0 place)
        (right_holds (bytes_eq id y.id) (is_here y place) is)
    by_one false is any more = more any

others_away : (id : List ℕ) (place : Address) (xs : List Client) → is_there id xs place ≡ true → OnePlace xs
    → Each (λ y. bytes_eq id y.id ≡ false → is_here y place ≡ false) xs
others_away id place [] there places = tt
others_away id place (x ∷ xs) there places =
    by_one (is_at_place id place x) refl there (λ more. others_away id place xs more places.1)
  where
    by_one : (b : Bool) → is_at_place id place x ≡ b → (b || is_there id xs place) ≡ true
        → (is_there id xs place ≡ true → Each (λ y. bytes_eq id y.id ≡ false → is_here y place ≡ false) xs)
        → Each (λ y. bytes_eq id y.id ≡ false → is_here y place ≡ false) (x ∷ xs)
    by_one true is any more = (
      λ away. absurd (let own : bytes_eq id x.id ≡ true = left_holds (bytes_eq id x.id) (is_here x place) is in
          let e : true ≡ false = sym own ∙ away in cc),
      each_map (Apart x) (λ y. bytes_eq id y.id ≡ false → is_here y place ≡ false) xs
          (λ y apart away. right_fails (is_here x place) (is_here y place) (apart place)
          (right_holds (bytes_eq id x.id) (is_here x place) is)) places.0,
    )
    by_one false is any more = (λ away. there_apart id place x xs any places.0, more any)

off_by : (session own : Bool) → (session && own) ≡ false → (session && (own || false)) ≡ false
off_by true true none = absurd cc
off_by true false none = refl
off_by false own none = refl

-- ---- the step

-- where the datagram came from is not where the client is
not_there : (id : List ℕ) (from place : Address) (xs : List Client) → is_there id xs from ≡ false
    → is_there id xs place ≡ true
    → is_own (place ∷ []) from ≡ false
not_there id from place xs none there = by_same (same_address from place) refl
  where
    by_same : (b : Bool) → same_address from place ≡ b → (b || false) ≡ false
    by_same true is =
        let same : from ≡ place = address_means from place is in
        absurd (let e : true ≡ false = sym there ∙ (ap (is_there id xs) (sym same) ∙ none) in cc)
    by_same false is = refl

-- by a datagram nothing leaves for the broker
no_exits : (s : State) (from : Address) (c : Cause) → CameFrom from c → exits_for s c ≡ []
no_exits s from (ByConnect place connect) came = refl
no_exits s from (ByMessage place request) came = refl
no_exits s from (BySource place p) came = refl
no_exits s from (ByBroken place rule) came = refl
no_exits s from (ByPacket p) came = absurd came
no_exits s from ByUp came = absurd came
no_exits s from ByDown came = absurd came
no_exits s from ByTake came = absurd came
no_exits s from (ByReplace policy) came = absurd came
no_exits s from (ByTick clock) came = absurd came

pub alone : (id : List ℕ) (s : State) (from : Address) (c : Cause) → Good s → CameFrom from c
    → IsForeign id s from c → LeavesAlone id s (next_by s c) (outs_by s c)
alone id s from c good came foreign =
    let elsewhere = each_elsewhere id from s.clients foreign.elsewhere in
    record {
      unsaid =
          none_told id (outs_by s c)
          (foreign_silent id [] s from c came foreign.unnamed refl good.rest elsewhere
          (each_all (Off id []) s.clients (λ x away. and_no (has_session x.phase))))
          ((says s c good.apart).exits ∙ no_exits s from c came);
      unsent = λ place there.
          foreign_silent id (place ∷ []) s from c came foreign.unnamed
          (not_there id from place s.clients foreign.elsewhere there) good.rest elsewhere
          (each_map (λ y. bytes_eq id y.id ≡ false → is_here y place ≡ false) (Off id (place ∷ [])) s.clients
          (λ y away other. off_by (has_session y.phase) (same_address y.address place) (away other))
          (others_away id place s.clients there good.places));
      kept = foreign_kept id s from c came foreign.unnamed good.rest elsewhere;
    }
