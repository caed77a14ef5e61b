-- The worked rows of limits are lawful, or not, by computation.
use Rattle.std.proofs.Common.{◌≡◌, true, List, [], ◌∷◌, refl, ap, ◌∙◌, subst}
use Rattle.std.specs.Prelude.{None}
use Rattle.sng_book.specs.declared.decision.Decision.TheVariants.{Left}
use Rattle.sng_book.specs.declared.event.Event.{Event}
use Rattle.sng_book.specs.declared.event.Event.TheVariants.{Datagram, Replace}
use Rattle.sng_book.specs.declared.out.Out.{Out}
use Rattle.sng_book.specs.declared.out.Out.TheVariants.{Note}
use Rattle.sng_history.specs.Causes.{Cause, ByConnect, ByMessage, ByReplace, ToPing, cause_of}
use Rattle.sng_history.specs.State.{State, opening, after, state_of}
use Rattle.sng_history.specs.Lawful.{LawfulBy, LawfulRow, Lawful}
use Rattle.sng_promise.specs.ExamplesClients.{s1, s2, home, away, connect_s1, connect_s2, ping}
use Rattle.sng_promise.specs.ExamplesClients.{lets_in, welcome, pong, s1_home}
use Rattle.sng_promise.specs.ExamplesLimits.{lets_two, lets_one, finds_full, no_place, refused_since}
use Rattle.sng_promise.specs.ExamplesLimits.{let_in_since, two_stay, answered, comes_again}
use Rattle.sng_promise.specs.ExamplesLimits.{at_less, at_more, at_both}
use Rattle.sng_promise.proofs.Examples.WorkedClients.{hello, cause_s1, cause_s2, came}

-- ---- the states that the rows lead to

-- `s1` was let in under either policy, and after it `s2`
abbrev one_of_two : State
one_of_two =
    after (record opening { policy = lets_two; up = true }) (ByConnect home (hello s1))
    (lets_in s1 ∷ welcome home ∷ [])

abbrev one_of_one : State
one_of_one =
    after (record opening { policy = lets_one s1; up = true }) (ByConnect home (hello s1))
    (lets_in s1 ∷ welcome home ∷ [])

abbrev two_in : State
two_in = after one_of_two (ByConnect away (hello s2)) (lets_in s2 ∷ welcome away ∷ [])

two_first : state_of opening (s1_home lets_two) ≡ one_of_two
two_first =
    ap (λ c. after (record opening { policy = lets_two; up = true }) c (lets_in s1 ∷ welcome home ∷ []))
    (cause_s1 home)

one_first : state_of opening (s1_home (lets_one s1)) ≡ one_of_one
one_first =
    ap (λ c. after (record opening { policy = lets_one s1; up = true }) c (lets_in s1 ∷ welcome home ∷ []))
    (cause_s1 home)

less_is : at_less ≡ after one_of_two (ByReplace (lets_one s2)) []
less_is = ap (λ s. after s (ByReplace (lets_one s2)) []) two_first

more_is : at_more ≡ after one_of_one (ByReplace lets_two) []
more_is = ap (λ s. after s (ByReplace lets_two) []) one_first

two_is : at_both ≡ two_in
two_is =
    ap (λ s. after s (cause_of (Datagram away connect_s2)) (lets_in s2 ∷ welcome away ∷ [])) two_first
    ∙ ap (λ c. after one_of_two c (lets_in s2 ∷ welcome away ∷ [])) (cause_s2 away)

stay_is : state_of opening two_stay ≡ after two_in (ByReplace (lets_one s2)) []
stay_is = ap (λ s. after s (ByReplace (lets_one s2)) []) two_is

-- ---- the histories

home_two : Lawful opening (s1_home lets_two)
home_two = (
  (
    (tt, record { whole = refl; exits = refl; clients = tt }),
    record { whole = refl; exits = refl; clients = tt },
  ),
  came (record opening { policy = lets_two; up = true }) (record opening { policy = lets_two; up = true })
      (Datagram home connect_s1) (ByConnect home (hello s1)) (lets_in s1 ∷ welcome home ∷ []) refl
      (cause_s1 home) (record { whole = refl; exits = refl; clients = (record { fixed = refl }, tt) }),
)

home_one : Lawful opening (s1_home (lets_one s1))
home_one = (
  (
    (tt, record { whole = refl; exits = refl; clients = tt }),
    record { whole = refl; exits = refl; clients = tt },
  ),
  came (record opening { policy = lets_one s1; up = true }) (record opening { policy = lets_one s1; up = true })
      (Datagram home connect_s1) (ByConnect home (hello s1)) (lets_in s1 ∷ welcome home ∷ []) refl
      (cause_s1 home) (record { whole = refl; exits = refl; clients = (record { fixed = refl }, tt) }),
)

pub less : Lawful opening refused_since
less = (
  (
    home_two,
    came (state_of opening (s1_home lets_two)) one_of_two (Replace (lets_one s2))
        (ByReplace (lets_one s2)) [] two_first refl
        (record { whole = refl; exits = refl; clients = (record { fixed = refl }, tt) }),
  ),
  came at_less (after one_of_two (ByReplace (lets_one s2)) []) (Datagram away connect_s2)
      (ByConnect away (hello s2)) (finds_full s2 ∷ no_place away ∷ []) less_is (cause_s2 away)
      (record { whole = refl; exits = refl; clients = (record { fixed = refl }, tt) }),
)

pub more : Lawful opening let_in_since
more = (
  (
    home_one,
    came (state_of opening (s1_home (lets_one s1))) one_of_one (Replace lets_two)
        (ByReplace lets_two) [] one_first refl
        (record { whole = refl; exits = refl; clients = (record { fixed = refl }, tt) }),
  ),
  came at_more (after one_of_one (ByReplace lets_two) []) (Datagram away connect_s2)
      (ByConnect away (hello s2)) (lets_in s2 ∷ welcome away ∷ []) more_is (cause_s2 away)
      (record { whole = refl; exits = refl; clients = (record { fixed = refl }, (record { fixed = refl }, tt)) }),
)

stay : Lawful opening two_stay
stay = (
  (
    home_two,
    came (state_of opening (s1_home lets_two)) one_of_two (Datagram away connect_s2)
        (ByConnect away (hello s2)) (lets_in s2 ∷ welcome away ∷ []) two_first (cause_s2 away)
        (record { whole = refl; exits = refl; clients = (record { fixed = refl }, (record { fixed = refl }, tt)) }),
  ),
  came at_both two_in (Replace (lets_one s2)) (ByReplace (lets_one s2)) [] two_is refl
      (record { whole = refl; exits = refl; clients = (record { fixed = refl }, (record { fixed = refl }, tt)) }),
)

pub pinged : Lawful opening answered
pinged = (
  stay,
  came (state_of opening two_stay) (after two_in (ByReplace (lets_one s2)) []) (Datagram home ping)
      (ByMessage home (ToPing None)) (pong home ∷ []) stay_is refl
      (record { whole = refl; exits = refl; clients = (record { fixed = refl }, (record { fixed = refl }, tt)) }),
)

pub again : Lawful opening comes_again
again = (
  stay,
  came (state_of opening two_stay) (after two_in (ByReplace (lets_one s2)) []) (Datagram away connect_s2)
      (ByConnect away (hello s2)) (lets_in s2 ∷ welcome away ∷ []) stay_is (cause_s2 away)
      (record { whole = refl; exits = refl; clients = (record { fixed = refl }, (record { fixed = refl }, tt)) }),
)

-- ---- rows that may not come

-- what a lawful row says of the state and the cause
stood : (s t : State) (e : Event) (c : Cause) (outs : List Out) → s ≡ t → cause_of e ≡ c → LawfulRow s e outs
    → LawfulBy t c outs
stood s t e c outs state cause l =
    subst (λ d. LawfulBy t d outs) cause (subst (λ u. LawfulBy u (cause_of e) outs) state l)

pub not_let_in : LawfulRow at_less (Datagram away connect_s2) (lets_in s2 ∷ welcome away ∷ []) → ⊥
not_let_in l =
    let e =
    stood at_less (after one_of_two (ByReplace (lets_one s2)) []) (Datagram away connect_s2)
    (ByConnect away (hello s2)) (lets_in s2 ∷ welcome away ∷ []) less_is (cause_s2 away) l in
    let f = e.whole in cc

pub not_refused : LawfulRow at_more (Datagram away connect_s2) (finds_full s2 ∷ no_place away ∷ []) → ⊥
not_refused l =
    let e =
    stood at_more (after one_of_one (ByReplace lets_two) []) (Datagram away connect_s2)
    (ByConnect away (hello s2)) (finds_full s2 ∷ no_place away ∷ []) more_is (cause_s2 away) l in
    let f = e.whole in cc

pub not_put_out : LawfulRow at_both (Replace (lets_one s2)) (Note (Left s1) ∷ []) → ⊥
not_put_out l =
    let e =
    stood at_both two_in (Replace (lets_one s2)) (ByReplace (lets_one s2)) (Note (Left s1) ∷ []) two_is refl l in
    let f = e.clients.0.fixed in cc
