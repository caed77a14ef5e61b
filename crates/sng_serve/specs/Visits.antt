-- What comes of visitors who ask for figures, turn by turn.
use Rattle.std.specs.Prelude.{ℕ, ◌≡◌, ◌≤◌, ◌+◌, ◌*◌, ◌⊎◌, min, nat_le, Bool, true, false, not}
use Rattle.std.specs.Prelude.{List, [], ◌∷◌, ◌++◌, length}
use Rattle.std.specs.List.{All, AllZip, filter}
use Rattle.std.specs.Duration.{as_nanos, max_nanos}
use Rattle.std.specs.declared.time.Duration.{Duration}
use Rattle.sng_metrics.specs.Visits.{HearsOf, IsHeard}
use Rattle.sng_metrics.specs.declared.heard.Heard.{Heard as Said}
use Rattle.sng_serve.specs.Answers.{IsAnswer}
use Rattle.sng_serve.specs.declared.limits.TheConstants.{VISIT_MS}
use Rattle.sng_serve.specs.declared.visit.Came.{Came}
use Rattle.sng_serve.specs.declared.visit.Came.TheVariants.{Nothing, More, Heard}
use Rattle.sng_serve.specs.declared.visit.Stage.{Stage}
use Rattle.sng_serve.specs.declared.visit.Stage.TheVariants.{Asking, Answering, Leaving, Over}
use Rattle.sng_serve.specs.declared.visit.Visit.{Visit}

-- ---- what is heard and answered

-- this is what is heard of the octets
pub record IsHeardOf (octets : List ℕ) (heard : Said) : Type 0 where
  pub is_heard : IsHeard octets heard
  pub found : HearsOf octets heard

-- what was read last decides
abbrev pub IsCame : List ℕ → Came → Type 0
IsCame octets Nothing = Unit {0}
IsCame octets More = Unit {0}
IsCame octets (Heard heard) = IsHeardOf octets heard

-- what is heard of the octets is answered so
pub record IsAnswered (octets text : List ℕ) : Type 0 where
  pub heard : Said
  pub of_octets : IsHeardOf octets heard
  pub answer : IsAnswer heard text

-- ---- one visitor

-- when he has used up his time, in nanoseconds
abbrev pub end_of : Duration → ℕ
end_of now = min (as_nanos now + VISIT_MS * 1_000_000) max_nanos

-- nothing was heard of him yet, nor written, and he has until this time
pub record IsNew (end : Duration) (visit : Visit) : Type 0 where
  pub stage : visit.stage ≡ Asking
  pub octets : visit.visitor ≡ []
  pub written : visit.written ≡ 0
  pub time : visit.end ≡ end

-- he has come now
abbrev pub HasCome : Duration → Visit → Type 0
HasCome now visit = IsNew visit.end visit × (as_nanos visit.end ≡ end_of now)

abbrev pub is_late : Duration → Visit → Bool
is_late now visit = nat_le (as_nanos visit.end) (as_nanos now)

abbrev pub is_end : Stage → Bool
is_end Asking = false
is_end Answering = false
is_end Leaving = false
is_end Over = true

abbrev pub is_over : Visit → Bool
is_over visit = is_end visit.stage

-- he is answered, or gone
abbrev pub IsToldAt : Stage → (octets text : List ℕ) → Type 0
IsToldAt Asking octets text = ⊥
IsToldAt Answering octets text = IsAnswered octets text
IsToldAt Leaving octets text = IsAnswered octets text
IsToldAt Over octets text = Unit {0}

abbrev pub IsTold : Visit → Type 0
IsTold visit = IsToldAt visit.stage visit.visitor visit.answer.items

-- he has time to ask still, or is answered, or gone
abbrev pub IsAsked : (late : Bool) → Visit → Type 0
IsAsked late visit = ((late ≡ false) × (visit.stage ≡ Asking)) ⊎ IsTold visit

-- what was heard of him stays, his answer, and his time
pub record IsSame (before after : Visit) : Type 0 where
  pub octets : after.visitor ≡ before.visitor
  pub text : after.answer.items ≡ before.answer.items
  pub time : after.end ≡ before.end

-- some of the answer went out: behind all of it nothing more is written
abbrev pub IsSentAt : Stage → (count written : ℕ) → Type 0
IsSentAt Asking count written = ⊥
IsSentAt Answering count written = Unit {0}
IsSentAt Leaving count written = count ≤ written
IsSentAt Over count written = Unit {0}

abbrev pub IsSent : Visit → Visit → Type 0
IsSent before after =
    IsSame before after × IsSentAt after.stage (length before.answer.items) before.written

-- all of the answer is out
abbrev pub IsLeavingAt : Stage → Type 0
IsLeavingAt Asking = ⊥
IsLeavingAt Answering = ⊥
IsLeavingAt Leaving = Unit {0}
IsLeavingAt Over = Unit {0}

abbrev pub IsLeaving : Visit → Visit → Type 0
IsLeaving before after = IsSame before after × IsLeavingAt after.stage

-- who has used up his time is gone
abbrev pub EndsIf : Bool → Stage → Type 0
EndsIf late stage = late ≡ true → stage ≡ Over

-- a turn, from this stage on
abbrev pub IsTurnAt : Stage → (late : Bool) (before after : Visit) → Type 0
IsTurnAt Asking late before after = IsAsked late after × (after.end ≡ before.end)
IsTurnAt Answering late before after = IsSent before after × EndsIf late after.stage
IsTurnAt Leaving late before after = IsLeaving before after × EndsIf late after.stage
IsTurnAt Over late before after = after ≡ before

-- his turn at this time
abbrev pub IsTurn : Duration → Visit → Visit → Type 0
IsTurn now before after = IsTurnAt before.stage (is_late now before) before after

-- ---- all of them

-- one has come now, and stands behind the others
pub record HasComeTo (now : Duration) (before after : List Visit) : Type 0 where
  pub visit : Visit
  pub has_come : HasCome now visit
  pub others : after ≡ before ++ visit ∷ []

-- these have come now, and stand behind the others
pub record HaveCome (now : Duration) (before after : List Visit) : Type 0 where
  pub more : List Visit
  pub each : All (HasCome now) more
  pub others : after ≡ before ++ more

-- each has had his turn, and who is gone is forgotten
pub record HadTurns (now : Duration) (before after : List Visit) : Type 0 where
  pub turned : List Visit
  pub each : AllZip (IsTurn now) before turned
  pub left : after ≡ filter (λ visit. not (is_over visit)) turned

-- some have come, and each has had his turn
pub record IsRound (now : Duration) (before after : List Visit) : Type 0 where
  pub there : List Visit
  pub came : HaveCome now before there
  pub turns : HadTurns now there after

-- the end of this wait is no later than that of any visit
abbrev pub IsWithin : Duration → List Visit → Type 0
IsWithin end visits = All (λ visit. as_nanos end ≤ as_nanos visit.end) visits
