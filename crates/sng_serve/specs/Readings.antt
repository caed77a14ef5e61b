-- What one turn at the lines of an operator comes to.
use Rattle.std.specs.Prelude.{ℕ, ◌≡◌, ◌⊎◌, Bool, true, false, List, Option, Ok}
use Rattle.std.specs.Io.KnownBytes.{IsAtEnd}
use Rattle.sng_desk.specs.declared.source.Got.{Got}
use Rattle.sng_desk.specs.declared.source.Got.TheVariants.{Came, Nothing, Failed, Ended}
use Rattle.sng_script.specs.Input.{IsFirstLine}
use Rattle.sng_grants.specs.declared.policy.Policy.{Policy}
use Rattle.sng_operator.specs.Commands.{Request, ForNothing, ForPolicy, ForReload, ForStatus, ForRows}
use Rattle.sng_operator.specs.Commands.{ForHelp, ForEnd, NotKnown, asked_by}
use Rattle.sng_scope.specs.Policies.{policy_of}

-- the policy that came, where one did, is that of the text
abbrev pub IsPolicyOf : List ℕ → Got Policy → Type 0
IsPolicyOf text (Came policy) = policy_of text ≡ Ok policy
IsPolicyOf text Nothing = Unit {0}
IsPolicyOf text Failed = ⊥
IsPolicyOf text Ended = ⊥

-- what a request comes to: a policy comes of the text that it names alone, or of that of the file; `quit`
-- ends it
abbrev pub IsAnswer : Request → Got Policy → Type 0
IsAnswer ForNothing got = got ≡ Nothing
IsAnswer (ForPolicy text) got = IsPolicyOf text got
IsAnswer ForReload got = (text : List ℕ) × IsPolicyOf text got
IsAnswer ForStatus got = got ≡ Nothing
IsAnswer (ForRows verbosity) got = got ≡ Nothing
IsAnswer ForHelp got = got ≡ Nothing
IsAnswer ForEnd got = got ≡ Ended
IsAnswer (NotKnown line) got = got ≡ Nothing

-- the next line of the input is taken, whole and with what ended it, and answered
pub record TakesLine (left stays : Option (List ℕ)) (got : Got Policy) : Type 0 where
  pub line : List ℕ
  pub first : IsFirstLine left stays line
  pub answer : IsAnswer (asked_by line) got

-- no line is left: nothing more comes, or only of the file, where that is watched
pub record IsOver (watched : Bool) (left : Option (List ℕ)) (got : Got Policy) : Type 0 where
  pub end : IsAtEnd left
  pub ended : (got ≡ Ended) ⊎ ((watched ≡ true) × (got ≡ Nothing))

-- no line is taken: the file has changed, which is watched, and what came is the policy of its text
pub record OfFile (watched : Bool) (left stays : Option (List ℕ)) (got : Got Policy) : Type 0 where
  pub looked : watched ≡ true
  pub kept : stays ≡ left
  pub answer : IsAnswer ForReload got

-- the next line could not be read: the input is lost, unless it was given up
pub record CannotRead (given_up was_lost is_lost : Bool) (got : Got Policy) : Type 0 where
  pub ended : got ≡ Ended
  pub lost : given_up ≡ false → is_lost ≡ true
  pub kept : given_up ≡ true → is_lost ≡ was_lost

-- one turn, with whether the file is watched, what of the input is left before and behind it, and whether the
-- input was and is lost
abbrev pub IsTurn : (watched : Bool) (left stays : Option (List ℕ)) (given_up was_lost is_lost : Bool)
    → Got Policy → Type 0
IsTurn watched left stays given_up was_lost is_lost got =
    (TakesLine left stays got × (is_lost ≡ was_lost))
    ⊎ (IsOver watched left got × (is_lost ≡ was_lost))
    ⊎ (OfFile watched left stays got × (is_lost ≡ was_lost))
    ⊎ CannotRead given_up was_lost is_lost got
