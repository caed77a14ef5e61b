-- What is printed of a policy text that is checked, and how the command comes out.
use Rattle.std.specs.Prelude.{ℕ, ◌≡◌, List, [], ◌++◌, length, Option, Some, None, Result, Ok, Err, codes}
use Rattle.sng_grants.specs.Ends.{next_end}
use Rattle.sng_grants.specs.declared.policy.Policy.{Policy}
use Rattle.sng_scope.specs.Faults.{sentence_of}
use Rattle.sng_scope.specs.Policies.{policy_of}
use Rattle.sng_scope.specs.Written.{policy_text}
use Rattle.sng_scope.specs.declared.fault.PolicyFault.{PolicyFault}
use Rattle.sng_places.specs.declared.position.Position.{Position}
use Rattle.sng_places.specs.declared.stop.Stop.{Stop}
use Rattle.sng_places.specs.declared.stop.Stop.TheVariants.{At, Memory}
use Rattle.sng_script.specs.Refused.{refused_text}
use Rattle.sng_times.specs.Times.{IsUtc}
use Rattle.sng_questions.specs.Ends.{ending_scopes}
use Rattle.sng_questions.specs.Places.{count_text, found_text}
use Rattle.sng_script.specs.declared.status.Status.{Status}
use Rattle.sng_script.specs.declared.status.Status.TheVariants as statuses

-- ---- a policy that is accepted

-- how much it lists
abbrev pub listed_text : Policy → List ℕ
listed_text policy =
    count_text (codes "policy ok: ") (length policy.clients)
    ++ (count_text (codes " clients, ") (length policy.sources)
    ++ (count_text (codes " sources, ") (length policy.topics) ++ codes " topics"))

-- how many scopes end, and when the first one does, in ms
abbrev pub ends_text : ℕ → ℕ → List ℕ
ends_text count first =
    count_text (codes "; ") count
    ++ (count_text (codes " scopes end, the first at ") first ++ codes " ms of Unix time")

abbrev pub date_text : Option (List ℕ) → List ℕ
date_text None = []
date_text (Some date) = codes ", " ++ date

-- the same with the date of the first end, where a scope ends
abbrev pub first_end_text : ℕ → Option ℕ → Option (List ℕ) → List ℕ
first_end_text count None date = []
first_end_text count (Some first) date = ends_text count first ++ date_text date

-- its line, with this date of its first end
abbrev pub accepted_text : Policy → Option (List ℕ) → List ℕ
accepted_text policy date =
    listed_text policy ++ (first_end_text (ending_scopes policy) (next_end policy) date ++ codes "\n")

-- the date is that of an end, where there is one
abbrev pub IsDateOf : Option ℕ → Option (List ℕ) → Type 0
IsDateOf None date = date ≡ None
IsDateOf (Some end) date = IsUtc end date

-- ---- a text with a fault

-- the line of the place
abbrev pub stop_text : Position → Result Unit Stop → List ℕ
stop_text position (Ok checked) = []
stop_text position (Err (At found)) = found_text position found
stop_text position (Err Memory) = []

-- the fault by its name and its sentence, and its place
abbrev pub fault_report : Position → PolicyFault → Result Unit Stop → List ℕ
fault_report position fault check = refused_text fault
    ++ (sentence_of fault ++ (codes "\n" ++ stop_text position check))

-- ---- what is printed

-- the lines are those of an accepted policy, with the date of its first end
pub record AreAccepted (policy : Policy) (lines : List ℕ) : Type 0 where
  pub date : Option (List ℕ)
  pub is_date : IsDateOf (next_end policy) date
  pub printed : lines ≡ accepted_text policy date

-- the lines are those of a fault, which stands somewhere
abbrev pub AreRefused : PolicyFault → Result Unit Stop → List ℕ → Type 0
AreRefused fault check lines = (position : Position) × (lines ≡ fault_report position fault check)

-- the lines are those of a text, of which this was read, and where the first fault stands
abbrev pub AreLinesOf : Result Policy PolicyFault → Result Unit Stop → List ℕ → Type 0
AreLinesOf (Ok policy) check lines = AreAccepted policy lines
AreLinesOf (Err fault) check lines = AreRefused fault check lines

-- what is printed where the canonical text is asked for: that text, and of a text that is refused its fault
abbrev pub canonical_report : Position → Result Policy PolicyFault → Result Unit Stop → List ℕ
canonical_report position (Ok policy) check = policy_text policy ++ codes "\n"
canonical_report position (Err fault) check = fault_report position fault check

-- its canonical text is read as the policy itself
abbrev pub IsReadAgain : Result Policy PolicyFault → Type 0
IsReadAgain (Ok policy) = policy_of (policy_text policy) ≡ Ok policy
IsReadAgain (Err fault) = Unit {0}

abbrev pub report_status : Result Policy PolicyFault → Status
report_status (Ok policy) = statuses.Done
report_status (Err fault) = statuses.Unreadable
