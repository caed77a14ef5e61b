-- The places of faults are those of the faults that `read_policy` answers.
use Rattle.std.specs.Prelude.{◌≡◌, ℕ, List, Result, Ok, Err}
use Rattle.sng_scope.specs.Policies.{policy_of}
use Rattle.sng_scope.specs.Steps.{◌>>=◌}
use Rattle.sng_scope.specs.Texts.{value_of}
use Rattle.sng_scope.specs.declared.fault.PolicyFault.{PolicyFault}
use Rattle.sng_scope.specs.declared.fault.PolicyFault.TheVariants as faults
use Rattle.sng_places.specs.Flaws.{fault_of}
use Rattle.sng_places.specs.Order.{first, tests_of}
use Rattle.sng_places.specs.Places.{stop_at, text_check}
use Rattle.sng_places.specs.ScopePlaces.{or_stop}
use Rattle.sng_places.specs.declared.flaw.Flaw.TheVariants as flaws
use Rattle.sng_places.specs.declared.location.Location.TheVariants as places
use Rattle.sng_places.specs.declared.stop.Stop.{Stop}
use Rattle.sng_places.specs.declared.stop.Stop.TheVariants.{At, Memory}

-- the fault of a text whose search ends so
abbrev pub fault_at : Stop → PolicyFault
fault_at (At found) = fault_of found.flaw
fault_at Memory = faults.Memory

-- an error, by what it comes to
abbrev pub blamed : {A S : Type 0} → (S → PolicyFault) → Result A S → Result A PolicyFault
blamed fault (Ok a) = Ok a
blamed fault (Err stop) = Err (fault stop)

-- whether there is a value, and else the fault
abbrev pub forget : {A : Type 0} → Result A PolicyFault → Result Unit PolicyFault
forget (Ok a) = Ok tt
forget (Err fault) = Err fault

-- the search goes through the tests of a policy in their order, and ends at the first that fails
abbrev pub TestsAreInOrder : Type 0
TestsAreInOrder =
    (text : List ℕ) → text_check text
    ≡ or_stop (value_of text) (stop_at places.Whole flaws.NotJson) >>= (λ d. first (tests_of d))

-- the search finds a place exactly where the text is no policy, with the fault of the text
abbrev pub PlacesAreOfFaults : Type 0
PlacesAreOfFaults = (text : List ℕ) → blamed fault_at (text_check text) ≡ forget (policy_of text)
