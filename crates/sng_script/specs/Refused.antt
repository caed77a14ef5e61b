-- What is told of a policy that is refused.
use Rattle.std.specs.Prelude.{ℕ, List, ◌++◌, codes}
use Rattle.std.specs.Fmt.{decimal}
use Rattle.sng_scope.specs.Faults.{number_of, name_of}
use Rattle.sng_scope.specs.declared.fault.PolicyFault.{PolicyFault}

-- the number of a fault and its name
abbrev pub fault_text : PolicyFault → List ℕ
fault_text fault = decimal (number_of fault) ++ (codes " " ++ name_of fault)

-- the line of a refused policy
abbrev pub refused_text : PolicyFault → List ℕ
refused_text fault = codes "refused policy " ++ (fault_text fault ++ codes "\n")
