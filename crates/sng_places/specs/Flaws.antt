-- What is wrong at a place, and the fault of a policy text that has it.
use Rattle.sng_scope.specs.declared.fault.PolicyFault.{PolicyFault}
use Rattle.sng_scope.specs.declared.fault.PolicyFault.TheVariants as faults
use Rattle.sng_places.specs.declared.flaw.Flaw.{Flaw}
use Rattle.sng_places.specs.declared.flaw.Flaw.TheVariants.{NotJson, NotObject, NoVersion, OtherVersion}
use Rattle.sng_places.specs.declared.flaw.Flaw.TheVariants.{UnknownMember, NoScope, NotEnd, NotScope, NotPair, NotArray}
use Rattle.sng_places.specs.declared.flaw.Flaw.TheVariants.{NotText, Base64, NotEncodedJson, Filter}
use Rattle.sng_places.specs.declared.flaw.Flaw.TheVariants.{Permission, ClientId, Source, TopicId, TopicName}
use Rattle.sng_places.specs.declared.flaw.Flaw.TheVariants.{NotLimit, TooMany}

abbrev pub fault_of : Flaw → PolicyFault
fault_of NotJson = faults.NotJson
fault_of NotObject = faults.Shape
fault_of NoVersion = faults.Shape
fault_of OtherVersion = faults.Shape
fault_of UnknownMember = faults.Shape
fault_of NoScope = faults.Shape
fault_of NotEnd = faults.Shape
fault_of NotScope = faults.Shape
fault_of NotPair = faults.Shape
fault_of NotArray = faults.Shape
fault_of NotText = faults.Shape
fault_of (Base64 text) = faults.BadBase64
fault_of (NotEncodedJson text) = faults.NotJson
fault_of (Filter text fault) = faults.BadFilter
fault_of (Permission text) = faults.BadPermission
fault_of (ClientId fault) = faults.BadClientId
fault_of Source = faults.BadSource
fault_of TopicId = faults.BadTopicId
fault_of (TopicName text fault) = faults.BadTopicId
fault_of (NotLimit least most) = faults.Shape
fault_of (TooMany count most) = faults.TooMany
