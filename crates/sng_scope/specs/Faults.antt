-- The faults of a policy text: their numbers, and their names as logs print them.
use Rattle.std.specs.Prelude.{ℕ, List, codes}
use Rattle.sng_scope.specs.declared.fault.PolicyFault.{PolicyFault}
use Rattle.sng_scope.specs.declared.fault.PolicyFault.TheVariants.{NotJson, Shape, BadFilter, BadPermission}
use Rattle.sng_scope.specs.declared.fault.PolicyFault.TheVariants.{BadBase64, BadClientId, BadSource}
use Rattle.sng_scope.specs.declared.fault.PolicyFault.TheVariants.{BadTopicId, TooMany, Memory}

abbrev pub number_of : PolicyFault → ℕ
number_of NotJson = 1
number_of Shape = 2
number_of BadFilter = 3
number_of BadPermission = 4
number_of BadBase64 = 5
number_of BadClientId = 6
number_of BadSource = 7
number_of BadTopicId = 8
number_of TooMany = 9
number_of Memory = 10

abbrev pub name_of : PolicyFault → List ℕ
name_of NotJson = codes "NotJson"
name_of Shape = codes "Shape"
name_of BadFilter = codes "BadFilter"
name_of BadPermission = codes "BadPermission"
name_of BadBase64 = codes "BadBase64"
name_of BadClientId = codes "BadClientId"
name_of BadSource = codes "BadSource"
name_of BadTopicId = codes "BadTopicId"
name_of TooMany = codes "TooMany"
name_of Memory = codes "Memory"

-- what an operator is told to mend
abbrev pub sentence_of : PolicyFault → List ℕ
sentence_of NotJson =
    codes "the text is not JSON in UTF-8, or a scope given as a text does not decode to such JSON"
sentence_of Shape =
    codes "the text is JSON, but not of the shape of a policy of version 1, 2 or 4 or of a scope"
sentence_of BadFilter = codes "a filter in a scope is not a valid topic filter, or is too long"
sentence_of BadPermission = codes "a permission in a scope is neither `pub` nor `sub`"
sentence_of BadBase64 = codes "a scope given as a text is not base64url without padding"
sentence_of BadClientId =
    codes "a name under `clients` is not a client id: it is empty, too long or has U+0000"
sentence_of BadSource = codes "a name under `sources` is not an IPv4 address in decimal without leading zeros"
sentence_of BadTopicId =
    codes "under `topics` a name is not a topic id without leading zeros, or its text is not a topic name"
sentence_of TooMany =
    codes "there are more clients, sources, topics or pairs in a scope than a policy may have"
sentence_of Memory = codes "out of memory"
