-- How the place of a fault of a policy text is printed, and what is wrong there.
use Rattle.std.specs.Prelude.{ℕ, List, [], ◌∷◌, ◌++◌, take, length, nat_lt, if◌then◌else◌, Option, Some, None}
use Rattle.std.specs.Prelude.{codes}
use Rattle.std.specs.Fmt.{decimal}
use Rattle.sng_text.specs.Levels.{levels_of}
use Rattle.sng_text.specs.Texts.{has_byte, is_hash, is_ordinary}
use Rattle.sng_text.specs.declared.fault.TextFault.{TextFault}
use Rattle.sng_text.specs.declared.fault.TextFault.TheVariants as texts
use Rattle.sng_text.specs.declared.limits.TheConstants.{MAX_CLIENT_ID, MAX_FILTER, MAX_NAME}
use Rattle.sng_places.specs.LimitPlaces.{limit_text}
use Rattle.sng_places.specs.declared.flaw.Flaw.{Flaw}
use Rattle.sng_places.specs.declared.flaw.Flaw.TheVariants as flaws
use Rattle.sng_places.specs.declared.location.Form.{Form}
use Rattle.sng_places.specs.declared.location.Form.TheVariants.{Plain, Encoded}
use Rattle.sng_places.specs.declared.location.Part.{Part}
use Rattle.sng_places.specs.declared.location.Part.TheVariants.{Clients, Sources, Topics}
use Rattle.sng_places.specs.declared.location.Location.{Location}
use Rattle.sng_places.specs.declared.location.Location.TheVariants as places
use Rattle.sng_places.specs.declared.location.Spot.{Spot}
use Rattle.sng_places.specs.declared.location.Spot.TheVariants as spots
use Rattle.sng_places.specs.declared.position.Position.{Position}
use Rattle.sng_places.specs.declared.stop.Found.{Found}
use Rattle.sng_book.specs.Printing.{name_text}
use Rattle.sng_questions.specs.declared.limits.TheConstants.{MAX_SHOWN}

-- ---- places

abbrev pub part_text : Part → List ℕ
part_text Clients = codes "clients"
part_text Sources = codes "sources"
part_text Topics = codes "topics"

-- a place in an array, from 0
abbrev pub index_text : ℕ → List ℕ
index_text place = codes "[" ++ (decimal place ++ codes "]")

abbrev pub spot_text : Spot → List ℕ
spot_text spots.Whole = []
spot_text (spots.Pair i) = index_text i
spot_text (spots.Filter i) = index_text i ++ codes "[0]"
spot_text (spots.Permissions i) = index_text i ++ codes "[1]"
spot_text (spots.Permission i k) = index_text i ++ (codes "[1]" ++ index_text k)

-- what a text stands for, where the place is in that
abbrev pub form_text : Form → List ℕ
form_text Plain = []
form_text Encoded = codes " (decoded)"

abbrev pub member_text : Part → List ℕ → List ℕ
member_text part name = part_text part ++ (codes "." ++ name_text name)

abbrev pub place_text : Location → List ℕ
place_text places.Whole = codes "the policy"
place_text places.Version = codes "version"
place_text (places.Member name) = name_text name
place_text places.Limits = codes "limits"
place_text (places.LimitMember name) = codes "limits." ++ name_text name
place_text (places.Limit name) = codes "limits." ++ limit_text name
place_text (places.Part part) = part_text part
place_text (places.Name part name) = member_text part name
place_text (places.Value part name form spot) = member_text part name ++ (form_text form ++ spot_text spot)
place_text (places.Other part name other) = member_text part name ++ (codes "." ++ name_text other)
place_text (places.End part name) = member_text part name ++ codes ".exp"
place_text (places.Scope part name form spot) =
    member_text part name ++ (codes ".scope" ++ (form_text form ++ spot_text spot))

-- ---- what is wrong there

-- a text, or its first bytes, between quotes
abbrev pub shown_text : List ℕ → List ℕ
shown_text text =
    if nat_lt MAX_SHOWN (length text)
    then name_text (take MAX_SHOWN text) ++ codes ".."
    else name_text text

abbrev pub quoted_text : List ℕ → List ℕ
quoted_text text = codes "\"" ++ (shown_text text ++ codes "\": ")

-- a level that keeps a text from being a filter
abbrev pub level_text : List ℕ → List ℕ
level_text level =
    if is_hash level
    then codes "wildcard '#' before the last level"
    else (if has_byte 43 level then codes "wildcard '+' inside a level"
    else codes "wildcard '#' inside a level")

-- the first level of a filter that may not stand anywhere
abbrev pub first_misplaced : List (List ℕ) → Option (List ℕ)
first_misplaced [] = None
first_misplaced (level ∷ levels) = if is_ordinary level then first_misplaced levels else Some level

abbrev pub misplaced_text : Option (List ℕ) → List ℕ
misplaced_text None = codes "a wildcard"
misplaced_text (Some level) = level_text level

-- words, and a number behind them
abbrev pub count_text : List ℕ → ℕ → List ℕ
count_text words count = words ++ decimal count

-- more bytes than there may be
abbrev pub bytes_text : ℕ → ℕ → List ℕ
bytes_text count most = decimal count ++ (codes " bytes, at most " ++ decimal most)

abbrev pub filter_text : List ℕ → TextFault → List ℕ
filter_text text texts.Empty = codes "no byte, at least 1"
filter_text text texts.TooLong = bytes_text (length text) MAX_FILTER
filter_text text texts.NotUtf8 = codes "not UTF-8"
filter_text text texts.Null = codes "U+0000"
filter_text text texts.Wildcard = misplaced_text (first_misplaced (levels_of text))
filter_text text texts.Memory = codes "out of memory"

abbrev pub topic_text : List ℕ → TextFault → List ℕ
topic_text text texts.Empty = codes "no byte, at least 1"
topic_text text texts.TooLong = bytes_text (length text) MAX_NAME
topic_text text texts.NotUtf8 = codes "not UTF-8"
topic_text text texts.Null = codes "U+0000"
topic_text text texts.Wildcard = codes "a wildcard in a topic name"
topic_text text texts.Memory = codes "out of memory"

abbrev pub client_text : TextFault → List ℕ
client_text texts.Empty = codes "no character, at least 1"
client_text texts.TooLong = count_text (codes "more characters than ") MAX_CLIENT_ID
client_text texts.NotUtf8 = codes "not UTF-8"
client_text texts.Null = codes "U+0000"
client_text texts.Wildcard = codes "a wildcard"
client_text texts.Memory = codes "out of memory"

-- what is counted at a place
abbrev pub unit_text : Location → List ℕ
unit_text places.Whole = codes "members"
unit_text places.Version = codes "members"
unit_text (places.Member name) = codes "members"
unit_text places.Limits = codes "members"
unit_text (places.LimitMember name) = codes "members"
unit_text (places.Limit name) = codes "members"
unit_text (places.Part part) = part_text part
unit_text (places.Name part name) = codes "pairs"
unit_text (places.Value part name form spot) = codes "pairs"
unit_text (places.Other part name other) = codes "members"
unit_text (places.End part name) = codes "members"
unit_text (places.Scope part name form spot) = codes "pairs"

-- what is wrong, in words that need nothing else
abbrev pub words_of : Flaw → List ℕ
words_of flaws.NotJson = codes "not JSON"
words_of flaws.NotObject = codes "not an object"
words_of flaws.NoVersion = codes "no member version"
words_of flaws.OtherVersion = codes "not the whole number 1, 2 or 4"
words_of flaws.UnknownMember = codes "there is no such member"
words_of flaws.NoScope = codes "no member scope"
words_of flaws.NotEnd = codes "not a whole number of ms from 0 to 18446744073709551615"
words_of flaws.NotScope = codes "neither an array of pairs nor a text"
words_of flaws.NotPair = codes "not an array of a filter and its permissions"
words_of flaws.NotArray = codes "not an array"
words_of flaws.NotText = codes "not a text"
words_of (flaws.Base64 text) = codes "not base64url without padding"
words_of (flaws.NotEncodedJson text) = codes "base64url of what is not JSON"
words_of (flaws.Filter text fault) = codes "not a topic filter"
words_of (flaws.Permission text) = codes "neither pub nor sub"
words_of (flaws.ClientId fault) = codes "not a client id: "
words_of flaws.Source = codes "not an IPv4 address in decimal without leading zeros"
words_of flaws.TopicId = codes "not a topic id from 1 to 65534 in decimal without leading zeros"
words_of (flaws.TopicName text fault) = codes "not a topic name"
words_of (flaws.NotLimit least most) = codes "not a whole number from "
words_of (flaws.TooMany count most) = codes "too many"

abbrev pub many_text : Location → ℕ → ℕ → List ℕ
many_text place count most = decimal count
    ++ (codes " " ++ (unit_text place ++ (codes ", at most " ++ decimal most)))

-- not a whole number from the least to the most
abbrev pub range_text : ℕ → ℕ → List ℕ
range_text least most =
    count_text (codes "not a whole number from ") least ++ count_text (codes " to ") most

abbrev pub flaw_text : Location → Flaw → List ℕ
flaw_text place flaws.NotJson = words_of flaws.NotJson
flaw_text place flaws.NotObject = words_of flaws.NotObject
flaw_text place flaws.NoVersion = words_of flaws.NoVersion
flaw_text place flaws.OtherVersion = words_of flaws.OtherVersion
flaw_text place flaws.UnknownMember = words_of flaws.UnknownMember
flaw_text place flaws.NoScope = words_of flaws.NoScope
flaw_text place flaws.NotEnd = words_of flaws.NotEnd
flaw_text place flaws.NotScope = words_of flaws.NotScope
flaw_text place flaws.NotPair = words_of flaws.NotPair
flaw_text place flaws.NotArray = words_of flaws.NotArray
flaw_text place flaws.NotText = words_of flaws.NotText
flaw_text place (flaws.Base64 text) = quoted_text text ++ words_of (flaws.Base64 text)
flaw_text place (flaws.NotEncodedJson text) = quoted_text text ++ words_of (flaws.NotEncodedJson text)
flaw_text place (flaws.Filter text fault) = quoted_text text ++ filter_text text fault
flaw_text place (flaws.Permission text) = quoted_text text ++ words_of (flaws.Permission text)
flaw_text place (flaws.ClientId fault) = words_of (flaws.ClientId fault) ++ client_text fault
flaw_text place flaws.Source = words_of flaws.Source
flaw_text place flaws.TopicId = words_of flaws.TopicId
flaw_text place (flaws.TopicName text fault) = quoted_text text ++ topic_text text fault
flaw_text place (flaws.NotLimit least most) = range_text least most
flaw_text place (flaws.TooMany count most) = many_text place count most

-- ---- the line of a place, with its line feed

-- the line of a text that is not JSON, and the column there
abbrev pub position_text : Position → List ℕ
position_text position = codes "line "
    ++ (decimal position.line ++ (codes ", column " ++ decimal position.column))

-- of the text as a whole the position is shown where it is not JSON
abbrev pub where_text : Position → Location → Flaw → List ℕ
where_text position places.Whole flaws.NotJson = position_text position
where_text position place flaw = place_text place

abbrev pub found_text : Position → Found → List ℕ
found_text position found =
    codes "at " ++ (where_text position found.place found.flaw
    ++ (codes ": " ++ (flaw_text found.place found.flaw ++ codes "\n")))
