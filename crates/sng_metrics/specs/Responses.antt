-- A request for a page, and how its answer is read (RFC 9112, 4 and 6).
use Rattle.std.specs.Prelude.{ℕ, ◌≡◌, ◌<◌, ◌≤◌, ◌⊎◌, Bool, List, [], ◌∷◌, ◌++◌, length, take, map, codes}
use Rattle.std.specs.Prelude.{if◌then◌else◌, Option, Some, None, Result, Ok, Err}
use Rattle.std.specs.Borrow.{Bor}
use Rattle.std.specs.Char.{to_ascii_lowercase}
use Rattle.std.specs.Str.{bytes_eq}
use Rattle.httparse.specs.Grammar.{Field, ResponseHead, ReadsResponse, HasNoResponse, MayBecomeResponse}
use Rattle.httparse.specs.Grammar.{status_code}
use Rattle.httparse.specs.Spans.{ResponseOverflows, name_and_value}
use Rattle.sng_metrics.specs.Numbers.{number_of}
use Rattle.sng_metrics.specs.declared.heard.Page.{Page}
use Rattle.sng_metrics.specs.declared.heard.Page.TheVariants.{Metrics, Health}
use Rattle.sng_metrics.specs.declared.limits.TheConstants.{MAX_FIELDS}
use Rattle.sng_metrics.specs.declared.response.Answer.{Answer}
use Rattle.sng_metrics.specs.declared.response.AnswerFault.{AnswerFault}
use Rattle.sng_metrics.specs.declared.response.AnswerFault.TheVariants.{NotHttp, CutOff}

-- ---- the request

abbrev pub path_text : Page → List ℕ
path_text Metrics = codes "/metrics"
path_text Health = codes "/healthz"

abbrev pub request_text : Page → (host : List ℕ) → List ℕ
request_text page host =
    codes "GET " ++ (path_text page ++ (codes " HTTP/1.1\r\nHost: " ++ (host
    ++ codes "\r\nConnection: close\r\n\r\n")))

-- ---- the length of the content

-- names of fields are the same in whatever case (RFC 9110, 5.1)
abbrev pub is_length_field : List ℕ → Bool
is_length_field name = bytes_eq (map to_ascii_lowercase name) (codes "content-length")

-- the value of the first field that tells it, of names and values
abbrev pub length_field : List (List ℕ × List ℕ) → Option (List ℕ)
length_field [] = None
length_field (field ∷ fields) = if is_length_field field.0 then Some field.1 else length_field fields

-- ---- the answer

-- what is read, or why not
abbrev pub Reading : Type 0
Reading = Result (Bor (List ℕ)) AnswerFault

-- so many octets, where there are as many
abbrev pub AreFirst : List ℕ → ℕ → Reading → Type 0
AreFirst octets count (Ok content) = (count ≤ length octets) × (content.now ≡ take count octets)
AreFirst octets count (Err fault) = (length octets < count) × (fault ≡ CutOff)

abbrev pub AreCounted : List ℕ → Option ℕ → Reading → Type 0
AreCounted octets (Some count) reading = AreFirst octets count reading
AreCounted octets None (Ok content) = ⊥
AreCounted octets None (Err fault) = fault ≡ NotHttp

-- the content is as long as the field says, and lasts up to the end of the connection where there is none
abbrev pub IsContent : List ℕ → Option (List ℕ) → Reading → Type 0
IsContent octets (Some told) reading = AreCounted octets (number_of told) reading
IsContent octets None (Ok content) = content.now ≡ octets
IsContent octets None (Err fault) = ⊥

-- of an answer its content
abbrev pub content_in : Result Answer AnswerFault → Reading
content_in (Ok answer) = Ok answer.content
content_in (Err fault) = Err fault

abbrev pub HasCode : Result Answer AnswerFault → ℕ → Type 0
HasCode (Ok answer) code = answer.code ≡ code
HasCode (Err fault) code = Unit {0}

-- what comes of a head and of the octets behind it
pub record IsReadFrom
    (octets : List ℕ) (head : ResponseHead) (result : Result Answer AnswerFault) : Type 0 where
  pub rest : List ℕ
  pub reads : ReadsResponse octets head rest
  pub content : IsContent rest (length_field (map name_and_value head.fields)) (content_in result)
  pub code : HasCode result (status_code head)

-- what comes of some head
abbrev pub IsOfHead : List ℕ → Result Answer AnswerFault → Type 0
IsOfHead octets result = (head : ResponseHead) × IsReadFrom octets head result

-- what comes of octets: those of an answer are cut off where no head is whole, or less comes behind it than it
-- says; and they are no answer where whatever follows makes none that has not too many fields, or where the
-- length of the content is no number
abbrev pub IsReadOf : List ℕ → Result Answer AnswerFault → Type 0
IsReadOf octets (Ok answer) = IsOfHead octets (Ok answer)
IsReadOf octets (Err CutOff) = (HasNoResponse octets × MayBecomeResponse octets) ⊎ IsOfHead octets (Err CutOff)
IsReadOf octets (Err NotHttp) = ResponseOverflows MAX_FIELDS octets ⊎ IsOfHead octets (Err NotHttp)
