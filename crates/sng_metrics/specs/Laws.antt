-- What ties the definitions of answers and of a page to what they tell of.
use Rattle.std.specs.Prelude.{ℕ, ◌≡◌, ◌<◌, ◌^◌, true, List, length, map, Some}
use Rattle.std.specs.Fmt.{decimal}
use Rattle.httparse.specs.Grammar.{ResponseHead, ReadsResponse, status_code}
use Rattle.httparse.specs.Spans.{name_and_value}
use Rattle.sng_book.specs.declared.decision.Decision.{Decision}
use Rattle.sng_metrics.specs.Answers.{answer_text, content_text}
use Rattle.sng_metrics.specs.Counts.{may_come}
use Rattle.sng_metrics.specs.Responses.{length_field}
use Rattle.sng_metrics.specs.declared.heard.Form.{Form}
use Rattle.sng_metrics.specs.declared.status.Media.{Media}
use Rattle.sng_metrics.specs.declared.status.Status.{Status}
use Rattle.sng_metrics.specs.declared.status.Status.TheVariants as status
use Rattle.sng_tally.specs.Kinds.{kind_of, outcome_of}

-- a decision can come out as it does, so it has a sample
abbrev pub EveryDecisionIsTold : Type 0
EveryDecisionIsTold = (decision : Decision) → may_come (kind_of decision) (outcome_of decision) ≡ true

-- the codes of the statuses (RFC 9110, 15; RFC 6585, 5)
abbrev pub code_of : Status → ℕ
code_of status.Ok = 200
code_of status.BadRequest = 400
code_of status.NotFound = 404
code_of status.MethodNotAllowed = 405
code_of status.RequestTimeout = 408
code_of status.FieldsTooLarge = 431
code_of status.Unavailable = 503

-- the octets are the head of an answer with this code, of a content of so many octets, and then these
pub record IsAnswer (octets : List ℕ) (code count : ℕ) (rest : List ℕ) : Type 0 where
  pub head : ResponseHead
  pub reads : ReadsResponse octets head rest
  pub code_is : status_code head ≡ code
  pub length_is : length_field (map name_and_value head.fields) ≡ Some (decimal count)

-- whatever is answered is an answer of HTTP/1.1 (RFC 9112, 4), by the grammar by which heads are read
abbrev pub AnswersAreHttp : Type 0
AnswersAreHttp = (status : Status) (media : Media) (form : Form) (content : List ℕ) → length content < 2 ^ 64
    → IsAnswer (answer_text status media form content) (code_of status) (length content)
    (content_text form content)
