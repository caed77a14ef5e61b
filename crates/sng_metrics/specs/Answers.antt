-- Answers (RFC 9112, 4 and 5; RFC 9110, 8.3, 8.6 and 10.2.1), as octets.
use Rattle.std.specs.Prelude.{ℕ, List, [], ◌++◌, length, codes, if◌then◌else◌}
use Rattle.std.specs.Fmt.{decimal}
use Rattle.sng_metrics.specs.Healths.{is_well, reason_of}
use Rattle.sng_metrics.specs.Statuses.{line_of, media_of, status_of, words_of}
use Rattle.sng_metrics.specs.declared.health.Health.{Health}
use Rattle.sng_metrics.specs.declared.heard.Form.{Form}
use Rattle.sng_metrics.specs.declared.heard.Form.TheVariants.{Whole, HeadOnly}
use Rattle.sng_metrics.specs.declared.heard.Refusal.{Refusal}
use Rattle.sng_metrics.specs.declared.status.Media.{Media}
use Rattle.sng_metrics.specs.declared.status.Media.TheVariants.{Text}
use Rattle.sng_metrics.specs.declared.status.Status.{Status}
use Rattle.sng_metrics.specs.declared.status.Status.TheVariants as status

-- the line of the status, and that the connection is closed behind the answer
abbrev pub status_text : Status → List ℕ
status_text status = codes "HTTP/1.1 " ++ line_of status ++ codes "\r\nConnection: close\r\n"

-- what the content is
abbrev pub type_text : Media → List ℕ
type_text media = codes "Content-Type: " ++ media_of media ++ codes "\r\n"

-- how many octets the content has
abbrev pub length_text : ℕ → List ℕ
length_text count = codes "Content-Length: " ++ decimal count ++ codes "\r\n"

-- which methods are taken, where that is why a request is refused (RFC 9110, 15.5.6)
abbrev pub allow_text : Status → List ℕ
allow_text status.Ok = []
allow_text status.BadRequest = []
allow_text status.NotFound = []
allow_text status.MethodNotAllowed = codes "Allow: GET, HEAD\r\n"
allow_text status.RequestTimeout = []
allow_text status.FieldsTooLarge = []
allow_text status.Unavailable = []

-- the lines of the head, and the empty line behind them
abbrev pub head_text : Status → Media → ℕ → List ℕ
head_text status media count =
    status_text status ++ (type_text media ++ (length_text count ++ (allow_text status ++ codes "\r\n")))

-- HEAD is answered without the content (RFC 9110, 9.3.2)
abbrev pub content_text : Form → List ℕ → List ℕ
content_text Whole content = content
content_text HeadOnly content = []

-- the length that is told is that of the content, sent or not
abbrev pub answer_text : Status → Media → Form → List ℕ → List ℕ
answer_text status media form content =
    head_text status media (length content) ++ content_text form content

abbrev pub refusal_text : Form → Refusal → List ℕ
refusal_text form refusal = answer_text (status_of refusal) Text form (words_of refusal)

-- ---- the health

abbrev pub health_status : Health → Status
health_status health =
    if is_well health.broker_is_up health.book_takes_rows then status.Ok else status.Unavailable

abbrev pub health_text : Form → Health → List ℕ
health_text form health =
    answer_text (health_status health) Text form (reason_of health.broker_is_up health.book_takes_rows)
