-- The statuses of answers (RFC 9110, 15; RFC 6585, 5), and what the content of an answer is.
use Rattle.std.specs.Prelude.{ℕ, List, codes}
use Rattle.sng_metrics.specs.declared.heard.Refusal.{Refusal}
use Rattle.sng_metrics.specs.declared.heard.Refusal.TheVariants as refusal
use Rattle.sng_metrics.specs.declared.status.Media.{Media}
use Rattle.sng_metrics.specs.declared.status.Media.TheVariants as media
use Rattle.sng_metrics.specs.declared.status.Status.{Status}
use Rattle.sng_metrics.specs.declared.status.Status.TheVariants as status

-- what follows the version in the line of the status
abbrev pub line_of : Status → List ℕ
line_of status.Ok = codes "200 OK"
line_of status.BadRequest = codes "400 Bad Request"
line_of status.NotFound = codes "404 Not Found"
line_of status.MethodNotAllowed = codes "405 Method Not Allowed"
line_of status.RequestTimeout = codes "408 Request Timeout"
line_of status.FieldsTooLarge = codes "431 Request Header Fields Too Large"
line_of status.Unavailable = codes "503 Service Unavailable"

-- the value of `Content-Type`
abbrev pub media_of : Media → List ℕ
media_of media.Text = codes "text/plain; charset=utf-8"
media_of media.Figures = codes "text/plain; version=0.0.4; charset=utf-8"

-- the status that tells of a refusal
abbrev pub status_of : Refusal → Status
status_of refusal.Malformed = status.BadRequest
status_of refusal.NotFound = status.NotFound
status_of refusal.Method = status.MethodNotAllowed
status_of refusal.TooSlow = status.RequestTimeout
status_of refusal.TooLarge = status.FieldsTooLarge

-- the line that tells of it, for people
abbrev pub words_of : Refusal → List ℕ
words_of refusal.Malformed = codes "this is no request of HTTP/1.1\n"
words_of refusal.NotFound = codes "the pages are /metrics and /healthz\n"
words_of refusal.Method = codes "a page is asked for by GET or HEAD\n"
words_of refusal.TooSlow = codes "the request did not come in time\n"
words_of refusal.TooLarge = codes "the head of the request is too large\n"
