-- What the head of a request asks for (RFC 9112, 3), in the words of the grammar of heads.
use Rattle.std.specs.Prelude.{ℕ, Bool, true, false, ◌==◌, ◌&&◌, ◌||◌, List, map, drop, count_by, codes, if◌then◌else◌}
use Rattle.std.specs.Prelude.{Some, None, nat_eq}
use Rattle.std.specs.declared.option.Option.{Option}
use Rattle.std.specs.Char.{to_ascii_lowercase}
use Rattle.std.specs.List.{before_first, position_or_len, starts_with}
use Rattle.std.specs.Str.{bytes_eq}
use Rattle.httparse.specs.Grammar.{Field, RequestHead}
use Rattle.httparse.specs.Spans.{span_bytes}
use Rattle.httparse.specs.declared.spans.HeaderSpan.{HeaderSpan}
use Rattle.sng_metrics.specs.declared.heard.Form.{Form}
use Rattle.sng_metrics.specs.declared.heard.Form.TheVariants.{Whole, HeadOnly}
use Rattle.sng_metrics.specs.declared.heard.Heard.{Heard}
use Rattle.sng_metrics.specs.declared.heard.Heard.TheVariants.{Asked, Refused}
use Rattle.sng_metrics.specs.declared.heard.Page.{Page}
use Rattle.sng_metrics.specs.declared.heard.Page.TheVariants.{Metrics, Health}
use Rattle.sng_metrics.specs.declared.heard.Refusal.TheVariants.{Malformed, NotFound, Method}

-- ---- the method

-- methods are told apart by case (RFC 9110, 9.1)
abbrev pub form_of : List ℕ → Option Form
form_of method =
    if bytes_eq method (codes "GET")
    then Some Whole
    else (if bytes_eq method (codes "HEAD") then Some HeadOnly else None)

-- a request by any other method is answered with all of the answer
abbrev pub whole_form : Option Form → Form
whole_form (Some form) = form
whole_form None = Whole

-- ---- the target

-- from the first slash on; 47 is the slash
abbrev pub past_authority : List ℕ → List ℕ
past_authority text = drop (position_or_len (λ b. b == 47) text) text

-- the target in origin form, as of one in absolute form (RFC 9112, 3.2.2)
abbrev pub local_target : List ℕ → List ℕ
local_target target =
    if starts_with nat_eq target (codes "http://") then past_authority (drop 7 target) else target

-- what stands before the query; 63 is the question mark
abbrev pub path_of : List ℕ → List ℕ
path_of target = before_first (λ b. b == 63) (local_target target)

abbrev pub page_of : List ℕ → Option Page
page_of path =
    if bytes_eq path (codes "/metrics")
    then Some Metrics
    else (if bytes_eq path (codes "/healthz") then Some Health else None)

-- ---- the host

-- names of fields are the same in whatever case (RFC 9110, 5.1)
abbrev pub is_host : List ℕ → Bool
is_host name = bytes_eq (map to_ascii_lowercase name) (codes "host")

-- HTTP/1.1 wants one line of `Host`, and HTTP/1.0, whose minor version is 0, none or one
abbrev pub host_fits : (minor hosts : ℕ) → Bool
host_fits minor hosts = (hosts == 1) || ((hosts == 0) && (minor == 0))

abbrev pub field_name : Field → List ℕ
field_name field = field.name

-- how many field lines of a head are named `Host`
abbrev pub hosts_of : List Field → ℕ
hosts_of fields = count_by is_host (map field_name fields)

-- the name that a field's place covers
abbrev pub header_name : List ℕ → HeaderSpan → List ℕ
header_name octets place = span_bytes octets place.name

-- ---- what is heard of a head

abbrev pub asked_by : Option Page → Option Form → Heard
asked_by (Some page) (Some form) = Asked page form
asked_by (Some page) None = Refused Method Whole
asked_by None form = Refused NotFound (whole_form form)

-- a page by its path, by a method that is taken
abbrev pub asked : (method target : List ℕ) → Heard
asked method target = asked_by (page_of (path_of target)) (form_of method)

-- of one whose lines of `Host` are right
abbrev pub judged : Bool → (method target : List ℕ) → Heard
judged true method target = asked method target
judged false method target = Refused Malformed (whole_form (form_of method))

abbrev pub heard_of : RequestHead → Heard
heard_of head = judged (host_fits head.minor (hosts_of head.fields)) head.method head.target
