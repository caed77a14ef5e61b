-- What is heard of the octets of a visitor: whether they are the head of a request, or may become one.
use Rattle.std.specs.Prelude.{ℕ, ◌≡◌, ◌≤◌, ◌⊎◌, List, length, nat_lt, if◌then◌else◌}
use Rattle.httparse.specs.Grammar.{RequestHead, ReadsRequest, HasNoRequest, NeverHasRequest}
use Rattle.httparse.specs.Grammar.{MayBecomeRequest}
use Rattle.httparse.specs.Spans.{RequestExceeds}
use Rattle.sng_metrics.specs.Requests.{heard_of}
use Rattle.sng_metrics.specs.declared.heard.Form.{Form}
use Rattle.sng_metrics.specs.declared.heard.Form.TheVariants.{Whole}
use Rattle.sng_metrics.specs.declared.heard.Heard.{Heard}
use Rattle.sng_metrics.specs.declared.heard.Heard.TheVariants.{More, Asked, Refused}
use Rattle.sng_metrics.specs.declared.heard.Refusal.{Refusal}
use Rattle.sng_metrics.specs.declared.heard.Refusal.TheVariants.{Malformed, NotFound, Method, TooSlow, TooLarge}
use Rattle.sng_metrics.specs.declared.limits.TheConstants.{MAX_FIELDS, MAX_REQUEST}

-- of a head that is not whole, of which so many octets came
abbrev pub unfinished : ℕ → Heard
unfinished count = if nat_lt count MAX_REQUEST then More else Refused TooLarge Whole

-- the octets begin with a head, of which this is heard
abbrev pub IsOfHead : List ℕ → Heard → Type 0
IsOfHead octets heard =
    (head : RequestHead) × (rest : List ℕ) × ReadsRequest octets head rest × (heard ≡ heard_of head)

-- no head is whole yet, and one may come, where there is room for it
abbrev pub IsUnfinished : List ℕ → Heard → Type 0
IsUnfinished octets heard =
    HasNoRequest octets × MayBecomeRequest octets × (heard ≡ unfinished (length octets))

-- no octets can follow that make a head
abbrev pub IsHopeless : List ℕ → Form → Type 0
IsHopeless octets form = NeverHasRequest octets × (form ≡ Whole)

-- a head has too many field lines
abbrev pub IsCrowded : List ℕ → Form → Type 0
IsCrowded octets form = RequestExceeds MAX_FIELDS octets × (form ≡ Whole)

abbrev pub IsRefused : List ℕ → Refusal → Form → Type 0
IsRefused octets Malformed form = IsHopeless octets form ⊎ IsOfHead octets (Refused Malformed form)
IsRefused octets NotFound form = IsOfHead octets (Refused NotFound form)
IsRefused octets Method form = IsOfHead octets (Refused Method form)
IsRefused octets TooSlow form = ⊥
IsRefused octets TooLarge form = IsUnfinished octets (Refused TooLarge form) ⊎ IsCrowded octets form

-- this is what is heard of the octets
abbrev pub IsHeard : List ℕ → Heard → Type 0
IsHeard octets More = IsUnfinished octets More
IsHeard octets (Asked page form) = IsOfHead octets (Asked page form)
IsHeard octets (Refused refusal form) = IsRefused octets refusal form

-- of a head with which the octets begin, and which has not too many field lines, its own verdict is heard
abbrev pub HearsOf : List ℕ → Heard → Type 0
HearsOf octets heard = (head : RequestHead) (rest : List ℕ) → ReadsRequest octets head rest
    → length head.fields ≤ MAX_FIELDS → heard ≡ heard_of head
