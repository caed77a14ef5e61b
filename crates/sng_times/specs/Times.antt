-- Times as operators write them: ms of Unix time, or a date and a time with an offset (RFC 3339, 5.6).
use Rattle.std.specs.Prelude.{ℕ, ℤ, pos, negsuc, false, ◌≡◌, ◌/◌, ◌*◌, ◌<◌, ◌≤◌, ◌^◌, ◌++◌, List}
use Rattle.std.specs.Prelude.{Option, Some, None, Result, Ok, Err}
use Rattle.std.specs.Str.Parse.{IsNumeral, digits_value, without_leading_plus}
use Rattle.jiff_core.specs.DateTime.{civil_nanos}
use Rattle.jiff_core.specs.declared.civil.datetime.DateTime.{DateTime}
use Rattle.jiff_core.specs.declared.error.Error.{Error}
use Rattle.jiff_fmt.specs.Temporal.{parse_timestamp}
use Rattle.jiff_fmt.specs.Text.{datetime_text, zulu_text}
use Rattle.sng_times.specs.declared.TheConstants.{NO_DATE}

-- ---- read

-- the whole ms since 1970 began of an instant that is so many ns behind that, none for one before it
abbrev pub ms_of : ℤ → Option ℕ
ms_of (pos nanos) = Some (nanos / 1000000)
ms_of (negsuc nanos) = None

-- those of an instant that was read
abbrev pub ms_read : Result ℤ Error → Option ℕ
ms_read (Ok nanos) = ms_of nanos
ms_read (Err fault) = None

-- the text is a whole number that is no greater than a clock can be
abbrev pub IsCount : List ℕ → Type 0
IsCount text =
    let digits = without_leading_plus text in IsNumeral 10 digits × (digits_value 10 digits < 2 ^ 64)

-- the text is this time
pub record IsTime (text : List ℕ) (time : Option ℕ) : Type 0 where
  pub count : IsCount text → time ≡ Some (digits_value 10 (without_leading_plus text))
  pub instant : ¬ IsCount text → time ≡ ms_read (parse_timestamp text)

-- ---- shown

-- the text is what a calendar and a clock at UTC show so many ms after 1970 began, with a T between and a Z
-- behind
pub record IsDated (ms : ℕ) (text : List ℕ) : Type 0 where
  pub shown : DateTime
  pub instant : civil_nanos shown ≡ pos (ms * 1000000)
  pub printed : text ≡ datetime_text false 84 None shown ++ zulu_text false

-- the date and the time of so many ms, where they have one
pub record IsUtc (ms : ℕ) (date : Option (List ℕ)) : Type 0 where
  pub dated : ms < NO_DATE → (text : List ℕ) × (date ≡ Some text) × IsDated ms text
  pub dateless : NO_DATE ≤ ms → date ≡ None
