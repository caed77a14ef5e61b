-- Client ids as texts (MQTT-SN 1.2, 5.3.1): which bytes are one, and the first fault of those that are not.
use Rattle.std.specs.Prelude.{ℕ, Bool, ◌==◌, not, nat_lt, List, length, if◌then◌else◌, Some, None, is_none}
use Rattle.std.specs.declared.option.Option.{Option}
use Rattle.std.specs.Str.{is_utf8, chars}
use Rattle.sng_text.specs.Texts.{has_byte}
use Rattle.sng_text.specs.declared.limits.TheConstants.{MAX_CLIENT_ID}
use Rattle.sng_text.specs.declared.fault.TextFault.{TextFault}
use Rattle.sng_text.specs.declared.fault.TextFault.TheVariants.{Empty, TooLong, NotUtf8, Null}

-- a client id has at least one character, and not too many: only a text of UTF-8 has any, so their number is
-- tested last
abbrev pub client_id_fault : List ℕ → Option TextFault
client_id_fault text =
    if length text == 0
    then Some Empty
    else (if not (is_utf8 text)
    then Some NotUtf8
    else (if has_byte 0 text then Some Null
    else (if nat_lt MAX_CLIENT_ID (length (chars text)) then Some TooLong else None)))

-- the bytes are a client id
abbrev pub is_client_id : List ℕ → Bool
is_client_id text = is_none (client_id_fault text)
