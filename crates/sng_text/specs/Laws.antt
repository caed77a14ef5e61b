-- What ties the definitions of the texts to their standards.
use Rattle.std.specs.Prelude.{◌≡◌, ◌==◌, ◌↔◌, ℕ, ◌<◌, ◌≤◌, true, false, List, length, map, Some}
use Rattle.std.specs.Fmt.{decimal}
use Rattle.std.specs.List.{slice_split, join_with_byte}
use Rattle.std.specs.Str.{all_scalars, encode_utf8_all}
use Rattle.sng_text.specs.ClientIds.{is_client_id}
use Rattle.sng_text.specs.Ipv4.{IsAddress, ipv4_of}
use Rattle.sng_text.specs.Levels.{levels_of}
use Rattle.sng_text.specs.Matching.{matches}
use Rattle.sng_text.specs.Texts.{has_byte, is_name}
use Rattle.sng_text.specs.declared.limits.TheConstants.{MAX_CLIENT_ID}

-- the bytes are the UTF-8 of at least one Unicode scalar value and not too many, none of them U+0000
abbrev pub SpellsClientId : List ℕ → Type 0
SpellsClientId text = (characters : List ℕ) × (all_scalars characters ≡ true)
    × (encode_utf8_all characters ≡ text) × (0 < length characters) × (length characters ≤ MAX_CLIENT_ID)
    × (has_byte 0 characters ≡ false)

-- those bytes, and no others, are a client id
abbrev pub ClientIdsAreCharacters : Type 0
ClientIdsAreCharacters = (text : List ℕ) → (is_client_id text ≡ true) ↔ SpellsClientId text

-- a name, taken as a filter, matches itself and no other name
abbrev pub NamesMatchThemselves : Type 0
NamesMatchThemselves = (name other : List ℕ) → is_name name ≡ true → (matches name other ≡ true)
    ↔ (name ≡ other)

-- the levels are the parts that std's `split` gives at each slash, and joined by slashes they are the text
abbrev pub LevelsAreParts : Type 0
LevelsAreParts = (text : List ℕ)
    → (levels_of text ≡ slice_split (λ b. b == 47) text) × (join_with_byte 47 (levels_of text) ≡ text)

-- four numbers below 256, and the text is those numbers in decimal, as std writes them, joined by points,
-- byte 46
abbrev pub SpellsAddress : List ℕ → List ℕ → Type 0
SpellsAddress text octets = IsAddress octets × (join_with_byte 46 (map decimal octets) ≡ text)

-- a text is read as an address exactly where it spells it
abbrev pub AddressesAreDecimal : Type 0
AddressesAreDecimal = (text octets : List ℕ) → (ipv4_of text ≡ Some octets) ↔ SpellsAddress text octets
