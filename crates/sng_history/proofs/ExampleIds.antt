-- The client ids `s1` and `s2` of the worked examples are text.
use Rattle.std.proofs.Common.{◌≡◌, true, [], ◌∷◌, rules}
use Rattle.std.specs.Str.{is_utf8, chars, IsAscii}
use Rattle.std.proofs.lemmas.Str.{is_utf8-from_IsUtf8, IsUtf8-from_ascii, chars-IsAscii}

s1_ascii : IsAscii (115 ∷ 49 ∷ [])
s1_ascii = search rules

pub s1_utf8 : is_utf8 (115 ∷ 49 ∷ []) ≡ true
s1_utf8 = is_utf8-from_IsUtf8 (115 ∷ 49 ∷ []) (IsUtf8-from_ascii (115 ∷ 49 ∷ []) s1_ascii)

pub s1_chars : chars (115 ∷ 49 ∷ []) ≡ 115 ∷ 49 ∷ []
s1_chars = chars-IsAscii (115 ∷ 49 ∷ []) s1_ascii

s2_ascii : IsAscii (115 ∷ 50 ∷ [])
s2_ascii = search rules

pub s2_utf8 : is_utf8 (115 ∷ 50 ∷ []) ≡ true
s2_utf8 = is_utf8-from_IsUtf8 (115 ∷ 50 ∷ []) (IsUtf8-from_ascii (115 ∷ 50 ∷ []) s2_ascii)

pub s2_chars : chars (115 ∷ 50 ∷ []) ≡ 115 ∷ 50 ∷ []
s2_chars = chars-IsAscii (115 ∷ 50 ∷ []) s2_ascii
