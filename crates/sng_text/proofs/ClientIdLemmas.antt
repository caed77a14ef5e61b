-- A client id's text and its characters.
use Rattle.std.proofs.Common.{◌≡◌, ℕ, ◌<◌, ◌≤◌, suc, ◌==◌, nat_lt, ◌||◌, not, Bool, true, false, List, []}
use Rattle.std.proofs.Common.{◌∷◌, ◌++◌, length, get_or, if◌then◌else◌, Some, None, is_none, refl, sym, ap}
use Rattle.std.proofs.Common.{◌∙◌, inl, inr, arith, append-nil}
use Rattle.std.proofs.lemmas.Bool.{cases_lt, ltb-false, le-ltb, eqb-false, ne_eqb}
use Rattle.std.proofs.lemmas.Str.{encode_ascii, inside_one, encodes-chars, scalars-chars, chars-encodes}
use Rattle.std.proofs.lemmas.Str.{length-le-encodes, IsUtf8-from_is_utf8, is_utf8-from_IsUtf8}
use lib.Utf8.{encode, encodes}
use Rattle.std.specs.Str.{is_utf8, chars}
use Rattle.sng_text.specs.ClientIds.{is_client_id}
use Rattle.sng_text.specs.Laws.{SpellsClientId}
use Rattle.sng_text.specs.Texts.{has_byte}
use Rattle.sng_text.specs.declared.limits.TheConstants.{MAX_CLIENT_ID}
use Rattle.sng_text.specs.declared.fault.TextFault.{TextFault}

has_byte-append : (b : ℕ) (xs ys : List ℕ) → has_byte b (xs ++ ys) ≡ (has_byte b xs || has_byte b ys)
has_byte-append b [] ys = refl
has_byte-append b (x ∷ xs) ys = grind (arith, has_byte-append b xs ys)

-- bytes of 128 and above have no zero among them
high : (xs : List ℕ) → ((k : ℕ) → k < length xs → 128 ≤ get_or xs k 0) → has_byte 0 xs ≡ false
high [] all = refl
high (x ∷ xs) all =
    let first : 128 ≤ x = all 0 (omega arith) in
    rw (ne_eqb x 0 (λ e. omega arith)) (high xs (λ k below. all (suc k) (omega arith)))

has_byte-encode : (c : ℕ) → has_byte 0 (encode c) ≡ (c == 0)
has_byte-encode c = elim (cases_lt c 128) [
  | inl small ↦ rw (encode_ascii c small) (grind arith)
  | inr big ↦
      let all : (k : ℕ) → k < length (encode c) → 128 ≤ get_or (encode c) k 0 =
      λ k below. elim (cases_lt (get_or (encode c) k 0) 128) [
        | inl low ↦ absurd (omega (arith, inside_one c [] (encode c) k (sym (append-nil _)) below low))
        | inr h ↦ h
      ] in
      high (encode c) all ∙ sym (ne_eqb c 0 (λ e. omega arith))
]

-- a zero byte is a U+0000
pub has_byte-encodes : (cs : List ℕ) → has_byte 0 (encodes cs) ≡ has_byte 0 cs
has_byte-encodes [] = refl
has_byte-encodes (c ∷ cs) =
    rw (has_byte-append 0 (encode c) (encodes cs), has_byte-encode c, has_byte-encodes cs) refl

-- what no fault tells of the tests
abbrev IsNoFault : (a b c d : Bool) → Type 0
IsNoFault a b c d = (a ≡ false) × (b ≡ true) × (c ≡ false) × (d ≡ false)

no_fault : (empty utf8 zero long : Bool) (e n z l : TextFault)
    → is_none (if empty then Some e
    else (if not utf8 then Some n else (if zero then Some z else (if long then Some l else None)))) ≡ true
    → IsNoFault empty utf8 zero long
no_fault true utf8 zero long e n z l is = cc
no_fault false false zero long e n z l is = cc
no_fault false true true long e n z l is = cc
no_fault false true false true e n z l is = cc
no_fault false true false false e n z l is = (refl, refl, refl, refl)

some_characters : (cs text : List ℕ) → encodes cs ≡ text → (length text == 0) ≡ false → 0 < length cs
some_characters [] text is some = absurd (eqb-false (length text) 0 some (ap length (sym is)))
some_characters (c ∷ cs) text is some = omega arith

pub spells-client_id : (text : List ℕ) → is_client_id text ≡ true → SpellsClientId text
spells-client_id text is =
    let f =
    no_fault (length text == 0) (is_utf8 text) (has_byte 0 text)
    (nat_lt MAX_CLIENT_ID (length (chars text))) _ _ _ _ is in
    let u = IsUtf8-from_is_utf8 text f.1 in
    let e = encodes-chars text u in
    let zero : has_byte 0 (chars text) ≡ false =
    sym (has_byte-encodes (chars text)) ∙ ap (has_byte 0) e ∙ f.2 in (
      chars text,
      scalars-chars text u,
      e,
      some_characters (chars text) text e f.0,
      ltb-false MAX_CLIENT_ID (length (chars text)) f.3,
      zero,
    )

pub client_id-spells : (text : List ℕ) → SpellsClientId text → is_client_id text ≡ true
client_id-spells text (cs, scalar, is, some, short, zero) =
    let some_bytes : (length text == 0) ≡ false =
    ne_eqb (length text) 0 (λ e. omega (arith, length-le-encodes cs, ap length is)) in
    let utf8 : is_utf8 text ≡ true = is_utf8-from_IsUtf8 text (cs, (scalar, is)) in
    let none : has_byte 0 text ≡ false = ap (has_byte 0) (sym is) ∙ has_byte-encodes cs ∙ zero in
    let count : chars text ≡ cs = ap chars (sym is) ∙ chars-encodes cs scalar in
    let fits : nat_lt MAX_CLIENT_ID (length (chars text)) ≡ false =
    rw count (le-ltb MAX_CLIENT_ID (length cs) short) in
    rw (some_bytes, utf8, none, fits) refl
