-- The lines of an input whose bytes are known.
use Rattle.std.proofs.Common.{◌≡◌, ◌≢◌, Bool, true, false, not, ℕ, suc, ◌≤◌, ◌==◌, ◌⊎◌, List, [], ◌∷◌, ◌++◌}
use Rattle.std.proofs.Common.{length, drop, if◌then◌else◌, Option, Some, None, IfSome, refl, sym, ap, subst}
use Rattle.std.proofs.Common.{◌∙◌, append_assoc, append-nil, length-append, ne_eqb, inl, inr, arith}
use Rattle.std.proofs.lemmas.List.Elements.{All-head, All-tail, All-append}
use Rattle.std.proofs.KnownBytes.{starts_with_rest, Consumes-trans}
use Rattle.std.specs.Io.{StartsWith}
use Rattle.std.specs.Io.KnownBytes.{Consumes, IsAtEnd, Keeps}
use Rattle.sng_script.specs.Input.{lines_of, onto_first, IsWithinLine, IsTooLong, IsFirstLine, IsNextLine}
use Rattle.sng_script.specs.Input.{IsRest, BeginsTooLong, Takes, Ends}
use Rattle.sng_script.specs.declared.input.LineEnd.TheVariants.{Feed, Input}
use Rattle.sng_script.specs.declared.input.Piece.TheVariants.{Whole, End}

-- a line with its line feed
lines_of-line : (line rest : List ℕ) → IsWithinLine line → lines_of (line ++ 10 ∷ rest) ≡ line ∷ lines_of rest
lines_of-line [] rest within = refl
lines_of-line (byte ∷ line) rest within =
    ap (λ is. if is then [] ∷ lines_of (line ++ 10 ∷ rest) else onto_first byte
    (lines_of (line ++ 10 ∷ rest))) (ne_eqb byte 10 (All-head (λ b. b ≢ 10) byte line within))
    ∙ ap (onto_first byte) (lines_of-line line rest (All-tail (λ b. b ≢ 10) byte line within))

-- the last line, without one
lines_of-last : (byte : ℕ) (line : List ℕ) → IsWithinLine (byte ∷ line)
    → lines_of (byte ∷ line) ≡ (byte ∷ line) ∷ []
lines_of-last byte [] within =
    ap (λ is. if is then [] ∷ [] else onto_first byte [])
    (ne_eqb byte 10 (All-head (λ b. b ≢ 10) byte [] within))
lines_of-last byte (next ∷ line) within =
    ap (λ is. if is then [] ∷ lines_of (next ∷ line) else onto_first byte (lines_of (next ∷ line)))
    (ne_eqb byte 10 (All-head (λ b. b ≢ 10) byte (next ∷ line) within))
    ∙ ap (onto_first byte) (lines_of-last next line (All-tail (λ b. b ≢ 10) byte (next ∷ line) within))

-- there is a first line, and it has so many bytes at least
record Begins (count : ℕ) (lines : List (List ℕ)) : Type 0 where
  line : List ℕ
  rest : List (List ℕ)
  split : lines ≡ line ∷ rest
  long : count ≤ length line

begins-onto : (byte count : ℕ) (lines : List (List ℕ)) → (count ≡ 0) ⊎ Begins count lines
    → Begins (suc count) (onto_first byte lines)
begins-onto byte count [] (inl none) =
    record { line = byte ∷ []; rest = []; split = refl; long = omega arith }
begins-onto byte count [] (inr begins) =
    let never : [] ≡ begins.line ∷ begins.rest = begins.split in absurd (cc)
begins-onto byte count (line ∷ rest) (inl none) =
    record { line = byte ∷ line; rest = rest; split = refl; long = omega arith }
begins-onto byte count (line ∷ rest) (inr begins) =
    let same : line ≡ begins.line = cc begins.split in
    record {
      line = byte ∷ line;
      rest = rest;
      split = refl;
      long = omega (arith, begins.long, ap length same);
    }

begins : (front rest : List ℕ) → IsWithinLine front
    → (length front ≡ 0) ⊎ Begins (length front) (lines_of (front ++ rest))
begins [] rest within = inl refl
begins (byte ∷ front) rest within =
    let onto = begins-onto byte (length front) (lines_of (front ++ rest))
    (begins front rest (All-tail (λ b. b ≢ 10) byte front within)) in
    let same = ap (λ is. if is then [] ∷ lines_of (front ++ rest) else onto_first byte
    (lines_of (front ++ rest))) (ne_eqb byte 10 (All-head (λ b. b ≢ 10) byte front within)) in
    inr (subst (Begins (suc (length front))) (sym same) onto)

-- ---- what was read so far of a line, and what comes then

ends_line : (left stays : Option (List ℕ)) (line : List ℕ) → IsWithinLine line
    → Consumes left stays (line ++ 10 ∷ [])
    → IsFirstLine left stays line
ends_line None stays line within taken = tt
ends_line (Some bytes) None line within taken = absurd taken
ends_line (Some bytes) (Some rest) line within taken =
    ap lines_of (taken ∙ append_assoc line (10 ∷ []) rest) ∙ lines_of-line line rest within

ends_input : (left stays : Option (List ℕ)) (line : List ℕ) → IsWithinLine line → line ≢ []
    → IsRest left stays line
    → IsFirstLine left stays line
ends_input None stays line within some rest = tt
ends_input (Some bytes) None line within some rest = absurd rest
ends_input (Some bytes) (Some left) [] within some rest = absurd (some refl)
ends_input (Some bytes) (Some left) (byte ∷ line) within some (all, none) =
    ap lines_of all ∙ lines_of-last byte line within ∙ ap (λ l. (byte ∷ line) ∷ lines_of l) (sym none)

has_ended : (left stays : Option (List ℕ)) → IsRest left stays [] → IsAtEnd left
has_ended None stays rest = tt
has_ended (Some bytes) None rest = absurd rest
has_ended (Some bytes) (Some left) (all, none) = all

is_rest : (left between stays : Option (List ℕ)) (line : List ℕ) → Consumes left between line
    → IsAtEnd between → Keeps between stays
    → IsRest left stays line
is_rest None between stays line taken end keeps = tt
is_rest (Some bytes) None stays line taken end keeps = absurd taken
is_rest (Some bytes) (Some rest) None line taken end keeps = absurd keeps
is_rest (Some bytes) (Some rest) (Some left) line taken end keeps =
    (taken ∙ ap (λ l. line ++ l) end ∙ append-nil line, keeps ∙ end)

-- a piece within the line behind what was read of it
goes_on : (text front : List ℕ) → IsWithinLine text → IsWithinLine front → IsWithinLine (text ++ front)
goes_on text front within more = All-append (λ b. b ≢ 10) text front within more

-- the line feed came
pub whole_line : (left between stays : Option (List ℕ)) (text new : List ℕ) → IsWithinLine text
    → Consumes left between text
    → Takes Whole between stays text new → Ends Feed left stays new
whole_line left between stays text new within taken (front, appended, here, more) =
    let line = text ++ front in
    let all : Consumes left stays (line ++ 10 ∷ []) =
    subst (Consumes left stays) (sym (append_assoc text front (10 ∷ [])))
    (Consumes-trans left between stays text (front ++ 10 ∷ []) taken more) in
    subst (Ends Feed left stays) (sym appended) (goes_on text front within here, all)

-- the input ended
pub last_line : (left between stays : Option (List ℕ)) (text new : List ℕ) → IsWithinLine text
    → Consumes left between text
    → Takes End between stays text new → Ends Input left stays new
last_line left between stays text new within taken (same, end, keeps) =
    subst (Ends Input left stays) (sym same) (within, is_rest left between stays text taken end keeps)

-- the line that ended so is the next one, where there is one
pub line_by_feed : (left stays : Option (List ℕ)) (line : List ℕ) → Ends Feed left stays line
    → IsNextLine true left stays line
line_by_feed left stays line (within, taken) = ends_line left stays line within taken

pub line_by_input : (left stays : Option (List ℕ)) (line : List ℕ) (is_empty : Bool)
    → is_empty ≡ (length line == 0)
    → Ends Input left stays line → IsNextLine (not is_empty) left stays line
line_by_input left stays [] is_empty test (within, rest) = rw test (has_ended left stays rest)
line_by_input left stays (byte ∷ line) is_empty test (within, rest) =
    let some : is_empty ≡ false = test ∙ ne_eqb (suc (length line)) 0 (λ none. omega (arith, none)) in
    rw some (ends_input left stays (byte ∷ line) within (λ none. absurd (cc)) rest)

pub is_too_long : (left stays : Option (List ℕ)) (text : List ℕ) → IsWithinLine text
    → Consumes left stays text
    → IsTooLong stays text → BeginsTooLong left
is_too_long None stays text within taken long = tt
is_too_long (Some bytes) None text within taken long = absurd taken
is_too_long (Some bytes) (Some rest) text within taken (front, here, many, (later, split)) =
    let whole = text ++ front in
    let same : bytes ≡ whole ++ later =
    taken ∙ ap (λ l. text ++ l) split ∙ sym (append_assoc text front later) in
    elim (begins whole later (goes_on text front within here)) [
      | inl none ↦ absurd (omega (arith, none, many, length-append text front))
      | inr first ↦ (
        first.line,
        first.rest,
        ap lines_of same
            ∙ first.split,
        omega (arith, first.long, many, length-append text front),
      )
    ]

-- what was shown of the input is a front of it, and so is a front of that
pub is_front : (left : Option (List ℕ)) (shown front more : List ℕ)
    → IfSome left (λ bytes. StartsWith bytes shown)
    → shown ≡ front ++ more → IfSome left (λ bytes. (rest : List ℕ) × (bytes ≡ front ++ rest))
is_front None shown front more starts split = tt
is_front (Some bytes) shown front more starts split =
    let rest = drop (length shown) bytes in (
      more ++ rest,
      starts_with_rest bytes shown starts ∙ ap (λ l. l ++ rest) split
          ∙ append_assoc front more rest,
    )
