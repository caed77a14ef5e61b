-- What is read of the lines of an input whose bytes are known.
use Rattle.std.specs.Prelude.{ℕ, ◌≡◌, ◌≢◌, ◌+◌, ◌<◌, ◌==◌, Bool, true, false, All, List, [], ◌∷◌, ◌++◌}
use Rattle.std.specs.Prelude.{length, if◌then◌else◌, Option, Some, None, ⊤, IfSome}
use Rattle.std.specs.Io.KnownBytes.{Consumes, IsAtEnd, Keeps}
use Rattle.sng_script.specs.declared.input.Piece.{Piece}
use Rattle.sng_script.specs.declared.input.Piece.TheVariants.{Front, Whole, End}
use Rattle.sng_script.specs.declared.input.LineEnd.{LineEnd}
use Rattle.sng_script.specs.declared.input.LineEnd.TheVariants.{Feed, Input}
use Rattle.sng_script.specs.declared.limits.TheConstants.{MAX_LINE}

-- the byte goes in front of the first line
abbrev pub onto_first : ℕ → List (List ℕ) → List (List ℕ)
onto_first byte [] = (byte ∷ []) ∷ []
onto_first byte (line ∷ rest) = (byte ∷ line) ∷ rest

-- the lines of a script: each ends with its line feed, byte 10, which the last may lack
abbrev pub lines_of : List ℕ → List (List ℕ)
lines_of [] = []
lines_of (byte ∷ bytes) = if byte == 10 then [] ∷ lines_of bytes else onto_first byte (lines_of bytes)

-- there is no line feed, byte 10, in it
abbrev pub IsWithinLine : List ℕ → Type 0
IsWithinLine bytes = All (λ byte. byte ≢ 10) bytes

-- what the piece appends to the text is what it takes of the input, but for a line feed
abbrev pub Takes : Piece → (left stays : Option (List ℕ)) (text new : List ℕ) → Type 0
Takes Front left stays text new =
    (front : List ℕ) × (new ≡ text ++ front) × IsWithinLine front × Consumes left stays front
Takes Whole left stays text new =
    (front : List ℕ) × (new ≡ text ++ front) × IsWithinLine front × Consumes left stays (front ++ 10 ∷ [])
Takes End left stays text new = (new ≡ text) × IsAtEnd left × Keeps left stays

-- the line is all that the input had left
abbrev pub IsRest : (left stays : Option (List ℕ)) (line : List ℕ) → Type 0
IsRest None stays line = ⊤
IsRest (Some bytes) None line = ⊥
IsRest (Some bytes) (Some rest) line = (bytes ≡ line) × (rest ≡ [])

-- the line is taken from the front of the input, with what ended it
abbrev pub Ends : LineEnd → (left stays : Option (List ℕ)) (line : List ℕ) → Type 0
Ends Feed left stays line = IsWithinLine line × Consumes left stays (line ++ 10 ∷ [])
Ends Input left stays line = IsWithinLine line × IsRest left stays line

-- the input goes on for more bytes within the line than the text has room for
abbrev pub IsTooLong : (left : Option (List ℕ)) (text : List ℕ) → Type 0
IsTooLong left text =
    (front : List ℕ) × IsWithinLine front × (MAX_LINE < length text + length front)
    × IfSome left (λ bytes. (rest : List ℕ) × (bytes ≡ front ++ rest))

-- the line is the first of the lines that are left, and the others stay
abbrev pub IsFirstLine : (left stays : Option (List ℕ)) (line : List ℕ) → Type 0
IsFirstLine None stays line = ⊤
IsFirstLine (Some bytes) None line = ⊥
IsFirstLine (Some bytes) (Some rest) line = lines_of bytes ≡ line ∷ lines_of rest

-- whether there is a line, and which
abbrev pub IsNextLine : Bool → (left stays : Option (List ℕ)) (line : List ℕ) → Type 0
IsNextLine true left stays line = IsFirstLine left stays line
IsNextLine false left stays line = IsAtEnd left

-- the first of the lines that are left is too long
abbrev pub BeginsTooLong : (left : Option (List ℕ)) → Type 0
BeginsTooLong left = IfSome left (λ bytes.
    (line : List ℕ) × (rest : List (List ℕ)) × (lines_of bytes ≡ line ∷ rest) × (MAX_LINE < length line))
