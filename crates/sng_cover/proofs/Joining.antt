-- Levels and the text that they make.
use Rattle.std.proofs.Common.{◌≡◌, ℕ, Bool, true, false, ◌==◌, List, [], ◌∷◌, ◌++◌, refl, sym, ap, eqb-true}
use Rattle.std.proofs.Common.{if◌then◌else◌, ◌∙◌}
use Rattle.std.specs.List.{AllByRecursion as AllOf}
use Rattle.std.proofs.lemmas.List.{append-nil}
use Rattle.std.proofs.lemmas.Bool.{or_parts}
use Rattle.sng_text.specs.Levels.{lengthen, levels_of}
use Rattle.sng_text.specs.Texts.{has_byte}
use Rattle.sng_cover.specs.Candidates.{joined, further}

-- the levels have no byte like this
abbrev pub Lack : ℕ → List (List ℕ) → Type 0
Lack byte levels = AllOf (λ level. has_byte byte level ≡ false) levels

lengthen_lacks : (byte b : ℕ) (levels : List (List ℕ)) → (b == byte) ≡ false → Lack byte levels
    → Lack byte (lengthen b levels)
lengthen_lacks byte b [] differs lacks = (rw differs refl, tt)
lengthen_lacks byte b (level ∷ levels) differs lacks = (rw (differs, lacks.0) refl, lacks.1)

lack_slash_by : (b : ℕ) (is_slash : Bool) → (b == 47) ≡ is_slash → (levels : List (List ℕ)) → Lack 47 levels
    → Lack 47 (if is_slash then [] ∷ levels else lengthen b levels)
lack_slash_by b true is levels lacks = (refl, lacks)
lack_slash_by b false is levels lacks = lengthen_lacks 47 b levels is lacks

-- no level has a slash
pub levels_lack_slash : (text : List ℕ) → Lack 47 (levels_of text)
levels_lack_slash [] = (refl, tt)
levels_lack_slash (b ∷ text) = lack_slash_by b (b == 47) refl (levels_of text) (levels_lack_slash text)

lack_by : (byte b : ℕ) (is_slash : Bool) → (b == byte) ≡ false → (levels : List (List ℕ)) → Lack byte levels
    → Lack byte (if is_slash then [] ∷ levels else lengthen b levels)
lack_by byte b true is levels lacks = (refl, lacks)
lack_by byte b false is levels lacks = lengthen_lacks byte b levels is lacks

-- what the text has not, no level has
pub levels_lack : (byte : ℕ) (text : List ℕ) → has_byte byte text ≡ false → Lack byte (levels_of text)
levels_lack byte [] none = (refl, tt)
levels_lack byte (b ∷ text) none =
    let parts = or_parts (b == byte) (has_byte byte text) none in
    lack_by byte b (b == 47) parts.0 (levels_of text) (levels_lack byte text parts.1)

-- a text without a slash is its own only level
whole_level : (level : List ℕ) → has_byte 47 level ≡ false → levels_of level ≡ level ∷ []
whole_level [] none = refl
whole_level (b ∷ level) none =
    let parts = or_parts (b == 47) (has_byte 47 level) none in rw (parts.0, whole_level level parts.1) refl

-- one that a slash follows is the first level
first_level : (level rest : List ℕ) → has_byte 47 level ≡ false
    → levels_of (level ++ 47 ∷ rest) ≡ level ∷ levels_of rest
first_level [] rest none = refl
first_level (b ∷ level) rest none =
    let parts = or_parts (b == 47) (has_byte 47 level) none in
    rw (parts.0, first_level level rest parts.1) refl

-- levels are those of the text that they make
pub levels_of_joined : (level : List ℕ) (levels : List (List ℕ)) → Lack 47 (level ∷ levels)
    → levels_of (joined (level ∷ levels)) ≡ level ∷ levels
levels_of_joined level [] lack = rw (append-nil level) (whole_level level lack.0)
levels_of_joined level (next ∷ levels) lack =
    first_level level (next ++ further levels) lack.0
    ∙ ap (λ rest. level ∷ rest) (levels_of_joined next levels lack.1)

lengthened : (b : ℕ) (levels : List (List ℕ)) → joined (lengthen b levels) ≡ b ∷ joined levels
lengthened b [] = refl
lengthened b (level ∷ levels) = refl

-- there is a level
abbrev pub HasLevel : List (List ℕ) → Type 0
HasLevel [] = ⊥
HasLevel (level ∷ levels) = Unit {0}

has_level_by : (b : ℕ) (is_slash : Bool) (levels : List (List ℕ))
    → HasLevel (if is_slash then [] ∷ levels else lengthen b levels)
has_level_by b true levels = tt
has_level_by b false [] = tt
has_level_by b false (level ∷ levels) = tt

-- each text has one
pub some_level : (text : List ℕ) → HasLevel (levels_of text)
some_level [] = tt
some_level (b ∷ text) = has_level_by b (b == 47) (levels_of text)

further_joined : (levels : List (List ℕ)) → HasLevel levels → further levels ≡ 47 ∷ joined levels
further_joined [] some = absurd some
further_joined (level ∷ levels) some = refl

joined_by : (b : ℕ) (is_slash : Bool) → (b == 47) ≡ is_slash → (levels : List (List ℕ)) → HasLevel levels
    → joined (if is_slash then [] ∷ levels else lengthen b levels) ≡ b ∷ joined levels
joined_by b true is levels some =
    further_joined levels some ∙ ap (λ (byte : ℕ). byte ∷ joined levels) (sym (eqb-true b 47 is))
joined_by b false is levels some = lengthened b levels

-- a text is what its levels make
pub joined_levels_of : (text : List ℕ) → joined (levels_of text) ≡ text
joined_levels_of [] = refl
joined_levels_of (b ∷ text) =
    joined_by b (b == 47) refl (levels_of text) (some_level text)
    ∙ ap (λ (rest : List ℕ). b ∷ rest) (joined_levels_of text)
