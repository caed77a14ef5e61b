-- Which names a filter matches (MQTT 3.1.1, 4.7).
use Rattle.std.specs.Prelude.{ℕ, Bool, true, false, ◌==◌, ◌&&◌, ◌||◌, not, List, [], ◌∷◌, if◌then◌else◌}
use Rattle.std.specs.Str.{bytes_eq}
use Rattle.sng_text.specs.Levels.{levels_of}
use Rattle.sng_text.specs.Texts.{is_plus, is_hash}

-- what a level of a filter asks of the level of a name at its place
pub data Item : Type 0 where
  -- the very same level
  literal : List ℕ → Item
  -- any one level, `+`
  one : Item

abbrev pub item_of : List ℕ → Item
item_of level = if is_plus level then one else literal level

-- the items of a filter's levels, up to a last `#`
abbrev pub items_of : List (List ℕ) → List Item
items_of [] = []
items_of (level ∷ levels) = if is_hash level then [] else item_of level ∷ items_of levels

-- whether the levels end in `#`, which takes the rest of a name
abbrev pub has_rest : List (List ℕ) → Bool
has_rest [] = false
has_rest (level ∷ levels) = is_hash level || has_rest levels

abbrev pub fits : Item → List ℕ → Bool
fits (literal level) found = bytes_eq level found
fits one found = true

-- by cases on both lists: each item takes one level, and the rest takes what is left, also nothing
abbrev pub match_items : List Item → Bool → List (List ℕ) → Bool
match_items [] rest [] = true
match_items [] rest (level ∷ levels) = rest
match_items (item ∷ items) rest [] = false
match_items (item ∷ items) rest (level ∷ levels) = fits item level && match_items items rest levels

-- a filter that begins with a wildcard
abbrev pub begins_wild : List Item → Bool → Bool
begins_wild [] rest = rest
begins_wild (one ∷ items) rest = true
begins_wild (literal level ∷ items) rest = false

-- a name whose first level begins with `$`, byte 36 (4.7.2)
abbrev pub is_reserved : List ℕ → Bool
is_reserved [] = false
is_reserved (b ∷ text) = b == 36

-- the filter matches the name, each given as its text
abbrev pub matches : List ℕ → List ℕ → Bool
matches filter name =
    let items = items_of (levels_of filter) in
    let rest = has_rest (levels_of filter) in
    not (begins_wild items rest && is_reserved name) && match_items items rest (levels_of name)
