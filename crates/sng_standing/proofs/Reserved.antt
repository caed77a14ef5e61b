-- Names that begin with `$`: whoever is found holds a filter that matches and begins with no wildcard, and
-- whoever holds such a filter is found (MQTT 3.1.1, 4.7.2).
use Rattle.std.proofs.Common.{◌≡◌, ℕ, Bool, true, false, List, [], ◌∷◌, Some, refl, sym, ap, ◌∙◌}
use Rattle.std.proofs.lemmas.Bool.{and_parts}
use Rattle.std.proofs.lemmas.Slice.Eq.{bytes_eq-Decides}
use Rattle.std.specs.Str.{bytes_eq}
use Rattle.sng_text.specs.Matching.{items_of, has_rest, begins_wild}
use Rattle.sng_text.specs.Texts.{is_plain, all_plain, is_plus, is_hash, is_in_place}
use Rattle.sng_text.specs.declared.qos.Qos.{Qos}
use Rattle.sng_text.proofs.MatchLemmas.{matched}
use Rattle.sng_text.proofs.SelfLemmas.{plain-plus, plain-hash}
use Rattle.sng_standing.specs.declared.node.Node.{Node}
use Rattle.sng_standing.specs.Tree.{node_below, in_node, qos_left}
use Rattle.sng_standing.specs.Greatest.{greatest_left, greatest_reserved}
use Rattle.sng_standing.proofs.Joins.{AsGreat}
use Rattle.sng_standing.proofs.InPlace.{placed_behind}
use Rattle.sng_standing.proofs.AllFound.{found_all, in_some}
use Rattle.sng_standing.proofs.AllMatch.{all_match, in_found, matched_own}

-- the filter's first level is the name's own
own_level : (level found : List ℕ) (levels others : List (List ℕ))
    → begins_wild (items_of (level ∷ levels)) (has_rest (level ∷ levels)) ≡ false
    → matched (level ∷ levels) (found ∷ others) ≡ true
    → (level ≡ found) × (matched levels others ≡ true)
own_level level found levels others tame is = by (is_hash level) (is_plus level) refl refl
  where
    by : (hash plus : Bool) → is_hash level ≡ hash → is_plus level ≡ plus
        → (level ≡ found) × (matched levels others ≡ true)
    by true plus hash_is plus_is = let no : true ≡ false = rw hash_is at tame in absurd (cc)
    by false true hash_is plus_is = let no : true ≡ false = rw (hash_is, plus_is) at tame in absurd (cc)
    by false false hash_is plus_is =
        let p = and_parts (bytes_eq level found) (matched levels others) (rw (hash_is, plus_is) at is) in
        ((bytes_eq-Decides level found).0 p.0, p.1)

tame_own : (found : List ℕ) (levels : List (List ℕ)) → is_plain found ≡ true
    → begins_wild (items_of (found ∷ levels)) (has_rest (found ∷ levels)) ≡ false
tame_own found levels plain = rw (plain-hash found plain, plain-plus found plain) refl

pub found_reserved : (root : Node) (n : ℕ) (filter name : List (List ℕ)) (q : Qos)
    → is_in_place filter ≡ true → begins_wild (items_of filter) (has_rest filter) ≡ false
    → matched filter name ≡ true → qos_left root n filter ≡ Some q → (name ≡ [] → ⊥)
    → AsGreat (greatest_reserved root n name) q
found_reserved root n filter [] q placed tame is held some = absurd (some refl)
found_reserved root n [] (found ∷ others) q placed tame is held some = cc
found_reserved root n (level ∷ levels) (found ∷ others) q placed tame is held some =
    let own = own_level level found levels others tame is in
    in_some (node_below root found) (λ child. qos_left child n levels)
    (λ child. greatest_left child n others) q
    (λ child there. found_all child n levels others q (placed_behind level levels placed) own.1 there)
    (sym (ap (λ l. in_node (node_below root l) (λ child. qos_left child n levels)) own.0) ∙ held)

-- such a filter that begins with no wildcard
abbrev pub HoldsTame : Node → ℕ → List (List ℕ) → Qos → Type 0
HoldsTame root n name q = (filter : List (List ℕ)) × (matched filter name ≡ true)
    × (qos_left root n filter ≡ Some q) × (begins_wild (items_of filter) (has_rest filter) ≡ false)

pub reserved_match : (root : Node) (n : ℕ) (name : List (List ℕ)) (q : Qos) → all_plain name ≡ true
    → greatest_reserved root n name ≡ Some q → HoldsTame root n name q
reserved_match root n [] q plain is = absurd (cc)
reserved_match root n (found ∷ others) q plain is =
    let p = and_parts (is_plain found) (all_plain others) plain in
    let c = in_found (node_below root found) (λ child. greatest_left child n others) q is in
    let below = all_match c.0 n others q p.1 c.2 in (
      found ∷ below.0,
      matched_own found below.0 others p.0 below.1,
      ap (λ x. in_node x (λ c. qos_left c n below.0)) c.1 ∙ below.2,
      tame_own found below.0 p.0,
    )
