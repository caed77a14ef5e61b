-- A granted filter against the asked one, behind the levels that both have in common.
use Rattle.std.proofs.Common.{◌≡◌, ℕ, ◌∙◌, Bool, true, false, List, [], ◌∷◌, ◌++◌, refl}
use Rattle.std.proofs.lemmas.Bool.{both_ways}
use Rattle.std.proofs.lemmas.Slice.Eq.{bytes_eq-Decides}
use Rattle.std.specs.Str.{bytes_eq}
use Rattle.sng_text.specs.Common.{begin_alike, first_is, AreLeft}
use Rattle.sng_text.specs.Levels.{levels_of}
use Rattle.sng_text.specs.Texts.{is_plus, is_hash, is_in_place}
use Rattle.sng_text.proofs.MatchLemmas.{cut}
use Rattle.sng_cover.specs.Reaches.{after_first, fits_levels}
use Rattle.sng_cover.proofs.Shapes.{plus-hash, in_place-tail, in_place-hash}

fits_none : (asked : List (List ℕ)) → fits_levels asked [] ≡ true
fits_none asked = refl

same_by : (level : List ℕ) (asked granted : List (List ℕ)) (hash plus : Bool) → is_hash level ≡ hash
    → is_plus level ≡ plus → is_in_place (level ∷ granted) ≡ true
    → fits_levels (level ∷ asked) (level ∷ granted) ≡ fits_levels asked granted
same_by level asked [] true plus hash_is plus_is place = rw hash_is refl
same_by level asked (next ∷ granted) true plus hash_is plus_is place =
    absurd (both_ways (is_hash level) (in_place-hash level next granted place) hash_is)
same_by level asked granted false true hash_is plus_is place = rw (hash_is, plus_is) refl
same_by level asked granted false false hash_is plus_is place =
    rw (hash_is, plus_is, (bytes_eq-Decides level level).1 refl) refl

-- levels in common fit
fits_common : (common asked granted : List (List ℕ)) → is_in_place (common ++ granted) ≡ true
    → fits_levels (common ++ asked) (common ++ granted) ≡ fits_levels asked granted
fits_common [] asked granted place = refl
fits_common (level ∷ common) asked granted place =
    same_by level (common ++ asked) (common ++ granted) (is_hash level) (is_plus level) refl refl place
    ∙ fits_common common asked granted (in_place-tail level (common ++ granted) place)

in_place-left : (common levels : List (List ℕ)) → is_in_place (common ++ levels) ≡ true
    → is_in_place levels ≡ true
in_place-left [] levels place = place
in_place-left (level ∷ common) levels place =
    in_place-left common levels (in_place-tail level (common ++ levels) place)

pub place_left : (granted asked left own : List (List ℕ)) → AreLeft granted asked left own
    → is_in_place granted ≡ true → is_in_place left ≡ true
place_left granted asked left own are place = in_place-left are.common left (rw are.levels_are at place)

pub fits_left : (granted asked left own : List (List ℕ)) → AreLeft granted asked left own
    → is_in_place granted ≡ true → fits_levels asked granted ≡ fits_levels own left
fits_left granted asked left own are place =
    rw (are.levels_are, are.others_are) (fits_common are.common own left (rw are.levels_are at place))

hash_of : (asked left : List (List ℕ)) → first_is is_hash left ≡ true → fits_levels asked left ≡ true
hash_of asked [] is = refl
hash_of asked (level ∷ levels) is = rw is refl

-- `#` fits whatever is left
pub fits_hash : (granted : List ℕ) (asked : List (List ℕ)) → first_is is_hash (levels_of granted) ≡ true
    → fits_levels asked (levels_of granted) ≡ true
fits_hash granted asked is = hash_of asked (levels_of granted) is

literal_of : (asked left : List (List ℕ)) (level : List ℕ) (levels : List (List ℕ)) → left ≡ level ∷ levels
    → first_is is_hash left ≡ false → first_is is_plus left ≡ false
    → begin_alike left asked ≡ false → fits_levels asked left ≡ false
literal_of [] left level levels is hash plus differ =
    let h : is_hash level ≡ false = rw is at hash in
    let p : is_plus level ≡ false = rw is at plus in
    rw (is, h, p) refl
literal_of (own ∷ asked) left level levels is hash plus differ =
    let h : is_hash level ≡ false = rw is at hash in
    let p : is_plus level ≡ false = rw is at plus in
    let d : bytes_eq level own ≡ false = rw is at differ in
    rw (is, h, p, d) refl

-- a level that is no wildcard fits no other level
pub fits_literal : (granted : List ℕ) (asked : List (List ℕ)) → first_is is_hash (levels_of granted) ≡ false
    → first_is is_plus (levels_of granted) ≡ false
    → begin_alike (levels_of granted) asked ≡ false → fits_levels asked (levels_of granted) ≡ false
fits_literal granted asked hash plus differ =
    let c = cut granted in literal_of asked (levels_of granted) c.level c.rest c.is hash plus differ

-- `+` fits whatever is at its place
pub fits_plus : (granted : List ℕ) (asked levels : List (List ℕ)) (level : List ℕ)
    → first_is is_plus (levels_of granted) ≡ true → levels_of granted ≡ level ∷ levels
    → fits_levels asked (levels_of granted) ≡ fits_levels (after_first asked) levels
fits_plus granted asked levels level plus is =
    let p : is_plus level ≡ true = rw is at plus in
    rw (is, plus-hash level p, p) refl

over_by : (level : List ℕ) (levels : List (List ℕ)) (hash : Bool) → is_hash level ≡ hash
    → is_plus level ≡ false → fits_levels [] (level ∷ levels) ≡ is_hash level
over_by level levels true is plus = rw is refl
over_by level levels false is plus = rw (is, plus) refl

-- where the asked filter is over, a level that is not `+` has to be `#`
pub fits_over : (granted : List ℕ) → first_is is_plus (levels_of granted) ≡ false
    → fits_levels [] (levels_of granted) ≡ first_is is_hash (levels_of granted)
fits_over granted plus =
    let c = cut granted in
    let p : is_plus c.level ≡ false = rw c.is at plus in
    rw c.is (over_by c.level c.rest (is_hash c.level) refl p)
