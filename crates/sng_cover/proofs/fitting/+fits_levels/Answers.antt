use Rattle.std.proofs.Common.{◌≡◌, ℕ, true, List, [], ◌∷◌, length, suc, sym, ap, ◌∙◌, arith}
use Rattle.sng_text.specs.Common.{AreLeft, first_is}
use Rattle.sng_text.specs.Levels.{levels_of, levels_left}
use Rattle.sng_text.specs.Texts.{is_in_place, is_plus}
use Rattle.sng_text.proofs.MatchLemmas.{fewer_left}
use Rattle.sng_cover.specs.Reaches.{fits_levels, after_first}
use Rattle.sng_cover.proofs.FittingLemmas.{fits_left, place_left, fits_hash, fits_literal, fits_plus}
use Rattle.sng_cover.proofs.FittingLemmas.{fits_over}
use Rattle.sng_cover.proofs.Shapes.{in_place-tail}
use Rattle.sng_cover.proofs.fitting.+fits_levels.Goals as goal

pub returns-in_default : goal.returns-in_default
returns-in_default t c =
    let left = rw c.in_default.is at c.past_alike.ensures in
    sym (fits_left (levels_of c.args.granted.now) (levels_of c.args.asked.now) []
    (levels_left c.past_alike.result.1) left c.requires)

pub returns-then-begins_hash : goal.returns-then-begins_hash
returns-then-begins_hash t c =
    let left = rw c.in-Some.is at c.past_alike.ensures in
    let own = levels_left c.past_alike.result.1 in
    sym (fits_left (levels_of c.args.granted.now) (levels_of c.args.asked.now)
    (levels_of c.in-Some.left.now) own left c.requires
    ∙ fits_hash c.in-Some.left.now own (sym c.if-begins_hash.ensures))

pub returns-then-not-begins_plus : goal.returns-then-not-begins_plus
returns-then-not-begins_plus t c =
    let left = rw c.in-Some.is at c.past_alike.ensures in
    let own = levels_left c.past_alike.result.1 in
    sym (fits_left (levels_of c.args.granted.now) (levels_of c.args.asked.now)
    (levels_of c.in-Some.left.now) own left c.requires
    ∙ fits_literal c.in-Some.left.now own (sym c.if-begins_hash.ensures)
    (sym c.if-not-begins_plus.ensures) left.differ)

-- what is left behind the levels `+` decides
behind : (granted asked : List ℕ) (own : List (List ℕ)) (left level : List ℕ)
    (levels next rest : List (List ℕ))
    → AreLeft (levels_of granted) (levels_of asked) (levels_of left) own
    → is_in_place (levels_of granted) ≡ true → first_is is_plus (levels_of left) ≡ true
    → levels_of left ≡ level ∷ levels → fits_levels next rest ≡ fits_levels (after_first own) levels
    → fits_levels (levels_of asked) (levels_of granted) ≡ fits_levels next rest
behind granted asked own left level levels next rest are place plus is same =
    fits_left (levels_of granted) (levels_of asked) (levels_of left) own are place
    ∙ fits_plus left own levels level plus is ∙ sym same

pub fits_levels-requires : goal.fits_levels-requires
fits_levels-requires t c =
    let d = c.decreases in
    let left = rw c.in-Some.is at c.past_alike.ensures in
    let own = levels_left c.past_alike.result.1 in
    let text = c.split_level.ensures in
    let fewer =
    fewer_left (levels_of c.args.granted.now) (levels_of c.args.asked.now)
    (levels_of c.in-Some.left.now) own left in
    let size : length (levels_of c.in-Some.left.now) ≡ suc (length (levels_left c.split_level.result.1)) =
    ap length text in
    let past = rw c.in-Some-Some.is-1 at c.past_pluses.ensures.fewer in
    let place =
    place_left (levels_of c.args.granted.now) (levels_of c.args.asked.now)
    (levels_of c.in-Some.left.now) own left c.requires in
    let behind_place : is_in_place (levels_left c.split_level.result.1) ≡ true =
    in_place-tail c.split_level.result.0.now (levels_left c.split_level.result.1) (rw text at place) in
    let last = rw c.in-Some-Some.is-1 at (c.past_pluses.ensures.in_place behind_place) in
    (omega (arith, d, size, fewer, past), last)

pub returns-in_default-None : goal.returns-in_default-None
returns-in_default-None t c =
    let left = rw c.in-Some.is at c.past_alike.ensures in
    let same = rw (c.in_default-None.is-1, c.past_level.ensures) at c.past_pluses.ensures.same in
    sym (behind c.args.granted.now c.args.asked.now
    (levels_left c.past_alike.result.1) c.in-Some.left.now c.split_level.result.0.now
    (levels_left c.split_level.result.1)
    (levels_left c.past_pluses.result.0) [] left c.requires
    (sym c.if-not-begins_plus.ensures) c.split_level.ensures same)

pub returns-in-None-Some : goal.returns-in-None-Some
returns-in-None-Some t c =
    let left = rw c.in-Some.is at c.past_alike.ensures in
    let same =
    rw (c.in-None-Some.is-0, c.in-None-Some.is-1, c.past_level.ensures) at c.past_pluses.ensures.same in
    let other = rw c.in-None-Some.is-1 at c.past_pluses.ensures.other in
    c.begins_hash-in-None-Some.ensures ∙ sym (fits_over c.in-None-Some.left.now other)
    ∙ sym (behind c.args.granted.now c.args.asked.now
    (levels_left c.past_alike.result.1) c.in-Some.left.now c.split_level.result.0.now
    (levels_left c.split_level.result.1)
    [] (levels_of c.in-None-Some.left.now) left c.requires
    (sym c.if-not-begins_plus.ensures) c.split_level.ensures same)

pub returns-in-Some-Some : goal.returns-in-Some-Some
returns-in-Some-Some t c =
    let left = rw c.in-Some.is at c.past_alike.ensures in
    let same =
    rw (c.in-Some-Some.is-0, c.in-Some-Some.is-1, c.past_level.ensures) at c.past_pluses.ensures.same in
    c.fits_levels.ensures
    ∙ sym (behind c.args.granted.now c.args.asked.now
    (levels_left c.past_alike.result.1) c.in-Some.left.now c.split_level.result.0.now
    (levels_left c.split_level.result.1)
    (levels_of c.in-Some-Some.own.now) (levels_of c.in-Some-Some.left.now) left c.requires
    (sym c.if-not-begins_plus.ensures) c.split_level.ensures same)
