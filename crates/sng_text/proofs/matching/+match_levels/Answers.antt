use Rattle.std.proofs.Common.{◌≡◌, ℕ, Bool, true, false, not, List, [], ◌∷◌, length, suc, refl, sym, ap, ◌∙◌}
use Rattle.std.proofs.Common.{arith, Some, None, Option}
use Rattle.std.specs.Borrow.{Bor}
use Rattle.std.specs.Option.{is_some}
use Rattle.sng_text.specs.Common.{AreLeft, first_is}
use Rattle.sng_text.specs.Levels.{levels_of, levels_left}
use Rattle.sng_text.specs.Texts.{all_plain, is_hash, is_plus}
use Rattle.sng_text.proofs.MatchLemmas.{matched, matched_left, matched_over, matched_hash, matched_literal}
use Rattle.sng_text.proofs.MatchLemmas.{matched_plus, plain_left, plain_behind, fewer_left, cut}
use Rattle.sng_text.proofs.matching.+match_levels.Goals as goal

-- where the filter is over, the name has to be
ended : (found : Option (Bor (List ℕ))) (none : Bool) → is_some found ≡ not none
    → none ≡ matched [] (levels_left found)
ended None true is = refl
ended None false is = cc
ended (Some text) true is = cc
ended (Some text) false is = let c = cut text.now in rw c.is refl

pub returns-in_default : goal.returns-in_default
returns-in_default t c =
    let left = rw c.in_default.is at c.past_common.ensures in
    ended c.past_common.result.1 c.is_none.result c.is_none.ensures
    ∙ sym (matched_left (levels_of c.args.filter.now) (levels_of c.args.name.now) []
    (levels_left c.past_common.result.1) left c.requires)

pub returns-in_default-found : goal.returns-in_default-found
returns-in_default-found t c =
    let left = rw (c.in-Some.is, c.in_default-found.is) at c.past_common.ensures in
    c.begins_hash.ensures ∙ sym (matched_over c.in-Some.left.now)
    ∙ sym (matched_left (levels_of c.args.filter.now) (levels_of c.args.name.now)
    (levels_of c.in-Some.left.now) [] left c.requires)

pub returns-then-begins_hash : goal.returns-then-begins_hash
returns-then-begins_hash t c =
    let left = rw (c.in-Some.is, c.in-Some-found.is) at c.past_common.ensures in
    let found = levels_of c.in-Some-found.found.now in
    sym (matched_left (levels_of c.args.filter.now) (levels_of c.args.name.now)
    (levels_of c.in-Some.left.now) found left c.requires
    ∙ matched_hash c.in-Some.left.now found (sym c.if-begins_hash.ensures))

pub returns-then-not-begins_plus : goal.returns-then-not-begins_plus
returns-then-not-begins_plus t c =
    let left = rw (c.in-Some.is, c.in-Some-found.is) at c.past_common.ensures in
    let found = levels_of c.in-Some-found.found.now in
    sym (matched_left (levels_of c.args.filter.now) (levels_of c.args.name.now)
    (levels_of c.in-Some.left.now) found left c.requires
    ∙ matched_literal c.in-Some.left.now found (sym c.if-begins_hash.ensures)
    (sym c.if-not-begins_plus.ensures) left.differ)

-- one level of both is past
next : (filter name left found level other : List ℕ) (levels others : List (List ℕ))
    → AreLeft (levels_of filter) (levels_of name) (levels_of left) (levels_of found)
    → all_plain (levels_of name) ≡ true
    → first_is is_hash (levels_of left) ≡ false → first_is is_plus (levels_of left) ≡ true
    → levels_of left ≡ level ∷ levels → levels_of found ≡ other ∷ others
    → matched (levels_of filter) (levels_of name) ≡ matched levels others
next filter name left found level other levels others are plain hash plus left_is found_is =
    matched_left (levels_of filter) (levels_of name) (levels_of left) (levels_of found) are plain
    ∙ matched_plus left found level other levels others hash plus left_is found_is

pub match_levels-requires : goal.match_levels-requires
match_levels-requires t c =
    let d = c.decreases in
    let left = rw (c.in-Some.is, c.in-Some-found.is) at c.past_common.ensures in
    let text = rw c.in-Some-Some.is-0 at c.split_level.ensures in
    let other = rw c.in-Some-Some.is-1 at c.split_level-2.ensures in
    let fewer =
    fewer_left (levels_of c.args.filter.now) (levels_of c.args.name.now) (levels_of c.in-Some.left.now)
    (levels_of c.in-Some-found.found.now) left in
    let size : length (levels_of c.in-Some.left.now) ≡ suc (length (levels_of c.in-Some-Some.left.now)) =
    ap length text in
    let plain =
    plain_left (levels_of c.args.filter.now) (levels_of c.args.name.now) (levels_of c.in-Some.left.now)
    (levels_of c.in-Some-found.found.now) left c.requires in (
      omega (arith, d, size, fewer),
      plain_behind c.in-Some-found.found.now _ (levels_of c.in-Some-Some.found.now) plain other,
    )

pub returns-in-None-default : goal.returns-in-None-default
returns-in-None-default t c =
    let left = rw (c.in-Some.is, c.in-Some-found.is) at c.past_common.ensures in
    let text = rw c.in-None-default.is-0 at c.split_level.ensures in
    ended c.split_level-2.result.1 c.is_none-in-None-default.result c.is_none-in-None-default.ensures
    ∙ sym (next c.args.filter.now c.args.name.now c.in-Some.left.now c.in-Some-found.found.now _ _ []
    (levels_left c.split_level-2.result.1) left c.requires
    (sym c.if-begins_hash.ensures) (sym c.if-not-begins_plus.ensures) text c.split_level-2.ensures)

pub returns-in-Some-None : goal.returns-in-Some-None
returns-in-Some-None t c =
    let left = rw (c.in-Some.is, c.in-Some-found.is) at c.past_common.ensures in
    let text = rw c.in-Some-None.is-0 at c.split_level.ensures in
    let other = rw c.in-Some-None.is-1 at c.split_level-2.ensures in
    c.begins_hash-in-Some-None.ensures ∙ sym (matched_over c.in-Some-None.left.now)
    ∙ sym (next c.args.filter.now c.args.name.now c.in-Some.left.now c.in-Some-found.found.now _ _
    (levels_of c.in-Some-None.left.now) [] left c.requires
    (sym c.if-begins_hash.ensures) (sym c.if-not-begins_plus.ensures) text other)

pub returns-in-Some-Some : goal.returns-in-Some-Some
returns-in-Some-Some t c =
    let left = rw (c.in-Some.is, c.in-Some-found.is) at c.past_common.ensures in
    let text = rw c.in-Some-Some.is-0 at c.split_level.ensures in
    let other = rw c.in-Some-Some.is-1 at c.split_level-2.ensures in
    c.match_levels.ensures
    ∙ sym (next c.args.filter.now c.args.name.now c.in-Some.left.now c.in-Some-found.found.now _ _
    (levels_of c.in-Some-Some.left.now) (levels_of c.in-Some-Some.found.now) left c.requires
    (sym c.if-begins_hash.ensures) (sym c.if-not-begins_plus.ensures) text other)
