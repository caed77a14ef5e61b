use Rattle.std.proofs.Common.{ℕ, ◌≡◌, ◌+◌, ◌<◌, ◌≤◌, ◌==◌, ◌&&◌, not, Bool, true, false, List, ◌∷◌, suc, max}
use Rattle.std.proofs.Common.{sym, ◌∙◌, arith, inl, inr, subst, Some}
use Rattle.std.proofs.Math.Nat.{eq-or-lt_of_le}
use Rattle.sng_text.specs.declared.limits.TheConstants.{MAX_FILTER}
use Rattle.sng_text.specs.Levels.{levels_of}
use Rattle.sng_text.specs.Texts.{is_name}
use Rattle.sng_text.specs.Matching.{has_rest}
use Rattle.sng_cover.specs.Candidates.{candidate}
use Rattle.sng_cover.specs.Covering.{is_open, fixed_part, longest_fixed, gap_depth}
use Rattle.sng_cover.specs.Reaches.{shape_reaches}
use Rattle.sng_cover.specs.Reached.{is_reached, begins_empty}
use Rattle.sng_cover.specs.Gathered.{ReachedBy, IsProfile}
use Rattle.sng_cover.specs.declared.shape.Shape.{Shape}
use Rattle.sng_cover.specs.declared.depths.Reached.{Reached}
use Rattle.sng_cover.proofs.Filters.{filters_from_all}
use Rattle.sng_cover.proofs.Opened.{kept_is_open}
use Rattle.sng_cover.proofs.Answered.{found_depth, no_depth, longest_few}
use Rattle.sng_cover.proofs.depths.gap_depth.Goals as goal

-- one more that fails
up_to : (passes : ℕ → Bool) (depth : ℕ) → ((less : ℕ) → 1 ≤ less → less < depth → passes less ≡ false)
    → passes depth ≡ false
    → (less : ℕ) → 1 ≤ less → less < depth + 1 → passes less ≡ false
up_to passes depth before fails less some below =
    let most : less ≤ depth = omega arith in
    elim (eq-or-lt_of_le most) [
      | inl same ↦ subst (λ (n : ℕ). passes n ≡ false) (sym same) fails
      | inr under ↦ before less some under
    ]

-- the test of a depth is that its candidate is open
pub test_of : (asked : List ℕ) (granted : List (List ℕ)) (own : Shape) (reached : Reached) (depth : ℕ)
    → ReachedBy reached asked granted → 1 ≤ depth
    → own.fixed ≡ fixed_part asked → own.has_rest ≡ has_rest (levels_of asked)
    → ((shape_reaches own depth && not ((depth == 1) && begins_empty asked))
    && not (is_reached reached depth)) ≡ is_open asked granted depth
test_of asked granted own reached depth by some fixed rest =
    kept_is_open asked granted own _ depth (filters_from_all granted by.are) some fixed rest (by.depths depth)

pub last_depth-last-requires-clause-granted_few : goal.last_depth-last-requires-clause-granted_few
last_depth-last-requires-clause-granted_few c =
    let by = c.requires.1.0 in
    let few : longest_fixed c.requires.0 ≤ (MAX_FILTER + 1) =
    longest_few c.requires.0 (filters_from_all c.requires.0 by.are) in
    let longest : c.longest.result ≡ longest_fixed c.requires.0 =
    c.longest.ensures ∙ c.requires.1.1.longest in
    omega arith

pub loop-depth-preserved : goal.loop-depth-preserved
loop-depth-preserved c = λ granted by profile.
    let own = c.of-own.ensures.shape in
    let some : 1 ≤ c.loop-depth.depth = c.loop-depth.auto.depth in
    let test =
    test_of c.args.asked.now granted c.of-own.result c.args.reached.now c.loop-depth.depth by some
    own.fixed own.has_rest in
    let fails : is_open c.args.asked.now granted c.loop-depth.depth ≡ false =
    sym test ∙ (sym c.is_left.ensures ∙ c.if-is_left.false) in
    up_to (is_open c.args.asked.now granted) c.loop-depth.depth
    (c.loop-depth.invariant granted by profile) fails

pub returns-then-is_left : goal.returns-then-is_left
returns-then-is_left c =
    let own = c.of-own.ensures.shape in
    let some : 1 ≤ c.loop-depth.depth = c.loop-depth.auto.depth in
    let found : (granted : List (List ℕ)) → ReachedBy c.args.reached.now c.args.asked.now granted
    → IsProfile c.args.profile.now granted
    → (gap_depth c.args.asked.now granted ≡ Some c.loop-depth.depth)
    × (is_name (candidate c.args.asked.now granted c.loop-depth.depth) ≡ true) = λ granted by profile.
    let test =
    test_of c.args.asked.now granted c.of-own.result c.args.reached.now c.loop-depth.depth by some
    own.fixed own.has_rest in
    let opened : is_open c.args.asked.now granted c.loop-depth.depth ≡ true =
    sym test ∙ (sym c.is_left.ensures ∙ c.if-is_left.true) in
    let below : c.loop-depth.depth < 1 + suc (longest_fixed (c.args.asked.now ∷ granted)) =
    let own_fixed : c.of-own.result.fixed ≡ fixed_part c.args.asked.now = own.fixed in
    let longest : c.args.profile.now.longest ≡ longest_fixed granted = profile.longest in
    let kept : c.longest.result ≡ c.args.profile.now.longest = c.longest.ensures in
    let last : c.last_depth-last.result ≡ max c.of-own.result.fixed c.longest.result + 1 =
    c.last_depth-last.ensures.value in
    let test : c.loop-depth.depth < c.last_depth-last.result + 1 = c.loop-depth-test.true in omega arith in
    found_depth c.args.asked.now granted c.loop-depth.depth c.of-own.ensures.filter
    (filters_from_all granted by.are) some below opened (c.loop-depth.invariant granted by profile) in
    record {
      value = λ granted by profile. sym (found granted by profile).0;
      named = λ granted by profile. (found granted by profile).1;
    }

pub returns-clause-value : goal.returns-clause-value
returns-clause-value c = λ granted by profile.
    let own_fixed : c.of-own.result.fixed ≡ fixed_part c.args.asked.now = c.of-own.ensures.shape.fixed in
    let longest : c.args.profile.now.longest ≡ longest_fixed granted = profile.longest in
    let kept : c.longest.result ≡ c.args.profile.now.longest = c.longest.ensures in
    let last : c.last_depth-last.result ≡ max c.of-own.result.fixed c.longest.result + 1 =
    c.last_depth-last.ensures.value in
    let past : c.last_depth-last.result + 1 ≤ c.loop-depth.depth = c.loop-depth-test.false in
    sym (no_depth c.args.asked.now granted
    (λ less from under. c.loop-depth.invariant granted by profile less from (omega arith)))
