-- Filters that reach each depth that the asked one reaches cover it, whatever else is granted.
use Rattle.std.proofs.Common.{◌≡◌, ◌<◌, ◌≤◌, ◌+◌, ◌==◌, ℕ, suc, Bool, true, false, ◌&&◌, ◌||◌, not, List, []}
use Rattle.std.proofs.Common.{◌∷◌, ◌++◌}
use Rattle.std.proofs.Common.{Option, Some, None, nat_lt, if◌then◌else◌, refl, sym, ap, arith, ◌∙◌}
use Rattle.std.proofs.lemmas.Bool.{or_right, eqb-true, ltb-false, le-ltb, not-true}
use Rattle.std.proofs.lemmas.List.Elements.{All-append}
use Rattle.std.specs.List.{All}
use Rattle.sng_text.specs.Texts.{is_filter}
use Rattle.sng_cover.specs.Covering.{is_open, answer_at, cover_of, longest_fixed}
use Rattle.sng_cover.specs.Gathered.{ReachedBy, IsShape}
use Rattle.sng_cover.specs.Marks.{is_marked}
use Rattle.sng_cover.specs.Reached.{is_from, is_reached, begins_empty}
use Rattle.sng_cover.specs.Reaches.{any_reaches, reaches, reaches_depth, shape_reaches}
use Rattle.sng_cover.specs.declared.answer.Cover.TheVariants.{Included}
use Rattle.sng_cover.specs.declared.depths.Reached.{Reached}
use Rattle.sng_cover.specs.declared.shape.Shape.{Shape}
use Rattle.sng_cover.proofs.Answered.{no_depth}
use Rattle.sng_cover.proofs.Filters.{filters_from_all}
use Rattle.sng_cover.proofs.Opened.{kept_is_open}

-- what tells that each depth of the asked filter is reached
abbrev pub is_met : Shape → Reached → Bool
is_met own reached =
    if own.has_rest then is_from reached.rest_from own.fixed else is_reached reached own.fixed

not_less : (a b : ℕ) → not (nat_lt a b) ≡ true → b ≤ a
not_less a b is = ltb-false a b (not-true (nat_lt a b) is)

-- past a depth from which a filter with `#` matches, it matches
from_on : (from : Option ℕ) (fixed depth : ℕ) → is_from from fixed ≡ true → not (nat_lt depth fixed) ≡ true
    → is_from from depth ≡ true
from_on None fixed depth met past = absurd (cc)
from_on (Some from) fixed depth met past =
    let most : from ≤ fixed = not_less fixed from met in
    let more : fixed ≤ depth = not_less depth fixed past in
    let within : from ≤ depth = omega (arith, most, more) in
    ap not (le-ltb depth from within)

reached_at : (reached : Reached) (fixed depth : ℕ) (rest : Bool)
    → (if rest then is_from reached.rest_from fixed else is_reached reached fixed) ≡ true
    → reaches_depth fixed rest depth ≡ true → is_reached reached depth ≡ true
reached_at reached fixed depth true met at =
    or_right (is_marked reached.ends depth) (is_from reached.rest_from depth)
    (from_on reached.rest_from fixed depth met at)
reached_at reached fixed depth false met at =
    let same : depth ≡ fixed = eqb-true depth fixed at in rw same met

any_by : (b any more : Bool) → (b || any) ≡ true → (any ≡ true → more ≡ true) → (b || more) ≡ true
any_by true any more is next = refl
any_by false any more is next = next is

any_reaches-append : (asked : List ℕ) (granted more : List (List ℕ)) (depth : ℕ)
    → any_reaches asked granted depth ≡ true → any_reaches asked (granted ++ more) depth ≡ true
any_reaches-append asked [] more depth is = absurd (cc)
any_reaches-append asked (filter ∷ granted) more depth is =
    any_by (reaches asked filter depth) (any_reaches asked granted depth)
    (any_reaches asked (granted ++ more) depth) is
    (any_reaches-append asked granted more depth)

and_not : (b : Bool) → (b && not true) ≡ false
and_not true = refl
and_not false = refl

-- a depth that the asked filter reaches is reached, so its candidate is not open
shut_by : (own : Bool) (others reached : Bool) → (own ≡ true → reached ≡ true)
    → ((own && others) && not reached) ≡ false
shut_by true others reached met = rw (met refl) (and_not others)
shut_by false others reached met = refl

pub covered : (asked : List ℕ) (granted more : List (List ℕ)) (own : Shape) (reached : Reached)
    → ReachedBy reached asked granted → IsShape own asked
    → All (λ filter. is_filter filter ≡ true) more → is_met own reached ≡ true
    → cover_of asked (granted ++ more) ≡ Included
covered asked granted more own reached by is are met =
    let whole : List (List ℕ) = granted ++ more in
    let all = All-append (λ (filter : List ℕ). is_filter filter ≡ true) granted more by.are are in
    let shut : (depth : ℕ) → 1 ≤ depth → depth < 1 + suc (longest_fixed (asked ∷ whole))
    → is_open asked whole depth ≡ false = λ depth some below.
    let reached_is : shape_reaches own depth ≡ true → any_reaches asked whole depth ≡ true = λ reaches_it.
    any_reaches-append asked granted more depth
    (sym (by.depths depth) ∙ reached_at reached own.fixed depth own.has_rest met reaches_it) in
    sym (kept_is_open asked whole own (any_reaches asked whole depth) depth
    (filters_from_all whole all) some is.fixed is.has_rest refl)
    ∙ shut_by (shape_reaches own depth) (not ((depth == 1) && begins_empty asked))
    (any_reaches asked whole depth) reached_is in
    ap (answer_at asked whole) (no_depth asked whole shut)
