use Rattle.std.proofs.Common.{◌≡◌, ◌==◌, ◌&&◌, ◌||◌, not, nat_lt, Bool, true, false, refl, sym, ap, ◌∙◌}
use borrow.Author.Tests.{eq-eqb, ne_eqb, lt-ltb, le-ltb}
use Rattle.sng_questions.specs.Redundant.{includes, leaves_nothing}
use Rattle.sng_questions.proofs.redundant.leaves_nothing.Goals as goal
use Rattle.sng_questions.proofs.redundant.leaves_nothing.Goals.{then-place-index-via-then-place-index}
use Rattle.sng_questions.proofs.redundant.leaves_nothing.Goals.{then-place-index-via-else-place-index+in_ok-includes+then-not-branch}

-- whether the places are the same, the other pair includes this one, stands before it, and is included in it
same_place : (same included earlier back : Bool) → same ≡ true
    → false ≡ (not same && (included && (earlier || not back)))
same_place same included earlier back is = rw is refl

not_included : (same included earlier back : Bool) → included ≡ false
    → false ≡ (not same && (included && (earlier || not back)))
not_included true included earlier back is = refl
not_included false included earlier back is = rw is refl

is_earlier : (same included earlier back : Bool) → same ≡ false → included ≡ true → earlier ≡ true
    → earlier ≡ (not same && (included && (earlier || not back)))
is_earlier same included earlier back other is before = rw (other, is, before) refl

is_later : (same included earlier back : Bool) → same ≡ false → included ≡ true → earlier ≡ false
    → not back ≡ (not same && (included && (earlier || not back)))
is_later same included earlier back other is behind = rw (other, is, behind) refl

pub returns-then-place-index : goal.returns-then-place-index
unfolding leaves_nothing
returns-then-place-index c =
    let same = c.args.place == c.args.index in
    let included = includes c.args.other.now c.args.pair.now in
    let earlier = nat_lt c.args.place c.args.index in
    let back = includes c.args.pair.now c.args.other.now in
    elim c.then-place-index.branch [
      | then-place-index-via-then-place-index w ↦
          same_place same included earlier back (eq-eqb c.args.place c.args.index w.if-place-index.true)
      | then-place-index-via-else-place-index+in_ok-includes+then-not-branch w ↦
          not_included same included earlier back (sym w.in_ok-includes.ensures ∙ w.if-not-branch.true)
    ]

pub returns-then-place-index-2 : goal.returns-then-place-index-2
unfolding leaves_nothing
returns-then-place-index-2 c =
    is_earlier (c.args.place == c.args.index) (includes c.args.other.now c.args.pair.now)
    (nat_lt c.args.place c.args.index) (includes c.args.pair.now c.args.other.now)
    (ne_eqb c.args.place c.args.index c.if-place-index.false)
    (sym c.in_ok-includes.ensures ∙ c.if-not-branch.false)
    (lt-ltb c.args.place c.args.index c.if-place-index-2.true)

pub returns-in_ok-includes-2 : goal.returns-in_ok-includes-2
unfolding leaves_nothing
returns-in_ok-includes-2 c =
    ap not c.in_ok-includes-2.ensures
    ∙ is_later (c.args.place == c.args.index) (includes c.args.other.now c.args.pair.now)
    (nat_lt c.args.place c.args.index) (includes c.args.pair.now c.args.other.now)
    (ne_eqb c.args.place c.args.index c.if-place-index.false)
    (sym c.in_ok-includes.ensures ∙ c.if-not-branch.false)
    (le-ltb c.args.place c.args.index c.if-place-index-2.false)
