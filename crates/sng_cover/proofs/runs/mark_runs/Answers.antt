use Rattle.std.proofs.Common.{◌≡◌, ℕ, Bool, true, false, ◌==◌, ◌||◌, List, ◌∷◌, length, refl, sym, ◌∙◌}
use Rattle.std.specs.Str.{bytes_eq}
use Rattle.std.proofs.lemmas.Bool.{or_right}
use Rattle.sng_cover.specs.Candidates.{run, has_level}
use Rattle.sng_cover.proofs.Fresh.{run_level, no_run}
use Rattle.sng_cover.proofs.runs.mark_runs.Goals as goal

moved : (here more old : Bool) → (more || (here || old)) ≡ ((here || more) || old)
moved true more old = or_right more true refl
moved false more old = refl

marked_more : (level : List ℕ) (rest : List (List ℕ)) (count : ℕ) (whole old new : Bool)
    → bytes_eq (run (length level)) level ≡ true
    → (has_level (run count) (level ∷ rest) || old) ≡ whole → new ≡ ((count == length level) || old)
    → (has_level (run count) rest || new) ≡ whole
marked_more level rest count whole old new is was marked =
    let same : bytes_eq (run count) level ≡ (count == length level) = run_level count level is in
    rw (marked, ← same) (moved (bytes_eq (run count) level) (has_level (run count) rest) old ∙ was)

pub loop-level-preserved-then-is_run : goal.loop-level-preserved-then-is_run
loop-level-preserved-then-is_run c =
    let before = rw c.in-Some.ensures.steps at c.loop-level.invariant.short in
    let is : bytes_eq (run (length c.in-Some.level.now)) c.in-Some.level.now ≡ true =
    sym c.is_run.ensures ∙ c.if-is_run.true in
    record {
      can_next = tt;
      is_finite = tt;
      short = before.1;
      marked = λ count.
          let old = rw c.in-Some.ensures.steps at (c.loop-level.invariant.marked count) in
          marked_more c.in-Some.level.now _ count _ _ _ is old (c.mark.ensures count);
    }

pub loop-level-preserved : goal.loop-level-preserved
loop-level-preserved c =
    let before = rw c.in-Some.ensures.steps at c.loop-level.invariant.short in
    let is : bytes_eq (run (length c.in-Some.level.now)) c.in-Some.level.now ≡ false =
    sym c.is_run.ensures ∙ c.if-is_run.false in
    record {
      can_next = tt;
      is_finite = tt;
      short = before.1;
      marked = λ count.
          let old = rw c.in-Some.ensures.steps at (c.loop-level.invariant.marked count) in
          let none = no_run count c.in-Some.level.now is in
          rw none at old;
    }
