-- What is left behind a front that two texts have in common is left of the texts.
use Rattle.std.proofs.Common.{◌≡◌, ◌-◌, ◌<◌, ◌≤◌, ◌==◌, ◌∙◌, ℕ, zero, suc, Bool, true, false, List, [], ◌∷◌}
use Rattle.std.proofs.Common.{◌++◌, length, take, drop, get_or, min, refl, sym, ap, append_assoc, arith}
use Rattle.std.proofs.Common.{if◌then◌else◌}
use Rattle.std.proofs.Math.Seq.{drop-cons}
use Rattle.std.proofs.lemmas.List.{take-append-drop, take-append-le, length-take, get_or-take}
use Rattle.sng_text.specs.Common.{AreLeft}
use Rattle.sng_text.specs.Levels.{lengthen, levels_of}
use Rattle.sng_cover.proofs.Joining.{HasLevel, some_level}

lengthen-append : (b : ℕ) (levels more : List (List ℕ)) → HasLevel levels
    → lengthen b (levels ++ more) ≡ lengthen b levels ++ more
lengthen-append b [] more some = absurd some
lengthen-append b (level ∷ levels) more some = refl

slash_by : (b : ℕ) (slash : Bool) (whole front rest : List (List ℕ)) → HasLevel front → whole ≡ front ++ rest
    → (if slash then [] ∷ whole else lengthen b whole)
    ≡ (if slash then [] ∷ front else lengthen b front) ++ rest
slash_by b true whole front rest some is = ap (λ (levels : List (List ℕ)). [] ∷ levels) is
slash_by b false whole front rest some is = ap (lengthen b) is ∙ lengthen-append b front rest some

-- a slash parts the levels before it from those behind it
levels-slash : (front rest : List ℕ) → levels_of (front ++ 47 ∷ rest) ≡ levels_of front ++ levels_of rest
levels-slash [] rest = refl
levels-slash (b ∷ front) rest =
    slash_by b (b == 47) (levels_of (front ++ 47 ∷ rest)) (levels_of front) (levels_of rest)
    (some_level front) (levels-slash front rest)

at_slash : (text : List ℕ) (k : ℕ) → k < length text → get_or text k 0 ≡ 47
    → levels_of text ≡ levels_of (take k text) ++ levels_of (drop (suc k) text)
at_slash text k within is =
    let parts : drop k text ≡ 47 ∷ drop (suc k) text =
    drop-cons text k 0 within ∙ ap (λ (b : ℕ). b ∷ drop (suc k) text) is in
    let whole : text ≡ take k text ++ 47 ∷ drop (suc k) text =
    sym (take-append-drop k text) ∙ ap (λ (rest : List ℕ). take k text ++ rest) parts in
    ap levels_of whole ∙ levels-slash (take k text) (drop (suc k) text)

-- a front of a front
shorter : (text : List ℕ) (k front : ℕ) → k ≤ front → front ≤ length text
    → take k text ≡ take k (take front text)
shorter text k front less within =
    let size : length (take front text) ≡ min front (length text) = length-take front text in
    let few : k ≤ length (take front text) = omega (arith, size) in
    ap (take k) (sym (take-append-drop front text)) ∙ take-append-le k (take front text) (drop front text) few

pub left-further : (text other : List ℕ) (front start : ℕ) (left right : List (List ℕ)) → front ≤ length text
    → front ≤ length other → take front text ≡ take front other
    → start ≤ front → (0 < start → get_or text (start - 1) 0 ≡ 47)
    → AreLeft (levels_of (drop start text)) (levels_of (drop start other)) left right
    → AreLeft (levels_of text) (levels_of other) left right
left-further text other front zero left right within beside same before slash are = are
left-further text other front (suc k) left right within beside same before slash are =
    let place : suc k - 1 ≡ k = omega arith in
    let is : get_or text k 0 ≡ 47 = rw place at (slash (omega arith)) in
    let below : k < front = omega arith in
    let also : get_or other k 0 ≡ 47 =
    sym (get_or-take front other k 0 below)
    ∙ (ap (λ (bytes : List ℕ). get_or bytes k 0) (sym same) ∙ (get_or-take front text k 0 below ∙ is)) in
    let fronts : take k other ≡ take k text =
    shorter other k front (omega arith) beside
    ∙ (ap (take k) (sym same) ∙ sym (shorter text k front (omega arith) within)) in
    let common : List (List ℕ) = levels_of (take k text) in
    record {
      common = common ++ are.common;
      levels_are =
          at_slash text k (omega arith) is
          ∙ (ap (λ (levels : List (List ℕ)). common ++ levels) are.levels_are
          ∙ sym (append_assoc common are.common left));
      others_are =
          at_slash other k (omega arith) also
          ∙ (rw fronts (ap (λ (levels : List (List ℕ)). common ++ levels) are.others_are)
          ∙ sym (append_assoc common are.common right));
      differ = are.differ;
    }
