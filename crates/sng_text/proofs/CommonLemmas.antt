-- The levels with which two texts begin alike.
use Rattle.std.proofs.Common.{◌≡◌, ℕ, ◌+◌, ◌-◌, ◌<◌, ◌≤◌, ◌==◌, ◌∙◌, Bool, true, false, List, [], ◌∷◌, ◌++◌}
use Rattle.std.proofs.Common.{length, take, drop, get_or, refl, sym, ap, suc, add-one, append_assoc, arith}
use Rattle.std.proofs.Math.Seq.{drop-cons}
use Rattle.std.proofs.lemmas.Bool.{false_from_ne_true, eqb-true}
use Rattle.std.proofs.lemmas.List.{append_cancel_left, take_all, drop_all, length-drop}
use Rattle.std.proofs.lemmas.Slice.Eq.{bytes_eq-Decides}
use Rattle.sng_text.specs.Common.{begin_alike, AreLeft}
use Rattle.sng_text.specs.Levels.{lengthen, levels_of}
use Rattle.sng_text.proofs.LevelLemmas.{prepend, prepend-push, prepend-nil}

-- the texts are alike up to a place, in the levels before `start` and in the front of the one that begins
-- there
pub record AreAlike (text other : List ℕ) (start at : ℕ) : Type 0 where
  pub common : List (List ℕ)
  pub front : List ℕ
  pub within : start ≤ at
  pub text_is : levels_of text ≡ common ++ levels_of (drop start text)
  pub other_is : levels_of other ≡ common ++ levels_of (drop start other)
  pub text_left : levels_of (drop start text) ≡ prepend front (levels_of (drop at text))
  pub other_left : levels_of (drop start other) ≡ prepend front (levels_of (drop at other))

pub alike-init : (text other : List ℕ) → AreAlike text other 0 0
alike-init text other =
    record {
      common = [];
      front = [];
      within = omega arith;
      text_is = refl;
      other_is = refl;
      text_left = refl;
      other_left = refl;
    }

-- ---- one byte more

level_by : (b : ℕ) (text : List ℕ) → (b == 47) ≡ false → levels_of (b ∷ text) ≡ lengthen b (levels_of text)
level_by b text is = rw is refl

slash_by : (b : ℕ) (text : List ℕ) → (b == 47) ≡ true → levels_of (b ∷ text) ≡ [] ∷ levels_of text
slash_by b text is = rw is refl

left_more : (text : List ℕ) (front : List ℕ) (left : List (List ℕ)) (at : ℕ) → at < length text
    → (get_or text at 0 == 47) ≡ false
    → left ≡ prepend front (levels_of (drop at text))
    → left ≡ prepend (front ++ get_or text at 0 ∷ []) (levels_of (drop (at + 1) text))
left_more text front left at below is before =
    before ∙ rw (
      add-one,
      drop-cons text at 0 below,
      level_by (get_or text at 0) (drop (suc at) text) is,
      prepend-push front (get_or text at 0) (levels_of (drop (suc at) text)),
    ) refl

pub alike-more : (text other : List ℕ) (start at : ℕ) → at < length text → at < length other
    → get_or text at 0 ≡ get_or other at 0 → (get_or text at 0 == 47) ≡ false
    → AreAlike text other start at → AreAlike text other start (at + 1)
alike-more text other start at below beneath same is alike = record {
  common = alike.common;
  front = alike.front ++ get_or text at 0 ∷ [];
  within = omega (arith, alike.within);
  text_is = alike.text_is;
  other_is = alike.other_is;
  text_left = left_more text alike.front _ at below is alike.text_left;
  other_left = rw same (left_more other alike.front _ at beneath (rw same at is) alike.other_left);
}

-- a slash ends the level
left_slash : (text : List ℕ) (front : List ℕ) (left : List (List ℕ)) (at : ℕ) → at < length text
    → (get_or text at 0 == 47) ≡ true
    → left ≡ prepend front (levels_of (drop at text)) → left ≡ front ∷ levels_of (drop (at + 1) text)
left_slash text front left at below is before =
    before ∙ rw (add-one, drop-cons text at 0 below, slash_by (get_or text at 0) (drop (suc at) text) is)
    (prepend-nil front (levels_of (drop (suc at) text)))

-- a text that is over ends it too
left_end : (text : List ℕ) (front : List ℕ) (left : List (List ℕ)) (at : ℕ) → length text ≤ at
    → left ≡ prepend front (levels_of (drop at text)) → left ≡ front ∷ []
left_end text front left at past before = before ∙ rw (drop_all at text past) (prepend-nil front [])

onto : (whole common left : List (List ℕ)) (front : List ℕ) (rest : List (List ℕ)) → whole ≡ common ++ left
    → left ≡ front ∷ rest → whole ≡ (common ++ front ∷ []) ++ rest
onto whole common left front rest is next = is ∙ rw next (sym (append_assoc common (front ∷ []) rest))

pub alike-slash : (text other : List ℕ) (start at : ℕ) → at < length text → at < length other
    → get_or text at 0 ≡ get_or other at 0 → (get_or text at 0 == 47) ≡ true
    → AreAlike text other start at → AreAlike text other (at + 1) (at + 1)
alike-slash text other start at below beneath same is alike = record {
  common = alike.common ++ alike.front ∷ [];
  front = [];
  within = omega arith;
  text_is =
      onto _ alike.common _ alike.front _ alike.text_is
      (left_slash text alike.front _ at below is alike.text_left);
  other_is =
      onto _ alike.common _ alike.front _ alike.other_is
      (left_slash other alike.front _ at beneath (rw same at is) alike.other_left);
  text_left = refl;
  other_left = refl;
}

-- ---- levels that differ

-- the first level, where there is one
abbrev head : List (List ℕ) → List ℕ
head [] = []
head (level ∷ levels) = level

head-lengthen : (b : ℕ) (levels : List (List ℕ)) → head (lengthen b levels) ≡ b ∷ head levels
head-lengthen b [] = refl
head-lengthen b (level ∷ levels) = refl

head-prepend : (front : List ℕ) (levels : List (List ℕ)) → head (prepend front levels) ≡ front ++ head levels
head-prepend [] levels = refl
head-prepend (b ∷ front) levels =
    head-lengthen b (prepend front levels) ∙ ap (λ level. b ∷ level) (head-prepend front levels)

heads : (left right : List (List ℕ)) → begin_alike left right ≡ true → head left ≡ head right
heads [] right is = absurd (cc)
heads (level ∷ levels) [] is = absurd (cc)
heads (level ∷ levels) (other ∷ others) is = (bytes_eq-Decides level other).0 is

-- behind the same front
apart : (front : List ℕ) (left right behind past : List (List ℕ)) → left ≡ prepend front behind
    → right ≡ prepend front past
    → (head behind ≡ head past → ⊥) → begin_alike left right ≡ false
apart front left right behind past left_is right_is differ =
    false_from_ne_true (begin_alike left right) (λ alike.
    let e : front ++ head behind ≡ front ++ head past =
    sym (head-prepend front behind) ∙ (ap head (sym left_is) ∙ heads left right alike)
    ∙ (ap head right_is ∙ head-prepend front past) in
    differ (append_cancel_left front (head behind) (head past) e))

head-level : (b : ℕ) (text : List ℕ) → (b == 47) ≡ false
    → head (levels_of (b ∷ text)) ≡ b ∷ head (levels_of text)
head-level b text is = rw is (head-lengthen b (levels_of text))

head-slash : (b : ℕ) (text : List ℕ) → (b == 47) ≡ true → head (levels_of (b ∷ text)) ≡ []
head-slash b text is = rw is refl

unlike_by : (a b : ℕ) (text other : List ℕ) (x y : Bool) → (a == 47) ≡ x → (b == 47) ≡ y → (a ≡ b → ⊥)
    → head (levels_of (a ∷ text)) ≡ head (levels_of (b ∷ other)) → ⊥
unlike_by a b text other true true is also differ same = differ (eqb-true a 47 is ∙ sym (eqb-true b 47 also))
unlike_by a b text other true false is also differ same =
    let e : [] ≡ b ∷ head (levels_of other) = sym (head-slash a text is) ∙ same ∙ head-level b other also in
    cc
unlike_by a b text other false true is also differ same =
    let e : a ∷ head (levels_of text) ≡ [] = sym (head-level a text is) ∙ same ∙ head-slash b other also in cc
unlike_by a b text other false false is also differ same =
    let e : a ∷ head (levels_of text) ≡ b ∷ head (levels_of other) =
    sym (head-level a text is) ∙ same ∙ head-level b other also in
    let first : a ≡ b = cc in differ first

longer : (b : ℕ) (text : List ℕ) → (b == 47) ≡ false → head (levels_of (b ∷ text)) ≡ head (levels_of []) → ⊥
longer b text is same = let e : b ∷ head (levels_of text) ≡ [] = sym (head-level b text is) ∙ same in cc

-- what `&text[start..]` is
pub rest_of : (text : List ℕ) (start : ℕ) → take (length text - start) (drop start text) ≡ drop start text
rest_of text start = take_all _ _ (omega (arith, length-drop start text))

pub left-apart : (text other : List ℕ) (start at : ℕ) → at < length text → at < length other
    → (get_or text at 0 ≡ get_or other at 0 → ⊥)
    → AreAlike text other start at
    → AreLeft (levels_of text) (levels_of other) (levels_of (drop start text))
    (levels_of (drop start other))
left-apart text other start at below beneath differ alike = record {
  common = alike.common;
  levels_are = alike.text_is;
  others_are = alike.other_is;
  differ =
      apart alike.front _ _ (levels_of (drop at text))
      (levels_of (drop at other)) alike.text_left alike.other_left
      (rw (drop-cons text at 0 below, drop-cons other at 0 beneath)
      (unlike_by (get_or text at 0) (get_or other at 0) (drop (suc at) text) (drop (suc at) other)
      (get_or text at 0 == 47) (get_or other at 0 == 47) refl refl differ));
}

-- ---- one of the texts is over

none_alike : (left : List (List ℕ)) → begin_alike left [] ≡ false
none_alike [] = refl
none_alike (level ∷ levels) = refl

pub left-both : (text other : List ℕ) (start at : ℕ) → length text ≤ at → length other ≤ at
    → AreAlike text other start at → AreLeft (levels_of text) (levels_of other) [] []
left-both text other start at past also alike = record {
  common = alike.common ++ alike.front ∷ [];
  levels_are =
      onto _ alike.common _ alike.front _ alike.text_is (left_end text alike.front _ at past alike.text_left);
  others_are =
      onto _ alike.common _ alike.front _ alike.other_is
      (left_end other alike.front _ at also alike.other_left);
  differ = refl;
}

pub left-text : (text other : List ℕ) (start at : ℕ) → at < length text → length other ≤ at
    → (get_or text at 0 == 47) ≡ true
    → AreAlike text other start at
    → AreLeft (levels_of text) (levels_of other) (levels_of (drop (at + 1) text)) []
left-text text other start at below past is alike = record {
  common = alike.common ++ alike.front ∷ [];
  levels_are =
      onto _ alike.common _ alike.front _ alike.text_is
      (left_slash text alike.front _ at below is alike.text_left);
  others_are =
      onto _ alike.common _ alike.front _ alike.other_is
      (left_end other alike.front _ at past alike.other_left);
  differ = none_alike (levels_of (drop (at + 1) text));
}

pub left-other : (text other : List ℕ) (start at : ℕ) → length text ≤ at → at < length other
    → (get_or other at 0 == 47) ≡ true
    → AreAlike text other start at
    → AreLeft (levels_of text) (levels_of other) [] (levels_of (drop (at + 1) other))
left-other text other start at past below is alike = record {
  common = alike.common ++ alike.front ∷ [];
  levels_are =
      onto _ alike.common _ alike.front _ alike.text_is (left_end text alike.front _ at past alike.text_left);
  others_are =
      onto _ alike.common _ alike.front _ alike.other_is
      (left_slash other alike.front _ at below is alike.other_left);
  differ = refl;
}

pub left-longer : (text other : List ℕ) (start at : ℕ) → at < length text → length other ≤ at
    → (get_or text at 0 == 47) ≡ false
    → AreAlike text other start at
    → AreLeft (levels_of text) (levels_of other) (levels_of (drop start text))
    (levels_of (drop start other))
left-longer text other start at below past is alike = record {
  common = alike.common;
  levels_are = alike.text_is;
  others_are = alike.other_is;
  differ =
      apart alike.front _ _ (levels_of (drop at text))
      (levels_of (drop at other)) alike.text_left alike.other_left
      (rw (drop-cons text at 0 below, drop_all at other past)
      (longer (get_or text at 0) (drop (suc at) text) is));
}

pub left-shorter : (text other : List ℕ) (start at : ℕ) → length text ≤ at → at < length other
    → (get_or other at 0 == 47) ≡ false
    → AreAlike text other start at
    → AreLeft (levels_of text) (levels_of other) (levels_of (drop start text))
    (levels_of (drop start other))
left-shorter text other start at past below is alike = record {
  common = alike.common;
  levels_are = alike.text_is;
  others_are = alike.other_is;
  differ =
      apart alike.front _ _ (levels_of (drop at text))
      (levels_of (drop at other)) alike.text_left alike.other_left
      (rw (drop-cons other at 0 below, drop_all at text past)
      (λ same. longer (get_or other at 0) (drop (suc at) other) is (sym same)));
}
