-- Of a list of tests that ends at a fault the test that fails.
use Rattle.std.proofs.Common.{◌≡◌, List, [], ◌∷◌, ◌++◌, Option, Some, None, Err, All, refl, sym, ap, ◌∙◌}
use Rattle.std.proofs.Common.{subst}
use Rattle.std.proofs.lemmas.List.Elements.{All-nil, All-cons, All-head, All-tail}
use Rattle.serde_json.specs.Data.{Data}
use Rattle.sng_places.specs.Order.{Test, ends_at, first, flaw_of, tests_of}
use Rattle.sng_places.specs.Standing.{FailsAt, FaultsStand, Stands}
use Rattle.sng_places.specs.declared.flaw.Flaw.{Flaw}
use Rattle.sng_places.specs.declared.stop.Found.{Found}
use Rattle.sng_places.specs.declared.stop.Stop.TheVariants.{At}
use Rattle.sng_places.proofs.OrderLemmas.{whole}
use Rattle.sng_places.proofs.StandingLemmas.{values_stand}

abbrev Passes : Test → Type 0
Passes t = flaw_of t.rule t.value ≡ None

-- the test that fails, those before it and those behind
record Split (ts : List Test) (found : Found) : Type 0 where
  before : List Test
  failing : Test
  others : List Test
  tests : ts ≡ before ++ failing ∷ others
  passed : All Passes before
  place : failing.place ≡ found.place
  flaw : flaw_of failing.rule failing.value ≡ Some found.flaw

step : (t : Test) (ts : List Test) (found : Found) (o : Option Flaw) → flaw_of t.rule t.value ≡ o
    → (first ts ≡ Err (At found) → Split ts found) → ends_at t.place o (first ts) ≡ Err (At found)
    → Split (t ∷ ts) found
step t ts found None passes more ends =
    let s : Split ts found = more ends in
    record {
      before = t ∷ s.before;
      failing = s.failing;
      others = s.others;
      tests = ap (λ us. t ∷ us) s.tests;
      passed = All-cons Passes t s.before passes s.passed;
      place = s.place;
      flaw = s.flaw;
    }
step t ts found (Some flaw) fails more ends =
    let at : t.place ≡ found.place = cc in
    let with : flaw ≡ found.flaw = cc in
    record {
      before = [];
      failing = t;
      others = ts;
      tests = refl;
      passed = All-nil Passes;
      place = at;
      flaw = fails ∙ ap Some with;
    }

split : (ts : List Test) (found : Found) → first ts ≡ Err (At found) → Split ts found
split [] found ends = absurd (cc)
split (t ∷ ts) found ends = step t ts found (flaw_of t.rule t.value) refl (split ts found) ends

-- what holds of each holds of the one in the middle
middle : {A : Type 0} (P : A → Type 0) (xs : List A) (y : A) (ys : List A) → All P (xs ++ y ∷ ys) → P y
middle P [] y ys all = All-head P y ys all
middle P (x ∷ xs) y ys all = middle P xs y ys (All-tail P x (xs ++ y ∷ ys) all)

fails_at : (d : Data) (found : Found) → Split (tests_of d) found → FailsAt d found
fails_at d found s =
    let Standing : List Test → Type 0 = λ ts. All (λ t. Stands d t.place t.value) ts in
    record {
      before = s.before;
      failing = s.failing;
      others = s.others;
      tests = s.tests;
      passed = s.passed;
      place = s.place;
      flaw = s.flaw;
      stands =
          middle (λ t. Stands d t.place t.value) s.before s.failing s.others
          (subst Standing s.tests (values_stand d));
    }

pub faults_stand : FaultsStand
faults_stand text d found read ends =
    fails_at d found (split (tests_of d) found (sym (whole d) ∙ rw read at ends))
