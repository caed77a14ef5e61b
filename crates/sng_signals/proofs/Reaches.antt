-- The bytes of the rest of a packet, passed one after another or at once.
use Rattle.std.proofs.Common.{◌≡◌, ℕ, zero, suc, ◌-◌, ◌≤◌, ◌||◌, Bool, true, false, List, [], ◌∷◌, length, drop, refl, ap, ◌∙◌, arith}
use Rattle.sng_signals.specs.declared.reach.Place.TheVariants.{Body}
use Rattle.sng_signals.specs.declared.reach.Reach.{Reach}
use Rattle.sng_signals.specs.Reaches.{after, one_reaches, before_end}

abbrev at_end : ℕ → Bool → Reach
at_end left reaches = record { place = before_end left; reaches = reaches }

-- a packet that has bytes left does not end here
pub more_left : (left : ℕ) → 1 ≤ left → Body left ≡ before_end left
more_left zero some = absurd (omega arith)
more_left (suc left) some = refl

-- a byte of the rest of a packet
one_less : (reaches : Bool) (left : ℕ) → at_end (suc left - 1) reaches ≡ at_end left reaches
one_less reaches left = let e : suc left - 1 ≡ left = omega arith in ap (λ n. at_end n reaches) e

pub passed_body : (reaches : Bool) (left count : ℕ) (rest : List ℕ) → count ≤ left → count ≤ length rest
    → after (at_end left reaches) rest ≡ after (at_end (left - count) reaches) (drop count rest)
passed_body reaches left zero rest below within =
    let e : left ≡ left - 0 = omega arith in ap (λ n. after (at_end n reaches) rest) e
passed_body reaches left (suc count) [] below within = absurd (omega arith)
passed_body reaches zero (suc count) (byte ∷ rest) below within = absurd (omega arith)
passed_body reaches (suc left) (suc count) (byte ∷ rest) below within =
    let e : left - count ≡ suc left - suc count = omega arith in
    ap (λ r. after r rest) (one_less reaches left)
    ∙ passed_body reaches left count rest (omega arith) (omega arith)
    ∙ ap (λ n. after (at_end n reaches) (drop count rest)) e

passed_no : (left count : ℕ) (rest : List ℕ) → count ≤ left → count ≤ length rest
    → one_reaches (at_end left false) rest ≡ one_reaches (at_end (left - count) false) (drop count rest)
passed_no left zero rest below within =
    let e : left ≡ left - 0 = omega arith in ap (λ n. one_reaches (at_end n false) rest) e
passed_no left (suc count) [] below within = absurd (omega arith)
passed_no zero (suc count) (byte ∷ rest) below within = absurd (omega arith)
passed_no (suc left) (suc count) (byte ∷ rest) below within =
    let e : left - count ≡ suc left - suc count = omega arith in
    ap (λ r. one_reaches r rest) (one_less false left)
    ∙ passed_no left count rest (omega arith) (omega arith)
    ∙ ap (λ n. one_reaches (at_end n false) (drop count rest)) e

pub passed_reaches : (reaches : Bool) (left count : ℕ) (rest : List ℕ) → count ≤ left → count ≤ length rest
    → reaches || one_reaches (at_end left reaches) rest
    ≡ reaches || one_reaches (at_end (left - count) reaches) (drop count rest)
passed_reaches false left count rest below within = passed_no left count rest below within
passed_reaches true left count rest below within = refl

-- where no byte is left, the answer is what was found so far
pub none_left : (found : Bool) (r : Reach) (rest : List ℕ) → length rest ≡ 0
    → (found || one_reaches r rest ≡ found) × (after r rest ≡ r)
none_left false r [] none = (refl, refl)
none_left true r [] none = (refl, refl)
none_left found r (byte ∷ rest) none = absurd (omega arith)
