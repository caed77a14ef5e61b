-- Whom the tree of filters finds is who holds a filter among the clients.
use Rattle.std.proofs.Common.{◌≡◌, ◌≢◌, ℕ, zero, suc, ◌+◌, ◌==◌, Bool, true, false, ◌||◌, List, []}
use Rattle.std.proofs.Common.{◌∷◌}
use Rattle.std.proofs.Common.{take, drop, Option, None, is_some}
use Rattle.std.proofs.Common.{add-one, refl, sym, ap, ◌∙◌, true≢false, arith}
use Rattle.std.proofs.lemmas.Bool.{eqb-true, eqb-false, or_left, or_right}
use Rattle.sng_text.specs.declared.qos.Qos.{Qos}
use Rattle.sng_history.specs.Clients.{Client}
use Rattle.sng_history.specs.Standing.{holds, is_held}
use Rattle.sng_sessions.specs.Standing.{client_at}
use Rattle.sng_sessions.specs.Kept.{Keeps}
use Rattle.sng_sessions.proofs.HeldLemmas.{some-held}
use Rattle.sng_standing.specs.declared.node.Node.{Node}
use Rattle.sng_standing.specs.Standing.{IsHeldBy, IsHeldBeside}
use Rattle.sng_standing.specs.Tree.{qos_at}

-- what the tree says of the client at a place
pub says : (root : Node) (xs : List Client) (text : List ℕ) (place : ℕ) → Keeps root xs
    → is_some (qos_at root place text) ≡ holds text (client_at xs place)
says root xs text place keeps =
    ap is_some ((keeps place).0 text) ∙ some-held (client_at xs place).filters text

-- one that holds it is one of them
held_at : (text : List ℕ) (xs : List Client) (place : ℕ) → holds text (client_at xs place) ≡ true
    → is_held xs text ≡ true
held_at text [] place is = is
held_at text (x ∷ xs) zero is = or_left (holds text x) (is_held xs text) is
held_at text (x ∷ xs) (suc place) is = or_right (holds text x) (is_held xs text) (held_at text xs place is)

-- where none does, none of them does
held_nowhere : (text : List ℕ) (xs : List Client)
    → ((place : ℕ) → holds text (client_at xs place) ≡ false) → is_held xs text ≡ false
held_nowhere text [] none = refl
held_nowhere text (x ∷ xs) none =
    rw (none zero, held_nowhere text xs (λ place. none (suc place))) refl

none_some : (o : Option Qos) → o ≡ None → is_some o ≡ false
none_some o is = ap is_some is

pub held-by : (root : Node) (xs : List Client) (text : List ℕ) (held : Bool) → Keeps root xs
    → IsHeldBy (λ n. qos_at root n text) held → held ≡ is_held xs text
held-by root xs text true keeps is =
    sym (held_at text xs is.0 (sym (says root xs text is.0 keeps) ∙ is.1))
held-by root xs text false keeps none =
    sym (held_nowhere text xs
    (λ place. sym (says root xs text place keeps) ∙ none_some (qos_at root place text) (none place)))

-- of those before a place and behind it
beside : (text : List ℕ) (xs : List Client) (place other : ℕ) → place ≢ other
    → holds text (client_at xs other) ≡ true
    → (is_held (take place xs) text || is_held (drop (suc place) xs) text) ≡ true
beside text [] zero other apart is = is
beside text [] (suc place) other apart is = is
beside text (x ∷ xs) zero zero apart is = absurd (apart refl)
beside text (x ∷ xs) zero (suc other) apart is = held_at text xs other is
beside text (x ∷ xs) (suc place) zero apart is =
    or_left _ (is_held (drop (suc place) xs) text) (or_left (holds text x) (is_held (take place xs) text) is)
beside text (x ∷ xs) (suc place) (suc other) apart is =
    let rest = beside text xs place other (λ same. apart (ap suc same)) is in
    past (holds text x) (is_held (take place xs) text) (is_held (drop (suc place) xs) text) rest
  where
    past : (a b c : Bool) → (b || c) ≡ true → ((a || b) || c) ≡ true
    past true b c is = refl
    past false b c is = is

nowhere_beside : (text : List ℕ) (xs : List Client) (place : ℕ)
    → ((other : ℕ) → place ≢ other → holds text (client_at xs other) ≡ false)
    → (is_held (take place xs) text || is_held (drop (suc place) xs) text) ≡ false
nowhere_beside text [] zero none = refl
nowhere_beside text [] (suc place) none = refl
nowhere_beside text (x ∷ xs) zero none =
    held_nowhere text xs (λ other. none (suc other) (λ same. absurd (omega (arith, same))))
nowhere_beside text (x ∷ xs) (suc place) none =
    let first : holds text x ≡ false = none zero (λ same. absurd (omega (arith, same))) in
    let rest = nowhere_beside text xs place
    (λ other apart. none (suc other) (λ same. apart (omega (arith, same)))) in
    past (holds text x) (is_held (take place xs) text) (is_held (drop (suc place) xs) text) first rest
  where
    past : (a b c : Bool) → a ≡ false → (b || c) ≡ false → ((a || b) || c) ≡ false
    past true b c is rest = absurd (true≢false is)
    past false b c is rest = rest

pub held-beside : (root : Node) (xs : List Client) (text : List ℕ) (place : ℕ) (held : Bool) → Keeps root xs
    → IsHeldBeside (λ n. qos_at root n text) place held
    → held ≡ (is_held (take place xs) text || is_held (drop (place + 1) xs) text)
held-beside root xs text place true keeps is =
    rw (add-one place) (sym (beside text xs place is.0 (eqb-false place is.0 is.1)
    (sym (says root xs text is.0 keeps) ∙ is.2)))
held-beside root xs text place false keeps none =
    rw (add-one place) (sym (nowhere_beside text xs place (λ other apart. sym (says root xs text other keeps)
    ∙ none_some (qos_at root other text) (none other (unlike other apart)))))
  where
    unlike : (other : ℕ) → place ≢ other → (place == other) ≡ false
    unlike other apart = by (place == other) refl
      where
        by : (same : Bool) → (place == other) ≡ same → (place == other) ≡ false
        by true is = absurd (apart (eqb-true place other is))
        by false is = is
