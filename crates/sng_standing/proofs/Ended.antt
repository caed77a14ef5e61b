-- What is left as the subscriptions to some filters end, one after another.
use Rattle.std.proofs.Common.{◌≡◌, ℕ, Bool, true, false, ◌&&◌, ◌||◌, ◌==◌, List, [], ◌∷◌, Option, None, cond}
use Rattle.std.proofs.Common.{refl, ap}
use Rattle.std.proofs.lemmas.Bool.{and_right}
use Rattle.std.specs.Str.{bytes_eq}
use Rattle.sng_fan.specs.Subscriptions.{stands}
use Rattle.sng_fan.specs.declared.held.Held.{Held}
use Rattle.sng_text.specs.declared.qos.Qos.{Qos}

-- what the client n has at a filter, once those of a client to these have ended
abbrev pub ended : ℕ → List Held → ℕ → List ℕ → Option Qos → Option Qos
ended client held n filter qos = cond ((client == n) && stands held filter) None qos

-- none of them
pub ended_none : (client n : ℕ) (filter : List ℕ) (qos : Option Qos) → ended client [] n filter qos ≡ qos
ended_none client n filter qos = ap (λ b. cond b None qos) (and_right (client == n) false refl)

-- the first of them, and the others
pub ended_first : (client : ℕ) (h : Held) (held : List Held) (n : ℕ) (filter : List ℕ) (qos : Option Qos)
    → ended client held n filter (cond ((client == n) && bytes_eq h.filter filter) None qos)
    ≡ ended client (h ∷ held) n filter qos
ended_first client h held n filter qos =
    by (client == n) (bytes_eq h.filter filter) (stands held filter)
  where
    by : (own first later : Bool)
        → cond (own && later) None (cond (own && first) None qos) ≡ cond (own && (first || later)) None qos
    by false first later = refl
    by true true true = refl
    by true true false = refl
    by true false later = refl
