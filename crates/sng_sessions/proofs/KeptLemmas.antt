-- The tree of filters goes on saying what the clients hold, as clients move.
use Rattle.std.proofs.Common.{◌≡◌, ℕ, zero, suc, ◌<◌, ◌==◌, Bool, true, false, ◌&&◌, List, [], ◌∷◌}
use Rattle.std.proofs.Common.{◌++◌, map, length, Option, Some, None, if◌then◌else◌, refl, sym, ap, ◌∙◌, subst}
use Rattle.std.proofs.Common.{arith, ◌≢◌}
use Rattle.std.proofs.lemmas.Bool.{eqb-true, eqb-false, eq-eqb}
use Rattle.std.specs.Str.{bytes_eq}
use Rattle.sng_text.specs.declared.qos.Qos.{Qos}
use Rattle.sng_fan.specs.declared.held.Held.{Held}
use Rattle.sng_fan.specs.Subscriptions.{stands, is_full, with_filter, without_filter}
use Rattle.sng_fan.proofs.HeldLemmas.{once_kept}
use Rattle.sng_history.proofs.FiltersFit.{once_more}
use Rattle.sng_history.specs.Clients.{Client}
use Rattle.sng_sessions.specs.Standing.{client_at}
use Rattle.sng_sessions.specs.Moving.{moved_at}
use Rattle.sng_sessions.specs.Kept.{qos_held, SaysHeld, SameOfOthers, Keeps}
use Rattle.sng_sessions.proofs.HeldLemmas.{held-with, held-without, none-held}
use Rattle.sng_standing.specs.declared.node.Node.{Node}
use Rattle.sng_standing.specs.Standing.{MovesAt}
use Rattle.sng_standing.specs.Tree.{qos_at}

same-place : (n : ℕ) → (n == n) ≡ true
same-place n = eq-eqb n n refl

-- who moved, at its place
pub client-moved : (f : Client → Client) (xs : List Client) (place : ℕ) → place < length xs
    → client_at (moved_at place f xs) place ≡ f (client_at xs place)
client-moved f [] place within = absurd (omega arith)
client-moved f (x ∷ xs) zero within = refl
client-moved f (x ∷ xs) (suc place) within = client-moved f xs place (omega arith)

-- and all others
pub client-other : (f : Client → Client) (xs : List Client) (place other : ℕ) → place ≢ other
    → client_at (moved_at place f xs) other ≡ client_at xs other
client-other f [] place other apart = refl
client-other f (x ∷ xs) zero zero apart = absurd (apart refl)
client-other f (x ∷ xs) zero (suc other) apart = refl
client-other f (x ∷ xs) (suc place) zero apart = refl
client-other f (x ∷ xs) (suc place) (suc other) apart =
    client-other f xs place other (λ same. apart (ap suc same))

-- one client holds other filters now, and the tree says so
pub keeps-moved : (before after : Node) (f : Client → Client) (xs : List Client) (place : ℕ)
    → place < length xs → SaysHeld after place (f (client_at xs place)).filters
    → SameOfOthers before after place → Keeps before xs → Keeps after (moved_at place f xs)
keeps-moved before after f xs place within says others keeps n = by (place == n) refl
  where
    by : (same : Bool) → (place == n) ≡ same → SaysHeld after n (client_at (moved_at place f xs) n).filters
    by true is =
        let here : place ≡ n = eqb-true place n is in
        subst (λ m. SaysHeld after m (client_at (moved_at place f xs) m).filters) here
        (subst (SaysHeld after place) (ap (λ (x : Client). x.filters) (sym (client-moved f xs place within)))
        says)
    by false is =
        subst (SaysHeld after n)
        (ap (λ (x : Client). x.filters) (sym (client-other f xs place n (eqb-false place n is))))
        (λ text. others n text is ∙ (keeps n).0 text, (keeps n).1)

-- the clients hold what they held
pub keeps-same : (root : Node) (xs ys : List Client)
    → ((place : ℕ) → (client_at ys place).filters ≡ (client_at xs place).filters)
    → Keeps root xs → Keeps root ys
keeps-same root xs ys same keeps place = subst (SaysHeld root place) (sym (same place)) (keeps place)

pub filters-kept-at : (f : Client → Client) → ((x : Client) → (f x).filters ≡ x.filters)
    → (xs : List Client) (place other : ℕ)
    → (client_at (moved_at place f xs) other).filters ≡ (client_at xs other).filters
filters-kept-at f keeps [] place other = refl
filters-kept-at f keeps (x ∷ xs) zero zero = keeps x
filters-kept-at f keeps (x ∷ xs) zero (suc other) = refl
filters-kept-at f keeps (x ∷ xs) (suc place) zero = refl
filters-kept-at f keeps (x ∷ xs) (suc place) (suc other) = filters-kept-at f keeps xs place other

-- a move that changes no filter
pub keeps-kept : (root : Node) (f : Client → Client) → ((x : Client) → (f x).filters ≡ x.filters)
    → (xs ys : List Client) (place : ℕ) → ys ≡ moved_at place f xs → Keeps root xs → Keeps root ys
keeps-kept root f same xs ys place is keeps =
    subst (Keeps root) (sym is) (keeps-same root xs (moved_at place f xs) (filters-kept-at f same xs place)
    keeps)

-- the same of a move of each client
pub filters-mapped : (f : Client → Client) → ((x : Client) → (f x).filters ≡ x.filters) → (xs : List Client)
    (place : ℕ)
    → (client_at (map f xs) place).filters ≡ (client_at xs place).filters
filters-mapped f keeps [] place = refl
filters-mapped f keeps (x ∷ xs) zero = keeps x
filters-mapped f keeps (x ∷ xs) (suc place) = filters-mapped f keeps xs place

-- behind the others comes one that holds nothing
pub filters-last : (xs : List Client) (x : Client) → x.filters ≡ [] → (place : ℕ)
    → (client_at (xs ++ x ∷ []) place).filters ≡ (client_at xs place).filters
filters-last [] x none zero = none
filters-last [] x none (suc place) = refl
filters-last (y ∷ xs) x none zero = refl
filters-last (y ∷ xs) x none (suc place) = filters-last xs x none place

-- ---- what the tree does is what the client's filters do

-- a filter stands at this QoS
pub says-with : (before after : Node) (place : ℕ) (held : List Held) (filter : List ℕ) (qos : Qos)
    → is_full held filter ≡ false → MovesAt before after place filter (Some qos) → SaysHeld before place held
    → SaysHeld after place (with_filter held filter qos)
says-with before after place held filter qos fits moves says = (
  λ text. moves place text ∙ own text (place == place) (same-place place)
      ∙ sym (held-with held filter text qos),
  once_more held filter qos fits says.1,
)
  where
    own : (text : List ℕ) (same : Bool) → same ≡ true
        → (if same && bytes_eq filter text then Some qos else qos_at before place text)
        ≡ (if bytes_eq filter text then Some qos else qos_held held text)
    own text true is = ap (λ o. if bytes_eq filter text then Some qos else o) (says.0 text)
    own text false is = absurd (cc)

-- a filter stands no more
pub says-without : (before after : Node) (place : ℕ) (held : List Held) (filter : List ℕ)
    → MovesAt before after place filter None → SaysHeld before place held
    → SaysHeld after place (without_filter held filter)
says-without before after place held filter moves says = (
  λ text. moves place text ∙ own text (place == place) (same-place place)
      ∙ sym (held-without held filter text),
  once_kept _ held says.1,
)
  where
    own : (text : List ℕ) (same : Bool) → same ≡ true
        → (if same && bytes_eq filter text then None else qos_at before place text)
        ≡ (if bytes_eq filter text then None else qos_held held text)
    own text true is = ap (λ o. if bytes_eq filter text then None else o) (says.0 text)
    own text false is = absurd (cc)

-- of others it says what it said
pub others-moved : (before after : Node) (place : ℕ) (filter : List ℕ) (now : Option Qos)
    → MovesAt before after place filter now → SameOfOthers before after place
others-moved before after place filter now moves other text apart =
    moves other text ∙ ap (λ same. if same && bytes_eq filter text then now else qos_at before other text)
    apart

-- no filter stands any more
abbrev pub Clears : Node → Node → ℕ → List Held → Type 0
Clears before after place held = (n : ℕ) (filter : List ℕ) → qos_at after n filter
    ≡ (if (place == n) && stands held filter then None else qos_at before n filter)

pub says-cleared : (before after : Node) (place : ℕ) (held : List Held) → Clears before after place held
    → SaysHeld before place held → SaysHeld after place []
says-cleared before after place held clears says = (
  λ text. clears place text ∙ own text (place == place) (stands held text) (same-place place) refl,
  (λ text. omega arith, omega arith),
)
  where
    own : (text : List ℕ) (same stood : Bool) → same ≡ true → stands held text ≡ stood
        → (if same && stood then None else qos_at before place text) ≡ None
    own text true true is stood_is = refl
    own text true false is stood_is = says.0 text ∙ none-held held text stood_is
    own text false stood is stood_is = absurd (cc)

pub others-cleared : (before after : Node) (place : ℕ) (held : List Held) → Clears before after place held
    → SameOfOthers before after place
others-cleared before after place held clears other text apart =
    clears other text ∙ ap (λ same. if same && stands held text then None else qos_at before other text) apart
