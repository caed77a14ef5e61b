-- The tree made anew of what the clients hold.
use Rattle.std.proofs.Common.{◌≡◌, ℕ, zero, suc, ◌+◌, ◌<◌, ◌≤◌, ◌==◌, Bool, true, false, ◌&&◌, List, [], ◌∷◌}
use Rattle.std.proofs.Common.{length, drop, Option, Some, None, cond, refl, sym, ap, subst, ◌∙◌, arith}
use Rattle.std.proofs.Common.{if◌then◌else◌, inl, inr}
use Rattle.std.proofs.lemmas.Bool.{eqb-true, eqb-false, eq-eqb, cases_lt}
use Rattle.std.proofs.lemmas.List.Sums.{sum_by-cons}
use Rattle.std.specs.List.{count_by}
use Rattle.std.specs.Str.{bytes_eq}
use Rattle.sng_text.specs.declared.qos.Qos.{Qos}
use Rattle.sng_fan.specs.declared.held.Held.{Held}
use Rattle.sng_fan.specs.Subscriptions.{has_text, IsOneClients}
use Rattle.sng_history.specs.Clients.{Client, blank}
use Rattle.sng_sessions.specs.Kept.{qos_held, SaysHeld, SameOfOthers, Keeps}
use Rattle.sng_sessions.specs.Standing.{client_at}
use Rattle.sng_standing.specs.declared.node.Node.{Node}
use Rattle.sng_standing.specs.Standing.{MovesAt}
use Rattle.sng_standing.specs.Tree.{qos_at}

-- ---- the filters of one client

-- each filter is there once
abbrev pub Once : List Held → Type 0
Once held = (text : List ℕ) → count_by (has_text text) held ≤ 1

count_first : (text : List ℕ) (h : Held) (held : List Held)
    → count_by (has_text text) (h ∷ held) ≡ cond (has_text text h) 1 0 + count_by (has_text text) held
count_first text h held = sum_by-cons (λ (x : Held). cond (has_text text x) 1 0) h held

at_most : (n m : ℕ) → n ≡ m → n ≤ 1 → m ≤ 1
at_most n m is few = omega (arith, is, few)

fewer : (b : Bool) (n : ℕ) → cond b 1 0 + n ≤ 1 → n ≤ 1
fewer true n few = omega (arith, few)
fewer false n few = omega (arith, few)

pub once_rest : (h : Held) (held : List Held) → Once (h ∷ held) → Once held
once_rest h held once text =
    fewer (has_text text h) (count_by (has_text text) held) (at_most _ _ (count_first text h held) (once text))

none_by : (h : Held) (held : List Held) (text : List ℕ) (b : Bool) → has_text text h ≡ b
    → cond b 1 0 + count_by (has_text text) held ≡ 0
    → (count_by (has_text text) held ≡ 0 → qos_held held text ≡ None)
    → qos_held (h ∷ held) text ≡ None
none_by h held text true is none more = absurd (omega (arith, none))
none_by h held text false is none more = rw is (more (omega (arith, none)))

none_there : (held : List Held) (text : List ℕ) → count_by (has_text text) held ≡ 0 → qos_held held text ≡ None
none_there [] text none = refl
none_there (h ∷ held) text none =
    none_by h held text (has_text text h) refl (sym (count_first text h held) ∙ none) (none_there held text)

-- what is still to come goes before what is there
abbrev pub or_there : Option Qos → Option Qos → Option Qos
or_there (Some q) there = Some q
or_there None there = there

-- with those that are still to come the tree says that the client holds all these
abbrev pub Growing : Node → ℕ → List Held → List Held → Type 0
Growing root place held rest =
    (text : List ℕ) → or_there (qos_held rest text) (qos_at root place text) ≡ qos_held held text

or_none : (asked : Option Qos) → or_there asked None ≡ asked
or_none (Some q) = refl
or_none None = refl

-- nothing stood for the client
pub growing_start : (root : Node) (place : ℕ) (held : List Held) → SaysHeld root place []
    → Growing root place held held
growing_start root place held none text =
    ap (or_there (qos_held held text)) (none.0 text) ∙ or_none (qos_held held text)

-- all stands
pub all_grown : (root : Node) (place : ℕ) (held rest : List Held) → rest ≡ [] → IsOneClients held
    → Growing root place held rest → SaysHeld root place held
all_grown root place held rest none once growing = (
  λ text. ap (λ (more : List Held). or_there (qos_held more text) (qos_at root place text)) (sym none)
      ∙ growing text,
  once,
)

pub once_drop : (count : ℕ) (held : List Held) → Once held → Once (drop count held)
once_drop zero held once = once
once_drop (suc count) [] once = once
once_drop (suc count) (h ∷ held) once = once_drop count held (once_rest h held once)

grown_by : (h : Held) (rest : List Held) (text : List ℕ) (there now whole : Option Qos) (b : Bool)
    → has_text text h ≡ b → now ≡ (if b then Some h.qos else there)
    → cond b 1 0 + count_by (has_text text) rest ≤ 1
    → or_there (if b then Some h.qos else qos_held rest text) there ≡ whole
    → or_there (qos_held rest text) now ≡ whole
grown_by h rest text there now whole true is moved once was =
    let none : qos_held rest text ≡ None = none_there rest text (omega (arith, once)) in
    rw (none, moved) was
grown_by h rest text there now whole false is moved once was = rw moved was

same_place : (place : ℕ) → (place == place) ≡ true
same_place place = eq-eqb place place refl

pub growing_on : (before after : Node) (place : ℕ) (held : List Held) (h : Held) (rest : List Held)
    → Growing before place held (h ∷ rest) → Once (h ∷ rest) → MovesAt before after place h.filter (Some h.qos)
    → Growing after place held rest
growing_on before after place held h rest growing once moves text =
    let moved : qos_at after place text ≡ (if has_text text h then Some h.qos else qos_at before place text) =
    moves place text
    ∙ ap (λ (here : Bool). if here && bytes_eq h.filter text then Some h.qos else qos_at before place text)
    (same_place place) in
    grown_by h rest text (qos_at before place text) (qos_at after place text) (qos_held held text)
    (has_text text h) refl moved (at_most _ _ (count_first text h rest) (once text)) (growing text)

-- of all others it says what it said
pub others_on : (first before after : Node) (place : ℕ) (filter : List ℕ) (now : Option Qos)
    → SameOfOthers first before place → MovesAt before after place filter now
    → SameOfOthers first after place
others_on first before after place filter now same moves other text apart =
    moves other text
    ∙ ap (λ (here : Bool). if here && bytes_eq filter text then now else qos_at before other text) apart
    ∙ same other text apart

-- ---- all clients

-- the tree says what the clients before this place hold, and of the others that they hold nothing
abbrev pub MadeTo : Node → List Client → ℕ → Type 0
MadeTo root xs count = (place : ℕ)
    → (place < count → SaysHeld root place (client_at xs place).filters)
    × (count ≤ place → SaysHeld root place [])

-- before any client
pub made_none : (root : Node) (xs : List Client) → ((n : ℕ) (text : List ℕ) → qos_at root n text ≡ None)
    → MadeTo root xs 0
made_none root xs none place = (
  λ within. absurd (omega (arith, within)),
  λ behind. (λ text. none place text, (λ text. omega arith, omega arith)),
)

said_still : (before after : Node) (count place : ℕ) (held : List Held) → (count == place) ≡ false
    → SameOfOthers before after count → SaysHeld before place held → SaysHeld after place held
said_still before after count place held apart same says =
    (λ text. same place text apart ∙ says.0 text, says.1)

made_by : (before after : Node) (xs : List Client) (count place : ℕ) (here : Bool) → (count == place) ≡ here
    → MadeTo before xs count → SaysHeld after count (client_at xs count).filters
    → SameOfOthers before after count
    → (place < count + 1 → SaysHeld after place (client_at xs place).filters)
    × (count + 1 ≤ place → SaysHeld after place [])
made_by before after xs count place true is made says same =
    let at : count ≡ place = eqb-true count place is in (
      λ within. subst (λ (n : ℕ). SaysHeld after n (client_at xs n).filters) at says,
      λ behind. absurd (omega (arith, at, behind)),
    )
made_by before after xs count place false is made says same = (
  λ within. said_still before after count place (client_at xs place).filters is same
      ((made place).0 (below count place is within)),
  λ behind. said_still before after count place [] is same ((made place).1 (omega (arith, behind))),
)
  where
    below : (count place : ℕ) → (count == place) ≡ false → place < count + 1 → place < count
    below count place apart within =
        elim (cases_lt place count) [
          | inl lt ↦ lt
          | inr ge ↦ let at : count ≡ place = omega (arith, ge, within) in
              absurd (eqb-false count place apart at)
        ]

pub made_on : (before after : Node) (xs : List Client) (count : ℕ) → MadeTo before xs count
    → SaysHeld after count (client_at xs count).filters → SameOfOthers before after count
    → MadeTo after xs (count + 1)
made_on before after xs count made says same place =
    made_by before after xs count place (count == place) refl made says same

pub nobody_behind : (xs : List Client) (place : ℕ) → length xs ≤ place → client_at xs place ≡ blank []
nobody_behind [] place behind = refl
nobody_behind (x ∷ xs) zero behind = absurd (omega (arith, behind))
nobody_behind (x ∷ xs) (suc place) behind = nobody_behind xs place (omega (arith, behind))

pub all_made : (root : Node) (xs : List Client) (count : ℕ) → length xs ≤ count → MadeTo root xs count
    → Keeps root xs
all_made root xs count past made place =
    elim (cases_lt place count) [
      | inl within ↦ (made place).0 within
      | inr behind ↦
          let nobody : client_at xs place ≡ blank [] = nobody_behind xs place (omega (arith, past, behind)) in
          subst (SaysHeld root place) (ap (λ (x : Client). x.filters) (sym nobody)) ((made place).1 behind)
    ]
