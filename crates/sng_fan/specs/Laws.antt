-- What the greatest QoS is, in its own words.
use Rattle.std.specs.Prelude.{ℕ, ◌≡◌, true, false, List, [], ◌∷◌, ◌++◌, Some, None}
use Rattle.std.specs.declared.option.Option.{Option}
use Rattle.sng_text.specs.Matching.{matches}
use Rattle.sng_text.specs.declared.qos.Qos.{Qos}
use Rattle.sng_fan.specs.declared.held.Held.{Held}
use Rattle.sng_fan.specs.Greatest.{greater, greatest_qos}
use Rattle.sng_fan.specs.Subscriptions.{has_text, stands, with_filter}

-- no filter among these matches the name
abbrev pub NoneMatches : List Held → List ℕ → Type 0
NoneMatches [] name = Unit {0}
NoneMatches (h ∷ held) name = (matches h.filter name ≡ false) × NoneMatches held name

-- none of these that match the name is greater
abbrev pub NoneIsGreater : Qos → List Held → List ℕ → Type 0
NoneIsGreater qos [] name = Unit {0}
NoneIsGreater qos (h ∷ held) name =
    (matches h.filter name ≡ true → greater qos h.qos ≡ qos) × NoneIsGreater qos held name

-- there is a greatest QoS exactly where a filter matches, and it is that of one which matches
abbrev pub IsGreatest : Option Qos → List Held → List ℕ → Type 0
IsGreatest None held name = NoneMatches held name
IsGreatest (Some qos) held name = NoneIsGreater qos held name
    × ((before : List Held) × (h : Held) × (later : List Held) × (held ≡ before ++ h ∷ later)
    × (matches h.filter name ≡ true) × (h.qos ≡ qos))

abbrev pub GreatestIsGreatest : Type 0
GreatestIsGreatest = (held : List Held) (name : List ℕ) → IsGreatest (greatest_qos held name) held name

-- a filter that is granted again has the QoS of the last grant, in its place, and all others are as they were
abbrev pub StandsAnew : Type 0
StandsAnew =
    (before : List Held) (h : Held) (later : List Held) (text : List ℕ) (qos : Qos)
    → stands before text ≡ false → has_text text h ≡ true
    → with_filter (before ++ h ∷ later) text qos ≡ before ++ record h { qos = qos } ∷ later

-- one that did not stand is the last, and all others are as they were
abbrev pub StandsLast : Type 0
StandsLast =
    (held : List Held) (text : List ℕ) (qos : Qos) → stands held text ≡ false
    → with_filter held text qos ≡ held ++ record { filter = text; qos = qos } ∷ []
