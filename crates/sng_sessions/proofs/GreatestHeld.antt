-- The greatest QoS that the tree finds for a client is the greatest among its filters that match.
use Rattle.std.proofs.Common.{◌≡◌, ℕ, ◌+◌, ◌≤◌, Bool, true, false, ◌||◌, List, [], ◌∷◌, ◌++◌, Option, Some}
use Rattle.std.proofs.Common.{None}
use Rattle.std.proofs.Common.{is_some, if◌then◌else◌, cond, refl, sym, ap, ◌∙◌, subst, true≢false, arith}
use Rattle.std.specs.List.{count_by}
use Rattle.std.proofs.lemmas.List.Sums.{sum_by-cons}
use Rattle.std.specs.Str.{bytes_eq}
use Rattle.std.specs.Cmp.Lexicographic.{bytes_decides}
use Rattle.sng_text.specs.Matching.{matches}
use Rattle.sng_text.specs.declared.qos.Qos.{Qos}
use Rattle.sng_text.specs.declared.qos.Qos.TheVariants.{AtMostOnce, AtLeastOnce}
use Rattle.sng_fan.specs.declared.held.Held.{Held}
use Rattle.sng_fan.specs.Greatest.{greater, greatest_qos}
use Rattle.sng_fan.specs.Laws.{NoneMatches, NoneIsGreater as NoneOfThese, IsGreatest}
use Rattle.sng_fan.specs.Subscriptions.{has_text, stands, IsOneClients}
use Rattle.sng_fan.proofs.GreatestLemmas.{greatest}
use Rattle.sng_history.specs.Clients.{Client}
use Rattle.sng_sessions.specs.Standing.{client_at}
use Rattle.sng_sessions.specs.Kept.{qos_held, Keeps}
use Rattle.sng_sessions.proofs.HeldLemmas.{some-held}
use Rattle.sng_standing.specs.declared.node.Node.{Node}
use Rattle.sng_standing.specs.Holders.{IsGreatestAt}

same_text : (a b : List ℕ) → bytes_eq a b ≡ true → a ≡ b
same_text a b is = (bytes_decides a b).0 is

itself : (a : List ℕ) → bytes_eq a a ≡ true
itself a = (bytes_decides a a).1 refl

-- one of two that are each as great as the other
each_as_great : (a b : Qos) → greater a b ≡ a → greater b a ≡ b → a ≡ b
each_as_great AtMostOnce AtMostOnce first second = refl
each_as_great AtMostOnce AtLeastOnce first second = sym first
each_as_great AtLeastOnce AtMostOnce first second = second
each_as_great AtLeastOnce AtLeastOnce first second = refl

-- it stands where it is one of them
stands_among : (before : List Held) (h : Held) (later : List Held)
    → stands (before ++ h ∷ later) h.filter ≡ true
stands_among [] h later = rw (itself h.filter) refl
stands_among (g ∷ before) h later = rw (stands_among before h later) (past (has_text h.filter g))
  where
    past : (b : Bool) → (b || true) ≡ true
    past true = refl
    past false = refl

-- and counts as one at least
counted : (before : List Held) (h : Held) (later : List Held)
    → 1 ≤ count_by (has_text h.filter) (before ++ h ∷ later)
counted [] h later =
    let one : ◌≡◌ {A = ℕ} (cond (has_text h.filter h) 1 0) 1 = ap (λ b. cond b 1 0) (itself h.filter) in
    omega (arith, one, sum_by-cons (λ x. cond (has_text h.filter x) 1 0) h later)
counted (g ∷ before) h later =
    omega (
      arith,
      counted before h later,
      sum_by-cons (λ x. cond (has_text h.filter x) 1 0) g (before ++ h ∷ later),
    )

-- so where it stands once, its QoS is the one that is held
one_held : (before : List Held) (h : Held) (later : List Held)
    → count_by (has_text h.filter) (before ++ h ∷ later) ≤ 1
    → qos_held (before ++ h ∷ later) h.filter ≡ Some h.qos
one_held [] h later once = rw (itself h.filter) refl
one_held (g ∷ before) h later once = by (has_text h.filter g) refl (one_held before h later)
  where
    all : count_by (has_text h.filter) (g ∷ (before ++ h ∷ later))
        ≡ cond (has_text h.filter g) 1 0 + count_by (has_text h.filter) (before ++ h ∷ later)
    all = sum_by-cons (λ x. cond (has_text h.filter x) 1 0) g (before ++ h ∷ later)

    by : (b : Bool) → has_text h.filter g ≡ b
        → (count_by (has_text h.filter) (before ++ h ∷ later) ≤ 1
        → qos_held (before ++ h ∷ later) h.filter ≡ Some h.qos)
        → qos_held (g ∷ (before ++ h ∷ later)) h.filter ≡ Some h.qos
    by true is rest =
        let two : ◌≡◌ {A = ℕ} (cond (has_text h.filter g) 1 0) 1 = ap (λ b. cond b 1 0) is in
        absurd (omega (arith, all, counted before h later, two, once))
    by false is rest = rw is (rest (omega (arith, all, once)))

some_inj : (a b : Qos) → Some a ≡ Some b → a ≡ b
some_inj a b same = cc

-- what is held at a QoS is one of them
abbrev Among : List Held → List ℕ → Qos → Type 0
Among held filter qos =
    (before : List Held) × (h : Held) × (later : List Held) × (held ≡ before ++ h ∷ later)
    × (h.filter ≡ filter) × (h.qos ≡ qos)

among : (held : List Held) (filter : List ℕ) (qos : Qos) → qos_held held filter ≡ Some qos
    → Among held filter qos
among [] filter qos is = absurd (true≢false (sym (ap is_some is)))
among (h ∷ held) filter qos is = by (has_text filter h) refl is (among held filter qos)
  where
    by : (b : Bool) → has_text filter h ≡ b
        → (if b then Some h.qos else qos_held held filter) ≡ Some qos
        → (qos_held held filter ≡ Some qos → Among held filter qos)
        → Among (h ∷ held) filter qos
    by true same found later =
        ([], h, held, refl, same_text h.filter filter same, some_inj h.qos qos found)
    by false same found later =
        let rest = later found in
        (h ∷ rest.0, rest.1, rest.2, ap (λ hs. h ∷ hs) rest.3, rest.4, rest.5)

-- one of those of which none matches does not
none_of : (before : List Held) (h : Held) (later : List Held) (name : List ℕ)
    → NoneMatches (before ++ h ∷ later) name → matches h.filter name ≡ false
none_of [] h later name none = none.0
none_of (g ∷ before) h later name none = none_of before h later name none.1

-- and one of those of which none is greater is not
not_greater : (qos : Qos) (before : List Held) (h : Held) (later : List Held) (name : List ℕ)
    → NoneOfThese qos (before ++ h ∷ later) name → matches h.filter name ≡ true → greater qos h.qos ≡ qos
not_greater qos [] h later name none fits = none.0 fits
not_greater qos (g ∷ before) h later name none fits = not_greater qos before h later name none.1 fits

-- the same of a function that says at which QoS each filter is held
abbrev IsGreatestBy : (List ℕ → Option Qos) → List ℕ → Option Qos → Type 0
IsGreatestBy says name None = (filter : List ℕ) → matches filter name ≡ true → says filter ≡ None
IsGreatestBy says name (Some qos) =
    ((filter : List ℕ) (other : Qos) → matches filter name ≡ true → says filter ≡ Some other
    → greater qos other ≡ qos)
    × ((filter : List ℕ) × (matches filter name ≡ true) × (says filter ≡ Some qos))

unique : (held : List Held) (name : List ℕ) (found own : Option Qos) → IsOneClients held
    → IsGreatestBy (qos_held held) name found → IsGreatest own held name → found ≡ own
unique held name None None once none is = refl
unique held name None (Some qos) once none is =
    let split = is.1.3 in
    let stood : stands held is.1.1.filter ≡ true =
    subst (λ hs. stands hs is.1.1.filter ≡ true) (sym split) (stands_among is.1.0 is.1.1 is.1.2) in
    let none_there : is_some (qos_held held is.1.1.filter) ≡ false = ap is_some (none is.1.1.filter is.1.4) in
    absurd (true≢false (sym stood ∙ sym (some-held held is.1.1.filter) ∙ none_there))
unique held name (Some qos) None once is none =
    let there = among held is.1.0 qos is.1.2 in
    let fits : matches there.1.filter name ≡ true = ap (λ f. matches f name) there.4 ∙ is.1.1 in
    let not_there : matches there.1.filter name ≡ false =
    none_of there.0 there.1 there.2 name (subst (λ hs. NoneMatches hs name) there.3 none) in
    absurd (true≢false (sym fits ∙ not_there))
unique held name (Some qos) (Some own) once is other =
    let there = among held is.1.0 qos is.1.2 in
    let fits : matches there.1.filter name ≡ true = ap (λ f. matches f name) there.4 ∙ is.1.1 in
    let over : greater own there.1.qos ≡ own =
    not_greater own there.0 there.1 there.2 name (subst (λ hs. NoneOfThese own hs name) there.3 other.0)
    fits in
    let held_so : qos_held held other.1.1.filter ≡ Some other.1.1.qos =
    subst (λ hs. qos_held hs other.1.1.filter ≡ Some other.1.1.qos) (sym other.1.3)
    (one_held other.1.0 other.1.1 other.1.2
    (subst (λ hs. count_by (has_text other.1.1.filter) hs ≤ 1) other.1.3 (once.0 other.1.1.filter))) in
    let under : greater qos other.1.1.qos ≡ qos = is.0 other.1.1.filter other.1.1.qos other.1.4 held_so in
    ap Some (each_as_great qos own
    (ap (greater qos) (sym other.1.5) ∙ under)
    (ap (greater own) (sym there.5) ∙ over))

pub greatest-held : (root : Node) (xs : List Client) (name : List ℕ) (client : ℕ) (found : Option Qos)
    → Keeps root xs → IsGreatestAt root client name found
    → found ≡ greatest_qos (client_at xs client).filters name
greatest-held root xs name client found keeps is =
    let held = (client_at xs client).filters in
    unique held name found (greatest_qos held name) (keeps client).1 (by found is) (greatest held name)
  where
    by : (o : Option Qos) → IsGreatestAt root client name o
        → IsGreatestBy (qos_held (client_at xs client).filters) name o
    by None none = λ filter fits. sym ((keeps client).0 filter) ∙ none filter fits
    by (Some qos) one = (
      λ filter other fits holds. one.0 filter other fits ((keeps client).0 filter ∙ holds),
      (one.1.0, one.1.1, sym ((keeps client).0 one.1.0) ∙ one.1.2),
    )
