-- At which QoS a filter is held, as the filters of one client change.
use Rattle.std.proofs.Common.{◌≡◌, ℕ, Bool, true, false, not, ◌&&◌, ◌||◌, List, [], ◌∷◌, Option, Some, None}
use Rattle.std.proofs.Common.{is_some}
use Rattle.std.proofs.Common.{if◌then◌else◌, refl, sym, ap, ◌∙◌}
use Rattle.std.specs.Str.{bytes_eq}
use Rattle.std.specs.Cmp.Lexicographic.{bytes_decides}
use Rattle.sng_text.specs.declared.qos.Qos.{Qos}
use Rattle.sng_fan.specs.declared.held.Held.{Held}
use Rattle.sng_fan.specs.Subscriptions.{has_text, stands, with_filter, without_filter}
use Rattle.sng_sessions.specs.Kept.{qos_held}

same_text : (a b : List ℕ) → bytes_eq a b ≡ true → a ≡ b
same_text a b is = (bytes_decides a b).0 is

-- it is held at some QoS where it stands
pub some-held : (held : List Held) (text : List ℕ) → is_some (qos_held held text) ≡ stands held text
some-held [] text = refl
some-held (h ∷ held) text = by (has_text text h) (some-held held text)
  where
    by : (same : Bool) → is_some (qos_held held text) ≡ stands held text
        → is_some (if same then Some h.qos else qos_held held text)
        ≡ (same || stands held text)
    by true rest = refl
    by false rest = rest

-- and at none where it does not
pub none-held : (held : List Held) (text : List ℕ) → stands held text ≡ false → qos_held held text ≡ None
none-held held text not_there = by (qos_held held text) refl
  where
    by : (o : Option Qos) → qos_held held text ≡ o → qos_held held text ≡ None
    by None is = is
    by (Some qos) is =
        let there : true ≡ false = sym (ap is_some is) ∙ some-held held text ∙ not_there in absurd (cc)

-- one filter stands at this QoS
pub held-with : (held : List Held) (filter text : List ℕ) (qos : Qos)
    → qos_held (with_filter held filter qos) text
    ≡ (if bytes_eq filter text then Some qos else qos_held held text)
held-with [] filter text qos = refl
held-with (h ∷ held) filter text qos =
    by (bytes_eq h.filter filter) refl (held-with held filter text qos)
  where
    past : (a b : Bool) → bytes_eq h.filter text ≡ a → bytes_eq filter text ≡ b
        → bytes_eq h.filter filter ≡ false
        → (if a then Some h.qos else (if b then Some qos else qos_held held text))
        ≡ (if b then Some qos else (if a then Some h.qos else qos_held held text))
    past true true first second apart =
        let same : bytes_eq h.filter filter ≡ true =
        ap (λ t. bytes_eq h.filter t) (same_text filter text second) ∙ first in
        let never : true ≡ false = sym same ∙ apart in absurd (cc)
    past true false first second apart = refl
    past false b first second apart = refl

    by : (same : Bool) → bytes_eq h.filter filter ≡ same
        → qos_held (with_filter held filter qos) text
        ≡ (if bytes_eq filter text then Some qos else qos_held held text)
        → qos_held (with_filter (h ∷ held) filter qos) text
        ≡ (if bytes_eq filter text then Some qos else qos_held (h ∷ held) text)
    by true is rest =
        rw is (ap (λ t. if bytes_eq t text then Some qos else qos_held held text)
        (same_text h.filter filter is)
        ∙ over (bytes_eq filter text) (bytes_eq h.filter text)
        (ap (λ t. bytes_eq t text) (same_text h.filter filter is)))
      where
        over : (b a : Bool) → a ≡ b
            → (if b then Some qos else qos_held held text)
            ≡ (if b then Some qos else (if a then Some h.qos else qos_held held text))
        over true a same = refl
        over false true same = absurd (cc)
        over false false same = refl
    by false is rest =
        rw (is, rest) (past (bytes_eq h.filter text) (bytes_eq filter text) refl refl is)

-- one filter stands no more
pub held-without : (held : List Held) (filter text : List ℕ)
    → qos_held (without_filter held filter) text
    ≡ (if bytes_eq filter text then None else qos_held held text)
held-without [] filter text = none (bytes_eq filter text)
  where
    none : (b : Bool) → qos_held [] text ≡ (if b then None else qos_held [] text)
    none true = refl
    none false = refl
held-without (h ∷ held) filter text = by (bytes_eq h.filter filter) refl (held-without held filter text)
  where
    past : (a b : Bool) → bytes_eq h.filter text ≡ a → bytes_eq filter text ≡ b
        → bytes_eq h.filter filter ≡ false
        → (if a then Some h.qos else (if b then None else qos_held held text))
        ≡ (if b then None else (if a then Some h.qos else qos_held held text))
    past true true first second apart =
        let same : bytes_eq h.filter filter ≡ true =
        ap (λ t. bytes_eq h.filter t) (same_text filter text second) ∙ first in
        let never : true ≡ false = sym same ∙ apart in absurd (cc)
    past true false first second apart = refl
    past false b first second apart = refl

    over : (b a : Bool) → a ≡ b
        → (if b then None else qos_held held text)
        ≡ (if b then None else (if a then Some h.qos else qos_held held text))
    over true a same = refl
    over false true same = absurd (cc)
    over false false same = refl

    by : (same : Bool) → bytes_eq h.filter filter ≡ same
        → qos_held (without_filter held filter) text
        ≡ (if bytes_eq filter text then None else qos_held held text)
        → qos_held (without_filter (h ∷ held) filter) text
        ≡ (if bytes_eq filter text then None else qos_held (h ∷ held) text)
    by true is rest =
        rw (is, rest) (over (bytes_eq filter text) (bytes_eq h.filter text)
        (ap (λ t. bytes_eq t text) (same_text h.filter filter is)))
    by false is rest =
        rw (is, rest) (past (bytes_eq h.filter text) (bytes_eq filter text) refl refl is)

-- ---- whether a filter stands, where another ends

not_past : (a s : Bool) → (not a && s) ≡ (not a && (a || s))
not_past true s = refl
not_past false s = refl

-- one filter stands no more
pub stands-without : (held : List Held) (filter text : List ℕ)
    → stands (without_filter held filter) text ≡ (not (bytes_eq filter text) && stands held text)
stands-without [] filter text = none (bytes_eq filter text)
  where
    none : (a : Bool) → false ≡ (not a && false)
    none true = refl
    none false = refl
stands-without (h ∷ held) filter text = by (bytes_eq h.filter filter) refl (stands-without held filter text)
  where
    apart : (a : Bool) → bytes_eq filter text ≡ a → bytes_eq h.filter filter ≡ false
        → (bytes_eq h.filter text || (not a && stands held text))
        ≡ (not a && (bytes_eq h.filter text || stands held text))
    apart true is other =
        let unlike : bytes_eq h.filter text ≡ false =
        ap (λ t. bytes_eq h.filter t) (sym (same_text filter text is)) ∙ other in
        rw unlike refl
    apart false is other = refl

    by : (same : Bool) → bytes_eq h.filter filter ≡ same
        → stands (without_filter held filter) text ≡ (not (bytes_eq filter text) && stands held text)
        → stands (without_filter (h ∷ held) filter) text
        ≡ (not (bytes_eq filter text) && stands (h ∷ held) text)
    by true is rest =
        rw (is, rest) (not_past (bytes_eq filter text) (stands held text)
        ∙ ap (λ t. not (bytes_eq filter text) && (bytes_eq t text || stands held text))
        (sym (same_text h.filter filter is)))
    by false is rest =
        rw (is, rest) (apart (bytes_eq filter text) refl is)
