-- How many SUBSCRIBEs are open.
use Rattle.std.proofs.Common.{◌≡◌, ℕ, zero, suc, ◌+◌, ◌≤◌, ◌||◌, ◌&&◌, Bool, true, false, List, [], ◌∷◌, ◌++◌}
use Rattle.std.proofs.Common.{Option, Some, None, is_some, length, nat_lt, ◌<◌, refl, sym, ap, ◌∙◌, arith}
use Rattle.std.proofs.lemmas.Bool.{ltb-true}
use Rattle.std.specs.List.{list_any}
use Rattle.std.proofs.lemmas.List.{length-append}
use Rattle.indexmap.specs.Layout.{set_value_at}
use Rattle.sng_history.specs.Links.{Wanted, wants, is_filter_of, open_id, open_ids}
use Rattle.sng_wanted.specs.declared.want.Stand.{Stand}
use Rattle.sng_wanted.specs.declared.want.Want.TheVariants.{Ended, Stands}
use Rattle.sng_wanted.specs.Shown.{Entry, shown, want_of, Alone}
use Rattle.sng_wanted.proofs.ShownLemmas.{neither, absent_wants, same_stands}

-- how many packet ids one filter has open
abbrev pub opens_of : Stand → ℕ
opens_of s = length (open_id s.open_id)

-- how many packet ids the filters have open
abbrev pub opens : List Entry → ℕ
opens es = length (open_ids (shown es))

opens_first : (k : List ℕ) (s : Stand) (es : List Entry) → opens ((k, Stands s) ∷ es) ≡ opens_of s + opens es
opens_first k s es = length-append (open_id s.open_id) (open_ids (shown es))

-- a filter that stands otherwise than before
pub opens_changed : (es : List Entry) (place : ℕ) (before now : Stand) → want_of es place ≡ Some (Stands before)
    → opens (set_value_at es place (Stands now)) + opens_of before ≡ opens es + opens_of now
opens_changed [] place before now is = absurd (cc)
opens_changed ((k, Ended) ∷ es) zero before now is = absurd (cc)
opens_changed ((k, Stands s) ∷ es) zero before now is =
    let same = ap opens_of (same_stands s before is) in
    omega (arith, same, opens_first k s es, opens_first k now es)
opens_changed ((k, Ended) ∷ es) (suc place) before now is = opens_changed es place before now is
opens_changed ((k, Stands s) ∷ es) (suc place) before now is =
    let rest = opens_changed es place before now is in
    omega (arith, rest, opens_first k s es, opens_first k s (set_value_at es place (Stands now)))

-- and one that ends
pub opens_ended : (es : List Entry) (place : ℕ) (before : Stand) → want_of es place ≡ Some (Stands before)
    → opens (set_value_at es place Ended) + opens_of before ≡ opens es
opens_ended [] place before is = absurd (cc)
opens_ended ((k, Ended) ∷ es) zero before is = absurd (cc)
opens_ended ((k, Stands s) ∷ es) zero before is =
    let same = ap opens_of (same_stands s before is) in
    omega (arith, same, opens_first k s es)
opens_ended ((k, Ended) ∷ es) (suc place) before is = opens_ended es place before is
opens_ended ((k, Stands s) ∷ es) (suc place) before is =
    let rest = opens_ended es place before is in
    omega (arith, rest, opens_first k s es, opens_first k s (set_value_at es place Ended))

-- what it has open is among what is open
pub opens_has : (es : List Entry) (place : ℕ) (s : Stand) → want_of es place ≡ Some (Stands s)
    → opens_of s ≤ opens es
opens_has es place s is = let ended = opens_ended es place s is in omega (arith, ended)

-- one more filter, with none open
pub opens_more : (wanted : List Wanted) (text : List ℕ)
    → length (open_ids (wanted ++ record { filter = text; open_id = None; owed = false } ∷ []))
    ≡ length (open_ids wanted)
opens_more [] text = refl
opens_more (w ∷ wanted) text =
    let rest = opens_more wanted text in
    let now = length-append (open_id w.open_id)
    (open_ids (wanted ++ record { filter = text; open_id = None; owed = false } ∷ [])) in
    let before = length-append (open_id w.open_id) (open_ids wanted) in
    omega (arith, rest, now, before)

-- it is the filter, and has one open
abbrev pub is_opened : List ℕ → Wanted → Bool
is_opened text w = is_filter_of text w && is_some w.open_id

pub none_opened_of : (wanted : List Wanted) (text : List ℕ) → wants wanted text ≡ false
    → list_any (is_opened text) wanted ≡ false
none_opened_of [] text none = refl
none_opened_of (w ∷ wanted) text none =
    let both = neither (is_filter_of text w) (wants wanted text) none in
    rw both.0 (none_opened_of wanted text both.1)

or_none : (b : Bool) → (b || false) ≡ b
or_none true = refl
or_none false = refl

pub alone_opened_of : (es : List Entry) (text : List ℕ) (place : ℕ) (s : Stand) → Alone es text place
    → want_of es place ≡ Some (Stands s) → list_any (is_opened text) (shown es) ≡ is_some s.open_id
alone_opened_of [] text place s alone is = absurd alone
alone_opened_of ((k, Ended) ∷ es) text zero s alone is = absurd (cc)
alone_opened_of ((k, Stands t) ∷ es) text zero s alone is =
    rw (alone.0, none_opened_of (shown es) text (absent_wants es text alone.1))
    (or_none (is_some t.open_id) ∙ ap (λ (x : Stand). is_some x.open_id) (same_stands t s is))
alone_opened_of ((k, Ended) ∷ es) text (suc place) s alone is = alone_opened_of es text place s alone.1 is
alone_opened_of ((k, Stands t) ∷ es) text (suc place) s alone is =
    rw alone.0 (alone_opened_of es text place s alone.1 is)

-- at most one is open for one filter
pub open_one : (o : Option ℕ) → length (open_id o) ≤ 1
open_one None = omega arith
open_one (Some id) = omega arith

-- where one more may be open, or one is already, there are no more than may be
pub few_opened : (n most : ℕ) (o : Option ℕ) → n ≤ most → (nat_lt n most || is_some o) ≡ true
    → n + 1 ≤ most + length (open_id o)
few_opened n most None low may =
    let below : n < most = ltb-true n most (sym (or_none (nat_lt n most)) ∙ may) in omega arith
few_opened n most (Some id) low may = omega arith
