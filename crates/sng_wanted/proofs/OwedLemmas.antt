-- Of which filters a SUBSCRIBE is owed, and which is the first of them.
use Rattle.std.proofs.Common.{◌≡◌, ℕ, zero, suc, ◌<◌, ◌≤◌, ◌==◌, ◌||◌, Bool, true, false, true≢false}
use Rattle.std.proofs.Common.{List, [], ◌∷◌, ◌++◌, Option, Some, None, length, slice_get, nat_lt}
use Rattle.std.proofs.Common.{refl, sym, ap, ◌∙◌, arith}
use Rattle.std.specs.Option.{option_map}
use Rattle.std.proofs.lemmas.Bool.{eqb-true, eqb-false, ltb-true, ltb-false}
use Rattle.indexmap.specs.Layout.{set_value_at}
use Rattle.sng_history.specs.Links.{Wanted, wants, owing, is_filter_of}
use Rattle.sng_wanted.specs.declared.want.Stand.{Stand}
use Rattle.sng_wanted.specs.declared.want.Want.{Want}
use Rattle.sng_wanted.specs.declared.want.Want.TheVariants.{Ended, Stands}
use Rattle.sng_wanted.specs.Filters.{WantedRoom, forgiven, first_owed, owed_for}
use Rattle.sng_wanted.specs.Shown.{Entry, shown, owed_in, owed_at, filter_at, want_of, Alone}
use Rattle.sng_wanted.specs.Shown.{NoneOwedBefore}
use Rattle.sng_wanted.proofs.ShownLemmas.{neither, absent_wants, same_stands, there_within}

-- the view of the wanted filters, part by part
abbrev pub roomed : List Wanted → ℕ → WantedRoom
roomed wanted room = record { wanted = wanted; room = room }

pub roomed-same : (a b : List Wanted) (n m : ℕ) → a ≡ b → n ≡ m → roomed a n ≡ roomed b m
roomed-same a b n m wanted room = rw (wanted, room) refl

-- a change at a place
owed_same : (es : List Entry) (place : ℕ) (w : Want) → place < length es
    → owed_at (set_value_at es place w) place ≡ owed_in w
owed_same [] place w within = absurd (omega arith)
owed_same (e ∷ es) zero w within = refl
owed_same (e ∷ es) (suc place) w within = owed_same es place w (omega arith)

owed_other : (es : List Entry) (place : ℕ) (w : Want) (p : ℕ) → (p ≡ place → ⊥)
    → owed_at (set_value_at es place w) p ≡ owed_at es p
owed_other [] place w p differs = refl
owed_other (e ∷ es) zero w zero differs = absurd (differs refl)
owed_other (e ∷ es) zero w (suc p) differs = refl
owed_other (e ∷ es) (suc place) w zero differs = refl
owed_other (e ∷ es) (suc place) w (suc p) differs = owed_other es place w p (λ same. differs (ap suc same))

-- what is not owed there leaves it so before a place
pub none_owed_set : (es : List Entry) (place : ℕ) (w : Want) (first : ℕ) → place < length es
    → owed_in w ≡ false → NoneOwedBefore es first → NoneOwedBefore (set_value_at es place w) first
none_owed_set es place w first within none before p below = by (p == place) refl
  where
    by : (here : Bool) → (p == place) ≡ here → owed_at (set_value_at es place w) p ≡ false
    by true is =
        let at : p ≡ place = eqb-true p place is in
        ap (λ q. owed_at (set_value_at es place w) q) at ∙ owed_same es place w within ∙ none
    by false is = owed_other es place w p (eqb-false p place is) ∙ before p below

-- and so does what is owed there as it was, or is owed there from now on
pub none_owed_then : (es : List Entry) (place : ℕ) (w : Want) (first lower : ℕ) (owes : Bool)
    → place < length es → owed_in w ≡ (owes || owed_at es place) → NoneOwedBefore es first → lower ≤ first
    → (owes ≡ true → lower ≤ place) → NoneOwedBefore (set_value_at es place w) lower
none_owed_then es place w first lower owes within now before low here p below =
    by owes (p == place) refl now here refl
  where
    by : (owes at_place : Bool) → (p == place) ≡ at_place → owed_in w ≡ (owes || owed_at es place)
        → (owes ≡ true → lower ≤ place) → owes ≡ owes → owed_at (set_value_at es place w) p ≡ false
    by true true is now here _ =
        let at : p ≡ place = eqb-true p place is in
        let above : lower ≤ place = here refl in absurd (omega arith)
    by false true is now here _ =
        let at : p ≡ place = eqb-true p place is in
        ap (λ q. owed_at (set_value_at es place w) q) at ∙ owed_same es place w within ∙ now
        ∙ ap (λ q. owed_at es q) (sym at) ∙ before p (omega arith)
    by true false is now here _ = owed_other es place w p (eqb-false p place is) ∙ before p (omega arith)
    by false false is now here _ = owed_other es place w p (eqb-false p place is) ∙ before p (omega arith)

-- one more at the end, of which none is owed
owed_more : (es : List Entry) (text : List ℕ) (p : ℕ)
    → owed_at (es ++ (text, Stands (record { open_id = None; owed = false })) ∷ []) p ≡ owed_at es p
owed_more [] text zero = refl
owed_more [] text (suc p) = refl
owed_more (e ∷ es) text zero = refl
owed_more (e ∷ es) text (suc p) = owed_more es text p

pub none_owed_more : (es : List Entry) (text : List ℕ) (first : ℕ) → NoneOwedBefore es first
    → NoneOwedBefore (es ++ (text, Stands (record { open_id = None; owed = false })) ∷ []) first
none_owed_more es text first before p below = owed_more es text p ∙ before p below

pub none_owed_first : (es : List Entry) → NoneOwedBefore es 0
none_owed_first es p below = absurd (omega arith)

-- a look that goes on from where none is owed before
pub none_owed_through : (es : List Entry) (first next : ℕ) → NoneOwedBefore es first
    → ((p : ℕ) → first ≤ p → p < next → owed_at es p ≡ false) → NoneOwedBefore es next
none_owed_through es first next before seen p below = by (nat_lt p first) refl
  where
    by : (low : Bool) → nat_lt p first ≡ low → owed_at es p ≡ false
    by true is = before p (ltb-true p first is)
    by false is = let above : first ≤ p = ltb-false p first is in seen p above below

later : (e : Entry) (es : List Entry) (n : ℕ) → NoneOwedBefore (e ∷ es) (suc n) → NoneOwedBefore es n
later e es n before p below = before (suc p) (omega arith)

same_text : (e f : Entry) → Some e ≡ Some f → e.0 ≡ f.0
same_text e f is = ap (λ (x : Entry). x.0) (same_entry e f is)
  where
    same_entry : (e f : Entry) → Some e ≡ Some f → e ≡ f
    same_entry e f is = cc

-- the first place at which one is owed has the first filter
pub found_owed : (es : List Entry) (place : ℕ) (text : List ℕ) (w : Want) → NoneOwedBefore es place
    → owed_at es place ≡ true → slice_get es place ≡ Some (text, w) → first_owed (shown es) ≡ Some text
found_owed [] place text w before there is = absurd (true≢false (sym there))
found_owed ((k, Ended) ∷ es) zero text w before there is = absurd (true≢false (sym there))
found_owed ((k, Stands s) ∷ es) zero text w before there is =
    rw there (ap Some (same_text (k, Stands s) (text, w) is))
found_owed ((k, Ended) ∷ es) (suc place) text w before there is =
    found_owed es place text w (later (k, Ended) es place before) there is
found_owed ((k, Stands s) ∷ es) (suc place) text w before there is =
    let none : s.owed ≡ false = before zero (omega arith) in
    rw none (found_owed es place text w (later (k, Stands s) es place before) there is)

-- and past the end there is none
pub none_found_owed : (es : List Entry) (place : ℕ) → NoneOwedBefore es place → slice_get es place ≡ None
    → first_owed (shown es) ≡ None
none_found_owed [] place before is = refl
none_found_owed (e ∷ es) zero before is = absurd (cc)
none_found_owed ((k, Ended) ∷ es) (suc place) before is =
    none_found_owed es place (later (k, Ended) es place before) is
none_found_owed ((k, Stands s) ∷ es) (suc place) before is =
    let none : s.owed ≡ false = before zero (omega arith) in
    rw none (none_found_owed es place (later (k, Stands s) es place before) is)

-- so where the first place is at which one is owed, or past the end, the first filter is
pub first_at : (es : List Entry) (place : ℕ) → NoneOwedBefore es place
    → (place < length es → owed_at es place ≡ true) → first_owed (shown es) ≡ filter_at es place
first_at es place before there = by (slice_get es place) refl
  where
    by : (o : Option Entry) → slice_get es place ≡ o → first_owed (shown es) ≡ filter_at es place
    by None is = none_found_owed es place before is ∙ sym (ap (λ (x : Option Entry). option_map (λ (e : Entry). e.0) x) is)
    by (Some e) is =
        found_owed es place e.0 e.1 before (there (there_within es place e is)) is
        ∙ sym (ap (λ (x : Option Entry). option_map (λ (e : Entry). e.0) x) is)

-- a SUBSCRIBE of a filter that does not stand is not owed
pub none_owing : (wanted : List Wanted) (text : List ℕ) → wants wanted text ≡ false
    → owing wanted text ≡ wanted
none_owing [] text none = refl
none_owing (w ∷ wanted) text none =
    let both = neither (is_filter_of text w) (wants wanted text) none in
    rw both.0 (ap (λ l. w ∷ l) (none_owing wanted text both.1))

pub none_forgiven : (wanted : List Wanted) (text : List ℕ) → wants wanted text ≡ false
    → forgiven wanted text ≡ wanted
none_forgiven [] text none = refl
none_forgiven (w ∷ wanted) text none =
    let both = neither (is_filter_of text w) (wants wanted text) none in
    rw both.0 (ap (λ l. w ∷ l) (none_forgiven wanted text both.1))

pub none_owed : (wanted : List Wanted) (text : List ℕ) → wants wanted text ≡ false
    → owed_for wanted text ≡ false
none_owed [] text none = refl
none_owed (w ∷ wanted) text none =
    let both = neither (is_filter_of text w) (wants wanted text) none in
    rw both.0 (none_owed wanted text both.1)

pub alone_owed : (es : List Entry) (text : List ℕ) (place : ℕ) (o : Stand) → Alone es text place
    → want_of es place ≡ Some (Stands o) → owed_for (shown es) text ≡ o.owed
alone_owed [] text place o alone is = absurd alone
alone_owed ((k, Ended) ∷ es) text zero o alone is = absurd (cc)
alone_owed ((k, Stands p) ∷ es) text zero o alone is =
    rw alone.0 (ap (λ (s : Stand). s.owed) (same_stands p o is))
alone_owed ((k, Ended) ∷ es) text (suc place) o alone is = alone_owed es text place o alone.1 is
alone_owed ((k, Stands p) ∷ es) text (suc place) o alone is = rw alone.0 (alone_owed es text place o alone.1 is)

pub alone_owing : (es : List Entry) (text : List ℕ) (place : ℕ) (o : Stand) → Alone es text place
    → want_of es place ≡ Some (Stands o)
    → shown (set_value_at es place (Stands (record { open_id = o.open_id; owed = true }))) ≡ owing (shown es) text
alone_owing [] text place o alone is = absurd alone
alone_owing ((k, Ended) ∷ es) text zero o alone is = absurd (cc)
alone_owing ((k, Stands p) ∷ es) text zero o alone is =
    rw alone.0 (ap (λ (s : Stand). record { filter = k; open_id = s.open_id; owed = true } ∷ shown es)
    (sym (same_stands p o is))
    ∙ ap (λ l. record { filter = k; open_id = p.open_id; owed = true } ∷ l)
    (sym (none_owing (shown es) text (absent_wants es text alone.1))))
alone_owing ((k, Ended) ∷ es) text (suc place) o alone is = alone_owing es text place o alone.1 is
alone_owing ((k, Stands p) ∷ es) text (suc place) o alone is =
    rw alone.0 (ap (λ l. record { filter = k; open_id = p.open_id; owed = p.owed } ∷ l)
    (alone_owing es text place o alone.1 is))

pub alone_forgiven : (es : List Entry) (text : List ℕ) (place : ℕ) (o : Stand) → Alone es text place
    → want_of es place ≡ Some (Stands o)
    → shown (set_value_at es place (Stands (record { open_id = o.open_id; owed = false }))) ≡ forgiven (shown es) text
alone_forgiven [] text place o alone is = absurd alone
alone_forgiven ((k, Ended) ∷ es) text zero o alone is = absurd (cc)
alone_forgiven ((k, Stands p) ∷ es) text zero o alone is =
    rw alone.0 (ap (λ (s : Stand). record { filter = k; open_id = s.open_id; owed = false } ∷ shown es)
    (sym (same_stands p o is))
    ∙ ap (λ l. record { filter = k; open_id = p.open_id; owed = false } ∷ l)
    (sym (none_forgiven (shown es) text (absent_wants es text alone.1))))
alone_forgiven ((k, Ended) ∷ es) text (suc place) o alone is = alone_forgiven es text place o alone.1 is
alone_forgiven ((k, Stands p) ∷ es) text (suc place) o alone is =
    rw alone.0 (ap (λ l. record { filter = k; open_id = p.open_id; owed = p.owed } ∷ l)
    (alone_forgiven es text place o alone.1 is))
