-- What is shown of the filters as they are kept.
use Rattle.std.proofs.Common.{◌≡◌, ℕ, zero, suc, ◌+◌, ◌-◌, ◌<◌, ◌≤◌, ◌||◌, Bool, true, false, true≢false}
use Rattle.std.proofs.Common.{List, [], ◌∷◌, ◌++◌, Some, None, length, slice_get, filter, map, take}
use Rattle.std.proofs.Common.{drop, cond, refl, sym, ◌∙◌, ap, arith}
use Rattle.std.specs.List.{IsDistinct, AllByRecursion}
use Rattle.std.specs.Prelude.{OnOk, IsOk, Ok, Err}
use Rattle.std.specs.declared.result.Result.{Result}
use Rattle.std.specs.Map.{keys_of, lookup, lookup_key}
use Rattle.std.specs.Str.{bytes_eq}
use Rattle.std.proofs.lemmas.Slice.Eq.{bytes_eq-Decides}
use Rattle.std.proofs.lemmas.Bool.{false_from_ne_true}
use Rattle.std.proofs.lemmas.List.{append_assoc, append-nil, length-append}
use Rattle.indexmap.specs.IndexMap.{insert_entry}
use Rattle.indexmap.specs.Layout.{set_value_at}
use Rattle.sng_history.specs.Good.{WantedOnce}
use Rattle.sng_history.specs.Links.{Wanted, wants, opened, is_filter_of}
use Rattle.sng_wanted.specs.declared.want.Stand.{Stand}
use Rattle.sng_wanted.specs.declared.want.Want.{Want}
use Rattle.sng_wanted.specs.declared.want.Want.TheVariants.{Ended, Stands}
use Rattle.sng_wanted.specs.Filters.{without_wanted, id_for}
use Rattle.sng_wanted.specs.Shown.{Entry, shown, is_standing, want_of, Absent, Apart, Alone}

pub neither : (a b : Bool) → (a || b) ≡ false → (a ≡ false) × (b ≡ false)
neither true b none = absurd (true≢false none)
neither false b none = (refl, none)

-- where a filter is not wanted
pub none_without : (wanted : List Wanted) (text : List ℕ) → wants wanted text ≡ false
    → without_wanted wanted text ≡ wanted
none_without [] text none = refl
none_without (w ∷ wanted) text none =
    let both = neither (is_filter_of text w) (wants wanted text) none in
    rw both.0 (ap (λ l. w ∷ l) (none_without wanted text both.1))

pub none_opened : (wanted : List Wanted) (text : List ℕ) (id : ℕ) → wants wanted text ≡ false
    → opened wanted text id ≡ wanted
none_opened [] text id none = refl
none_opened (w ∷ wanted) text id none =
    let both = neither (is_filter_of text w) (wants wanted text) none in
    rw both.0 (ap (λ l. w ∷ l) (none_opened wanted text id both.1))

pub none_id : (wanted : List Wanted) (text : List ℕ) → wants wanted text ≡ false → id_for wanted text ≡ None
none_id [] text none = refl
none_id (w ∷ wanted) text none =
    let both = neither (is_filter_of text w) (wants wanted text) none in
    rw both.0 (none_id wanted text both.1)

pub absent_wants : (es : List Entry) (text : List ℕ) → Absent text es → wants (shown es) text ≡ false
absent_wants [] text none = refl
absent_wants ((k, Ended) ∷ es) text none = absent_wants es text none.1
absent_wants ((k, Stands o) ∷ es) text none = rw none.0 (absent_wants es text none.1)

-- the entry that ended is no other's
ended_wants : (es : List Entry) (text : List ℕ) (place : ℕ) → Alone es text place
    → want_of es place ≡ Some Ended → wants (shown es) text ≡ false
ended_wants [] text place alone is = absurd alone
ended_wants ((k, Ended) ∷ es) text zero alone is = absent_wants es text alone.1
ended_wants ((k, Stands o) ∷ es) text zero alone is = absurd (cc)
ended_wants ((k, Ended) ∷ es) text (suc place) alone is = ended_wants es text place alone.1 is
ended_wants ((k, Stands o) ∷ es) text (suc place) alone is = rw alone.0 (ended_wants es text place alone.1 is)

no_place : (es : List Entry) (text : List ℕ) (place : ℕ) → Alone es text place → want_of es place ≡ None → ⊥
no_place [] text place alone is = alone
no_place (e ∷ es) text zero alone is = cc
no_place (e ∷ es) text (suc place) alone is = no_place es text place alone.1 is

pub standing_ended : (es : List Entry) (text : List ℕ) (place : ℕ) → Alone es text place
    → want_of es place ≡ Some Ended → wants (shown es) text ≡ false
standing_ended es text place alone is = ended_wants es text place alone is

pub standing_nowhere : (es : List Entry) (text : List ℕ) (place : ℕ) → Alone es text place
    → want_of es place ≡ None → wants (shown es) text ≡ false
standing_nowhere es text place alone is = absurd (no_place es text place alone is)

-- the filter that stands
pub alone_wants : (es : List Entry) (text : List ℕ) (place : ℕ) (o : Stand) → Alone es text place
    → want_of es place ≡ Some (Stands o) → wants (shown es) text ≡ true
alone_wants [] text place o alone is = absurd alone
alone_wants ((k, Ended) ∷ es) text zero o alone is = absurd (cc)
alone_wants ((k, Stands p) ∷ es) text zero o alone is = rw alone.0 refl
alone_wants ((k, Ended) ∷ es) text (suc place) o alone is = alone_wants es text place o alone.1 is
alone_wants ((k, Stands p) ∷ es) text (suc place) o alone is =
    rw alone.0 (alone_wants es text place o alone.1 is)

pub same_stands : (p o : Stand) → Some (Stands p) ≡ Some (Stands o) → p ≡ o
same_stands p o is = cc

pub alone_id : (es : List Entry) (text : List ℕ) (place : ℕ) (o : Stand) → Alone es text place
    → want_of es place ≡ Some (Stands o) → id_for (shown es) text ≡ o.open_id
alone_id [] text place o alone is = absurd alone
alone_id ((k, Ended) ∷ es) text zero o alone is = absurd (cc)
alone_id ((k, Stands p) ∷ es) text zero o alone is =
    rw alone.0 (ap (λ (s : Stand). s.open_id) (same_stands p o is))
alone_id ((k, Ended) ∷ es) text (suc place) o alone is = alone_id es text place o alone.1 is
alone_id ((k, Stands p) ∷ es) text (suc place) o alone is = rw alone.0 (alone_id es text place o alone.1 is)

pub alone_ended : (es : List Entry) (text : List ℕ) (place : ℕ) (o : Stand) → Alone es text place
    → want_of es place ≡ Some (Stands o)
    → shown (set_value_at es place Ended) ≡ without_wanted (shown es) text
alone_ended [] text place o alone is = absurd alone
alone_ended ((k, Ended) ∷ es) text zero o alone is = absurd (cc)
alone_ended ((k, Stands p) ∷ es) text zero o alone is =
    rw alone.0 (sym (none_without (shown es) text (absent_wants es text alone.1)))
alone_ended ((k, Ended) ∷ es) text (suc place) o alone is = alone_ended es text place o alone.1 is
alone_ended ((k, Stands p) ∷ es) text (suc place) o alone is =
    rw alone.0 (ap (λ l. record { filter = k; open_id = p.open_id; owed = p.owed } ∷ l) (alone_ended es text place o alone.1 is))

pub alone_opened : (es : List Entry) (text : List ℕ) (place : ℕ) (o : Stand) (id : ℕ) → Alone es text place
    → want_of es place ≡ Some (Stands o)
    → shown (set_value_at es place (Stands (record { open_id = Some id; owed = false }))) ≡ opened (shown es) text id
alone_opened [] text place o id alone is = absurd alone
alone_opened ((k, Ended) ∷ es) text zero o id alone is = absurd (cc)
alone_opened ((k, Stands p) ∷ es) text zero o id alone is =
    rw alone.0 (ap (λ l. record { filter = k; open_id = Some id; owed = false } ∷ l)
    (sym (none_opened (shown es) text id (absent_wants es text alone.1))))
alone_opened ((k, Ended) ∷ es) text (suc place) o id alone is = alone_opened es text place o id alone.1 is
alone_opened ((k, Stands p) ∷ es) text (suc place) o id alone is =
    rw alone.0 (ap (λ l. record { filter = k; open_id = p.open_id; owed = p.owed } ∷ l) (alone_opened es text place o id alone.1 is))

-- as many stand as before, or one fewer
pub fewer_ended : (es : List Entry) (place : ℕ) (o : Stand) → want_of es place ≡ Some (Stands o)
    → length (shown es) ≡ length (shown (set_value_at es place Ended)) + 1
fewer_ended [] place o is = absurd (cc)
fewer_ended ((k, Ended) ∷ es) zero o is = absurd (cc)
fewer_ended ((k, Stands p) ∷ es) zero o is = omega arith
fewer_ended ((k, Ended) ∷ es) (suc place) o is = fewer_ended es place o is
fewer_ended ((k, Stands p) ∷ es) (suc place) o is =
    let more = fewer_ended es place o is in omega (arith, more)

pub many_changed : (es : List Entry) (place : ℕ) (o p : Stand) → want_of es place ≡ Some (Stands o)
    → length (shown (set_value_at es place (Stands p))) ≡ length (shown es)
many_changed [] place o p is = absurd (cc)
many_changed ((k, Ended) ∷ es) zero o p is = absurd (cc)
many_changed ((k, Stands q) ∷ es) zero o p is = refl
many_changed ((k, Ended) ∷ es) (suc place) o p is = many_changed es place o p is
many_changed ((k, Stands q) ∷ es) (suc place) o p is = ap suc (many_changed es place o p is)

-- one more at the end
pub shown_more : (es : List Entry) (text : List ℕ)
    → shown (es ++ (text, Stands (record { open_id = None; owed = false })) ∷ [])
    ≡ shown es ++ record { filter = text; open_id = None; owed = false } ∷ []
shown_more [] text = refl
shown_more ((k, Ended) ∷ es) text = shown_more es text
shown_more ((k, Stands p) ∷ es) text = ap (λ l. record { filter = k; open_id = p.open_id; owed = p.owed } ∷ l) (shown_more es text)

-- after a sweep
pub shown_swept : (es : List Entry) → shown (filter is_standing es) ≡ shown es
shown_swept [] = refl
shown_swept ((k, Ended) ∷ es) = shown_swept es
shown_swept ((k, Stands p) ∷ es) = ap (λ l. record { filter = k; open_id = p.open_id; owed = p.owed } ∷ l) (shown_swept es)

pub many_swept : (es : List Entry) → length (filter is_standing es) ≡ length (shown es)
many_swept [] = refl
many_swept ((k, Ended) ∷ es) = many_swept es
many_swept ((k, Stands p) ∷ es) = ap suc (many_swept es)

pub absent_swept : (es : List Entry) (text : List ℕ) → wants (shown es) text ≡ false
    → Absent text (filter is_standing es)
absent_swept [] text none = tt
absent_swept ((k, Ended) ∷ es) text none = absent_swept es text none
absent_swept ((k, Stands p) ∷ es) text none =
    let both = neither (bytes_eq text k) (wants (shown es) text) none in
    (both.0, absent_swept es text both.1)

-- the keys are apart
absent_from : (es : List Entry) (text : List ℕ) → AllByRecursion (λ y. bytes_eq text y ≡ false) (keys_of es)
    → Absent text es
absent_from [] text none = tt
absent_from (e ∷ es) text none = (none.0, absent_from es text none.1)

pub apart_from : (es : List Entry) → IsDistinct bytes_eq (keys_of es) → Apart es
unfolding IsDistinct
apart_from [] distinct = tt
apart_from (e ∷ es) distinct = (absent_from es e.0 distinct.0, apart_from es distinct.1)

-- none is wanted twice
pub once_shown : (es : List Entry) → Apart es → WantedOnce (shown es)
once_shown [] apart = tt
once_shown ((k, Ended) ∷ es) apart = once_shown es apart.1
once_shown ((k, Stands p) ∷ es) apart = (absent_wants es k apart.0, once_shown es apart.1)

-- where the filter is kept
absent_lookup : (es : List Entry) (text : List ℕ) → lookup (bytes_eq text) es ≡ None → Absent text es
absent_lookup [] text none = tt
absent_lookup (e ∷ es) text none = absent_by e es text (bytes_eq text e.0) refl none (absent_lookup es text)
  where
    absent_by : (e : Entry) (es : List Entry) (text : List ℕ) (here : Bool) → bytes_eq text e.0 ≡ here
        → cond here (Some e.1) (lookup (bytes_eq text) es) ≡ None
        → (lookup (bytes_eq text) es ≡ None → Absent text es) → (bytes_eq text e.0 ≡ false) × Absent text es
    absent_by e es text true is none later = absurd (cc)
    absent_by e es text false is none later = (is, later none)

some_text : (a b : List ℕ) → Some a ≡ Some b → a ≡ b
some_text a b is = cc

key_passes : (es : List Entry) (text key : List ℕ) → lookup_key (bytes_eq text) es ≡ Some key
    → bytes_eq text key ≡ true
key_passes [] text key found = absurd (cc)
key_passes (e ∷ es) text key found =
    passes_by e es text key (bytes_eq text e.0) refl found (key_passes es text key)
  where
    passes_by : (e : Entry) (es : List Entry) (text key : List ℕ) (here : Bool) → bytes_eq text e.0 ≡ here
        → cond here (Some e.0) (lookup_key (bytes_eq text) es) ≡ Some key
        → (lookup_key (bytes_eq text) es ≡ Some key → bytes_eq text key ≡ true) → bytes_eq text key ≡ true
    passes_by e es text key true is found later =
        let same : e.0 ≡ key = some_text e.0 key found in sym (ap (λ k. bytes_eq text k) same) ∙ is
    passes_by e es text key false is found later = later found

same_text : (a b : List ℕ) → bytes_eq a b ≡ true → a ≡ b
same_text a b is = (bytes_eq-Decides a b).0 is

differs_back : (a b : List ℕ) → bytes_eq a b ≡ false → bytes_eq b a ≡ false
differs_back a b unlike =
    false_from_ne_true (bytes_eq b a)
    (λ is. true≢false (sym ((bytes_eq-Decides a b).1 (sym (same_text b a is))) ∙ unlike))

absent_there : (es : List Entry) (k : List ℕ) (place : ℕ) (e : Entry) → Absent k es
    → slice_get es place ≡ Some e → bytes_eq k e.0 ≡ false
absent_there [] k place e none there = absurd (cc)
absent_there (d ∷ es) k zero e none there =
    let same : d ≡ e = same_entry d e there in sym (ap (λ (x : Entry). bytes_eq k x.0) same) ∙ none.0
  where
    same_entry : (d e : Entry) → Some d ≡ Some e → d ≡ e
    same_entry d e is = cc
absent_there (d ∷ es) k (suc place) e none there = absent_there es k place e none.1 there

alone_at : (es : List Entry) (text : List ℕ) (place : ℕ) (e : Entry) → Apart es → slice_get es place ≡ Some e
    → e.0 ≡ text → Alone es text place
alone_at [] text place e apart there is = absurd (cc)
alone_at (d ∷ es) text zero e apart there is =
    let same : d.0 ≡ text = ap (λ (x : Entry). x.0) (same_entry d e there) ∙ is in
    ((bytes_eq-Decides text d.0).1 (sym same), ap_absent es d.0 text same apart.0)
  where
    same_entry : (d e : Entry) → Some d ≡ Some e → d ≡ e
    same_entry d e is = cc

    ap_absent : (es : List Entry) (a b : List ℕ) → a ≡ b → Absent a es → Absent b es
    ap_absent es a b same none = rw (← same) none
alone_at (d ∷ es) text (suc place) e apart there is = (
  differs_back d.0 text (ap (λ k. bytes_eq d.0 k) (sym is) ∙ absent_there es d.0 place e apart.0 there),
  alone_at es text place e apart.1 there is,
)

pub place_none : (es : List Entry) (text : List ℕ) → None ≡ lookup (bytes_eq text) es → Absent text es
place_none es text none = absent_lookup es text (sym none)

pub place_some : (es : List Entry) (text key : List ℕ) (w : Want) (place : ℕ)
    → IsDistinct bytes_eq (keys_of es) → Some key ≡ lookup_key (bytes_eq text) es
    → slice_get es place ≡ Some (key, w)
    → Alone es text place
place_some es text key w place distinct found there =
    alone_at es text place (key, w) (apart_from es distinct) there
    (sym (same_text text key (key_passes es text key (sym found))))

pub there_within : (es : List Entry) (p : ℕ) (e : Entry) → slice_get es p ≡ Some e → p < length es
there_within [] p e there = absurd (cc)
there_within (d ∷ es) zero e there = omega arith
there_within (d ∷ es) (suc p) e there = let later = there_within es p e there in omega arith

-- what is left of entries that are apart is apart
apart_less : (xs : List Entry) (e : Entry) (es : List Entry) → Apart (xs ++ e ∷ es) → Apart (xs ++ es)
apart_less [] e es apart = apart.1
apart_less (x ∷ xs) e es apart = (absent_less x.0 xs e es apart.0, apart_less xs e es apart.1)
  where
    absent_less : (k : List ℕ) (xs : List Entry) (e : Entry) (es : List Entry) → Absent k (xs ++ e ∷ es)
        → Absent k (xs ++ es)
    absent_less k [] e es none = none.1
    absent_less k (x ∷ xs) e es none = (none.0, absent_less k xs e es none.1)

apart_front : (xs : List Entry) (e : Entry) (es : List Entry) → Apart (xs ++ e ∷ es) → Absent e.0 xs
apart_front [] e es apart = tt
apart_front (x ∷ xs) e es apart =
    (differs_back x.0 e.0 (absent_mid x.0 xs e es apart.0), apart_front xs e es apart.1)
  where
    absent_mid : (k : List ℕ) (xs : List Entry) (e : Entry) (es : List Entry) → Absent k (xs ++ e ∷ es)
        → bytes_eq k e.0 ≡ false
    absent_mid k [] e es none = none.0
    absent_mid k (x ∷ xs) e es none = absent_mid k xs e es none.1

-- a filter that is not kept yet goes last
pub insert_last : (es : List Entry) (text : List ℕ) (w : Want) → Absent text es
    → insert_entry bytes_eq es text w ≡ es ++ (text, w) ∷ []
insert_last [] text w none = refl
insert_last (e ∷ es) text w none = rw none.0 (ap (λ l. e ∷ l) (insert_last es text w none.1))

-- of the entries some were moved, and these are left
pub record Moved (all moved left : List Entry) : Type 0 where
  pub same : moved ++ filter is_standing left ≡ filter is_standing all
  pub apart : Apart (moved ++ left)

pub moved_first : (all : List Entry) → Apart all → Moved all [] all
moved_first all apart = record { same = refl; apart = apart }

pub moved_absent : (all moved left : List Entry) (e : Entry) → Moved all moved (e ∷ left) → Absent e.0 moved
moved_absent all moved left e before = apart_front moved e left before.apart

pub moved_more : (all moved left : List Entry) (k : List ℕ) (w : Want) → Moved all moved ((k, w) ∷ left)
    → Moved all (moved ++ filter is_standing ((k, w) ∷ [])) left
moved_more all moved left k Ended before =
    rw (append-nil moved) (record {
      same = before.same;
      apart = apart_less moved (k, Ended) left before.apart;
    })
moved_more all moved left k (Stands o) before =
    record {
      same = append_assoc moved ((k, Stands o) ∷ []) (filter is_standing left) ∙ before.same;
      apart = rw (append_assoc moved ((k, Stands o) ∷ []) left) before.apart;
    }

pub moved_few : (all moved left : List Entry) → Moved all moved left → length moved ≤ length (shown all)
moved_few all moved left before =
    let lengths = length-append moved (filter is_standing left) in
    let same = ap length before.same in
    let many = many_swept all in
    omega (arith, lengths, same, many)

pub moved_all : (all moved left : List Entry) → left ≡ [] → Moved all moved left
    → moved ≡ filter is_standing all
moved_all all moved left none before =
    sym (append-nil moved) ∙ ap (λ l. moved ++ filter is_standing l) (sym none) ∙ before.same

-- the texts of those that stand
abbrev pub texts_shown : List Entry → List (List ℕ)
texts_shown es = map (λ (w : Wanted). w.filter) (shown es)

pub texts_more : (all : List (List ℕ)) (copies : List (List ℕ)) (k : List ℕ) (w : Want) (es : List Entry)
    → copies ++ texts_shown ((k, w) ∷ es) ≡ all
    → (copies ++ texts_shown ((k, w) ∷ [])) ++ texts_shown es ≡ all
texts_more all copies k Ended es is = rw (append-nil copies) is
texts_more all copies k (Stands o) es is = append_assoc copies (k ∷ []) (texts_shown es) ∙ is

-- those that stand, of which one more is copied
pub copied_more : (all copies : List Wanted) (k : List ℕ) (w : Want) (es : List Entry)
    → copies ++ shown ((k, w) ∷ es) ≡ all → (copies ++ shown ((k, w) ∷ [])) ++ shown es ≡ all
copied_more all copies k Ended es is = rw (append-nil copies) is
copied_more all copies k (Stands o) es is =
    append_assoc copies (record { filter = k; open_id = o.open_id; owed = o.owed } ∷ []) (shown es) ∙ is

pub drop_all : (es : List Entry) → drop (length es) es ≡ []
drop_all [] = refl
drop_all (e ∷ es) = drop_all es

take_whole : (es : List Entry) → take (length es) es ≡ es
take_whole [] = refl
take_whole (e ∷ es) = ap (λ l. e ∷ l) (take_whole es)

pub take_all : (es : List Entry) → take (length es - 0) es ≡ es
take_all es = let whole : length es - 0 ≡ length es = omega arith in ap (λ n. take n es) whole ∙ take_whole es

-- what holds where it went well, it having gone well
pub on_ok : {A B : Type 0} (r : Result A B) (P : Type 0) → IsOk r → OnOk r P → P
on_ok (Ok x) P went there = there
on_ok (Err x) P went there = absurd (true≢false (sym went))
