-- Where the packet ids of the publishes in flight lead, and what a gap among them leaves.
use Rattle.std.proofs.Common.{◌≡◌, ℕ, zero, suc, ◌+◌, ◌<◌, ◌≤◌, ◌==◌, ◌||◌, Bool, true, false, true≢false}
use Rattle.std.proofs.Common.{List, [], ◌∷◌, ◌++◌, Option, Some, None, is_some, length, get_or, set, filter}
use Rattle.std.proofs.Common.{slice_get, take, nat_lt, cond, refl, sym, ap, ◌∙◌, arith}
use Rattle.std.proofs.lemmas.Bool.{eqb-true, eq-eqb, eqb-false, ltb-true, ltb-false, false_from_ne_true}
use Rattle.std.proofs.lemmas.List.{get_or-set_same, get_or-set_other, length-append, take_more}
use Rattle.std.proofs.Math.ListN.{length-set}
use Rattle.sng_outbox.specs.declared.in_flight.InFlight.{InFlight}
use Rattle.sng_outbox.specs.Flights.{Tracked, sent_in, flight_at, id_in, id_at, IsOnce, IsIndexed}
use Rattle.sng_outbox.specs.Sending.{has_id, is_in_flight, without_first}

abbrev Slots : Type 0
Slots = List (Option InFlight)

some_is : (a b : ℕ) → Some a ≡ Some b → a ≡ b
some_is a b same = cc

none_some : (id : ℕ) → None ≡ Some id → ⊥
none_some id absent = cc

-- the view of the publishes in flight, part by part
abbrev pub tracked : List InFlight → ℕ → Tracked
tracked sent slots = record { sent = sent; slots = slots }

pub tracked-same : (a b : List InFlight) (n m : ℕ) → a ≡ b → n ≡ m → tracked a n ≡ tracked b m
tracked-same a b n m sent slots = rw (sent, slots) refl

-- a gap at a place
gap_same : (slots : Slots) (place : ℕ) → id_at (set slots place None) place ≡ None
gap_same [] place = refl
gap_same (s ∷ slots) zero = refl
gap_same (s ∷ slots) (suc place) = gap_same slots place

gap_other : (slots : Slots) (place p : ℕ) → (p ≡ place → ⊥) → id_at (set slots place None) p ≡ id_at slots p
gap_other [] place p differs = refl
gap_other (s ∷ slots) zero zero differs = absurd (differs refl)
gap_other (s ∷ slots) zero (suc p) differs = refl
gap_other (s ∷ slots) (suc place) zero differs = refl
gap_other (s ∷ slots) (suc place) (suc p) differs = gap_other slots place p (λ same. differs (ap suc same))

gap_by : (slots : Slots) (places : List ℕ) (place p id : ℕ) (here : Bool) → (p == place) ≡ here
    → IsIndexed slots places → id_at (set slots place None) p ≡ Some id → get_or places id 0 ≡ p
gap_by slots places place p id true is indexed there =
    let at : p ≡ place = eqb-true p place is in
    absurd (none_some id (sym (gap_same slots place) ∙ ap (λ q. id_at (set slots place None) q) (sym at) ∙ there))
gap_by slots places place p id false is indexed there =
    indexed.found p id (sym (gap_other slots place p (eqb-false p place is)) ∙ there)

pub indexed_gap : (slots : Slots) (places : List ℕ) (place : ℕ) → IsIndexed slots places
    → IsIndexed (set slots place None) places
indexed_gap slots places place indexed = record {
  whole = indexed.whole;
  found = λ p id there. gap_by slots places place p id (p == place) refl indexed there;
}

pub indexed_none : (slots : Slots) (places : List ℕ) → slots ≡ [] → length places ≡ 65536
    → IsIndexed slots places
indexed_none slots places is whole = record {
  whole = whole;
  found = λ p id there. absurd (none_some id (sym (ap (λ (l : Slots). id_at l p) is) ∙ there));
}

-- one more at the end
more_before : (slots : Slots) (s : Option InFlight) (p : ℕ) → p < length slots
    → id_at (slots ++ s ∷ []) p ≡ id_at slots p
more_before [] s p within = absurd (omega arith)
more_before (t ∷ slots) s zero within = refl
more_before (t ∷ slots) s (suc p) within = more_before slots s p (omega arith)

more_at : (slots : Slots) (s : Option InFlight) → id_at (slots ++ s ∷ []) (length slots) ≡ id_in s
more_at [] s = refl
more_at (t ∷ slots) s = more_at slots s

more_beyond : (slots : Slots) (s : Option InFlight) (p : ℕ) → length slots < p
    → id_at (slots ++ s ∷ []) p ≡ None
more_beyond [] s zero beyond = absurd (omega arith)
more_beyond [] s (suc p) beyond = refl
more_beyond (t ∷ slots) s zero beyond = absurd (omega arith)
more_beyond (t ∷ slots) s (suc p) beyond = more_beyond slots s p (omega arith)

-- what is at a place is in flight
pub any_sent : (slots : Slots) (p id : ℕ) → id_at slots p ≡ Some id → is_in_flight (sent_in slots) id ≡ true
any_sent [] p id there = absurd (none_some id there)
any_sent (None ∷ slots) zero id there = absurd (none_some id there)
any_sent (Some s ∷ slots) zero id there =
    let here : has_id id s ≡ true = eq-eqb s.packet_id id (some_is s.packet_id id there) in
    rw here refl
any_sent (None ∷ slots) (suc p) id there = any_sent slots p id there
any_sent (Some s ∷ slots) (suc p) id there =
    let later : is_in_flight (sent_in slots) id ≡ true = any_sent slots p id there in
    elim (has_id id s) as (λ b. (b || is_in_flight (sent_in slots) id) ≡ true)
    [ true ↦ refl | false ↦ later ]

pub indexed_more : (slots : Slots) (places : List ℕ) (s : InFlight) → s.packet_id ≤ 65535
    → is_in_flight (sent_in slots) s.packet_id ≡ false → IsIndexed slots places
    → IsIndexed (slots ++ Some s ∷ []) (set places s.packet_id (length slots))
indexed_more slots places s small fresh indexed = record {
  whole = length-set places s.packet_id (length slots) ∙ indexed.whole;
  found = λ p other there. more_by p other (p == length slots) (nat_lt p (length slots)) refl refl there;
}
  where
    more_by : (p other : ℕ) (last low : Bool) → (p == length slots) ≡ last → nat_lt p (length slots) ≡ low
        → id_at (slots ++ Some s ∷ []) p ≡ Some other
        → get_or (set places s.packet_id (length slots)) other 0 ≡ p
    more_by p other true low is low_is there =
        let at : p ≡ length slots = eqb-true p (length slots) is in
        let same : s.packet_id ≡ other =
        some_is s.packet_id other
        (sym (more_at slots (Some s)) ∙ ap (λ q. id_at (slots ++ Some s ∷ []) q) (sym at) ∙ there) in
        rw (← same)
        (get_or-set_same places s.packet_id (length slots) 0 (omega (arith, indexed.whole)) ∙ sym at)
    more_by p other false true is low_is there =
        let before : id_at slots p ≡ Some other =
        sym (more_before slots (Some s) p (ltb-true p (length slots) low_is)) ∙ there in
        let differs : other ≡ s.packet_id → ⊥ =
        λ same. true≢false (sym (any_sent slots p s.packet_id (before ∙ ap Some same)) ∙ fresh) in
        get_or-set_other places s.packet_id other (length slots) 0 differs ∙ indexed.found p other before
    more_by p other false false is low_is there =
        let above : length slots ≤ p = ltb-false p (length slots) low_is in
        let unlike : p ≡ length slots → ⊥ = eqb-false p (length slots) is in
        absurd (none_some other (sym (more_beyond slots (Some s) p (omega arith)) ∙ there))

pub sent_more : (slots : Slots) (s : InFlight) → sent_in (slots ++ Some s ∷ []) ≡ sent_in slots ++ s ∷ []
sent_more [] s = refl
sent_more (None ∷ slots) s = sent_more slots s
sent_more (Some t ∷ slots) s = ap (λ l. t ∷ l) (sent_more slots s)

-- each packet id is at one place alone
pub once : (slots : Slots) (places : List ℕ) → IsIndexed slots places → IsOnce slots
once slots places indexed p q id first second = sym (indexed.found p id first) ∙ indexed.found q id second

abbrev pub Only : Slots → ℕ → ℕ → Type 0
Only slots id p = (q : ℕ) → id_at slots q ≡ Some id → q ≡ p

pub only_there : (slots : Slots) (places : List ℕ) (p id : ℕ) → IsIndexed slots places
    → id_at slots p ≡ Some id → Only slots id p
only_there slots places p id indexed at q there = sym (indexed.found q id there) ∙ indexed.found p id at

-- the packet id is nowhere
abbrev pub Nowhere : Slots → ℕ → Type 0
Nowhere slots id = (q : ℕ) → id_at slots q ≡ Some id → ⊥

has_other : (s : InFlight) (slots : Slots) (id : ℕ) → Nowhere (Some s ∷ slots) id → has_id id s ≡ false
has_other s slots id none =
    false_from_ne_true (has_id id s) (λ is. none zero (ap Some (eqb-true s.packet_id id is)))

pub none_sent : (slots : Slots) (id : ℕ) → Nowhere slots id → is_in_flight (sent_in slots) id ≡ false
none_sent [] id none = refl
none_sent (None ∷ slots) id none = none_sent slots id (λ q. none (suc q))
none_sent (Some s ∷ slots) id none = rw (has_other s slots id none) (none_sent slots id (λ q. none (suc q)))

pub none_left : (slots : Slots) (id : ℕ) → Nowhere slots id → without_first (sent_in slots) id ≡ sent_in slots
none_left [] id none = refl
none_left (None ∷ slots) id none = none_left slots id (λ q. none (suc q))
none_left (Some s ∷ slots) id none =
    rw (has_other s slots id none) (ap (λ l. s ∷ l) (none_left slots id (λ q. none (suc q))))

later_only : (s : Option InFlight) (slots : Slots) (p id : ℕ) → Only (s ∷ slots) id (suc p) → Only slots id p
later_only s slots p id only q at = let more : suc q ≡ suc p = only (suc q) at in omega arith

not_first : (s : InFlight) (slots : Slots) (p id : ℕ) → Only (Some s ∷ slots) id (suc p) → has_id id s ≡ false
not_first s slots p id only =
    false_from_ne_true (has_id id s)
    (λ is. let first : zero ≡ suc p = only zero (ap Some (eqb-true s.packet_id id is)) in omega arith)

-- the publish with the packet id leaves, and no other
pub sent_gap : (slots : Slots) (p id : ℕ) → id_at slots p ≡ Some id → Only slots id p
    → sent_in (set slots p None) ≡ without_first (sent_in slots) id
sent_gap [] p id there only = absurd (none_some id there)
sent_gap (None ∷ slots) zero id there only = absurd (none_some id there)
sent_gap (Some s ∷ slots) zero id there only =
    let here : has_id id s ≡ true = eq-eqb s.packet_id id (some_is s.packet_id id there) in
    rw here refl
sent_gap (None ∷ slots) (suc p) id there only = sent_gap slots p id there (later_only None slots p id only)
sent_gap (Some s ∷ slots) (suc p) id there only =
    rw (not_first s slots p id only)
    (ap (λ l. s ∷ l) (sent_gap slots p id there (later_only (Some s) slots p id only)))

pub fewer : (slots : Slots) (p id : ℕ) → id_at slots p ≡ Some id
    → length (sent_in slots) ≡ length (sent_in (set slots p None)) + 1
fewer [] p id there = absurd (none_some id there)
fewer (None ∷ slots) zero id there = absurd (none_some id there)
fewer (Some s ∷ slots) zero id there = omega arith
fewer (None ∷ slots) (suc p) id there = fewer slots p id there
fewer (Some s ∷ slots) (suc p) id there = let more = fewer slots p id there in omega (arith, more)

pub within : (slots : Slots) (p id : ℕ) → id_at slots p ≡ Some id → p < length slots
within [] p id there = absurd (none_some id there)
within (s ∷ slots) zero id there = omega arith
within (s ∷ slots) (suc p) id there = let later = within slots p id there in omega arith

-- without the gaps
pub sent_swept : (slots : Slots) → sent_in (filter is_some slots) ≡ sent_in slots
sent_swept [] = refl
sent_swept (None ∷ slots) = sent_swept slots
sent_swept (Some s ∷ slots) = ap (λ l. s ∷ l) (sent_swept slots)

pub many_swept : (slots : Slots) → length (filter is_some slots) ≡ length (sent_in slots)
many_swept [] = refl
many_swept (None ∷ slots) = many_swept slots
many_swept (Some s ∷ slots) = ap suc (many_swept slots)

-- what is left was there
kept_from : (keep : Option InFlight → Bool) (slots : Slots) (q id : ℕ)
    → id_at (filter keep slots) q ≡ Some id → (p : ℕ) × (id_at slots p ≡ Some id)
kept_from keep [] q id = λ there. (q, there)
kept_from keep (s ∷ slots) q id = kept_by keep s slots q id (keep s) (λ p. kept_from keep slots p id)
  where
    kept_by : (keep : Option InFlight → Bool) (s : Option InFlight) (slots : Slots) (q id : ℕ) (here : Bool)
        → ((p : ℕ) → id_at (filter keep slots) p ≡ Some id → (p' : ℕ) × (id_at slots p' ≡ Some id))
        → id_at (cond here (s ∷ filter keep slots) (filter keep slots)) q ≡ Some id
        → (p : ℕ) × (id_at (s ∷ slots) p ≡ Some id)
    kept_by keep s slots zero id true later there = (zero, there)
    kept_by keep s slots (suc q) id true later there = let found = later q there in (suc found.0, found.1)
    kept_by keep s slots q id false later there = let found = later q there in (suc found.0, found.1)

first_kept : (keep : Option InFlight → Bool) (s : Option InFlight) (slots : Slots) (q id : ℕ)
    → IsOnce (s ∷ slots) → id_in s ≡ Some id → id_at (filter keep slots) q ≡ Some id → ⊥
first_kept keep s slots q id once now there =
    let found = kept_from keep slots q id there in
    let first : zero ≡ suc found.0 = once zero (suc found.0) id now found.1 in omega arith

tail_once : (s : Option InFlight) (slots : Slots) → IsOnce (s ∷ slots) → IsOnce slots
tail_once s slots once p q id first second =
    let more : suc p ≡ suc q = once (suc p) (suc q) id first second in omega arith

once_by : (keep : Option InFlight → Bool) (s : Option InFlight) (slots : Slots) (here : Bool)
    → IsOnce (s ∷ slots) → IsOnce (filter keep slots)
    → IsOnce (cond here (s ∷ filter keep slots) (filter keep slots))
once_by keep s slots false all later p q id first second = later p q id first second
once_by keep s slots true all later zero zero id first second = refl
once_by keep s slots true all later zero (suc q) id first second =
    absurd (first_kept keep s slots q id all first second)
once_by keep s slots true all later (suc p) zero id first second =
    absurd (first_kept keep s slots p id all second first)
once_by keep s slots true all later (suc p) (suc q) id first second = ap suc (later p q id first second)

pub once_kept : (keep : Option InFlight → Bool) (slots : Slots) → IsOnce slots → IsOnce (filter keep slots)
once_kept keep [] all = all
once_kept keep (s ∷ slots) all = once_by keep s slots (keep s) all (once_kept keep slots (tail_once s slots all))

-- the places of so many are noted
pub record Noted (slots : Slots) (places : List ℕ) (count : ℕ) : Type 0 where
  pub whole : length places ≡ 65536
  pub found : (p id : ℕ) → p < count → id_at slots p ≡ Some id → get_or places id 0 ≡ p

pub noted_none : (slots : Slots) (places : List ℕ) → length places ≡ 65536 → Noted slots places 0
noted_none slots places whole =
    record { whole = whole; found = λ p id below there. absurd (omega arith) }

pub noted_past : (slots : Slots) (places : List ℕ) (count : ℕ) → id_at slots count ≡ None
    → Noted slots places count → Noted slots places (count + 1)
noted_past slots places count absent noted =
    record { whole = noted.whole; found = λ p id below there. past_by p id (p == count) refl below there }
  where
    past_by : (p id : ℕ) (here : Bool) → (p == count) ≡ here → p < count + 1 → id_at slots p ≡ Some id
        → get_or places id 0 ≡ p
    past_by p id true is below there =
        let at : p ≡ count = eqb-true p count is in
        absurd (none_some id (sym absent ∙ ap (λ q. id_at slots q) (sym at) ∙ there))
    past_by p id false is below there =
        let other : p ≡ count → ⊥ = eqb-false p count is in noted.found p id (omega arith) there

pub noted_more : (slots : Slots) (places : List ℕ) (count id : ℕ) → IsOnce slots → id ≤ 65535
    → id_at slots count ≡ Some id → Noted slots places count → Noted slots (set places id count) (count + 1)
noted_more slots places count id once small here noted = record {
  whole = length-set places id count ∙ noted.whole;
  found = λ p other below there. more_by p other (p == count) refl below there;
}
  where
    more_by : (p other : ℕ) (at_end : Bool) → (p == count) ≡ at_end → p < count + 1
        → id_at slots p ≡ Some other → get_or (set places id count) other 0 ≡ p
    more_by p other true is below there =
        let at : p ≡ count = eqb-true p count is in
        let same : id ≡ other = some_is id other (sym here ∙ ap (λ q. id_at slots q) (sym at) ∙ there) in
        rw (← same) (get_or-set_same places id count 0 (omega (arith, noted.whole)) ∙ sym at)
    more_by p other false is below there =
        let unlike : p ≡ count → ⊥ = eqb-false p count is in
        let differs : other ≡ id → ⊥ = λ same. unlike (once p count id (there ∙ ap Some same) here) in
        get_or-set_other places id other count 0 differs ∙ noted.found p other (omega arith) there

past_end : (slots : Slots) (p : ℕ) → length slots ≤ p → id_at slots p ≡ None
past_end [] p beyond = refl
past_end (s ∷ slots) zero beyond = absurd (omega arith)
past_end (s ∷ slots) (suc p) beyond = past_end slots p (omega arith)

pub noted_all : (slots : Slots) (places : List ℕ) (count : ℕ) → length slots ≤ count
    → Noted slots places count → IsIndexed slots places
noted_all slots places count all noted =
    record { whole = noted.whole; found = λ p id there. all_by p id (nat_lt p count) refl there }
  where
    all_by : (p id : ℕ) (below : Bool) → nat_lt p count ≡ below → id_at slots p ≡ Some id
        → get_or places id 0 ≡ p
    all_by p id true is there = noted.found p id (ltb-true p count is) there
    all_by p id false is there =
        let above : count ≤ p = ltb-false p count is in
        absurd (none_some id (sym (past_end slots p (omega arith)) ∙ there))

-- no more are in flight than there are slots, and where there are no gaps each slot has one
pub few_sent : (slots : Slots) → length (sent_in slots) ≤ length slots
few_sent [] = omega arith
few_sent (None ∷ slots) = let few = few_sent slots in omega (arith, few)
few_sent (Some s ∷ slots) = let few = few_sent slots in omega (arith, few)

pub full_at : (slots : Slots) (p : ℕ) → length slots ≤ length (sent_in slots)
    → flight_at slots p ≡ slice_get (sent_in slots) p
full_at [] p full = refl
full_at (None ∷ slots) p full = let few = few_sent slots in absurd (omega (arith, few))
full_at (Some s ∷ slots) zero full = refl
full_at (Some s ∷ slots) (suc p) full = full_at slots p (omega arith)

-- a walk over the slots
sent_append : (xs ys : Slots) → sent_in (xs ++ ys) ≡ sent_in xs ++ sent_in ys
sent_append [] ys = refl
sent_append (None ∷ xs) ys = sent_append xs ys
sent_append (Some s ∷ xs) ys = ap (λ l. s ∷ l) (sent_append xs ys)

pub sent_take : (slots : Slots) (i : ℕ) (s : Option InFlight) → i < length slots → s ≡ get_or slots i s
    → sent_in (take (i + 1) slots) ≡ sent_in (take i slots) ++ sent_in (s ∷ [])
sent_take slots i s below is =
    ap sent_in (take_more slots i s below ∙ ap (λ x. take i slots ++ x ∷ []) (sym is))
    ∙ sent_append (take i slots) (s ∷ [])

pub walked_gap : (slots : Slots) (i : ℕ) (s : Option InFlight) → i < length slots → s ≡ get_or slots i s
    → s ≡ None → length (sent_in (take (i + 1) slots)) ≡ length (sent_in (take i slots))
walked_gap slots i s below is none =
    let more = ap length (sent_take slots i s below is) in
    let longer = length-append (sent_in (take i slots)) (sent_in (s ∷ [])) in
    let nobody : length (sent_in (s ∷ [])) ≡ 0 = rw none refl in
    omega (arith, more, longer, nobody)

pub walked_more : (slots : Slots) (i : ℕ) (s : Option InFlight) (sent : InFlight) → i < length slots
    → s ≡ get_or slots i s → s ≡ Some sent
    → length (sent_in (take (i + 1) slots)) ≡ length (sent_in (take i slots)) + 1
walked_more slots i s sent below is some =
    let more = ap length (sent_take slots i s below is) in
    let longer = length-append (sent_in (take i slots)) (sent_in (s ∷ [])) in
    let one : length (sent_in (s ∷ [])) ≡ 1 = rw some refl in
    omega (arith, more, longer, one)

found_by : (slots : Slots) (i : ℕ) (d : Option InFlight) (sent : InFlight) → i < length slots
    → get_or slots i d ≡ Some sent
    → slice_get (sent_in slots) (length (sent_in (take i slots))) ≡ Some sent
found_by [] i d sent below is = absurd (omega arith)
found_by (s ∷ slots) zero d sent below is = rw is refl
found_by (None ∷ slots) (suc i) d sent below is = found_by slots i d sent (omega arith) is
found_by (Some s ∷ slots) (suc i) d sent below is = found_by slots i d sent (omega arith) is

pub walk_found : (slots : Slots) (i place : ℕ) (s : Option InFlight) (sent : InFlight) → i < length slots
    → s ≡ get_or slots i s → s ≡ Some sent → length (sent_in (take i slots)) ≡ place
    → slice_get (sent_in slots) place ≡ Some sent
walk_found slots i place s sent below is some at =
    ap (λ p. slice_get (sent_in slots) p) (sym at) ∙ found_by slots i s sent below (sym is ∙ some)

sent_beyond : (sent : List InFlight) (p : ℕ) → length sent ≤ p → slice_get sent p ≡ None
sent_beyond [] p beyond = refl
sent_beyond (s ∷ sent) zero beyond = absurd (omega arith)
sent_beyond (s ∷ sent) (suc p) beyond = sent_beyond sent p (omega arith)

pub take_whole : (slots : Slots) (i : ℕ) → length slots ≤ i → sent_in (take i slots) ≡ sent_in slots
take_whole [] zero all = refl
take_whole [] (suc i) all = refl
take_whole (s ∷ slots) zero all = absurd (omega arith)
take_whole (None ∷ slots) (suc i) all = take_whole slots i (omega arith)
take_whole (Some s ∷ slots) (suc i) all = ap (λ l. s ∷ l) (take_whole slots i (omega arith))

pub walk_ended : (slots : Slots) (i before place : ℕ) → length slots ≤ i
    → before + length (sent_in (take i slots)) ≡ place → slice_get (sent_in slots) place ≡ None
walk_ended slots i before place all at =
    let whole = ap length (take_whole slots i all) in
    sent_beyond (sent_in slots) place (omega (arith, whole, at))
