-- What one packet id more or less in flight makes of the marks.
use Rattle.std.proofs.Common.{arith, ◌≡◌, ℕ, ◌<◌, ◌≤◌, nat_lt, length, Bool, true, false, ◌==◌, ◌||◌, not}
use Rattle.std.proofs.Common.{List, [], ◌∷◌, ◌++◌, set, filter, refl, sym, ◌∙◌, ap}
use Rattle.std.specs.Prelude.{Option, Some, None}
use Rattle.std.specs.Bool.{MatchBool}
use Rattle.std.proofs.lemmas.Bool.{ltb-true, ltb-false, eqb-false, ne_eqb, eq-eqb}
use Rattle.std.proofs.lemmas.List.{append_assoc, map-append, get_or_past}
use Rattle.sng_outbox.specs.PacketIds.{Numbering, is_id, is_used, is_marked, AreInUse}
use Rattle.sng_outbox.specs.Sending.{is_in_flight, without_first}
use Rattle.sng_outbox.specs.declared.in_flight.InFlight.{InFlight}
use Rattle.sng_outbox.proofs.MarkLemmas.{follow, undone}
use Rattle.sng_outbox.proofs.PlaceLemmas.{apart}
use Rattle.sng_link.specs.Flights.{ids_of, AreDistinct, AreMarked}
use Rattle.sng_link.specs.Steps.{forth_marks, back_marks}

pub neither : (a b : Bool) → (a || b) ≡ false → (a ≡ false) × (b ≡ false)
neither true b none = absurd (cc)
neither false b none = (refl, none)

-- two numbers differ whichever stands first
pub differs_back : (a b : ℕ) → (a == b) ≡ false → (b == a) ≡ false
differs_back a b unlike = ne_eqb b a (λ same. eqb-false a b unlike (sym same))

same_use : (a b : List ℕ) (marks : List Bool) → AreInUse a marks → ((id : ℕ) → is_used a id ≡ is_used b id)
    → AreInUse b marks
same_use a b marks used same = record { whole = used.whole; same = λ id. used.same id ∙ same id }

either : (a b c : Bool) → (a || (b || c)) ≡ (b || (a || c))
either true true c = refl
either true false c = refl
either false b c = refl

-- an id at the end is among them as at the front
at_end : (ids : List ℕ) (id other : ℕ) → is_used (id ∷ ids) other ≡ is_used (ids ++ id ∷ []) other
at_end [] id other = refl
at_end (used ∷ ids) id other =
    either (is_id other id) (is_id other used) (is_used ids other)
    ∙ ap (λ b. is_id other used || b) (at_end ids id other)

distinct_by : (ids : List ℕ) (used id : ℕ) → is_used ids used ≡ false → is_id id used ≡ false
    → is_used (ids ++ id ∷ []) used ≡ false
distinct_by ids used id apart unlike = sym (at_end ids id used) ∙ (rw (differs_back used id unlike) apart)

distinct_more : (ids : List ℕ) (id : ℕ) → AreDistinct ids → is_used ids id ≡ false
    → AreDistinct (ids ++ id ∷ [])
distinct_more [] id distinct free = (refl, tt)
distinct_more (used ∷ ids) id distinct free =
    let both = neither (is_id id used) (is_used ids id) free in
    (distinct_by ids used id distinct.0 both.0, distinct_more ids id distinct.1 both.1)

-- a free id is marked, and stands behind the others
pub one_more : (ids : List ℕ) (marks : List Bool) (id : ℕ) → id ≤ 65535 → AreMarked ids marks
    → is_used ids id ≡ false → AreMarked (ids ++ id ∷ []) (set marks id true)
one_more ids marks id small are free =
    let after = follow ids (record { marks = marks; last = id }) id small are.marked in
    record {
      marked = same_use (id ∷ ids) (ids ++ id ∷ []) (set marks id true) after.0 (at_end ids id);
      distinct = distinct_more ids id are.distinct free;
    }

-- what is not among ids with one more is not among the others, and is not the one
left_out : (before after : List ℕ) (id other : ℕ) → is_used (before ++ id ∷ after) other ≡ false
    → (is_id other id ≡ false) × (is_used (before ++ after) other ≡ false)
left_out [] after id other none = neither (is_id other id) (is_used after other) none
left_out (used ∷ before) after id other none =
    let both = neither (is_id other used) (is_used (before ++ id ∷ after) other) none in
    let later = left_out before after id other both.1 in
    (later.0, rw both.0 later.1)

pub distinct_less : (before after : List ℕ) (id : ℕ) → AreDistinct (before ++ id ∷ after)
    → (is_used (before ++ after) id ≡ false) × AreDistinct (before ++ after)
distinct_less [] after id distinct = distinct
distinct_less (used ∷ before) after id distinct =
    let here = left_out before after id used distinct.0 in
    let later = distinct_less before after id distinct.1 in
    (rw (differs_back id used here.0) later.0, (here.1, later.1))

-- all others stay
others_stay : (ids : List ℕ) (id : ℕ) → is_used ids id ≡ false
    → filter (λ used. not (is_id id used)) ids ≡ ids
others_stay [] id none = refl
others_stay (used ∷ ids) id none =
    let both = neither (is_id id used) (is_used ids id) none in
    rw both.0 (ap (λ l. used ∷ l) (others_stay ids id both.1))

one_leaves : (before after : List ℕ) (id : ℕ) → is_used (before ++ after) id ≡ false
    → filter (λ used. not (is_id id used)) (before ++ id ∷ after) ≡ before ++ after
one_leaves [] after id none = rw (eq-eqb id id refl) (others_stay after id none)
one_leaves (used ∷ before) after id none =
    let both = neither (is_id id used) (is_used (before ++ after) id) none in
    rw both.0 (ap (λ l. used ∷ l) (one_leaves before after id both.1))

pub among : (before after : List ℕ) (id : ℕ) → is_used (before ++ id ∷ after) id ≡ true
among [] after id = rw (eq-eqb id id refl) refl
among (used ∷ before) after id =
    elim (is_id id used) as (λ here. (here || is_used (before ++ id ∷ after) id) ≡ true)
    [ true ↦ refl | false ↦ among before after id ]

small_by : (marks : List Bool) (id : ℕ) (below : Bool) → nat_lt id 65536 ≡ below → length marks ≡ 65536
    → is_marked marks id ≡ true → id ≤ 65535
small_by marks id true is whole marked = let less : id < 65536 = ltb-true id 65536 is in omega arith
small_by marks id false is whole marked =
    let beyond : length marks ≤ id = let less : 65536 ≤ id = ltb-false id 65536 is in
    omega (arith, whole, less) in
    let unmarked : is_marked marks id ≡ false = get_or_past marks id false beyond in
    absurd (cc)

-- what is marked is a packet id
small_id : (before after : List ℕ) (marks : List Bool) (id : ℕ) → AreMarked (before ++ id ∷ after) marks
    → id ≤ 65535
small_id before after marks id are =
    small_by marks id (nat_lt id 65536) refl are.marked.whole (are.marked.same id ∙ among before after id)

-- an id is free again, and leaves its place
pub one_less : (before after : List ℕ) (marks : List Bool) (id : ℕ) → AreMarked (before ++ id ∷ after) marks
    → AreMarked (before ++ after) (set marks id false)
one_less before after marks id are =
    let all = before ++ id ∷ after in
    let rest = distinct_less before after id are.distinct in
    let left =
    follow all (record { marks = marks; last = id }) id (small_id before after marks id are) are.marked in
    record {
      marked = rw (one_leaves before after id rest.0) at left.1;
      distinct = rest.1;
    }

freed_by : (in_flight : List InFlight) (rest : List ℕ) (marks : List Bool) (id : ℕ) (found : Bool)
    → AreMarked (ids_of in_flight ++ rest) marks → found ≡ true
    → MatchBool found
    ((before : List InFlight) × (sent : InFlight) × (later : List InFlight)
    × (in_flight ≡ before ++ sent ∷ later) × (sent.packet_id ≡ id)
    × (is_in_flight before id ≡ false)
    × (without_first in_flight id ≡ before ++ later)) (without_first in_flight id ≡ in_flight)
    → AreMarked (ids_of (without_first in_flight id) ++ rest) (set marks id false)
freed_by in_flight rest marks id true are is there =
    let ids : ids_of in_flight ++ rest ≡ ids_of there.0 ++ there.1.packet_id ∷ (ids_of there.2 ++ rest) =
    ap (λ l. l ++ rest) (ap ids_of there.3
    ∙ map-append (λ (sent : InFlight). sent.packet_id) there.0 (there.1 ∷ there.2))
    ∙ append_assoc (ids_of there.0) (there.1.packet_id ∷ ids_of there.2) rest in
    let split = rw (ids, there.4) at are in
    let left : ids_of (without_first in_flight id) ++ rest ≡ ids_of there.0 ++ (ids_of there.2 ++ rest) =
    ap (λ l. l ++ rest) (ap ids_of there.6 ∙ map-append (λ (sent : InFlight). sent.packet_id) there.0 there.2)
    ∙ append_assoc (ids_of there.0) (ids_of there.2) rest in
    rw left (one_less (ids_of there.0) (ids_of there.2 ++ rest) marks id split)
freed_by in_flight rest marks id false are is there = absurd (cc)

-- a publish in flight ends, and its packet id is free
pub freed : (in_flight : List InFlight) (rest : List ℕ) (marks : List Bool) (id : ℕ)
    → AreMarked (ids_of in_flight ++ rest) marks → is_in_flight in_flight id ≡ true
    → AreMarked (ids_of (without_first in_flight id) ++ rest) (set marks id false)
freed in_flight rest marks id are found =
    freed_by in_flight rest marks id (is_in_flight in_flight id) are found (apart in_flight id)

kept_by : (in_flight : List InFlight) (id : ℕ) (found : Bool) → found ≡ false
    → MatchBool found
    ((before : List InFlight) × (sent : InFlight) × (later : List InFlight)
    × (in_flight ≡ before ++ sent ∷ later) × (sent.packet_id ≡ id)
    × (is_in_flight before id ≡ false)
    × (without_first in_flight id ≡ before ++ later)) (without_first in_flight id ≡ in_flight)
    → without_first in_flight id ≡ in_flight
kept_by in_flight id true is there = absurd (cc)
kept_by in_flight id false is there = there

-- where no publish is in flight with the id all stay
pub none_freed : (in_flight : List InFlight) (id : ℕ) → is_in_flight in_flight id ≡ false
    → without_first in_flight id ≡ in_flight
none_freed in_flight id none = kept_by in_flight id (is_in_flight in_flight id) none (apart in_flight id)

at_mid : (before after : List ℕ) (id other : ℕ)
    → is_used (id ∷ (before ++ after)) other ≡ is_used (before ++ id ∷ after) other
at_mid [] after id other = refl
at_mid (used ∷ before) after id other =
    either (is_id other id) (is_id other used) (is_used (before ++ after) other)
    ∙ ap (λ b. is_id other used || b) (at_mid before after id other)

distinct_mid : (before after : List ℕ) (id : ℕ) → AreDistinct (before ++ after)
    → is_used (before ++ after) id ≡ false → AreDistinct (before ++ id ∷ after)
distinct_mid [] after id distinct free = (free, distinct)
distinct_mid (used ∷ before) after id distinct free =
    let both = neither (is_id id used) (is_used (before ++ after) id) free in (
      sym (at_mid before after id used) ∙ (rw (differs_back used id both.0) distinct.0),
      distinct_mid before after id distinct.1 both.1,
    )

-- a free id is marked, and stands between the others
pub one_between : (before after : List ℕ) (marks : List Bool) (id : ℕ) → id ≤ 65535
    → AreMarked (before ++ after) marks → is_used (before ++ after) id ≡ false
    → AreMarked (before ++ id ∷ after) (set marks id true)
one_between before after marks id small are free =
    let now = follow (before ++ after) (record { marks = marks; last = id }) id small are.marked in
    record {
      marked =
          same_use (id ∷ (before ++ after)) (before ++ id ∷ after) (set marks id true) now.0
          (at_mid before after id);
      distinct = distinct_mid before after id are.distinct free;
    }

pub used_append : (a b : List ℕ) (id : ℕ) → is_used (a ++ b) id ≡ is_used a id || is_used b id
used_append [] b id = refl
used_append (used ∷ a) b id =
    ap (λ x. is_id id used || x) (used_append a b id)
    ∙ sym (or_assoc (is_id id used) (is_used a id) (is_used b id))
  where
    or_assoc : (x y z : Bool) → ((x || y) || z) ≡ (x || (y || z))
    or_assoc true y z = refl
    or_assoc false y z = refl

-- of ids that are free in both
pub unused_both : (a b : List ℕ) (id : ℕ) → is_used (a ++ b) id ≡ false
    → (is_used a id ≡ false) × (is_used b id ≡ false)
unused_both a b id free = neither (is_used a id) (is_used b id) (sym (used_append a b id) ∙ free)

pub or_true : (a : Bool) → (a || true) ≡ true
or_true true = refl
or_true false = refl

pub used_right : (a b : List ℕ) (id : ℕ) → is_used b id ≡ true → is_used (a ++ b) id ≡ true
used_right a b id used = used_append a b id ∙ ap (λ x. is_used a id || x) used ∙ or_true (is_used a id)

-- the former packet id is one of these
abbrev pub AmongThem : List ℕ → Option ℕ → Type 0
AmongThem ids None = Unit {0}
AmongThem ids (Some former) = is_used ids former ≡ true

-- a step that is taken back leaves the marks as they were
pub back_forth : (ids : List ℕ) (marks : List Bool) (next : ℕ) (former : Option ℕ) (owed : Bool)
    → next ≤ 65535 → AreInUse ids marks → is_used ids next ≡ false → AmongThem ids former
    → back_marks
    (forth_marks marks (record { packet_id = Some next; former = former; owed = owed; owes = None }))
    (record { packet_id = Some next; former = former; owed = owed; owes = None }) ≡ marks
back_forth ids marks next None owed small used free there =
    ap (λ (n : Numbering). n.marks) (undone ids (record { marks = marks; last = 0 }) next true used free)
back_forth ids marks next (Some former) owed small used free there =
    let more = follow ids (record { marks = marks; last = 0 }) next small used in
    let still : is_used (next ∷ ids) former ≡ true =
    ap (λ b. is_id former next || b) there ∙ or_true (is_id former next) in
    let first =
    ap (λ (n : Numbering). n.marks)
    (undone (next ∷ ids) (record { marks = set marks next true; last = 0 }) former false more.0
    still) in
    ap (λ l. set l next false) first
    ∙ ap (λ (n : Numbering). n.marks)
    (undone ids (record { marks = marks; last = 0 }) next true used free)
