-- The filters as they are kept: those that stand, and among them some that ended.
use Rattle.std.specs.Prelude.{ℕ, ◌≡◌, ◌≤◌, ◌<◌, ◌+◌, Bool, true, false, zero, suc, List, [], ◌∷◌, length, get_or}
use Rattle.std.specs.Prelude.{slice_get, Option, Some, None}
use Rattle.std.specs.Str.{bytes_eq}
use Rattle.std.specs.Option.{option_map}
use Rattle.sng_history.specs.Links.{Wanted, wants}
use Rattle.sng_wanted.specs.declared.want.Stand.{Stand}
use Rattle.sng_wanted.specs.declared.want.Want.{Want}
use Rattle.sng_wanted.specs.declared.want.Want.TheVariants.{Ended, Stands}

-- a filter, and what is kept of it
abbrev pub Entry : Type 0
Entry = List ℕ × Want

abbrev pub stands : Want → Bool
stands Ended = false
stands (Stands stand) = true

abbrev pub is_standing : Entry → Bool
is_standing e = stands e.1

-- the filter before the others, where it stands
abbrev pub shown_first : List ℕ → Want → List Wanted → List Wanted
shown_first text Ended wanted = wanted
shown_first text (Stands stand) wanted =
    record { filter = text; open_id = stand.open_id; owed = stand.owed } ∷ wanted

-- those that stand
abbrev pub shown : List Entry → List Wanted
shown [] = []
shown (e ∷ es) = shown_first e.0 e.1 (shown es)

abbrev pub open_in : Want → Option ℕ
open_in Ended = None
open_in (Stands stand) = stand.open_id

-- the packet id of the open SUBSCRIBE of an entry, where there is one
abbrev pub open_of : Option Entry → Option ℕ
open_of None = None
open_of (Some e) = open_in e.1

-- the open packet id at a place
abbrev pub open_at : List Entry → ℕ → Option ℕ
open_at es place = open_of (slice_get es place)

abbrev pub owed_in : Want → Bool
owed_in Ended = false
owed_in (Stands stand) = stand.owed

abbrev pub owed_of : Option Entry → Bool
owed_of None = false
owed_of (Some e) = owed_in e.1

-- a SUBSCRIBE of the filter at the place is owed
abbrev pub owed_at : List Entry → ℕ → Bool
owed_at es place = owed_of (slice_get es place)

-- none is owed before the place
abbrev pub NoneOwedBefore : List Entry → ℕ → Type 0
NoneOwedBefore es place = (p : ℕ) → p < place → owed_at es p ≡ false

-- no entry is of this filter
abbrev pub Absent : List ℕ → List Entry → Type 0
Absent text [] = Unit {0}
Absent text (e ∷ es) = (bytes_eq text e.0 ≡ false) × Absent text es

-- no filter has two entries
abbrev pub Apart : List Entry → Type 0
Apart [] = Unit {0}
Apart (e ∷ es) = Absent e.0 es × Apart es

-- the entry at this place is of this filter, and no other is
abbrev pub Alone : List Entry → List ℕ → ℕ → Type 0
Alone [] text place = ⊥
Alone (e ∷ es) text zero = (bytes_eq text e.0 ≡ true) × Absent text es
Alone (e ∷ es) text (suc place) = (bytes_eq text e.0 ≡ false) × Alone es text place

-- the filter that is kept at the place
abbrev pub filter_at : List Entry → ℕ → Option (List ℕ)
filter_at es place = option_map (λ e. e.0) (slice_get es place)

-- the place of the filter, where it has one
abbrev pub IsPlaceOf : List Entry → List ℕ → Option ℕ → Type 0
IsPlaceOf es text None = Absent text es
IsPlaceOf es text (Some place) = Alone es text place

-- what is kept at the place
abbrev pub want_of : List Entry → ℕ → Option Want
want_of es place = option_map (λ e. e.1) (slice_get es place)

-- the place of the filter that stands, and how it does
abbrev pub IsStandingAt : List Entry → List ℕ → Option (ℕ × Stand) → Type 0
IsStandingAt es text None = wants (shown es) text ≡ false
IsStandingAt es text (Some x) = Alone es text x.0 × (want_of es x.0 ≡ Some (Stands x.1))

-- no packet id is open for two
abbrev pub IsOpenOnce : List Entry → Type 0
IsOpenOnce es = (p q packet_id : ℕ) → open_at es p ≡ Some packet_id → open_at es q ≡ Some packet_id → p ≡ q

-- each open packet id leads to the place of its filter
pub record IsIndexed (es : List Entry) (places : List ℕ) : Type 0 where
  pub whole : length places ≡ 65536
  pub found : (place packet_id : ℕ) → open_at es place ≡ Some packet_id → get_or places packet_id 0 ≡ place

-- the place at which the packet id is open, where there is one
abbrev pub IsPlaceOpen : List Entry → ℕ → Option ℕ → Type 0
IsPlaceOpen es packet_id None = (place : ℕ) → open_at es place ≡ Some packet_id → ⊥
IsPlaceOpen es packet_id (Some place) = open_at es place ≡ Some packet_id

-- the map has room for so many entries in all, with no more memory; the two numbers are how many it has, and
-- how many more it takes
abbrev pub HasRoom : ℕ → ℕ → ℕ → Type 0
HasRoom room count spare = room ≤ count + spare
