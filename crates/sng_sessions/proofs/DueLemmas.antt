-- Before the times of the blocks nothing is due, as clients change.
use Rattle.std.proofs.Common.{◌≡◌, ℕ, zero, suc, ◌/◌, ◌<◌, ◌≤◌, arith, Bool, true, false, List, [], ◌∷◌, ◌++◌, map}
use Rattle.std.proofs.Common.{Some, None, slice_get, unwrap_or, is_some, length, get_or, refl, sym, ap, ◌∙◌, subst}
use Rattle.std.proofs.Common.{true≢false, append-nil, nat_lt, eqb, set, ◌+◌}
use Rattle.std.proofs.lemmas.Bool.{ltb-true, ltb-false, eqb-true, eqb-false}
use Rattle.std.proofs.lemmas.Grind.{get_or-set_at}
use Rattle.std.proofs.lemmas.List.{get_or-set_other}
use Rattle.std.specs.Str.{bytes_eq}
use Rattle.sng_book.specs.declared.address.Address.{Address}
use Rattle.sng_frames.specs.declared.messages.connect.Connect.{Connect}
use Rattle.sng_history.specs.Clients.{Client, is_here, let_in, blank}
use Rattle.sng_history.specs.Entering.{entering, entering_first, entered}
use Rattle.sng_history.specs.State.{is_known}
use Rattle.sng_sessions.specs.declared.dues.TheConstants.{BLOCK}
use Rattle.sng_sessions.specs.declared.session.Session.{Session}
use Rattle.sng_sessions.specs.Dues.{is_due, time_at, Waits, WaitsBeside}
use Rattle.sng_sessions.specs.Places.{client_of, clients_of, holds_at, is_place, moved_at}
use Rattle.sng_sessions.proofs.Looks.{is_place-self, is_place-same}
use Rattle.sng_sessions.proofs.Moves.{holds_at-other, known-at}

-- a client that moves leaves all others alone
pub beside-moved : (times : List ℕ) (f : Client → Client) (xs ys : List Client) (at : ℕ)
    → ys ≡ moved_at at f xs → WaitsBeside at times xs → WaitsBeside at times ys
beside-moved times f xs ys at moved beside place clock other before =
    ap (λ zs. holds_at (is_due clock) zs place) moved ∙ holds_at-other (is_due clock) f xs at place other
    ∙ beside place clock other before

pub waits-moved : (times : List ℕ) (f : Client → Client) (xs ys : List Client) (at : ℕ)
    → ys ≡ moved_at at f xs → Waits times xs → WaitsBeside at times ys
waits-moved times f xs ys at moved waits =
    beside-moved times f xs ys at moved (λ place clock other before. waits place clock before)

-- once its own block is no later than what is due with it, it is as the others are
pub waits-noted : (times after : List ℕ) (xs : List Client) (at : ℕ) → WaitsBeside at times xs
    → ((block : ℕ) → get_or after block 0 ≤ get_or times block 0)
    → ((clock : ℕ) → clock < time_at after at → holds_at (is_due clock) xs at ≡ false)
    → Waits after xs
waits-noted times after xs at beside lowered own place clock before = by (is_place at place) refl
  where
    by : (same : Bool) → is_place at place ≡ same → holds_at (is_due clock) xs place ≡ false
    by true same =
        let one : at ≡ place = is_place-same at place same in
        subst (λ p. holds_at (is_due clock) xs p ≡ false) one
        (own clock (subst (λ p. clock < time_at after p) (sym one) before))
    by false other = beside place clock other (omega (arith, before, lowered (place / BLOCK)))

-- times that say the same
pub waits-same : (times after : List ℕ) (xs : List Client)
    → ((block : ℕ) → get_or after block 0 ≡ get_or times block 0) → Waits times xs → Waits after xs
waits-same times after xs same waits place clock before =
    waits place clock (subst (λ time. clock < time) (same (place / BLOCK)) before)

-- what a test says of the client of an entry
holds-there : (test : Client → Bool) (entries : List (List ℕ × Session)) (place : ℕ)
    (entry : List ℕ × Session) → slice_get entries place ≡ Some entry
    → holds_at test (clients_of entries) place ≡ test (client_of entry)
holds-there test [] place entry found = absurd (true≢false (sym (ap is_some found)))
holds-there test (first ∷ entries) zero entry found = ap (λ o. test (client_of (unwrap_or o first))) found
holds-there test (first ∷ entries) (suc place) entry found = holds-there test entries place entry found

-- where it fails of a session, whatever its id
pub holds-not : (test : Client → Bool) (entries : List (List ℕ × Session)) (place : ℕ)
    (entry : List ℕ × Session) → slice_get entries place ≡ Some entry
    → ((id : List ℕ) → test (client_of (id, entry.1)) ≡ false)
    → holds_at test (clients_of entries) place ≡ false
holds-not test entries place entry found not = holds-there test entries place entry found ∙ not entry.0

pub holds-none : (test : Client → Bool) (entries : List (List ℕ × Session)) (place : ℕ)
    → slice_get entries place ≡ None → holds_at test (clients_of entries) place ≡ false
holds-none test [] place none = refl
holds-none test (first ∷ entries) zero none = absurd (true≢false (ap is_some none))
holds-none test (first ∷ entries) (suc place) none = holds-none test entries place none

pub holds-past : (test : Client → Bool) (entries : List (List ℕ × Session)) (place : ℕ)
    → length entries ≤ place → holds_at test (clients_of entries) place ≡ false
holds-past test [] place past = refl
holds-past test (first ∷ entries) zero past = absurd (omega (arith, past))
holds-past test (first ∷ entries) (suc place) past = holds-past test entries place (omega (arith, past))

-- the time of one block is anew
pub waits_renewed : (times : List ℕ) (xs : List Client) (block due : ℕ) → block < length times → Waits times xs
    → ((place clock : ℕ) → place / BLOCK ≡ block → clock < due → holds_at (is_due clock) xs place ≡ false)
    → Waits (set times block due) xs
waits_renewed times xs block due within waits quiet place clock before = by (eqb (place / BLOCK) block) refl
  where
    by : (b : Bool) → eqb (place / BLOCK) block ≡ b → holds_at (is_due clock) xs place ≡ false
    by true is =
        let same = eqb-true (place / BLOCK) block is in
        quiet place clock same
        (subst (λ time. clock < time) (get_or-set_at times block (place / BLOCK) due 0 same within) before)
    by false is =
        waits place clock
        (subst (λ time. clock < time)
        (get_or-set_other times block (place / BLOCK) due 0 (eqb-false (place / BLOCK) block is)) before)

-- up to the next block it is as at the place
pub quiet_on : (times : List ℕ) (clock place next later : ℕ)
    → ((other : ℕ) → place ≤ other → other < next → clock < time_at times other)
    → clock < time_at times next
    → ((other : ℕ) → next ≤ other → other < later → other / BLOCK ≡ next / BLOCK)
    → (other : ℕ) → place ≤ other → other < later → clock < time_at times other
quiet_on times clock place next later before here same other from within = by (nat_lt other next) refl
  where
    by : (b : Bool) → nat_lt other next ≡ b → clock < time_at times other
    by true is = before other from (ltb-true other next is)
    by false is =
        subst (λ block. clock < get_or times block 0) (sym (same other (ltb-false other next is) within)) here

-- one place more
pub quiet_with : (xs : List Client) (first next time now : ℕ)
    → ((place clock : ℕ) → first ≤ place → place < next → clock < time
    → holds_at (is_due clock) xs place ≡ false)
    → now ≤ time → ((clock : ℕ) → clock < now → holds_at (is_due clock) xs next ≡ false)
    → (place clock : ℕ) → first ≤ place → place < next + 1 → clock < now
    → holds_at (is_due clock) xs place ≡ false
quiet_with xs first next time now before less here place clock from within early =
    by (nat_lt place next) refl
  where
    by : (b : Bool) → nat_lt place next ≡ b → holds_at (is_due clock) xs place ≡ false
    by true is = before place clock from (ltb-true place next is) (omega (arith, less, early))
    by false is =
        let past = ltb-false place next is in
        let last : next ≡ place = omega (arith, past, within) in
        subst (λ p. holds_at (is_due clock) xs p ≡ false) last (here clock early)

-- ---- a CONNECT

-- with whoever leaves nothing is due
entering_other : (now : ℕ) (from : Address) (connect : Connect) (clock : ℕ) (x : Client)
    → bytes_eq connect.client_id x.id ≡ false → is_due clock x ≡ false
    → is_due clock (entering now from connect x) ≡ false
entering_other now from connect clock x other quiet = by (is_here x from) refl
  where
    by : (here : Bool) → is_here x from ≡ here → is_due clock (entering now from connect x) ≡ false
    by true is = rw (other, is) refl
    by false is = rw (other, is) quiet

entering_quiet : (now : ℕ) (from : Address) (connect : Connect) (clock : ℕ) (xs : List Client) (place : ℕ)
    → holds_at (λ x. bytes_eq connect.client_id x.id) xs place ≡ false
    → holds_at (is_due clock) xs place ≡ false
    → holds_at (is_due clock) (map (entering now from connect) xs) place ≡ false
entering_quiet now from connect clock [] place other quiet = refl
entering_quiet now from connect clock (x ∷ xs) zero other quiet =
    entering_other now from connect clock x other quiet
entering_quiet now from connect clock (x ∷ xs) (suc place) other quiet =
    entering_quiet now from connect clock xs place other quiet

-- the one that connects is at this place, and was known
pub entered-known : (times : List ℕ) (now : ℕ) (from : Address) (connect : Connect) (xs : List Client) (at : ℕ)
    → ((place : ℕ) → holds_at (λ x. bytes_eq connect.client_id x.id) xs place ≡ is_place at place)
    → Waits times xs → WaitsBeside at times (entered now from connect xs)
entered-known times now from connect xs at only waits place clock other before =
    let known = known-at connect.client_id xs at (only at ∙ is_place-self at) in
    let all : entered now from connect xs ≡ map (entering now from connect) xs =
    rw known (append-nil (map (entering now from connect) xs)) in
    ap (λ ys. holds_at (is_due clock) ys place) all
    ∙ entering_quiet now from connect clock xs place (only place ∙ other) (waits place clock before)

holds_last : (test : Client → Bool) (ys : List Client) (y : Client) (place : ℕ)
    → is_place (length ys) place ≡ false → holds_at test (ys ++ y ∷ []) place ≡ holds_at test ys place
holds_last test [] y zero other = absurd (true≢false other)
holds_last test [] y (suc place) other = refl
holds_last test (x ∷ ys) y zero other = refl
holds_last test (x ∷ ys) y (suc place) other = holds_last test ys y place other

unnamed : (id : List ℕ) (xs : List Client) (place : ℕ) → is_known id xs ≡ false
    → holds_at (λ x. bytes_eq id x.id) xs place ≡ false
unnamed id xs place new = by (holds_at (λ x. bytes_eq id x.id) xs place) refl
  where
    by : (b : Bool) → holds_at (λ x. bytes_eq id x.id) xs place ≡ b
        → holds_at (λ x. bytes_eq id x.id) xs place ≡ false
    by true is = absurd (true≢false (sym (known-at id xs place is) ∙ new))
    by false is = is

length_entering : (now : ℕ) (from : Address) (connect : Connect) (entries : List (List ℕ × Session))
    → length (map (entering now from connect) (clients_of entries)) ≡ length entries
length_entering now from connect [] = refl
length_entering now from connect (entry ∷ entries) = omega (arith, length_entering now from connect entries)

-- it was not known, and comes last
pub entered-new : (times : List ℕ) (now : ℕ) (from : Address) (connect : Connect)
    (entries : List (List ℕ × Session))
    → is_known connect.client_id (clients_of entries) ≡ false → Waits times (clients_of entries)
    → WaitsBeside (length entries) times (entered now from connect (clients_of entries))
entered-new times now from connect entries new waits place clock other before =
    let xs = clients_of entries in
    let one = let_in now from connect (blank connect.client_id) in
    let last : entering_first now from connect xs ≡ one ∷ [] = rw new refl in
    ap (λ ys. holds_at (is_due clock) (map (entering now from connect) xs ++ ys) place) last
    ∙ holds_last (is_due clock) (map (entering now from connect) xs) one place
    (ap (λ n. is_place n place) (length_entering now from connect entries) ∙ other)
    ∙ entering_quiet now from connect clock xs place (unnamed connect.client_id xs place new)
    (waits place clock before)
