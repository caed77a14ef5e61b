-- The session at a place is the client's, and what the tree of filters says of it follows a write.
use Rattle.std.proofs.Common.{◌≡◌, ℕ, zero, suc, ◌<◌, Bool, true, false, List, [], ◌∷◌, ◌++◌, map, length}
use Rattle.std.proofs.Common.{Some}
use Rattle.std.proofs.Common.{slice_get, is_some, refl, sym, ap, ◌∙◌, subst, true≢false, arith}
use Rattle.std.specs.Map.{values_of}
use Rattle.std.specs.Str.{bytes_eq}
use Rattle.indexmap.specs.IndexMap.{set_value_at}
use Rattle.sng_book.specs.declared.address.Address.{Address}
use Rattle.sng_frames.specs.declared.messages.connect.Connect.{Connect}
use Rattle.sng_history.specs.Clients.{Client, blank, is_here, let_in, opened, cleaned}
use Rattle.sng_history.specs.Entering.{entering, entering_first, entered}
use Rattle.sng_history.specs.State.{is_known}
use Rattle.sng_standing.specs.declared.node.Node.{Node}
use Rattle.sng_sessions.specs.declared.session.Session.{Session}
use Rattle.sng_sessions.specs.Standing.{client_at}
use Rattle.sng_sessions.specs.Kept.{SaysHeld, SameOfOthers, Keeps}
use Rattle.sng_sessions.specs.Places.{client_of, clients_of}
use Rattle.sng_sessions.proofs.KeptLemmas.{keeps-moved, keeps-same, filters-last}
use Rattle.sng_sessions.proofs.Moves.{clients-set, session-there, known-first}

-- a session that is there is within
pub found-within : (entries : List (List ℕ × Session)) (place : ℕ) (session : Session)
    → slice_get (values_of entries) place ≡ Some session
    → place < length (clients_of entries)
found-within [] place session found = absurd (true≢false (sym (ap is_some found)))
found-within (entry ∷ entries) zero session found = omega arith
found-within (entry ∷ entries) (suc place) session found =
    let rest = found-within entries place session found in
    omega (arith, rest)

-- the filters of the session are the client's
pub filters-there : (entries : List (List ℕ × Session)) (place : ℕ) (session : Session)
    → slice_get (values_of entries) place ≡ Some session
    → session.filters ≡ (client_at (clients_of entries) place).filters
filters-there entries place session found = ap (λ x. x.filters) (session-there entries place session found)

-- so the tree says what the session holds
pub says-there : (root : Node) (entries : List (List ℕ × Session)) (place : ℕ) (session : Session)
    → slice_get (values_of entries) place ≡ Some session → Keeps root (clients_of entries)
    → SaysHeld root place session.filters
says-there root entries place session found keeps =
    subst (SaysHeld root place) (sym (filters-there entries place session found)) (keeps place)

-- and where it says what the session holds now, it says what the clients hold
pub keeps-set : (before now : Node) (entries : List (List ℕ × Session)) (place : ℕ)
    (session after : Session) (f : Client → Client)
    → slice_get (values_of entries) place ≡ Some session
    → ((id : List ℕ) → f (client_of (id, session)) ≡ client_of (id, after))
    → SaysHeld now place after.filters → SameOfOthers before now place → Keeps before (clients_of entries)
    → Keeps now (clients_of (set_value_at entries place after))
keeps-set before now entries place session after f found moves says others keeps =
    let x = client_at (clients_of entries) place in
    let filters_are : after.filters ≡ (f x).filters =
    sym (ap (λ y. y.filters) (moves x.id))
    ∙ ap (λ y. (f y).filters) (session-there entries place session found) in
    subst (Keeps now) (sym (clients-set entries place session after f found moves))
    (keeps-moved before now f (clients_of entries) place (found-within entries place session found)
    (subst (SaysHeld now place) filters_are says) others keeps)

-- a client that was not known holds nothing at first
entering-filters : (clock : ℕ) (from : Address) (connect : Connect) (xs : List Client)
    → is_known connect.client_id xs ≡ false → (place : ℕ)
    → (client_at (map (entering clock from connect) xs) place).filters ≡ (client_at xs place).filters
entering-filters clock from connect [] new place = refl
entering-filters clock from connect (x ∷ xs) new zero =
    by (is_here x from) refl (known-first connect.client_id x xs new).0
  where
    by : (here : Bool) → is_here x from ≡ here → bytes_eq connect.client_id x.id ≡ false
        → (entering clock from connect x).filters ≡ x.filters
    by true is_there is = rw (is, is_there) refl
    by false is_there is = rw (is, is_there) refl
entering-filters clock from connect (x ∷ xs) new (suc place) =
    entering-filters clock from connect xs (known-first connect.client_id x xs new).1 place

let_in-nothing : (clock : ℕ) (from : Address) (connect : Connect) (id : List ℕ)
    → (let_in clock from connect (blank id)).filters ≡ []
let_in-nothing clock from connect id = by connect.flags.clean connect.flags.will
  where
    by : (clean will : Bool)
        → (opened will (cleaned clean
        (record (blank id) {
          address = from;
          ids = [];
          duration = connect.duration;
          heard = clock;
        }))).filters ≡ []
    by true true = refl
    by true false = refl
    by false true = refl
    by false false = refl

pub keeps-entered : (root : Node) (clock : ℕ) (from : Address) (connect : Connect) (xs : List Client)
    → is_known connect.client_id xs ≡ false
    → Keeps root xs → Keeps root (entered clock from connect xs)
keeps-entered root clock from connect xs new =
    keeps-same root xs (entered clock from connect xs) same
  where
    old : List Client
    old = map (entering clock from connect) xs

    one : Client
    one = let_in clock from connect (blank connect.client_id)

    same : (place : ℕ)
        → (client_at (entered clock from connect xs) place).filters ≡ (client_at xs place).filters
    same place =
        let last : entering_first clock from connect xs ≡ one ∷ [] = rw new refl in
        ap (λ ys. (client_at (old ++ ys) place).filters) last
        ∙ filters-last old one (let_in-nothing clock from connect connect.client_id) place
        ∙ entering-filters clock from connect xs new place
