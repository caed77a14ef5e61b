-- One ending: what waits then, the state that it leads to, and whether it is dropped.
use Rattle.std.proofs.Common.{◌≡◌, ◌<◌, ◌≤◌, ◌+◌, ◌-◌, ℕ, zero, suc, min, Bool, true, false, List, [], ◌∷◌}
use Rattle.std.proofs.Common.{◌++◌, map, length, take, drop, refl, ap, sym, ◌∙◌, arith, nat_lt}
use Rattle.std.proofs.Common.{length-append}
use Rattle.std.specs.Prelude.{if◌then◌else◌, ◌||◌, not}
use Rattle.std.specs.List.{list_any}
use Rattle.std.specs.Str.{bytes_eq}
use Rattle.std.proofs.lemmas.Bool.{lt-ltb, le-ltb, ltb-true, ltb-false}
use Rattle.std.proofs.lemmas.List.{append-nil, append_assoc, take-append-le, take_all, length-take}
use Rattle.std.proofs.lemmas.List.{length-map, map-append}
use Rattle.std.proofs.lemmas.List.Folds.{list_any-append}
use Rattle.sng_grants.specs.Limits.{Limits}
use Rattle.sng_outbox.specs.declared.item.Item.{Item}
use Rattle.sng_outbox.specs.declared.item.Item.TheVariants as item
use Rattle.sng_book.specs.declared.decision.Decision.TheVariants as note
use Rattle.sng_book.specs.declared.out.Out.{Out}
use Rattle.sng_book.specs.declared.out.Out.TheVariants.{Note}
use Rattle.sng_history.specs.Clients.{Client, without}
use Rattle.sng_history.specs.Links.{Link}
use Rattle.sng_history.specs.Standing.{Release, is_held}
use Rattle.sng_history.specs.Standing.{places_left, unsubscribes, dropped_of, is_release, drop_note}
use Rattle.sng_history.specs.Standing.{still_wanted}
use Rattle.sng_history.specs.State.{State}
use Rattle.sng_endings.specs.declared.replacing.SubscriptionEnd.{SubscriptionEnd}
use Rattle.sng_core.proofs.ReplacingSteps.{ended_next}
use Rattle.sng_endings.specs.Replacing.{let_go, ended_clients, ended_link}
use Rattle.sng_history.proofs.Own.{same_self}
use Rattle.sng_history.proofs.Booleans.{or_neither, or_yes}
use Rattle.sng_core.proofs.ReplacingHeld.{Middle, stays_by, leaves_by}
use Rattle.sng_core.proofs.ReplacingHeld.{still_same, still_fewer}
use Rattle.sng_core.proofs.Found.{moved_behind}

-- ---- what waits

-- what waits once these were let go of
abbrev pub Waits : Limits → Link → List Release → List Item
Waits limits link releases = link.waiting ++ unsubscribes limits link releases

waits_size : (limits : Limits) (link : Link) (releases : List Release)
    → length (Waits limits link releases)
    ≡ length link.waiting + min (places_left limits link) (length releases)
waits_size limits link releases =
    length-append link.waiting (unsubscribes limits link releases)
    ∙ ap (λ (n : ℕ). length link.waiting + n)
    (length-map (take (places_left limits link) releases) (λ r. item.Unsubscribe r.filter)
    ∙ length-take (places_left limits link) releases)

-- there is place for one more exactly while fewer were let go of than places were left
room_by : (a m n size k : ℕ) → size ≡ a + min n k → n ≡ m - a → nat_lt size m ≡ nat_lt k n
room_by a m n size k size_is n_is = pick a m n size k (nat_lt k n) refl size_is n_is
  where
    pick : (a m n size k : ℕ) (b : Bool) → nat_lt k n ≡ b → size ≡ a + min n k → n ≡ m - a → nat_lt size m ≡ b
    pick a m n size k true is size_is n_is = let lt : k < n = ltb-true k n is in lt-ltb size m (omega arith)
    pick a m n size k false is size_is n_is = let le : n ≤ k = ltb-false k n is in le-ltb size m (omega arith)

waits_room : (limits : Limits) (link : Link) (releases : List Release)
    → nat_lt (length (Waits limits link releases)) limits.waiting
    ≡ nat_lt (length releases) (places_left limits link)
waits_room limits link releases =
    room_by (length link.waiting) limits.waiting (places_left limits link) (length (Waits limits link releases))
    (length releases) (waits_size limits link releases) refl

-- one more is let go of
waits_more : (limits : Limits) (link : Link) (releases : List Release) (r : Release) (room : Bool)
    → nat_lt (length releases) (places_left limits link) ≡ room
    → (if room
    then Waits limits link releases ++ item.Unsubscribe r.filter ∷ []
    else Waits limits link releases)
    ≡ Waits limits link (releases ++ r ∷ [])
waits_more limits link releases r true is =
    let n = places_left limits link in
    let lt : length releases < n = ltb-true (length releases) n is in
    let size : length (releases ++ r ∷ []) ≡ length releases + 1 = length-append releases (r ∷ []) in
    let before : take n releases ≡ releases = take_all n releases (omega arith) in
    let behind : take n (releases ++ r ∷ []) ≡ releases ++ r ∷ [] =
    take_all n (releases ++ r ∷ []) (omega (arith, size)) in
    append_assoc link.waiting (unsubscribes limits link releases) (item.Unsubscribe r.filter ∷ [])
    ∙ ap (λ items. link.waiting ++ items)
    (ap (λ rs. map (λ (q : Release). item.Unsubscribe q.filter) rs ++ item.Unsubscribe r.filter ∷ []) before
    ∙ (sym (map-append (λ (q : Release). item.Unsubscribe q.filter) releases (r ∷ []))
    ∙ ap (map (λ (q : Release). item.Unsubscribe q.filter)) (sym behind)))
waits_more limits link releases r false is =
    let n = places_left limits link in
    let le : n ≤ length releases = ltb-false (length releases) n is in
    ap (λ rs. link.waiting ++ map (λ (q : Release). item.Unsubscribe q.filter) rs)
    (sym (take-append-le n releases (r ∷ []) le))

-- ---- one ending

-- the state once these filters were let go of
abbrev pub course : Limits → State → List Client → List Release → State
course limits s xs releases =
    record s {
      clients = xs;
      link = record s.link {
        waiting = Waits limits s.link releases;
        wanted = still_wanted xs s.link.wanted;
      };
    }

-- what an ending lets go of
abbrev pub gone_if : Bool → List ℕ → List ℕ → List Release
gone_if held client text = if held then [] else record { client = client; filter = text } ∷ []

next_by_held : (limits : Limits) (s : State) (earlier : List Client) (z : Client) (xs : List Client)
    (releases : List Release) (client text : List ℕ) (held : Bool)
    → is_held (Middle earlier z xs text) text ≡ held
    → (let link = (course limits s (earlier ++ z ∷ xs) releases).link in
    (if held then link else let_go limits link text)
    ≡ (course limits s (Middle earlier z xs text) (releases ++ gone_if held client text)).link)
next_by_held limits s earlier z xs releases client text true is =
    rw (
      append-nil releases,
      still_same (earlier ++ z ∷ xs) (Middle earlier z xs text) s.link.wanted
          (λ t. stays_by earlier z xs text t (bytes_eq text t) refl is),
    ) refl
next_by_held limits s earlier z xs releases client text false is =
    let r : Release = record { client = client; filter = text } in
    rw (
      ← still_fewer (earlier ++ z ∷ xs) (Middle earlier z xs text) text s.link.wanted
          (λ t. leaves_by earlier z xs text t (bytes_eq text t) refl is),
      ← waits_more limits s.link releases r (nat_lt (length releases) (places_left limits s.link)) refl,
      waits_room limits s.link releases,
    ) refl

pub ended_course : (limits : Limits) (s : State) (earlier : List Client) (z : Client) (xs : List Client)
    (releases : List Release)
    (client : List ℕ) (e : SubscriptionEnd) → e.place ≡ length earlier
    → ended_next limits (course limits s (earlier ++ z ∷ xs) releases) e
    ≡ course limits s (Middle earlier z xs e.filter)
    (releases ++ gone_if (is_held (Middle earlier z xs e.filter) e.filter) client e.filter)
ended_course limits s earlier z xs releases client e place =
    let clients_are : ended_clients (earlier ++ z ∷ xs) e ≡ Middle earlier z xs e.filter =
    rw place (moved_behind (without e.filter) earlier z xs) in
    let link = (course limits s (earlier ++ z ∷ xs) releases).link in
    ap (λ (ys : List Client). let t : State =
    record s { clients = ys; link = ended_link limits link ys e.filter } in
    t) clients_are
    ∙ ap (λ (l : Link). let t : State = record s { clients = Middle earlier z xs e.filter; link = l } in t)
    (next_by_held limits s earlier z xs releases client e.filter
    (is_held (Middle earlier z xs e.filter) e.filter) refl)

-- ---- what is dropped

drop_miss : {X : Type 0} (p : X → Bool) (n : ℕ) (xs : List X) → list_any p xs ≡ false
    → list_any p (drop n xs) ≡ false
drop_miss p zero xs none = none
drop_miss p (suc n) [] none = none
drop_miss p (suc n) (x ∷ xs) none = drop_miss p n xs (or_neither (p x) (list_any p xs) none).1

hit_all : {X : Type 0} (p : X → Bool) (before : List X) (r : X) (behind : List X) → p r ≡ true
    → list_any p (before ++ r ∷ behind) ≡ true
hit_all p [] r behind is = rw is refl
hit_all p (x ∷ before) r behind is = ap (λ b. p x || b) (hit_all p before r behind is) ∙ or_yes (p x)

-- one that stands there once is among the last ones unless it is among the first
drop_hit : {X : Type 0} (p : X → Bool) (n : ℕ) (before : List X) (r : X) (behind : List X)
    → list_any p before ≡ false → p r ≡ true → list_any p behind ≡ false
    → list_any p (drop n (before ++ r ∷ behind)) ≡ not (nat_lt (length before) n)
drop_hit p zero before r behind none is later =
    hit_all p before r behind is ∙ sym (ap not (le-ltb (length before) 0 (omega arith)))
drop_hit p (suc n) [] r behind none is later =
    drop_miss p n behind later ∙ sym (ap not (lt-ltb 0 (suc n) (omega arith)))
drop_hit p (suc n) (x ∷ before) r behind none is later =
    drop_hit p n before r behind (or_neither (p x) (list_any p before) none).1 is later
    ∙ ap not (same_test (length before) n (nat_lt (length before) n) refl)
  where
    same_test : (k m : ℕ) (b : Bool) → nat_lt k m ≡ b → nat_lt k m ≡ nat_lt (suc k) (suc m)
    same_test k m true t = t ∙ sym (let lt : k < m = ltb-true k m t in lt-ltb (suc k) (suc m) (omega arith))
    same_test k m false t = t ∙ sym (let le : m ≤ k = ltb-false k m t in le-ltb (suc k) (suc m) (omega arith))

-- an ending is followed by the note of the UNSUBSCRIBE just where that is dropped
pub dropped_said : (limits : Limits) (link : Link) (releases later : List Release) (client text : List ℕ)
    (held : Bool) → list_any (is_release client text) releases ≡ false → list_any (is_release client text) later ≡ false
    → (if held then [] else (if nat_lt (length (Waits limits link releases)) limits.waiting then []
    else Note note.Outbox ∷ []))
    ≡ drop_note (dropped_of limits link (releases ++ (gone_if held client text ++ later))) client text
dropped_said limits link releases later client text true none then_none =
    let both : list_any (is_release client text) (releases ++ later) ≡ false =
    list_any-append (is_release client text) releases later ∙ (rw none then_none) in
    sym (ap (λ b. if b then Note note.Outbox ∷ [] else [])
    (drop_miss (is_release client text) (places_left limits link) (releases ++ later) both))
dropped_said limits link releases later client text false none then_none =
    let r : Release = record { client = client; filter = text } in
    let it : is_release client text r ≡ true = rw (same_self client, same_self text) refl in
    ap (λ b. if b then [] else Note note.Outbox ∷ []) (waits_room limits link releases)
    ∙ (turned (nat_lt (length releases) (places_left limits link)) (Note note.Outbox ∷ [])
    ∙ sym (ap (λ b. if b then Note note.Outbox ∷ [] else [])
    (drop_hit (is_release client text) (places_left limits link) releases r later none it then_none)))
  where
    turned : (b : Bool) (outs : List Out) → (if b then [] else outs) ≡ (if not b then outs else [])
    turned true outs = refl
    turned false outs = refl
